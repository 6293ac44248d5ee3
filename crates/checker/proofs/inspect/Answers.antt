use Rattle.std.proofs.Common.{◌+◌, refl, ap, ◌∙◌}
use Rattle.inspection.specs.Searches.{Snapshot}
use Rattle.checker.specs.Checked.{verdict_line}
use Rattle.checker.proofs.Judging.{accepted}
use Rattle.checker.proofs.Turns.{advanced, budget, ended, fewer, never, started}
use Rattle.checker.proofs.inspect.Goals as goal

pub loop-inspection-init : goal.loop-inspection-init
loop-inspection-init g c = (0, started _ _ c.args.cells.now c.requires.some c.requires.few _ _ _ c.new-inspection.ensures refl c.begin.ensures)

pub loop-inspection-smaller : goal.loop-inspection-smaller
loop-inspection-smaller g c =
    let i = c.loop-inspection.invariant in
    fewer _ _ c.args.cells.now c.requires.some c.requires.few i.0 _ i.1 c.verdict.result c.verdict.ensures.answer c.in-Open.is _ _ c.advance.ensures

pub loop-inspection-preserved : goal.loop-inspection-preserved
loop-inspection-preserved g c =
    let i = c.loop-inspection.invariant in
    (i.0 + budget, advanced _ _ c.args.cells.now c.requires.some c.requires.few i.0 _ i.1 c.verdict.result c.verdict.ensures.answer c.in-Open.is _ _ c.advance.ensures)

pub returns-in_err-advance : goal.returns-in_err-advance
returns-in_err-advance g c =
    let i = c.loop-inspection.invariant in
    absurd (never _ _ c.args.cells.now c.requires.some c.requires.few i.0 _ i.1 c.verdict.result c.verdict.ensures.answer c.in-Open.is _ _ c.in_err-advance.ensures)

pub returns : goal.returns
returns g c =
    let m = g.M.Machine.graph c.args.machine.now in
    let w = g.W.Watcher.automaton c.args.watcher.now in
    let i = c.loop-inspection.invariant in
    let end = ended m w c.args.cells.now c.requires.some c.requires.few i.0 _ i.1 c.verdict.result c.verdict.ensures.answer c.in_default.not-Open in
    accepted m w c.args.cells.now c.requires.some c.requires.few c.conclude.result (c.conclude.ensures ∙ ap (λ (s : Snapshot). verdict_line m s s.progress.verdict) end)
