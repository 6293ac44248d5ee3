use Rattle.std.proofs.Common.{◌∙◌}
use Rattle.usage.proofs.Twice.{twice}
use Rattle.usage.proofs.begin_again.Goals as goal

pub returns : goal.returns
returns g c =
    let again = twice (g.M.Machine.graph c.args.machine.now) (g.W.Watcher.automaton c.args.watcher.now) c.args.cells.now _ _ _ _ _ _ _ _ c.new-inspection.ensures c.clear.ensures c.begin.ensures c.begin-2.ensures in
    record { report = c.verdict.ensures.answer ∙ again.report; cells = again.cells }
