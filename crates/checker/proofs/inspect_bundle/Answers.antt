use Rattle.std.proofs.Common.{rules, sym}
use Rattle.bundle.specs.Bundles.{contents}
use Rattle.checker.specs.Checked.{checked}
use Rattle.checker.proofs.Composing.{composed_line, unrefused}
use Rattle.checker.proofs.inspect_bundle.Goals as goal

pub inspect_in-answer-requires : goal.inspect_in-answer-requires
inspect_in-answer-requires c =
    let read = c.in_ok-parts.ensures in
    let d = (read.accepts (contents c.in_ok-parts.parts)).0 (sym read.answer) in
    record { some = d.some; few = d.few }

pub returns-in_err-parts : goal.returns-in_err-parts
unfolding checked
returns-in_err-parts c =
    let e = c.in_err-parts.ensures.answer in
    search rules

pub returns : goal.returns
unfolding checked
returns c =
    composed_line _ _ (contents c.in_ok-parts.parts) _ _ c.new-machine.ensures.meaning c.new-watcher.ensures.meaning c.in_ok-parts.ensures.answer
    (unrefused _ _ _ _ c.inspect_in-answer.ensures c.map_err.ensures.cases)
