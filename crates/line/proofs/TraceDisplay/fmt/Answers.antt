use Rattle.std.proofs.Common.{take, sym, refl, ap, ◌∙◌}
use Rattle.std.proofs.lemmas.List.{take_all}
use Rattle.std.proofs.Output.{writes_in_calls_nil, has_written_append, has_written_of_eq}
use Rattle.line.specs.Letters.{letters}
use Rattle.line.proofs.Spelling.{letters_more}
use Rattle.line.proofs.TraceDisplay.fmt.Goals as goal

pub loop-action-init : goal.loop-action-init
loop-action-init g c = λ plain. record { wrote = writes_in_calls_nil g.W.Write.write_str_gives _; plain = plain }

pub loop-action-preserved : goal.loop-action-preserved
loop-action-preserved g c = λ plain.
    let took = g.W.Write.write_str_gives in
    let before = c.loop-action.invariant plain in
    let here = c.in_ok-write_char.ensures.writes before.plain refl in
    has_written_of_eq took _ _ _ _
    (letters_more _ _ _ _ c.actions-action-items.ensures.actions c.letter_of.ensures c.loop-action-test.true)
    (has_written_append took _ _ _ _ _ before here)

pub returns-clause-writes : goal.returns-clause-writes
returns-clause-writes g c = λ plain ok.
    has_written_of_eq g.W.Write.write_str_gives _ _ _ _
    (ap (λ l. letters (take c.loop-action.action-index l)) (sym c.actions-action-items.ensures.actions) ∙ ap letters (take_all _ _ c.loop-action-test.false) ∙ ap letters c.actions-action-items.ensures.actions)
    (c.loop-action.invariant plain)
