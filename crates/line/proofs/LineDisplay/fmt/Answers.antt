use Rattle.std.proofs.Common.{refl}
use Rattle.std.proofs.Output.{has_written_of_eq, has_written_append}
use Rattle.line.proofs.Spelling.{broken_whole, after_some}
use Rattle.line.proofs.LineDisplay.fmt.Goals as goal

pub returns-in_ok-write-in-Broken-2-clause-writes : goal.returns-in_ok-write-in-Broken-2-clause-writes
returns-in_ok-write-in-Broken-2-clause-writes g c = λ plain ok.
    let front = c.in_ok-write-in-Broken.ensures.writes plain refl in
    has_written_of_eq g.W.Write.write_str_gives _ _ _ _
    (broken_whole _ _ _ _ _ _ c.in-Broken.is (after_some _ _ c.actions.ensures.actions c.if-not-is_empty.ensures))
    (has_written_append g.W.Write.write_str_gives _ _ _ _ _ front (c.in_ok-write-in-Broken-2.ensures.writes front.plain refl))
