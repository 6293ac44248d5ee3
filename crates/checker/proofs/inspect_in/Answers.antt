use Rattle.std.proofs.Common.{◌≤◌, List, length, sym, subst, arith}
use Rattle.std.proofs.lemmas.List.{take-replicate}
use lib.ListN.{length-replicate}
use Rattle.inspection.specs.declared.cells.Cell.{Cell}
use Rattle.inspection.specs.Cells.{blank}
use Rattle.line.specs.Lines.{most_trace}
use Rattle.checker.proofs.inspect_in.Goals as goal

pub inspect-requires : goal.inspect-requires
inspect-requires g c =
    let e = take-replicate c.from.result most_trace blank (omega arith) in
    let n = length-replicate c.from.result blank in
    record {
      some = subst (λ (l : List Cell). 1 ≤ length l) (sym e) (omega (arith, n));
      few = subst (λ (l : List Cell). length l ≤ most_trace) (sym e) (omega (arith, n));
    }

pub returns : goal.returns
returns g c =
    let e = take-replicate c.from.result most_trace blank (omega arith) in
    let n = c.from.ensures in
    let i = c.inspect.ensures in
    cc
