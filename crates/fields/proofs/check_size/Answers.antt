use Rattle.std.proofs.Common.{arith}
use Rattle.std.proofs.lemmas.Bool.Decides.{nat_tests}
use Rattle.fields.specs.Fields.{sized}
use Rattle.fields.proofs.check_size.Goals as goal

pub returns-then-is_empty : goal.returns-then-is_empty
unfolding sized
returns-then-is_empty c = grind (arith, nat_tests)

pub returns : goal.returns
unfolding sized
returns c = grind (arith, nat_tests)
