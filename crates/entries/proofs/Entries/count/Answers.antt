use Rattle.std.proofs.Common.{arith}
use Rattle.entries.specs.Entries.{entry_count}
use Rattle.entries.proofs.Entries.count.Goals as goal

pub returns : goal.returns
unfolding entry_count
returns c = omega arith
