use Rattle.std.proofs.Common.{rules}
use Rattle.entries.specs.Keys.{key_at}
use Rattle.entries.proofs.Entries.key_at.Goals as goal

pub returns : goal.returns
unfolding key_at
returns c = search rules
