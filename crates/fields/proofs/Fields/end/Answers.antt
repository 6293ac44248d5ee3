use Rattle.std.proofs.Common.{Err, sym, ap, ◌∙◌}
use Rattle.fields.proofs.Ending.{ended_not, ended_well}
use Rattle.fields.proofs.Fields.end.Goals as goal

pub returns-then-self : goal.returns-then-self
returns-then-self c = ap Err c.in_bundle.ensures ∙ sym (ended_not _ _ c.if-self.true)

pub returns : goal.returns
returns c = sym (ended_well _ _ c.if-self.false)
