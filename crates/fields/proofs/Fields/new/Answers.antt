use Rattle.std.proofs.Common.{take, ap, ◌∙◌, arith}
use Rattle.std.proofs.lemmas.List.{take_min}
use Rattle.fields.specs.Fields.{most_bundle}
use Rattle.fields.proofs.Fields.new.Goals as goal

pub returns-clause-bytes : goal.returns-clause-bytes
returns-clause-bytes c = let bytes = c.args.bytes.now in ap (λ n. take n bytes) (omega arith) ∙ take_min most_bundle bytes
