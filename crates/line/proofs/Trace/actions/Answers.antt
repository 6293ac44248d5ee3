use Rattle.std.proofs.Common.{take, ap, ◌∙◌, arith}
use Rattle.std.proofs.lemmas.List.{take_min}
use Rattle.line.proofs.Trace.actions.Goals as goal

pub returns-clause-actions : goal.returns-clause-actions
returns-clause-actions c =
    let t = c.args.self.now in ap (λ n. take n t.buffer) (omega arith) ∙ take_min t.len t.buffer
