use Rattle.std.proofs.Common.{◌≡◌, rules, subst, sym}
use Rattle.bundle.specs.Bundles.{bundle_of}
use Rattle.checker.specs.Checked.{checked}
use Rattle.checker.specs.Judged.{Judged}
use Rattle.checker.proofs.Composing.{judged}
use Rattle.checker.proofs.check.Goals as goal

pub returns-clause-law : goal.returns-clause-law
returns-clause-law c =
    let line : c.unwrap_or_else.result ≡ checked c.args.bytes.now = search rules in
    subst (Judged (bundle_of c.args.bytes.now)) (sym line) (judged c.args.bytes.now)
