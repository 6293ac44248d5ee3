use Rattle.std.proofs.Common.{◌≡◌, ◌≢◌, length, Some, rules, ap, ◌∙◌, arith}
use Rattle.std.proofs.lemmas.Result.{err_from_is_err_and}
use Rattle.actions.proofs.Entries.{fault_of_entries, fault_of_length, into_actions}
use Rattle.actions.proofs.ActionMapTryFromRefSliceU8.try_from.Goals as goal

pub returns-in_default : goal.returns-in_default
returns-in_default c =
    let other : length c.args.bytes.now ≢ 16 = search rules in
    (ap (λ f. Some f) c.in_content.ensures ∙ fault_of_length c.args.bytes.now other, tt)

pub returns-in_err-check_below : goal.returns-in_err-check_below
returns-in_err-check_below c =
    let b = c.args.bytes.now in
    let whole : c.in-Ok.table ≡ b = search rules in
    let long : length b ≡ 16 = search rules in
    let p = err_from_is_err_and c.from_residual.result c.from_residual.ensures.1 in
    rw (p.1, p.2) (c.in_err-check_below.ensures ∙ fault_of_entries c.in-Ok.table b whole long, tt)

pub invariant_of-result : goal.invariant_of-result
invariant_of-result c = record { actions = into_actions c.in-Ok.table (omega arith) c.in_ok-check_below.ensures }

pub returns : goal.returns
returns c =
    let b = c.args.bytes.now in
    let whole : c.in-Ok.table ≡ b = search rules in
    let long : length b ≡ 16 = search rules in
    (c.in_ok-check_below.ensures ∙ fault_of_entries c.in-Ok.table b whole long, whole)
