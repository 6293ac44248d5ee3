use Rattle.std.proofs.Common.{rules, tests, ◌≡◌, ◌+◌, min, Some, nat_le, sym, ap, ◌∙◌, arith}
use Rattle.std.specs.List.{position}
use Rattle.std.specs.Option.{option_map}
use Rattle.std.proofs.lemmas.Iterator.{YieldsList-from_slice}
use Rattle.std.proofs.lemmas.Iterator.Search.{position_from_yields_List}
use Rattle.std.proofs.lemmas.Grind.{common_steps}
use Rattle.refusal.specs.declared.Refusal.TheVariants.{OutOfRange}
use Rattle.refusal.specs.Faults.{fault_in_content}
use Rattle.entries.proofs.Checks.{named, at_position}
use Rattle.entries.proofs.faults.check_below.Goals as goal

pub returns-in-Some : goal.returns-in-Some
returns-in-Some c =
    let b = c.args.bytes.now in
    let found : c.position.result ≡ position (nat_le c.args.bound) b = position_from_yields_List (nat_le c.args.bound) _ _ c.position.result c.position.ensures.ran (YieldsList-from_slice b c.iter.ensures.rest) (λ x r q k. search (rules, tests)) in
    let at : c.saturating_add.result ≡ min (c.args.at + c.in-Some.place) 4294967295 = grind (arith, common_steps) in
    ap (λ f. Some f) (c.in_content.ensures ∙ ap (fault_in_content OutOfRange) at)
    ∙ ap (option_map (λ k. named (c.args.at + k))) (sym c.in-Some.is ∙ found)
    ∙ at_position c.args.bound b c.args.at

pub returns-in-None : goal.returns-in-None
returns-in-None c =
    let b = c.args.bytes.now in
    let found : c.position.result ≡ position (nat_le c.args.bound) b = position_from_yields_List (nat_le c.args.bound) _ _ c.position.result c.position.ensures.ran (YieldsList-from_slice b c.iter.ensures.rest) (λ x r q k. search (rules, tests)) in
    ap (option_map (λ k. named (c.args.at + k))) (sym c.in-None.is ∙ found) ∙ at_position c.args.bound b c.args.at
