use Rattle.std.proofs.Common.{◌∙◌, ◌≤◌, length, arith, take_all}
use Rattle.std.proofs.lemmas.Bool.Decides.{nat_tests}
use Rattle.fields.specs.Fields.{most_bundle, sized}
use Rattle.fields.proofs.FieldsTryFromRefSliceU8.try_from.Goals as goal

pub returns : goal.returns
unfolding sized
returns c =
    let short : length c.args.bytes.now ≤ most_bundle = grind (arith, nat_tests) in
    (c.in_ok-check_size.ensures, (c.new.ensures.bytes ∙ take_all _ _ short, c.new.ensures.at))
