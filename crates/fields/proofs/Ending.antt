-- Whether anything is left.
use Rattle.std.proofs.Common.{◌≡◌, ℕ, ◌<◌, ◌≤◌, List, length, Ok, Err, arith}
use Rattle.std.proofs.lemmas.Bool.Decides.{nat_tests}
use Rattle.refusal.specs.Faults.{fault_in_bundle}
use Rattle.refusal.specs.declared.Refusal.TheVariants.{FieldOrder}
use Rattle.fields.specs.Fields.{ended}

-- something is left
pub ended_not : (bytes : List ℕ) (at : ℕ) → at < length bytes → ended bytes at ≡ Err (fault_in_bundle FieldOrder at)
unfolding ended
ended_not bytes at h = grind (arith, nat_tests)

-- nothing is left
pub ended_well : (bytes : List ℕ) (at : ℕ) → length bytes ≤ at → ended bytes at ≡ Ok tt
unfolding ended
ended_well bytes at h = grind (arith, nat_tests)
