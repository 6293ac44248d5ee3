-- Checks one after another: the first fault is that of the first check that finds one.
use Rattle.std.proofs.Common.{◌≡◌, ℕ, ◌+◌, ◌≤◌, min, nat_le, length, true, false, cond, List, [], ◌∷◌, Some, None, Option, sym, refl, ap, ◌∙◌, arith}
use Rattle.std.specs.List.{position, position_from}
use Rattle.std.specs.Option.{option_map, option_or}
use Rattle.std.proofs.lemmas.Iterator.Adapters.{position_from-zero}
use Rattle.std.proofs.lemmas.Bool.{ltb-false, or_parts}
use Rattle.refusal.specs.declared.Fault.{Fault}
use Rattle.refusal.specs.declared.Refusal.TheVariants.{ContentLength, OutOfRange}
use Rattle.refusal.specs.Faults.{fault_in_content}
use Rattle.entries.specs.Clear.{cond_none}
use Rattle.entries.specs.Faults.{content_fault, wrong_length, length_fault, below_fault}

-- a fault of the length comes before the others
pub length_first : (base n : ℕ) (rest : Option Fault) → option_or (length_fault base n) rest ≡ cond (wrong_length base n) (content_fault ContentLength 0) rest
length_first base n rest = elim (wrong_length base n) as (λ t. option_or (cond t (content_fault ContentLength 0) None) rest ≡ cond t (content_fault ContentLength 0) rest) [ true ↦ refl | false ↦ refl ]

-- bytes of the right length reach the base
pub length_reaches : (base n : ℕ) → length_fault base n ≡ None → base ≤ n
length_reaches base n none = ltb-false _ _ (or_parts _ _ (cond_none _ _ _ none).0).0

-- the fault that a check finds, where the others are still to come
pub found : (o rest all : Option Fault) (f : Fault) → Some f ≡ o → option_or o rest ≡ all → Some f ≡ all
found o rest all f is whole = ap (λ x. option_or x rest) is ∙ whole

-- where a check finds none, the first fault is that of the others
pub passed : (o rest all : Option Fault) → None ≡ o → option_or o rest ≡ all → rest ≡ all
passed o rest all is whole = ap (λ x. option_or x rest) is ∙ whole

-- a byte as a fault names it
abbrev pub named : ℕ → Fault
named at = fault_in_content OutOfRange (min at 4294967295)

module _ (bound : ℕ) where
  -- from place i on, the first fault is at the first byte that is not below the bound
  from_place : (xs : List ℕ) (a i : ℕ) → option_map (λ k. named (a + k)) (position_from (nat_le bound) i xs) ≡ below_fault bound xs (a + i)
  from_place [] a i = refl
  from_place (x ∷ xs) a i =
      let next : a + (i + 1) ≡ a + i + 1 = omega arith in
      let rest : option_map (λ k. named (a + k)) (position_from (nat_le bound) (i + 1) xs) ≡ below_fault bound xs (a + i + 1) = from_place xs a (i + 1) ∙ ap (below_fault bound xs) next in
      elim (nat_le bound x) as (λ t. option_map (λ k. named (a + k)) (cond t (Some i) (position_from (nat_le bound) (i + 1) xs)) ≡ cond t (Some (named (a + i))) (below_fault bound xs (a + i + 1))) [ true ↦ refl | false ↦ rest ]

  -- the first fault is at the first byte that is not below the bound
  pub at_position : (xs : List ℕ) (a : ℕ) → option_map (λ k. named (a + k)) (position (nat_le bound) xs) ≡ below_fault bound xs a
  at_position xs a =
      let first : a + 0 ≡ a = omega arith in
      ap (option_map (λ k. named (a + k))) (position_from-zero (nat_le bound) xs) ∙ from_place xs a 0 ∙ ap (below_fault bound xs) first

  -- a check of each byte, where a fault can name the last of them
  pub below_is : (faults : List ℕ → ℕ → Option Fault)
      → ((at : ℕ) → faults [] at ≡ None)
      → ((x : ℕ) (xs : List ℕ) (at : ℕ) → faults (x ∷ xs) at ≡ cond (nat_le bound x) (content_fault OutOfRange at) (faults xs (at + 1)))
      → (xs : List ℕ) (a : ℕ) → a + length xs ≤ 4294967295 → below_fault bound xs a ≡ faults xs a
  below_is faults none more [] a h = sym (none a)
  below_is faults none more (x ∷ xs) a h =
      let here : min a 4294967295 ≡ a = omega arith in
      let rest = below_is faults none more xs (a + 1) (omega arith) in
      rw (here, rest) (sym (more x xs a))
