-- The first fault of bytes that are no map.
use Rattle.std.proofs.Common.{◌≡◌, ℕ, zero, suc, ◌+◌, ◌<◌, true, false, eqb, ltb, List, [], ◌∷◌, length, get_or, None, sym, refl, ap, ◌∙◌, arith}
use Rattle.std.proofs.lemmas.Bool.{cond-true, eq-eqb, ne_eqb, leb-false, lt-ltb}
use Rattle.model.specs.Actions.{action_count}
use Rattle.refusal.specs.declared.Refusal.TheVariants.{ContentLength}
use Rattle.entries.specs.Faults.{content_fault, below_fault}
use Rattle.entries.proofs.Checks.{below_is}
use Rattle.entries.specs.Clear.{cond_none}
use Rattle.actions.specs.Maps.{IntoActions, entries_fault, map_fault}

-- the fault of bytes that are not as many as there are actions
pub fault_of_length : (bytes : List ℕ) → (length bytes ≡ action_count → ⊥) → content_fault ContentLength 0 ≡ map_fault bytes
unfolding map_fault
fault_of_length bytes other = let e : eqb (length bytes) action_count ≡ false = ne_eqb _ _ other in sym (rw e)

-- of bytes that are, the first fault is at the first that is no action
entries_below : (bytes : List ℕ) → length bytes ≡ action_count → below_fault 16 bytes 0 ≡ entries_fault bytes 0
entries_below bytes long = below_is 16 entries_fault (λ at. refl) (λ x xs at. refl) bytes 0 (omega arith)

-- so it is found by the check of each
pub fault_of_entries : (table bytes : List ℕ) → table ≡ bytes → length bytes ≡ action_count → below_fault 16 table 0 ≡ map_fault bytes
unfolding map_fault
fault_of_entries table bytes same long =
    ap (λ l. below_fault 16 l 0) same
    ∙ entries_below bytes long
    ∙ sym (cond-true (eqb (length bytes) action_count) _ _ (eq-eqb _ _ long))

-- entries without a fault are actions
entries_clear : (xs : List ℕ) (at : ℕ) → entries_fault xs at ≡ None → (a : ℕ) → get_or xs a 0 < action_count
entries_clear [] at e a = omega arith
entries_clear (x ∷ xs) at e zero = leb-false _ _ (cond_none _ _ _ e).0
entries_clear (x ∷ xs) at e (suc a) = entries_clear xs (at + 1) (cond_none _ _ _ e).1 a

-- so every action has an action in its place
pub into_actions : (bytes : List ℕ) → length bytes ≡ action_count → None ≡ below_fault 16 bytes 0 → IntoActions bytes
into_actions bytes long e = λ a h. let t : ltb a action_count ≡ true = lt-ltb _ _ h in rw t (entries_clear bytes 0 (sym (e ∙ entries_below bytes long)) a)
