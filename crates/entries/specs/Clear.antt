-- What entries without a fault have.
use Rattle.std.specs.Prelude.{◌≡◌, ℕ, ◌+◌, ◌<◌, ◌≤◌, Bool, true, false, cond, not, List, [], ◌∷◌, ◌++◌, length, is_some, Some, None, Option, ◌==◌, nat_eq, refl}
use Rattle.std.proofs.Common.{subst, append_assoc, inl, inr, arith, length-append}
use Rattle.std.specs.Option.{option_or}
use Rattle.std.specs.List.{AllByRecursion}
use Rattle.std.proofs.lemmas.List.Elements.{filter-append}
use Rattle.std.proofs.lemmas.List.{append-nil}
use Rattle.std.proofs.lemmas.Bool.{leb-false, eqb-true, eqb-false, ltb-false, or_parts, cases_Bool}
use Rattle.words.specs.Words.{word}
use Rattle.model.specs.Actions.{action_count}
use Rattle.refusal.specs.declared.Fault.{Fault}
use Rattle.entries.specs.declared.Entry.{Entry}
use Rattle.entries.specs.Limits.{most_sharing, most_size, entry_length}
use Rattle.entries.specs.Entries.{sharing}
use Rattle.entries.specs.Faults.{head_fault, entry_fault, entries_fault}

-- where a test gives a fault and there is none, the test failed
pub cond_none : (t : Bool) (f : Fault) (rest : Option Fault) → cond t (Some f) rest ≡ None → (t ≡ false) × (rest ≡ None)
cond_none true f rest e = absurd (let z : ◌≡◌ {A = ℕ} 0 1 = cc in omega arith)
cond_none false f rest e = (refl, e)

-- where neither of two has a fault, the first has none and the second has none
pub or_none : (o p : Option Fault) → option_or o p ≡ None → (o ≡ None) × (p ≡ None)
or_none None p e = (refl, e)
or_none (Some f) p e = absurd (let z : ◌≡◌ {A = ℕ} 0 1 = cc in omega arith)

-- where there is not some fault, there is none
pub none_since : (o : Option Fault) → not (is_some o) ≡ true → o ≡ None
none_since None e = refl
none_since (Some f) e = absurd (let z : ◌≡◌ {A = ℕ} 0 1 = cc in omega arith)

-- every number of an entry is in its range
pub record InRange (size : ℕ) (e : Entry) : Type 0 where
  pub from : e.from < size
  pub action : e.action < action_count
  pub to : e.to < size

-- an entry without a fault, before which some have its key, is in range, and they are fewer than 64
pub record Clear (size seen : ℕ) (e : Entry) : Type 0 where
  pub range : InRange size e
  pub few : seen < most_sharing

-- what an entry without a fault has
pub entry_clear : (size seen : ℕ) (e : Entry) (at : ℕ) → entry_fault size seen e at ≡ None → Clear size seen e
entry_clear size seen e at none =
    let a = cond_none _ _ _ none in
    let b = cond_none _ _ _ a.1 in
    let c = cond_none _ _ _ b.1 in
    let d = cond_none _ _ _ c.1 in
    record {
      range = record {
        from = leb-false _ _ a.0;
        action = leb-false _ _ b.0;
        to = leb-false _ _ c.0;
      };
      few = leb-false _ _ d.0;
    }

module _ (key : Entry → ℕ) (size : ℕ) where
  -- entries without a fault are in range
  pub all_in_range : (before es : List Entry) (at : ℕ) → entries_fault key size before es at ≡ None → AllByRecursion (InRange size) es
  all_in_range before [] at none = tt
  all_in_range before (e ∷ es) at none =
      let parts = or_none (entry_fault size (length (sharing key (key e) before)) e at) _ none in
      ((entry_clear size _ e at parts.0).range, all_in_range (before ++ (e ∷ [])) es (at + entry_length) parts.1)

  -- one entry more without a fault, and still at most 64 have key s
  one_more : (s : ℕ) (before : List Entry) (e : Entry) → length (sharing key (key e) before) < most_sharing → length (sharing key s before) ≤ most_sharing → length (sharing key s (before ++ (e ∷ []))) ≤ most_sharing
  one_more s before e few h =
      elim (cases_Bool (key e == s)) [
        | inl here ↦ (let same : key e ≡ s = eqb-true _ _ here in
            let few' : length (sharing key s before) < most_sharing = subst (λ (x : ℕ). length (sharing key x before) < most_sharing) same few in
            rw (filter-append (λ e. nat_eq (key e) s) before (e ∷ []), length-append, here) (omega arith))
        | inr other ↦ rw (filter-append (λ e. nat_eq (key e) s) before (e ∷ []), length-append, other) (omega arith)
      ]

  -- of entries without a fault, at most 64 have key s
  pub few_share : (s : ℕ) (before es : List Entry) (at : ℕ) → entries_fault key size before es at ≡ None → length (sharing key s before) ≤ most_sharing → length (sharing key s (before ++ es)) ≤ most_sharing
  few_share s before [] at none h = rw append-nil h
  few_share s before (e ∷ es) at none h =
      let parts = or_none (entry_fault size (length (sharing key (key e) before)) e at) _ none in
      rw append_assoc at (few_share s (before ++ (e ∷ [])) es (at + entry_length) parts.1 (one_more s before e (entry_clear size _ e at parts.0).few h))

-- the size is from 1 to 1,024, and the start below it
pub record HeadPassed (bytes : List ℕ) : Type 0 where
  pub some : 0 < word bytes 0
  pub small : word bytes 0 ≤ most_size
  pub starts : word bytes 2 < word bytes 0

-- what a size and a start without a fault have
pub head_passed : (bytes : List ℕ) → head_fault bytes ≡ None → HeadPassed bytes
head_passed bytes none =
    let n = cond_none _ _ _ none in
    let s = cond_none _ _ _ n.1 in
    let no' = or_parts _ _ n.0 in
    let ne : word bytes 0 ≡ 0 → ⊥ = eqb-false (word bytes 0) 0 no'.0 in
    record {
      some = omega (arith, ne);
      small = ltb-false _ _ no'.1;
      starts = leb-false _ _ s.0;
    }
