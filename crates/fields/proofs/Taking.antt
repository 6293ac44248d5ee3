-- When a field is due, cut off, or another.
use Rattle.std.proofs.Common.{◌≡◌, ℕ, ◌+◌, ◌-◌, ◌*◌, ◌<◌, ◌≤◌, ◌⊎◌, ◌==◌, not, Bool, true, false, List, [], ◌∷◌, length, get_or, take, drop, slice_get, Option, Some, None, Result, Ok, Err, ok_or, ap, ◌∙◌, inl, inr, arith, length-drop, length-take}
use Rattle.std.specs.Option.{option_copied, option_eq}
use Rattle.std.specs.Slice.{IsGetRangeResult}
use Rattle.std.proofs.lemmas.List.{drop-drop, take_rest}
use Rattle.std.proofs.lemmas.Bool.Decides.{nat_tests}
use Rattle.std.proofs.lemmas.Grind.{common_steps}
use denote.Ref.{Bor}
use Rattle.refusal.specs.Faults.{fault_in_bundle}
use Rattle.refusal.specs.declared.PlacedFault.{PlacedFault}
use Rattle.refusal.specs.declared.Refusal.TheVariants.{FieldPastEnd}
use Rattle.words.specs.Words.{word}
use Rattle.fields.specs.Fields.{due_at, field_at}

pub due_other : (bytes : List ℕ) (at tag : ℕ) → (length bytes ≤ at) ⊎ (get_or bytes at 0 ≡ tag → ⊥) → due_at bytes at tag ≡ Ok None
unfolding due_at
due_other bytes at tag (inl h) = grind (arith, nat_tests)
due_other bytes at tag (inr h) = grind (arith, nat_tests)

-- the field has the tag that is due
pub due_here : (bytes : List ℕ) (at tag : ℕ) → at < length bytes → get_or bytes at 0 ≡ tag → due_at bytes at tag ≡ field_at bytes at
unfolding due_at
due_here bytes at tag h e = grind (arith, nat_tests)

pub field_cut : (bytes : List ℕ) (at : ℕ) → (length bytes < at + 3) ⊎ (length bytes < at + 3 + word bytes (at + 1)) → field_at bytes at ≡ Err (fault_in_bundle FieldPastEnd at)
unfolding field_at
field_cut bytes at (inl h) = grind (arith, nat_tests)
field_cut bytes at (inr h) = grind (arith, nat_tests)

pub field_whole : (bytes : List ℕ) (at : ℕ) → at + 3 + word bytes (at + 1) ≤ length bytes → field_at bytes at ≡ Ok (Some (record { content = take (word bytes (at + 1)) (drop (at + 3) bytes); place = at + 3 }))
unfolding field_at
field_whole bytes at h = grind (arith, nat_tests)

pub due_cut : (bytes : List ℕ) (at tag : ℕ) → at < length bytes → get_or bytes at 0 ≡ tag → (length bytes < at + 3) ⊎ (length bytes < at + 3 + word bytes (at + 1)) → due_at bytes at tag ≡ Err (fault_in_bundle FieldPastEnd at)
due_cut bytes at tag h e s = due_here bytes at tag h e ∙ field_cut bytes at s

pub due_whole : (bytes : List ℕ) (at tag n m : ℕ) → at < length bytes → get_or bytes at 0 ≡ tag → n ≡ m → m ≡ word bytes (at + 1) → 3 ≤ length bytes - at → n ≤ length bytes - (at + 3) → due_at bytes at tag ≡ Ok (Some (record { content = take (at + 3 + n - (at + 3)) (drop (at + 3) bytes); place = at + 3 }))
due_whole bytes at tag n m h e nm me three le =
    let same : word bytes (at + 1) ≡ at + 3 + n - (at + 3) = omega arith in
    due_here bytes at tag h e ∙ field_whole bytes at (omega arith) ∙ ap (λ (k : ℕ). Ok (Some (record { content = take k (drop (at + 3) bytes); place = at + 3 }))) same

pub part_long : (bytes : List ℕ) (at n : ℕ) → 3 ≤ length bytes - at → n ≤ length bytes - (at + 3) → at + 3 + n ≡ at + 3 + length (take (at + 3 + n - (at + 3)) (drop (at + 3) bytes))
part_long bytes at n three le = simp (length-take, length-drop) (omega arith)

-- the bytes from a byte on
abbrev pub left : List ℕ → ℕ → List ℕ
left bytes at = take (length bytes - at) (drop at bytes)

-- a list with no first entry
no_first : (xs : List ℕ) → None ≡ slice_get xs 0 → length xs ≤ 0
no_first [] e = omega arith
no_first (x ∷ xs) e = absurd cc

-- whether the first of them is the tag
pub differs : (bytes : List ℕ) (at : ℕ) (o : Option (Bor ℕ)) (t : Bor ℕ) (b : Bool) → option_copied o ≡ slice_get (left bytes at) 0 → b ≡ not (option_eq (λ x y. x.now == y.now) o (Some t)) → b ≡ true → (length bytes ≤ at) ⊎ (get_or bytes at 0 ≡ t.now → ⊥)
differs bytes at None t b e n h = inl (omega (arith, simp (length-take, length-drop) at (no_first (left bytes at) e)))
differs bytes at (Some x) t b e n h = inr (λ same. grind (arith, nat_tests, common_steps))

pub agrees : (bytes : List ℕ) (at : ℕ) (o : Option (Bor ℕ)) (t : Bor ℕ) (b : Bool) → option_copied o ≡ slice_get (left bytes at) 0 → b ≡ not (option_eq (λ x y. x.now == y.now) o (Some t)) → b ≡ false → (at < length bytes) × (get_or bytes at 0 ≡ t.now)
agrees bytes at None t b e n h = absurd (grind arith)
agrees bytes at (Some x) t b e n h = (grind (arith, nat_tests, common_steps), grind (arith, nat_tests, common_steps))

-- a field of fewer than three bytes
pub too_short : (bytes : List ℕ) (at : ℕ) → length (left bytes at) < 3 → length bytes < at + 3
too_short bytes at h = omega (arith, simp (length-take, length-drop) at h)

-- a content that is cut off
pub cut_off : (bytes : List ℕ) (at n : ℕ) (g : Option (Bor (List ℕ))) (e f : PlacedFault) (r : Result (Bor (List ℕ)) PlacedFault)
    → 3 ≤ length (left bytes at) → n ≡ get_or (left bytes at) 1 0 * 256 + get_or (left bytes at) 2 0 → IsGetRangeResult (left (left bytes at) 3) 0 n g → r ≡ ok_or g e → r ≡ Err f → (length bytes < at + 3 + word bytes (at + 1)) × (f ≡ e)
cut_off bytes at n None e f r three size h q o = (let short = h.0 in grind (arith, common_steps), cc)
cut_off bytes at n (Some y) e f r three size h q o = absurd cc

-- a content that is there
pub there : (bytes : List ℕ) (at n : ℕ) (g : Option (Bor (List ℕ))) (e : PlacedFault) (x : Bor (List ℕ)) (r : Result (Bor (List ℕ)) PlacedFault)
    → 3 ≤ length (left bytes at) → n ≡ get_or (left bytes at) 1 0 * 256 + get_or (left bytes at) 2 0 → IsGetRangeResult (left (left bytes at) 3) 0 n g → r ≡ ok_or g e → r ≡ Ok x → (at + 3 + word bytes (at + 1) ≤ length bytes) × (take (word bytes (at + 1)) (drop (at + 3) bytes) ≡ x.now)
there bytes at n None e x r three size h q o = absurd cc
there bytes at n (Some y) e x r three size h q o =
    let same : y ≡ x = cc in
    let parts = h.0 in
    let len : word bytes (at + 1) ≡ n = grind (arith, common_steps) in
    let body : left (left bytes at) 3 ≡ drop (at + 3) bytes = take_rest (left bytes at) 3 ∙ ap (drop 3) (take_rest bytes at) ∙ drop-drop 3 at bytes in
    (grind (arith, common_steps), rw (len, ← body) (grind (arith, parts.2) ∙ ap (λ z. z.now) same))
