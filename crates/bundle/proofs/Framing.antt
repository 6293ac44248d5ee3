-- A field that is read, and the bytes that it stands for.
use Rattle.std.proofs.Common.{◌≡◌, ℕ, ◌+◌, ◌-◌, ◌*◌, ◌<◌, ◌≤◌, Bool, true, false, cond, ◌&&◌, eqb, ltb, leb, ◌⊎◌, List, ◌∷◌, ◌++◌, length, get_or, take, drop, Some, None, Ok, Err, sym, refl, ap, ◌∙◌, inl, inr, arith, length-append, length-drop, take-append-drop, length-take, drop-drop, take_at, drop_at}
use Rattle.std.proofs.lemmas.List.{drop_all, drop_more}
use Rattle.std.proofs.lemmas.Bool.{and_from, and_parts, cases_lt, cond-true, eq-eqb, eqb-true, le-leb, leb-true, lt-ltb, ltb-true}
use Rattle.refusal.specs.declared.PlacedFault.{PlacedFault}
use Rattle.words.specs.Words.{word}
use Rattle.fields.specs.Fields.{Piece, due_at, field_at, needed, past}
use Rattle.bundle.specs.Bundles.{field}

-- what stands at a byte and after it, where something does
pub record Head (bytes : List ℕ) (at x : ℕ) (xs : List ℕ) : Type 0 where
  pub inside : at < length bytes
  pub byte : get_or bytes at 0 ≡ x
  pub rest : drop (at + 1) bytes ≡ xs

pub head : (bytes : List ℕ) (at x : ℕ) (xs : List ℕ) → drop at bytes ≡ x ∷ xs → Head bytes at x xs
head bytes at x xs e = by (cases_lt at (length bytes))
  where
    by : (at < length bytes) ⊎ (length bytes ≤ at) → Head bytes at x xs
    by (inl h) = let m = drop_more bytes at 0 h in record { inside = h; byte = cc; rest = cc }
    by (inr h) = let m = drop_all at bytes h in absurd cc

-- a field that is there and whole is what it was tested for
found_whole : (t u : Bool) (q p : Piece) (e : PlacedFault) (at : ℕ) → needed at (cond t (cond u (Ok (Some q)) (Err e)) (Ok None)) ≡ Ok p → (t ≡ true) × (u ≡ true) × (q ≡ p)
found_whole true true q p e at h = (refl, refl, cc)
found_whole true false q p e at h = absurd cc
found_whole false u q p e at h = absurd cc

-- the bytes from a field on: its tag, its length, its content, and what follows it
pub record Framed (bytes : List ℕ) (at tag : ℕ) (content : List ℕ) (next : ℕ) : Type 0 where
  pub high : ℕ
  pub low : ℕ
  pub number : high * 256 + low ≡ length content
  pub front : drop at bytes ≡ tag ∷ (high ∷ (low ∷ (content ++ drop next bytes)))

-- a field that was read stands there
pub framed : (bytes : List ℕ) (at tag : ℕ) (p : Piece) → field bytes at tag ≡ Ok p → Framed bytes at tag p.content (past p)
unfolding due_at field_at
framed bytes at tag p e =
    let n = word bytes (at + 1) in
    let parts = found_whole (ltb at (length bytes) && eqb (get_or bytes at 0) tag) (leb (at + 3) (length bytes) && leb (at + 3 + n) (length bytes)) (record { content = take n (drop (at + 3) bytes); place = at + 3 }) p _ at e in
    let here = and_parts (ltb at (length bytes)) (eqb (get_or bytes at 0) tag) parts.0 in
    let fits : at + 3 + n ≤ length bytes = leb-true (at + 3 + n) (length bytes) (and_parts (leb (at + 3) (length bytes)) (leb (at + 3 + n) (length bytes)) parts.1).1 in
    let content : p.content ≡ take n (drop (at + 3) bytes) = ap (λ (q : Piece). q.content) (sym parts.2) in
    let place : p.place ≡ at + 3 = ap (λ (q : Piece). q.place) (sym parts.2) in
    let long : length (take n (drop (at + 3) bytes)) ≡ n = simp (length-take, length-drop) (omega arith) in
    let size : length p.content ≡ n = ap length content ∙ long in
    let next : at + 3 + n ≡ past p = omega arith in
    let rest : drop (at + 3) bytes ≡ p.content ++ drop (past p) bytes =
    sym (take-append-drop n (drop (at + 3) bytes))
    ∙ ap (λ l. l ++ drop n (drop (at + 3) bytes)) (sym content)
    ∙ ap (λ l. p.content ++ l) (drop-drop n (at + 3) bytes ∙ ap (λ k. drop k bytes) next) in
    record {
      high = get_or bytes (at + 1) 0;
      low = get_or bytes (at + 1 + 1) 0;
      number = sym size;
      front = three (ltb-true _ _ here.0) (eqb-true _ _ here.1) (omega arith) rest;
    }
  where
    -- the three bytes before the content
    three : at < length bytes → get_or bytes at 0 ≡ tag → at + 3 ≤ length bytes → {xs : List ℕ} → drop (at + 3) bytes ≡ xs → drop at bytes ≡ tag ∷ (get_or bytes (at + 1) 0 ∷ (get_or bytes (at + 1 + 1) 0 ∷ xs))
    three a t b {xs} r =
        let i = drop_more bytes at 0 a in
        let j = drop_more bytes (at + 1) 0 (omega arith) in
        let k = drop_more bytes (at + 1 + 1) 0 (omega arith) in
        let s : drop (at + 1 + 1 + 1) bytes ≡ drop (at + 3) bytes = let same : at + 1 + 1 + 1 ≡ at + 3 = omega arith in ap (λ m. drop m bytes) same in
        cc

-- a field that stands there is read, and the reader then stands after it
pub record ReadHere (bytes : List ℕ) (at tag : ℕ) (content rest : List ℕ) : Type 0 where
  pub read : field bytes at tag ≡ Ok (record { content = content; place = at + 3 })
  pub after : drop (at + 3 + length content) bytes ≡ rest

pub read_here : (bytes : List ℕ) (at tag high low : ℕ) (content rest : List ℕ) → high * 256 + low ≡ length content → drop at bytes ≡ tag ∷ (high ∷ (low ∷ (content ++ rest))) → ReadHere bytes at tag content rest
unfolding due_at field_at
read_here bytes at tag high low content rest number front =
    let one = head bytes at tag _ front in
    let two = head bytes (at + 1) high _ one.rest in
    let three = head bytes (at + 1 + 1) low _ two.rest in
    let n = word bytes (at + 1) in
    let size : n ≡ length content = omega (arith, two.byte, three.byte) in
    let same : at + 1 + 1 + 1 ≡ at + 3 = omega arith in
    let body : drop (at + 3) bytes ≡ content ++ rest = ap (λ m. drop m bytes) (sym same) ∙ three.rest in
    let long : length bytes - (at + 3) ≡ length content + length rest = sym (length-drop (at + 3) bytes) ∙ ap length body ∙ length-append content rest in
    let t : (ltb at (length bytes) && eqb (get_or bytes at 0) tag) ≡ true = and_from _ _ (lt-ltb _ _ one.inside) (eq-eqb _ _ one.byte) in
    let u : (leb (at + 3) (length bytes) && leb (at + 3 + n) (length bytes)) ≡ true = and_from _ _ (le-leb (at + 3) (length bytes) (omega (arith, three.inside))) (le-leb (at + 3 + n) (length bytes) (omega (arith, three.inside))) in
    let cut : take n (drop (at + 3) bytes) ≡ content = ap (take n) body ∙ take_at content rest n (sym size) in
    record {
      read = ap (needed at) (cond-true _ _ _ t ∙ cond-true _ _ _ u) ∙ ap (λ l. Ok (record { content = l; place = at + 3 })) cut;
      after = sym (drop-drop (length content) (at + 3) bytes) ∙ ap (drop (length content)) body ∙ drop_at content rest (length content) refl;
    }
