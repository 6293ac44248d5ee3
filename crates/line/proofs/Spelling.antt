-- The bytes of a run and of a broken line, from their pieces.
use Rattle.std.proofs.Common.{◌≡◌, ℕ, ◌+◌, ◌<◌, true, false, eqb, List, [], ◌∷◌, ◌++◌, length, get_or, take, codes, decimal, sym, refl, ap, ◌∙◌, append_assoc, arith}
use lib.Utf8.{encode}
use Rattle.std.proofs.lemmas.List.{append-nil, take_more}
use Rattle.std.proofs.lemmas.Bool.Decides.{nat_tests}
use Rattle.line.specs.declared.Line.{Line}
use Rattle.line.specs.declared.Line.TheVariants.{Broken}
use Rattle.line.specs.declared.Trace.{Trace}
use Rattle.line.specs.Letters.{letter, letters}
use Rattle.line.specs.Lines.{actions_of, after_trace, counts, line_bytes}

-- a letter is one byte of text
pub encode_letter : (a : ℕ) → encode (letter a) ≡ letter a ∷ []
unfolding encode
encode_letter a = grind (arith, nat_tests)

-- the letters of a list in two parts
pub letters_append : (xs ys : List ℕ) → letters (xs ++ ys) ≡ letters xs ++ letters ys
letters_append [] ys = refl
letters_append (x ∷ xs) ys = ap (λ l. letter x ∷ l) (letters_append xs ys)

-- one more action of the list is one more letter
pub letters_more : (xs ys : List ℕ) (i c : ℕ) → xs ≡ ys → c ≡ letter (get_or xs i 0) → i < length xs → letters (take i ys) ++ encode c ≡ letters (take (i + 1) ys)
letters_more xs ys i c same e h =
    ap (λ l. letters (take i l) ++ encode c) (sym same)
    ∙ ap (λ x. letters (take i xs) ++ encode x) e
    ∙ ap (λ l. letters (take i xs) ++ l) (encode_letter (get_or xs i 0))
    ∙ sym (letters_append (take i xs) (get_or xs i 0 ∷ []))
    ∙ ap letters (sym (take_more xs i 0 h))
    ∙ ap (λ l. letters (take (i + 1) l)) same

-- nothing follows `trace` where the run is empty
pub after_none : (xs ys : List ℕ) → xs ≡ ys → true ≡ eqb (length xs) 0 → after_trace ys ≡ []
after_none [] ys same e = ap after_trace (sym same)
after_none (x ∷ xs) ys same e = absurd (grind (arith, nat_tests))

-- and a blank and the letters where it is not
pub after_some : (xs ys : List ℕ) → xs ≡ ys → false ≡ eqb (length xs) 0 → after_trace ys ≡ 32 ∷ letters ys
after_some [] ys same e = absurd (grind (arith, nat_tests))
after_some (x ∷ xs) ys same e = ap after_trace (sym same) ∙ ap (λ l. 32 ∷ letters l) same

-- seven pieces in a row and an eighth, bracketed two ways
regrouped : (a b c d e f g r : List ℕ) → (a ++ (b ++ (c ++ (d ++ (e ++ (f ++ g)))))) ++ r ≡ a ++ (b ++ ((c ++ (d ++ (e ++ f))) ++ (g ++ r)))
regrouped a b c d e f g r = simp append_assoc

-- a broken line is its front, and what follows `trace`
pub broken_whole : (line : Line) (a o f : ℕ) (t : Trace) (rest : List ℕ) → line ≡ Broken a o f t → after_trace (actions_of t) ≡ rest
    → (codes "broken " ++ (decimal a ++ (codes " opened " ++ (decimal o ++ (codes " found " ++ (decimal f ++ codes " trace")))))) ++ rest ≡ line_bytes line
broken_whole line a o f t rest is e =
    regrouped (codes "broken ") (decimal a) (codes " opened ") (decimal o) (codes " found ") (decimal f) (codes " trace") rest
    ∙ ap (λ l. codes "broken " ++ (decimal a ++ (counts o f ++ (codes " trace" ++ l)))) (sym e)
    ∙ ap line_bytes (sym is)

-- and its front alone where nothing follows
pub broken_bare : (line : Line) (a o f : ℕ) (t : Trace) → line ≡ Broken a o f t → after_trace (actions_of t) ≡ []
    → codes "broken " ++ (decimal a ++ (codes " opened " ++ (decimal o ++ (codes " found " ++ (decimal f ++ codes " trace"))))) ≡ line_bytes line
broken_bare line a o f t is e = sym (append-nil _) ∙ broken_whole line a o f t [] is e
