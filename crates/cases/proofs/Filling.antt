-- A room that is filled from the front, one number after another, as far as it goes.
use Rattle.std.proofs.Common.{◌≡◌, ℕ, ◌+◌, ◌<◌, ◌≤◌, min, List, [], ◌∷◌, ◌++◌, length, map, take, set, get_or, Option, Some, None, refl, sym, ap, ◌∙◌, arith}
use Rattle.std.specs.List.{filter_map}
use Rattle.std.proofs.lemmas.List.{append-nil, length-append, length-take, map-append, take_all, take-append-le, take_more, take_more_set}
use Rattle.std.proofs.lemmas.List.Elements.{filter_map-append}

module _ (len : ℕ) (room xs : List ℕ) (x : ℕ) (within : len ≤ length room) (is : take len room ≡ take (length room) xs) where
  count : min (length room) (length xs) ≡ len
  count = sym (length-take (length room) xs) ∙ ap length (sym is) ∙ length-take len room ∙ omega (arith, within)

  -- with room left the next number is put behind the others
  pub put : len < length room → take (len + 1) (set room len x) ≡ take (length room) (xs ++ x ∷ [])
  put left =
      take_more_set room len x left
      ∙ ap (λ l. l ++ x ∷ []) (is ∙ take_all (length room) xs (omega (arith, count, left)))
      ∙ sym (take_all (length room) (xs ++ x ∷ []) (rw length-append (omega (arith, count, left))))

  -- with none left it is left out
  pub full : length room ≤ len → take len room ≡ take (length room) (xs ++ x ∷ [])
  full none = is ∙ sym (take-append-le (length room) xs (x ∷ []) (omega (arith, count, none)))

module _ {X Y : Type 0} (xs : List X) (i : ℕ) (d : X) (there : i < length xs) where
  module _ (h : X → Option Y) where
    more : filter_map h (take (i + 1) xs) ≡ filter_map h (take i xs) ++ filter_map h (get_or xs i d ∷ [])
    more = ap (filter_map h) (take_more xs i d there) ∙ filter_map-append h (take i xs) (get_or xs i d ∷ [])

    -- one item more gives what it gives,
    pub gives : (y : Y) → h (get_or xs i d) ≡ Some y → filter_map h (take (i + 1) xs) ≡ filter_map h (take i xs) ++ y ∷ []
    gives y is = more ∙ rw is refl

    -- or nothing
    pub gives_none : h (get_or xs i d) ≡ None → filter_map h (take (i + 1) xs) ≡ filter_map h (take i xs)
    gives_none is = more ∙ rw (is, append-nil) refl

  -- and of a map its image
  pub image : (f : X → Y) (y : Y) → y ≡ f (get_or xs i d) → map f (take (i + 1) xs) ≡ map f (take i xs) ++ y ∷ []
  image f y is = rw is (ap (map f) (take_more xs i d there) ∙ map-append f (take i xs) (get_or xs i d ∷ []))
