-- The letters by which actions are written: `-` for the quiet action, `a` to `o` for 1 to 15.
use Rattle.std.specs.Prelude.{ℕ, ◌+◌, cond, List, [], ◌∷◌, ◌==◌, nat_lt}
use Rattle.model.specs.Actions.{action_count}

-- `?` for a number that is no action
abbrev pub letter : ℕ → ℕ
letter action = cond (action == 0) 45 (cond (nat_lt action action_count) (96 + action) 63)

abbrev pub letters : List ℕ → List ℕ
letters [] = []
letters (a ∷ rest) = letter a ∷ letters rest
