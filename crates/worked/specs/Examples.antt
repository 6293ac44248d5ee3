-- Worked examples: what the definitions come to on small bundles.
use Rattle.std.specs.Prelude.{◌≡◌, ℕ, List, [], ◌∷◌, ◌++◌, codes}
use Rattle.line.specs.Lines.{line_bytes}
use Rattle.checker.specs.Checked.{checked}

-- two states: 0 goes by `a` to 1, and 1 by `b` to 0
abbrev pub turns : List ℕ
turns = 77 ∷ 0 ∷ 14 ∷ 0 ∷ 2 ∷ 0 ∷ 0 ∷ 0 ∷ 0 ∷ 1 ∷ 0 ∷ 1 ∷ 0 ∷ 1 ∷ 2 ∷ 0 ∷ 0 ∷ []

-- the same, and the quiet action leads from 1 to 1
abbrev pub turns_or_quiet : List ℕ
turns_or_quiet = 77 ∷ 0 ∷ 19 ∷ 0 ∷ 2 ∷ 0 ∷ 0 ∷ 0 ∷ 0 ∷ 1 ∷ 0 ∷ 1 ∷ 0 ∷ 1 ∷ 2 ∷ 0 ∷ 0 ∷ 0 ∷ 1 ∷ 0 ∷ 0 ∷ 1 ∷ []

-- after an `a` the next action must be `b`
abbrev pub b_follows_a : List ℕ
b_follows_a = 87 ∷ 0 ∷ 37 ∷ 0 ∷ 3 ∷ 0 ∷ 0 ∷ 0 ∷ 0 ∷ 1 ∷ 0 ∷ 0 ∷ 1 ∷ 0 ∷ 1 ∷ 0 ∷ 0 ∷ 2 ∷ 0 ∷ 0 ∷ 0 ∷ 0 ∷ 0 ∷ 0 ∷ 0 ∷ 0 ∷ 1 ∷ 2 ∷ 0 ∷ 0 ∷ 0 ∷ 1 ∷ 1 ∷ 0 ∷ 2 ∷ 0 ∷ 1 ∷ 0 ∷ 0 ∷ 2 ∷ []

-- a number of cells below 256
abbrev pub in_cells : ℕ → List ℕ
in_cells n = 84 ∷ 0 ∷ 2 ∷ 0 ∷ n ∷ []

-- the bundles and the lines that they come to
pub record Examples : Type 0 where
  pub holds : line_bytes (checked (turns ++ (b_follows_a ++ in_cells 3))) ≡ codes "holds opened 2 found 2"
  pub broken : line_bytes (checked (turns_or_quiet ++ (b_follows_a ++ in_cells 3))) ≡ codes "broken 2 opened 2 found 2 trace a-"
  pub full : line_bytes (checked (turns ++ (b_follows_a ++ in_cells 1))) ≡ codes "full opened 1 found 1"
  pub fault : line_bytes (checked (turns ++ (b_follows_a ++ in_cells 0))) ≡ codes "fault 5 layer 2 at 60"
