-- Actions.
use Rattle.std.specs.Prelude.{ℕ}

-- the number of actions; an action is a number below it, and 0 is the quiet one
abbrev pub action_count : ℕ
action_count = 16
