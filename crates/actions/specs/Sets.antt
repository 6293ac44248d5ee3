-- Sets of actions.
use Rattle.std.specs.Prelude.{ℕ, ◌/◌, ◌%◌, ◌^◌, Bool, ◌&&◌, ◌==◌, nat_lt}
use Rattle.model.specs.Actions.{action_count}

-- whether a number is an action of a set: action a is where bit a of the set's number is 1
abbrev pub in_set : ℕ → ℕ → Bool
in_set set a = nat_lt a action_count && (set / 2 ^ a) % 2 == 1
