-- Maps from actions to actions, the bytes that describe them, and the first fault of bytes that describe none.
use Rattle.std.specs.Prelude.{ℕ, ◌+◌, ◌<◌, cond, List, [], ◌∷◌, length, Some, None, Option, ◌==◌, nat_le, nat_lt, slice_index}
use Rattle.model.specs.Actions.{action_count}
use Rattle.refusal.specs.declared.Fault.{Fault}
use Rattle.refusal.specs.declared.Refusal.TheVariants.{ContentLength, OutOfRange}
use Rattle.entries.specs.Faults.{content_fault}

-- what stands in the place of an action; of a number that is no action, 0
abbrev pub image : List ℕ → ℕ → ℕ
image map a = cond (nat_lt a action_count) (slice_index map a) 0

-- every action has an action in its place
abbrev pub IntoActions : List ℕ → Type 0
IntoActions map = (a : ℕ) → a < action_count → image map a < action_count

-- the map that changes nothing
abbrev pub identity : List ℕ
identity = 0 ∷ 1 ∷ 2 ∷ 3 ∷ 4 ∷ 5 ∷ 6 ∷ 7 ∷ 8 ∷ 9 ∷ 10 ∷ 11 ∷ 12 ∷ 13 ∷ 14 ∷ 15 ∷ []

-- the first entry that is no action, the first of these entries being at a byte
abbrev pub entries_fault : List ℕ → ℕ → Option Fault
entries_fault [] at = None
entries_fault (x ∷ xs) at = cond (nat_le action_count x) (content_fault OutOfRange at) (entries_fault xs (at + 1))

-- the first fault of bytes that are no map: one byte for each action is judged first, then the bytes from front to back
unfoldable pub map_fault : List ℕ → Option Fault
map_fault bytes = cond (length bytes == action_count) (entries_fault bytes 0) (content_fault ContentLength 0)

-- the map of bytes with a first fault, or with none
abbrev pub map_by : Option Fault → List ℕ → List ℕ
map_by None bytes = bytes
map_by (Some f) bytes = identity

-- what any bytes mean: a map itself, and all else the map that changes nothing
abbrev pub map_meaning : List ℕ → List ℕ
map_meaning bytes = map_by (map_fault bytes) bytes
