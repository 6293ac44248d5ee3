-- Two-byte numbers.
use Rattle.std.specs.Prelude.{ℕ, ◌+◌, ◌*◌, List, slice_index}

-- the number in the two bytes at a place, the high byte first; a byte past the end counts as 0
abbrev pub word : List ℕ → ℕ → ℕ
word bytes at = slice_index bytes at * 256 + slice_index bytes (at + 1)
