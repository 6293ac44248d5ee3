-- The limits of sheets and tables.
use Rattle.std.specs.Prelude.{ℕ, ◌*◌}
use Rattle.model.specs.Actions.{action_count}

-- the most entries
abbrev pub most_entries : ℕ
most_entries = 4000

-- the most entries that share a key
abbrev pub most_sharing : ℕ
most_sharing = 64

-- the largest size
abbrev pub most_size : ℕ
most_size = 1024

-- the keys of entries in range lie below it
abbrev pub most_keys : ℕ
most_keys = most_size * action_count

-- the bytes of an entry
abbrev pub entry_length : ℕ
entry_length = 5

-- the bytes of the size and the start, which stand first
abbrev pub head_length : ℕ
head_length = 4

-- the last byte that a fault can name
abbrev pub last_byte : ℕ
last_byte = 4294967295
