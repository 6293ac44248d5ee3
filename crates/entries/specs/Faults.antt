-- The faults that sheets and tables share: of their length, of their size and start, and of their entries.
use Rattle.std.specs.Prelude.{ℕ, ◌+◌, ◌-◌, ◌/◌, ◌%◌, min, Bool, cond, not, ◌||◌, List, [], ◌∷◌, ◌++◌, length, Some, None, Option, ◌==◌, nat_le, nat_lt}
use Rattle.std.specs.Option.{option_or}
use Rattle.words.specs.Words.{word}
use Rattle.model.specs.Actions.{action_count}
use Rattle.refusal.specs.declared.Fault.{Fault}
use Rattle.refusal.specs.declared.Refusal.{Refusal}
use Rattle.refusal.specs.declared.Refusal.TheVariants.{ContentLength, OutOfRange, TooMany}
use Rattle.refusal.specs.Faults.{fault_in_content}
use Rattle.entries.specs.declared.Entry.{Entry}
use Rattle.entries.specs.Limits.{most_entries, most_sharing, most_size, entry_length, last_byte}
use Rattle.entries.specs.Entries.{sharing, entry_list}

-- a fault of a content, at a byte of it
abbrev pub content_fault : Refusal → ℕ → Option Fault
content_fault refusal at = Some (fault_in_content refusal at)

-- n bytes do not hold whole entries, 4,000 at most, from base on
abbrev pub wrong_length : ℕ → ℕ → Bool
wrong_length base n = nat_lt n base || (not ((n - base) % entry_length == 0) || nat_lt most_entries ((n - base) / entry_length))

-- the fault of n bytes that do not hold whole entries, 4,000 at most, from base on
abbrev pub length_fault : ℕ → ℕ → Option Fault
length_fault base n = cond (wrong_length base n) (content_fault ContentLength 0) None

-- the size is 0 or too large, or the start is not below it
abbrev pub head_fault : List ℕ → Option Fault
head_fault bytes =
    cond (word bytes 0 == 0 || nat_lt most_size (word bytes 0)) (content_fault OutOfRange 0)
    (cond (nat_le (word bytes 0) (word bytes 2)) (content_fault OutOfRange 2) None)

-- the first of some bytes, from a byte of the content on, that is not below a bound; past the last byte that a fault can
-- name, it is at that byte
abbrev pub below_fault : ℕ → List ℕ → ℕ → Option Fault
below_fault bound [] at = None
below_fault bound (b ∷ bs) at = cond (nat_le bound b) (content_fault OutOfRange (min at last_byte)) (below_fault bound bs (at + 1))

-- the fault of the entry at a byte, before which some have its key: a number out of range comes before an entry too many
abbrev pub entry_fault : ℕ → ℕ → Entry → ℕ → Option Fault
entry_fault size seen e at =
    cond (nat_le size e.from) (content_fault OutOfRange at)
    (cond (nat_le action_count e.action) (content_fault OutOfRange (at + 2))
    (cond (nat_le size e.to) (content_fault OutOfRange (at + 3))
    (cond (nat_le most_sharing seen) (content_fault TooMany at) None)))

-- the first fault of entries from a byte on, where others stand before them
abbrev pub entries_fault : (Entry → ℕ) → ℕ → List Entry → List Entry → ℕ → Option Fault
entries_fault key size before [] at = None
entries_fault key size before (e ∷ es) at =
    option_or (entry_fault size (length (sharing key (key e) before)) e at)
    (entries_fault key size (before ++ (e ∷ [])) es (at + entry_length))

-- the first fault of the entries behind a base
abbrev pub first_entry_fault : (Entry → ℕ) → ℕ → List ℕ → ℕ → Option Fault
first_entry_fault key size bytes base = entries_fault key size [] (entry_list bytes base) base
