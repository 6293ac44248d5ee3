-- What a bundle means: its contents, or its first fault.
use Rattle.std.specs.Prelude.{ℕ, cond, ◌&&◌, List, length, Some, None, Ok, Err, Option, Result, ◌==◌, nat_le}
use Rattle.refusal.specs.declared.Fault.{Fault}
use Rattle.refusal.specs.Faults.{fault_at, fault_in_content}
use Rattle.refusal.specs.declared.PlacedFault.{PlacedFault}
use Rattle.refusal.specs.declared.Refusal.{Refusal}
use Rattle.refusal.specs.declared.Refusal.TheVariants.{ContentLength, OutOfRange}
use Rattle.words.specs.Words.{word}
use Rattle.fields.specs.Fields.{Piece, due_at, ended, needed, past, sized}
use Rattle.sheet.specs.Sheets.{sheet_fault}
use Rattle.watch_table.specs.Tables.{table_fault}
use Rattle.bundle.specs.declared.Parts.{Parts}

abbrev pub most_cells : ℕ
most_cells = 1024

-- the tags of the fields: M, W and T
abbrev pub machine_tag : ℕ
machine_tag = 77

abbrev pub watcher_tag : ℕ
watcher_tag = 87

abbrev pub cells_tag : ℕ
cells_tag = 84

-- what was read, and the byte of the field after it
pub record Got (A : Type 0) : Type 0 where
  pub value : A
  pub next : ℕ

abbrev pub got : {A : Type 0} → A → ℕ → Got A
got a n = record { value = a; next = n }

-- goes on with what was read, unless it was refused
unfoldable pub then : {A B : Type 0} → Result A PlacedFault → (A → Result B PlacedFault) → Result B PlacedFault
then (Ok a) next = next a
then (Err e) next = Err e

-- a fault in a content goes up whole, with the content's place
abbrev pub lifted : ℕ → Option Fault → Result (Unit {0}) PlacedFault
lifted place None = Ok tt
lifted place (Some f) = Err (fault_at f place)

-- a fault at the first byte of a content
abbrev pub content_fault : Refusal → ℕ → PlacedFault
content_fault refusal place = fault_at (fault_in_content refusal 0) place

-- a content must have this length
unfoldable pub long : ℕ → Piece → Result (Unit {0}) PlacedFault
long n p = cond (length p.content == n) (Ok tt) (Err (content_fault ContentLength p.place))

-- a number of cells is from 1 to 1,024
unfoldable pub allowed : Piece → ℕ → Result ℕ PlacedFault
allowed p n = cond (nat_le 1 n && nat_le n most_cells) (Ok n) (Err (content_fault OutOfRange p.place))

-- the number of cells in a content of two bytes, from 1 to 1,024
abbrev pub cells_in : List ℕ → Result ℕ Fault
cells_in content =
    cond (length content == 2)
    (cond (nat_le 1 (word content 0) && nat_le (word content 0) most_cells) (Ok (word content 0)) (Err (fault_in_content OutOfRange 0)))
    (Err (fault_in_content ContentLength 0))

-- the field that is due at a byte, which may not be missing
abbrev pub field : List ℕ → ℕ → ℕ → Result Piece PlacedFault
field bytes at tag = needed at (due_at bytes at tag)

-- a field whose content has no fault
unfoldable pub checked_at : (List ℕ → Option Fault) → List ℕ → ℕ → ℕ → Result (Got (List ℕ)) PlacedFault
checked_at fault bytes at tag =
    then (field bytes at tag) (λ p.
    then (lifted p.place (fault p.content)) (λ _.
    Ok (got p.content (past p))))

unfoldable pub cells_at : List ℕ → ℕ → Result (Got ℕ) PlacedFault
cells_at bytes at =
    then (field bytes at cells_tag) (λ p.
    then (long 2 p) (λ _.
    then (allowed p (word p.content 0)) (λ n.
    Ok (got n (past p)))))

-- what a bundle describes
pub record Contents : Type 0 where
  pub machine : List ℕ
  pub watcher : List ℕ
  pub cells : ℕ

unfoldable pub bundle_of : List ℕ → Result Contents PlacedFault
bundle_of bytes =
    then (sized bytes) (λ _.
    then (checked_at sheet_fault bytes 0 machine_tag) (λ m.
    then (checked_at table_fault bytes m.next watcher_tag) (λ w.
    then (cells_at bytes w.next) (λ t.
    then (ended bytes t.next) (λ _.
    Ok (record { machine = m.value; watcher = w.value; cells = t.value }))))))

-- what the code holds, with the bytes in place of the references
abbrev pub contents : Parts → Contents
contents p = record { machine = p.machine.now; watcher = p.watcher.now; cells = p.cells }
