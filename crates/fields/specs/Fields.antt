-- The fields of a bundle: what stands at a byte, and how it is refused.
use Rattle.std.specs.Prelude.{ℕ, ◌+◌, cond, ◌&&◌, ◌||◌, List, length, take, drop, Some, None, Ok, Err, Option, Result, ◌==◌, nat_le, nat_lt, slice_index}
use Rattle.std.specs.Result.{result_map_both}
use Rattle.refusal.specs.declared.PlacedFault.{PlacedFault}
use Rattle.refusal.specs.Faults.{fault_at, fault_in_bundle}
use Rattle.refusal.specs.declared.Fault.{Fault}
use Rattle.refusal.specs.declared.Refusal.TheVariants.{BundleSize, FieldPastEnd, FieldOrder}
use Rattle.words.specs.Words.{word}
use Rattle.fields.specs.declared.Field.{Field}

abbrev pub most_bundle : ℕ
most_bundle = 32768

-- a field's content, and the byte of the bundle where it begins
pub record Piece : Type 0 where
  pub content : List ℕ
  pub place : ℕ

-- the byte after a field
abbrev pub past : Piece → ℕ
past p = p.place + length p.content

-- a bundle has from 1 to 32,768 bytes
unfoldable pub sized : List ℕ → Result (Unit {0}) PlacedFault
sized bytes = cond (length bytes == 0 || nat_lt most_bundle (length bytes)) (Err (fault_in_bundle BundleSize 0)) (Ok tt)

-- the field whose tag stands at a byte, if all of it is there
unfoldable pub field_at : List ℕ → ℕ → Result (Option Piece) PlacedFault
field_at bytes at =
    cond (nat_le (at + 3) (length bytes) && nat_le (at + 3 + word bytes (at + 1)) (length bytes))
    (Ok (Some (record { content = take (word bytes (at + 1)) (drop (at + 3) bytes); place = at + 3 })))
    (Err (fault_in_bundle FieldPastEnd at))

-- the field at a byte if it has the tag that is due, and nothing if it has another or none is there
unfoldable pub due_at : List ℕ → ℕ → ℕ → Result (Option Piece) PlacedFault
due_at bytes at tag = cond (nat_lt at (length bytes) && slice_index bytes at == tag) (field_at bytes at) (Ok None)

-- a field that may not be missing
abbrev pub needed : ℕ → Result (Option Piece) PlacedFault → Result Piece PlacedFault
needed at (Ok (Some p)) = Ok p
needed at (Ok None) = Err (fault_in_bundle FieldOrder at)
needed at (Err e) = Err e

-- where the reader stands after a field that may be missing
abbrev pub moved : ℕ → Result (Option Piece) PlacedFault → ℕ
moved at (Ok (Some p)) = past p
moved at (Ok None) = at
moved at (Err e) = at

-- and after one that may not
abbrev pub stood : ℕ → Result Piece PlacedFault → ℕ
stood at (Ok p) = past p
stood at (Err e) = at

-- nothing follows
unfoldable pub ended : List ℕ → ℕ → Result (Unit {0}) PlacedFault
ended bytes at = cond (nat_lt at (length bytes)) (Err (fault_in_bundle FieldOrder at)) (Ok tt)

-- what the code holds, with the bytes in place of the references
abbrev pub piece : Field → Piece
piece f = record { content = f.content.now; place = f.place }

-- what a call answered, by what its value stands for
abbrev pub told : {X A : Type 0} → (X → A) → Result X PlacedFault → Result A PlacedFault
told f r = result_map_both f (λ e. e) r

-- what is made of a content, with the content's place beside a fault
abbrev pub at_place : {A : Type 0} → ℕ → Result A Fault → Result A PlacedFault
at_place place r = result_map_both (λ x. x) (λ f. fault_at f place) r
