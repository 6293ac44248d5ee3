-- The bundles that are accepted, by how their bytes are put together.
use Rattle.std.specs.Prelude.{◌≡◌, ℕ, ◌+◌, ◌*◌, ◌≤◌, ◌↔◌, List, [], ◌∷◌, ◌++◌, length, None, Ok, Result}
use Rattle.refusal.specs.declared.PlacedFault.{PlacedFault}
use Rattle.fields.specs.Fields.{most_bundle}
use Rattle.sheet.specs.Sheets.{sheet_fault}
use Rattle.watch_table.specs.Tables.{table_fault}
use Rattle.bundle.specs.Bundles.{Contents, cells_tag, machine_tag, most_cells, watcher_tag}

-- the bytes of a field: its tag, the length of its content in two bytes, the high one first, and its content
pub record FieldBytes (tag : ℕ) (content bytes : List ℕ) : Type 0 where
  pub high : ℕ
  pub low : ℕ
  pub number : high * 256 + low ≡ length content
  pub are : bytes ≡ tag ∷ (high ∷ (low ∷ content))

-- the bytes describe the contents: three fields in a row, nothing else, each with an allowed content
pub record Describes (bytes : List ℕ) (c : Contents) : Type 0 where
  pub first : List ℕ
  pub second : List ℕ
  pub third : List ℕ
  pub high : ℕ
  pub low : ℕ
  pub whole : bytes ≡ first ++ (second ++ third)
  pub short : length bytes ≤ most_bundle
  pub machine : FieldBytes machine_tag c.machine first
  pub watcher : FieldBytes watcher_tag c.watcher second
  pub cells : FieldBytes cells_tag (high ∷ (low ∷ [])) third
  pub count : high * 256 + low ≡ c.cells
  pub sheet : sheet_fault c.machine ≡ None
  pub table : table_fault c.watcher ≡ None
  pub some : 1 ≤ c.cells
  pub few : c.cells ≤ most_cells

-- what is accepted of the bytes is exactly what they describe
abbrev pub Accepts : List ℕ → Result Contents PlacedFault → Type 0
Accepts bytes r = (c : Contents) → (r ≡ Ok c) ↔ Describes bytes c
