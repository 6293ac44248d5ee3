-- The bytes of the line that is printed, without the line feed that ends it.
use Rattle.std.specs.Prelude.{ℕ, List, [], ◌∷◌, ◌++◌, take, codes, decimal}
use Rattle.refusal.specs.declared.PlacedFault.{PlacedFault}
use Rattle.refusal.specs.Faults.{fault_bytes}
use Rattle.line.specs.declared.Line.{Line}
use Rattle.line.specs.declared.Line.TheVariants.{Broken, Holds, Full, Fault}
use Rattle.line.specs.declared.Trace.{Trace}
use Rattle.line.specs.Letters.{letters}

-- the most actions that a printed trace has
abbrev pub most_trace : ℕ
most_trace = 1024

-- the trace of the first actions of a buffer
abbrev pub trace_of : List ℕ → ℕ → Trace
trace_of buffer len = record { buffer = buffer; len = len }

-- the actions of a trace, in order
abbrev pub actions_of : Trace → List ℕ
actions_of t = take t.len t.buffer

-- a blank and the letters of a run; of the empty run nothing
abbrev pub after_trace : List ℕ → List ℕ
after_trace [] = []
after_trace (a ∷ rest) = 32 ∷ letters (a ∷ rest)

-- how many cells were opened and found
abbrev pub counts : ℕ → ℕ → List ℕ
counts opened found = codes " opened " ++ (decimal opened ++ (codes " found " ++ decimal found))

abbrev pub broken_line : ℕ → ℕ → ℕ → List ℕ → List ℕ
broken_line actions opened found acts = codes "broken " ++ (decimal actions ++ (counts opened found ++ (codes " trace" ++ after_trace acts)))

abbrev pub holds_line : ℕ → ℕ → List ℕ
holds_line opened found = codes "holds" ++ counts opened found

abbrev pub full_line : ℕ → ℕ → List ℕ
full_line opened found = codes "full" ++ counts opened found

abbrev pub fault_line : PlacedFault → List ℕ
fault_line p = fault_bytes p

abbrev pub line_bytes : Line → List ℕ
line_bytes (Broken actions opened found trace) = broken_line actions opened found (actions_of trace)
line_bytes (Holds opened found) = holds_line opened found
line_bytes (Full opened found) = full_line opened found
line_bytes (Fault p) = fault_line p
