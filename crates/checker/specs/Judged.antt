-- What the line of an accepted bundle says of its machine and its watcher.
use Rattle.std.specs.Prelude.{◌≡◌, ℕ, Bool, true, false, ◌↔◌, Ok, Err, Result, ◌≢◌}
use Rattle.refusal.specs.declared.PlacedFault.{PlacedFault}
use Rattle.model.specs.Automata.{Automaton}
use Rattle.model.specs.Graphs.{Graph}
use Rattle.model.specs.Runs.{Breaks, Outnumber, Shortest}
use Rattle.line.specs.declared.Line.{Line}
use Rattle.line.specs.declared.Line.TheVariants.{Broken, Holds, Full, Fault}
use Rattle.line.specs.declared.Trace.{Trace}
use Rattle.line.specs.Lines.{actions_of}
use Rattle.bundle.specs.Bundles.{Contents}
use Rattle.sheet.specs.Sheets.{sheet_meaning}
use Rattle.watch_table.specs.Tables.{table_meaning}

abbrev pub is_broken_line : Line → Bool
is_broken_line (Broken n opened found trace) = true
is_broken_line (Holds opened found) = false
is_broken_line (Full opened found) = false
is_broken_line (Fault p) = false

abbrev pub is_holds_line : Line → Bool
is_holds_line (Broken n opened found trace) = false
is_holds_line (Holds opened found) = true
is_holds_line (Full opened found) = false
is_holds_line (Fault p) = false

abbrev pub is_full_line : Line → Bool
is_full_line (Broken n opened found trace) = false
is_full_line (Holds opened found) = false
is_full_line (Full opened found) = true
is_full_line (Fault p) = false

-- what the line says of a machine, a watcher and a number of cells
pub record Judges (g : Graph) (w : Automaton) (cells : ℕ) (line : Line) : Type 0 where
  -- it is no fault
  pub answered : (p : PlacedFault) → line ≢ Fault p
  -- it is full exactly when the near pairs outnumber the cells
  pub full : (is_full_line line ≡ true) ↔ Outnumber g w cells
  -- else it is broken exactly when some run is condemned
  pub broken : is_full_line line ≡ false → (is_broken_line line ≡ true) ↔ Breaks g w
  -- and holds exactly when none is
  pub holds : is_full_line line ≡ false → (is_holds_line line ≡ true) ↔ (Breaks g w → ⊥)
  -- the trace is a condemned run of the number of actions, and none has fewer
  pub shortest : (n opened found : ℕ) (trace : Trace) → line ≡ Broken n opened found trace → Shortest g w n (actions_of trace)

-- what the line says of what was read: its fault, or the judgement of the machine and the watcher that it describes
abbrev pub Judged : Result Contents PlacedFault → Line → Type 0
Judged (Err p) line = line ≡ Fault p
Judged (Ok c) line = Judges (sheet_meaning c.machine) (table_meaning c.watcher) c.cells line
