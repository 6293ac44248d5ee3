-- The line that a bundle's bytes come to.
use Rattle.std.specs.Prelude.{ℕ, List, ◌++◌, length, drop, replicate, Some, None, Ok, Err, Option, Result}
use Rattle.refusal.specs.declared.PlacedFault.{PlacedFault}
use Rattle.refusal.specs.Faults.{fault_in_bundle}
use Rattle.refusal.specs.declared.Refusal.{Refusal}
use Rattle.model.specs.Automata.{Automaton}
use Rattle.model.specs.Graphs.{Graph}
use Rattle.inspection.specs.declared.cells.Cell.{Cell}
use Rattle.inspection.specs.declared.search.Verdict.{Verdict}
use Rattle.inspection.specs.declared.search.Verdict.TheVariants.{Idle, Open, Holds, Broken, Full}
use Rattle.inspection.specs.Calls.{trace_refusal}
use Rattle.inspection.specs.Cells.{blank}
use Rattle.inspection.specs.Searches.{Snapshot, actions, after, begun}
use Rattle.inspection.specs.Walks.{traced}
use Rattle.line.specs.declared.Line.{Line}
use Rattle.line.specs.declared.Line.TheVariants.{Broken as BrokenLine, Holds as HoldsLine, Full as FullLine, Fault as FaultLine}
use Rattle.line.specs.Lines.{most_trace, trace_of}
use Rattle.bundle.specs.Bundles.{Contents, bundle_of}
use Rattle.sheet.specs.Sheets.{sheet_meaning}
use Rattle.watch_table.specs.Tables.{table_meaning}

-- a call that is refused is a fault of the bundle, at its first byte
abbrev pub refused_line : Refusal → Line
refused_line e = FaultLine (fault_in_bundle e 0)

-- the line of what a call answers: itself, or that of the refusal
abbrev pub or_refused : Result Line Refusal → Line
or_refused (Ok l) = l
or_refused (Err e) = refused_line e

-- the line of what a bundle comes to: itself, or that of the fault
abbrev pub or_fault : Result Line PlacedFault → Line
or_fault (Ok l) = l
or_fault (Err p) = FaultLine p

-- the run that a trace of the snapshot writes, unless the trace is refused
abbrev pub traced_line : Option Refusal → Graph → Snapshot → Line
traced_line (Some e) g s = refused_line e
traced_line None g s =
    let n = actions s.progress.verdict in
    BrokenLine n s.progress.opened s.progress.tally.found (trace_of (traced g s.table s.progress ++ drop n (replicate most_trace 0)) n)

-- the line of a snapshot, by its verdict
abbrev pub verdict_line : Graph → Snapshot → Verdict → Line
verdict_line g s Idle = traced_line (trace_refusal s.progress (length s.table) most_trace) g s
verdict_line g s Open = traced_line (trace_refusal s.progress (length s.table) most_trace) g s
verdict_line g s Holds = HoldsLine s.progress.opened s.progress.tally.found
verdict_line g s (Broken n) = traced_line (trace_refusal s.progress (length s.table) most_trace) g s
verdict_line g s Full = FullLine s.progress.opened s.progress.tally.found

-- an inspection to its end: as many openings as the table has cells
abbrev pub finished : Graph → Automaton → List Cell → Snapshot
finished g w cs = after g w (length cs) (begun g w cs)

abbrev pub inspected_line : Graph → Automaton → List Cell → Line
inspected_line g w cs = verdict_line g (finished g w cs) (finished g w cs).progress.verdict

-- the line of what was read
abbrev pub line_of : Result Contents PlacedFault → Line
line_of (Err p) = FaultLine p
line_of (Ok c) = inspected_line (sheet_meaning c.machine) (table_meaning c.watcher) (replicate c.cells blank)

unfoldable pub checked : List ℕ → Line
checked bytes = line_of (bundle_of bytes)
