-- What a new inspection reports after a begin.
use Rattle.std.specs.Prelude.{List, length}
use Rattle.model.specs.Automata.{Automaton}
use Rattle.model.specs.Graphs.{Graph}
use Rattle.inspection.specs.declared.cells.Cell.{Cell}
use Rattle.inspection.specs.declared.search.Report.{Report}
use Rattle.inspection.specs.Calls.{begin_refusal, unless}
use Rattle.inspection.specs.Searches.{begun, idle, reported}

-- the report of a begun inspection, or that of an idle one where begin is refused
abbrev pub begun_again : Graph → Automaton → List Cell → Report
begun_again g w cs = unless (begin_refusal idle (length cs)) (reported (begun g w cs).progress) (reported idle)

-- the cells of a begun inspection, or as they were where begin is refused
abbrev pub cells_begun : Graph → Automaton → List Cell → List Cell
cells_begun g w cs = unless (begin_refusal idle (length cs)) (begun g w cs).table cs
