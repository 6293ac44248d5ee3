use Rattle.sheet.specs.Sheets.{sheet_fault}
use Rattle.watch_table.specs.Tables.{table_fault}
use Rattle.bundle.specs.Bundles.{machine_tag, watcher_tag}
use Rattle.bundle.proofs.Chaining.{out, opened, refused, absent, faulty, sound, no_cells, bad_cells, good_cells, nothing_left, something_left, from_watcher, from_cells, from_end}
use Rattle.bundle.proofs.Accepting.{accepts}
use Rattle.bundle.proofs.read.Goals as goal

pub returns-in_err-fields : goal.returns-in_err-fields
returns-in_err-fields c = record { answer = out _ _ _ _ c.from_residual.ensures.1 (refused _ _ c.in_err-fields.ensures.0); accepts = accepts _ }

pub returns-in_err-machine : goal.returns-in_err-machine
returns-in_err-machine c =
    let first = opened _ _ _ c.in_ok-fields.ensures in
    let answer = absent _ _ _ _ _ sheet_fault machine_tag (from_watcher _) _ first c.in_err-machine.ensures in
    record { answer = out _ _ _ _ c.from_residual-in_err-machine.ensures.1 answer; accepts = accepts _ }

pub returns-in_err-placed : goal.returns-in_err-placed
returns-in_err-placed c =
    let first = opened _ _ _ c.in_ok-fields.ensures in
    let answer = faulty _ _ _ _ _ sheet_fault machine_tag (from_watcher _) _ _ first c.in_ok-machine.ensures (_, c.check.ensures, c.in_err-placed.ensures) in
    record { answer = out _ _ _ _ c.from_residual-in_err-placed.ensures.1 answer; accepts = accepts _ }

pub returns-in_err-watcher : goal.returns-in_err-watcher
returns-in_err-watcher c =
    let first = opened _ _ _ c.in_ok-fields.ensures in
    let second = sound _ _ _ _ _ sheet_fault machine_tag (from_watcher _) _ _ first c.in_ok-machine.ensures (_, c.check.ensures, c.in_ok-placed.ensures) in
    let answer = absent _ _ _ _ _ table_fault watcher_tag (from_cells _ _) _ second c.in_err-watcher.ensures in
    record { answer = out _ _ _ _ c.from_residual-in_err-watcher.ensures.1 answer; accepts = accepts _ }

pub returns-in_err-placed-2 : goal.returns-in_err-placed-2
returns-in_err-placed-2 c =
    let first = opened _ _ _ c.in_ok-fields.ensures in
    let second = sound _ _ _ _ _ sheet_fault machine_tag (from_watcher _) _ _ first c.in_ok-machine.ensures (_, c.check.ensures, c.in_ok-placed.ensures) in
    let answer = faulty _ _ _ _ _ table_fault watcher_tag (from_cells _ _) _ _ second c.in_ok-watcher.ensures (_, c.check-2.ensures, c.in_err-placed-2.ensures) in
    record { answer = out _ _ _ _ c.from_residual-in_err-placed-2.ensures.1 answer; accepts = accepts _ }

pub returns-in_err-table : goal.returns-in_err-table
returns-in_err-table c =
    let first = opened _ _ _ c.in_ok-fields.ensures in
    let second = sound _ _ _ _ _ sheet_fault machine_tag (from_watcher _) _ _ first c.in_ok-machine.ensures (_, c.check.ensures, c.in_ok-placed.ensures) in
    let third = sound _ _ _ _ _ table_fault watcher_tag (from_cells _ _) _ _ second c.in_ok-watcher.ensures (_, c.check-2.ensures, c.in_ok-placed-2.ensures) in
    let answer = no_cells _ _ _ _ _ (from_end _ _ _) _ third c.in_err-table.ensures in
    record { answer = out _ _ _ _ c.from_residual-in_err-table.ensures.1 answer; accepts = accepts _ }

pub returns-in_err-cells : goal.returns-in_err-cells
returns-in_err-cells c =
    let first = opened _ _ _ c.in_ok-fields.ensures in
    let second = sound _ _ _ _ _ sheet_fault machine_tag (from_watcher _) _ _ first c.in_ok-machine.ensures (_, c.check.ensures, c.in_ok-placed.ensures) in
    let third = sound _ _ _ _ _ table_fault watcher_tag (from_cells _ _) _ _ second c.in_ok-watcher.ensures (_, c.check-2.ensures, c.in_ok-placed-2.ensures) in
    let answer = bad_cells _ _ _ _ _ (from_end _ _ _) _ _ third c.in_ok-table.ensures (_, c.cell_count.ensures, c.in_err-cells.ensures) in
    record { answer = out _ _ _ _ c.from_residual-in_err-cells.ensures.1 answer; accepts = accepts _ }

pub returns-in_err-end : goal.returns-in_err-end
returns-in_err-end c =
    let first = opened _ _ _ c.in_ok-fields.ensures in
    let second = sound _ _ _ _ _ sheet_fault machine_tag (from_watcher _) _ _ first c.in_ok-machine.ensures (_, c.check.ensures, c.in_ok-placed.ensures) in
    let third = sound _ _ _ _ _ table_fault watcher_tag (from_cells _ _) _ _ second c.in_ok-watcher.ensures (_, c.check-2.ensures, c.in_ok-placed-2.ensures) in
    let last = good_cells _ _ _ _ _ (from_end _ _ _) _ _ third c.in_ok-table.ensures (_, c.cell_count.ensures, c.in_ok-cells.ensures) in
    record { answer = out _ _ _ _ c.from_residual-in_err-end.ensures.1 (something_left _ _ _ _ _ _ _ last c.in_err-end.ensures); accepts = accepts _ }

pub returns : goal.returns
returns c =
    let first = opened _ _ _ c.in_ok-fields.ensures in
    let second = sound _ _ _ _ _ sheet_fault machine_tag (from_watcher _) _ _ first c.in_ok-machine.ensures (_, c.check.ensures, c.in_ok-placed.ensures) in
    let third = sound _ _ _ _ _ table_fault watcher_tag (from_cells _ _) _ _ second c.in_ok-watcher.ensures (_, c.check-2.ensures, c.in_ok-placed-2.ensures) in
    let last = good_cells _ _ _ _ _ (from_end _ _ _) _ _ third c.in_ok-table.ensures (_, c.cell_count.ensures, c.in_ok-cells.ensures) in
    record { answer = nothing_left _ _ _ _ _ _ _ last c.in_ok-end.ensures; accepts = accepts _ }
