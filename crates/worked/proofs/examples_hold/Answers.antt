use Rattle.std.proofs.Common.{refl}
use Rattle.std.specs.Fmt.{digits}
use Rattle.checker.specs.Checked.{checked}
use Rattle.bundle.specs.Bundles.{allowed, bundle_of, cells_at, checked_at, long, then}
use Rattle.fields.specs.Fields.{due_at, ended, field_at, sized}
use Rattle.sheet.specs.Sheets.{sheet_fault}
use Rattle.watch_table.specs.Tables.{mark_bytes, table_fault}
use Rattle.entries.specs.Entries.{entry_count, entry_list}
use Rattle.worked.proofs.examples_hold.Goals as goal

pub returns : goal.returns
unfolding checked bundle_of then sized checked_at due_at field_at cells_at long allowed ended sheet_fault table_fault entry_count entry_list mark_bytes digits
returns c = record { count = refl; examples = record { holds = refl; broken = refl; full = refl; fault = refl } }
