-- A new inspection that is begun, cleared and begun again over one table.
use Rattle.std.proofs.Common.{◌≡◌, List, length, set, Some, None, Option, Result, sym, refl, ap, ◌∙◌, length-set, set-set}
use Rattle.refusal.specs.declared.Refusal.{Refusal}
use Rattle.model.specs.Automata.{Automaton}
use Rattle.model.specs.Graphs.{Graph}
use Rattle.inspection.specs.declared.cells.Cell.{Cell}
use Rattle.inspection.specs.declared.search.Progress.{Progress}
use Rattle.inspection.specs.Calls.{Begins, begin_refusal, unless}
use Rattle.inspection.specs.Searches.{Snapshot, begun, begun_progress, first_cell, idle, reported}
use Rattle.usage.specs.Again.{begun_again, cells_begun}

-- what the second begin left is what the first did
pub record Twice (g : Graph) (w : Automaton) (cs later : List Cell) (p : Progress) : Type 0 where
  pub report : reported p ≡ begun_again g w cs
  pub cells : later ≡ cells_begun g w cs

module _ (g : Graph) (w : Automaton) (cs between later : List Cell) (p q c d : Progress) (r s : Result (Unit {0}) Refusal) (new : p ≡ idle) (cleared : c ≡ idle)
    (first : Begins g w (record { progress = p; table = cs }) (record { progress = q; table = between }) r)
    (second : Begins g w (record { progress = c; table = between }) (record { progress = d; table = later }) s) where
  pub twice : Twice g w cs later d
  twice = by (begin_refusal idle (length cs)) refl
    where
      by : (o : Option Refusal) → begin_refusal idle (length cs) ≡ o → Twice g w cs later d
      by None e =
          let one = first.snapshot ∙ ap (λ o. unless o (begun g w cs) (record { progress = p; table = cs })) (ap (λ x. begin_refusal x (length cs)) new ∙ e) in
          let table = ap (λ (x : Snapshot). x.table) one in
          let long : length between ≡ length cs = ap length table ∙ length-set cs 0 (first_cell g w) in
          let two = second.snapshot ∙ ap (λ o. unless o (begun g w between) (record { progress = c; table = between })) (ap (λ x. begin_refusal x (length between)) cleared ∙ ap (begin_refusal idle) long ∙ e) in
          record {
            report = ap (λ (x : Snapshot). reported x.progress) two
                ∙ ap (λ n. reported (begun_progress n (w.condemns w.start))) long
                ∙ sym (ap (λ o. unless o (reported (begun g w cs).progress) (reported idle)) e);
            cells = ap (λ (x : Snapshot). x.table) two
                ∙ ap (λ l. set l 0 (first_cell g w)) table
                ∙ set-set cs 0 (first_cell g w) (first_cell g w)
                ∙ sym (ap (λ o. unless o (begun g w cs).table cs) e);
          }
      by (Some f) e =
          let one = first.snapshot ∙ ap (λ o. unless o (begun g w cs) (record { progress = p; table = cs })) (ap (λ x. begin_refusal x (length cs)) new ∙ e) in
          let table = ap (λ (x : Snapshot). x.table) one in
          let two = second.snapshot ∙ ap (λ o. unless o (begun g w between) (record { progress = c; table = between })) (ap (λ x. begin_refusal x (length between)) cleared ∙ ap (λ l. begin_refusal idle (length l)) table ∙ e) in
          record {
            report = ap (λ (x : Snapshot). reported x.progress) two ∙ ap reported cleared ∙ sym (ap (λ o. unless o (reported (begun g w cs).progress) (reported idle)) e);
            cells = ap (λ (x : Snapshot). x.table) two ∙ table ∙ sym (ap (λ o. unless o (begun g w cs).table cs) e);
          }
