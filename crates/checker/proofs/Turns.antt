-- The turns of a loop that advances a new inspection until its verdict is no longer open.
use Rattle.std.proofs.Common.{◌≡◌, ℕ, ◌+◌, ◌<◌, ◌≤◌, true, List, length, Err, Result, sym, ap, ◌∙◌, arith}
use Rattle.refusal.specs.declared.Refusal.{Refusal}
use Rattle.model.specs.Automata.{Automaton}
use Rattle.model.specs.Graphs.{Graph}
use Rattle.inspection.specs.declared.cells.Cell.{Cell}
use Rattle.inspection.specs.declared.search.Report.{Report}
use Rattle.inspection.specs.declared.search.Verdict.TheVariants.{Open}
use Rattle.inspection.specs.Calls.{Advances, Begins}
use Rattle.inspection.specs.Limits.{most_cells}
use Rattle.inspection.specs.Searches.{Snapshot, after, begun, idle, is_open, reported}
use Rattle.inspection.proofs.Cases.{not_open}
use Rattle.inspection.proofs.Completion.{advance_fewer, advance_runs, begin_runs, openings_left, run_final}
use Rattle.line.specs.Lines.{most_trace}
use Rattle.checker.specs.Checked.{finished}

-- the budget of a turn
abbrev pub budget : ℕ
budget = 1000

module _ (g : Graph) (w : Automaton) (cs : List Cell) (some : 1 ≤ length cs) (few : length cs ≤ most_trace) where
  abbrev within : length cs ≤ most_cells
  within = omega arith

  -- the first turn finds the inspection as it was begun
  pub started : (s t : Snapshot) (r : Result (Unit {0}) Refusal) → s.progress ≡ idle → s.table ≡ cs → Begins g w s t r → t ≡ after g w 0 (begun g w cs)
  started s t r new table begins = (begin_runs g w cs some within s t r new table begins).1

  module _ (n : ℕ) (s : Snapshot) (here : s ≡ after g w n (begun g w cs)) (report : Report) (is : report ≡ reported s.progress) where
    -- while open it is advanced, by so many openings more, as the answer says, and fewer are left to make
    module _ (open' : report.verdict ≡ Open) where
      abbrev opens : is_open s.progress.verdict ≡ true
      opens = ap (λ (x : Report). is_open x.verdict) (sym is) ∙ ap is_open open'

      pub advanced : (t : Snapshot) (q : Result Report Refusal) → Advances g w budget s t q → t ≡ after g w (n + budget) (begun g w cs)
      advanced t q a = (advance_runs g w cs some within n budget s t q here opens (omega arith) (omega arith) a).1

      pub fewer : (t : Snapshot) (q : Result Report Refusal) → Advances g w budget s t q → openings_left t.progress < openings_left s.progress
      fewer t q a = advance_fewer g w cs some within n budget s t here (advanced t q a) opens (omega arith)

      -- and never refused
      pub never : (t : Snapshot) (e : Refusal) → Advances g w budget s t (Err e) → ⊥
      never t e a =
          let q = (advance_runs g w cs some within n budget s t (Err e) here opens (omega arith) (omega arith) a).0 in
          let z : ◌≡◌ {A = ℕ} 0 1 = cc in
          omega arith

    -- no longer open it is finished
    pub ended : (report.verdict ≡ Open → ⊥) → s ≡ finished g w cs
    ended closed = run_final g w cs some within n s here (ap (λ (x : Report). is_open x.verdict) (sym is) ∙ not_open report.verdict closed)
