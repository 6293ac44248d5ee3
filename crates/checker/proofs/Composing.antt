-- From the inspection of the parts of a bundle to the line of the bundle.
use Rattle.std.proofs.Common.{◌≡◌, ℕ, List, replicate, Ok, Err, Result, refl, ap, ◌∙◌, subst, arith}
use lib.ListN.{length-replicate}
use Rattle.std.specs.Result.{MatchResult}
use Rattle.refusal.specs.declared.PlacedFault.{PlacedFault}
use Rattle.refusal.specs.declared.Refusal.{Refusal}
use Rattle.model.specs.Automata.{Automaton}
use Rattle.model.specs.Graphs.{Graph}
use Rattle.inspection.specs.Cells.{blank}
use Rattle.line.specs.declared.Line.{Line}
use Rattle.bundle.specs.Bundles.{Contents, bundle_of}
use Rattle.bundle.proofs.Accepting.{accepts}
use Rattle.sheet.specs.Sheets.{sheet_meaning}
use Rattle.watch_table.specs.Tables.{table_meaning}
use Rattle.checker.specs.Checked.{checked, inspected_line, line_of, or_fault}
use Rattle.checker.specs.Judged.{Judged, Judges}
use Rattle.checker.proofs.Judging.{judges}

module _ (g : Graph) (w : Automaton) (c : Contents) (read : Result Contents PlacedFault) (line : Line) (m : g ≡ sheet_meaning c.machine) (a : w ≡ table_meaning c.watcher) (is : Ok c ≡ read) where
  -- the line of the parts is that of the bundle
  pub composed_line : line ≡ inspected_line g w (replicate c.cells blank) → line ≡ line_of read
  composed_line e =
      e
      ∙ ap (λ (x : Graph). inspected_line x w (replicate c.cells blank)) m
      ∙ ap (λ (x : Automaton). inspected_line (sheet_meaning c.machine) x (replicate c.cells blank)) a
      ∙ ap line_of is

  -- and so is what it says
  pub composed_law : Judges g w c.cells line → Judged read line
  composed_law j =
      subst (λ (r : Result Contents PlacedFault). Judged r line) is
      (subst (λ (x : Automaton). Judges (sheet_meaning c.machine) x c.cells line) a
      (subst (λ (x : Graph). Judges x w c.cells line) m j))

-- where the inspection came to a line, its refusal is not looked at
pub unrefused : (q : Result Line Refusal) (r : Result Line PlacedFault) (l : Line) (Q : Refusal → Type 0) → q ≡ Ok l → MatchResult q (λ x. r ≡ Ok x) Q → or_fault r ≡ l
unrefused q r l Q e k = ap or_fault (subst (λ (x : Result Line Refusal). MatchResult x (λ y. r ≡ Ok y) Q) e k)

-- what the line of a bundle says is so
pub judged : (bytes : List ℕ) → Judged (bundle_of bytes) (checked bytes)
unfolding checked
judged bytes = by (bundle_of bytes) refl
  where
    by : (read : Result Contents PlacedFault) → bundle_of bytes ≡ read → Judged read (line_of read)
    by (Err p) e = refl
    by (Ok c) e =
        let d = ((accepts bytes) c).0 e in
        let n = length-replicate c.cells blank in
        let g = sheet_meaning c.machine in
        let w = table_meaning c.watcher in
        composed_law g w c (Ok c) (line_of (Ok c)) refl refl refl
        (subst (λ k. Judges g w k (line_of (Ok c))) n (judges g w (replicate c.cells blank) (omega (arith, n, d.some)) (omega (arith, n, d.few))))
