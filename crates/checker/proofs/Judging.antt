-- What the line of a finished inspection says of its machine and its watcher.
use Rattle.std.proofs.Common.{◌≡◌, ℕ, ◌≤◌, true, List, ◌++◌, length, drop, replicate, None, Ok, Err, Result, sym, refl, ap, ◌∙◌, subst, arith}
use Rattle.std.proofs.lemmas.Bool.{eq-eqb, le-leb, true≢false}
use Rattle.refusal.specs.Faults.{fault_in_bundle}
use Rattle.refusal.specs.declared.Refusal.{Refusal}
use Rattle.model.specs.Automata.{Automaton}
use Rattle.model.specs.Graphs.{Graph}
use Rattle.model.specs.Runs.{Shortest}
use Rattle.inspection.specs.declared.cells.Cell.{Cell}
use Rattle.inspection.specs.declared.search.Verdict.{Verdict}
use Rattle.inspection.specs.declared.search.Verdict.TheVariants.{Holds, Broken, Full}
use Rattle.inspection.specs.Calls.{trace_refusal}
use Rattle.inspection.specs.Law.{Law}
use Rattle.inspection.specs.Limits.{most_cells}
use Rattle.inspection.specs.Searches.{Snapshot, actions, is_decided, reported}
use Rattle.inspection.specs.Walks.{traced}
use Rattle.inspection.proofs.Completion.{run_decided, run_invariant, run_law, run_within}
use Rattle.inspection.proofs.Laws.{decided_verdict, written_shortest}
use Rattle.line.specs.declared.Line.{Line}
use Rattle.line.specs.declared.Line.TheVariants.{Broken as BrokenLine}
use Rattle.line.specs.declared.Trace.{Trace}
use Rattle.line.specs.Lines.{actions_of, most_trace, trace_of}
use Rattle.checker.specs.Checked.{finished, inspected_line, or_refused, traced_line, verdict_line}
use Rattle.checker.specs.Judged.{Judges}

module _ (g : Graph) (w : Automaton) (cs : List Cell) (some : 1 ≤ length cs) (few : length cs ≤ most_trace) where
  abbrev within : length cs ≤ most_cells
  within = omega arith

  abbrev s : Snapshot
  s = finished g w cs

  abbrev v : Verdict
  v = s.progress.verdict

  -- its report obeys the law
  law : Law g w (length cs) (length cs) (reported s.progress)
  law = run_law g w cs some within (length cs)

  -- a finished inspection is decided
  decided : is_decided v ≡ true
  decided = run_decided g w cs some within (length cs) (omega arith)

  -- the trace of a broken verdict fits
  traces : (n : ℕ) → v ≡ Broken n → trace_refusal s.progress (length s.table) most_trace ≡ None
  traces n e =
      let k = (run_invariant g w cs some within (length cs)).cells in
      let fits : n ≤ most_trace = omega (arith, run_within g w cs some within (length cs) n e) in
      rw (e, eq-eqb (length s.table) s.progress.cells k, le-leb n most_trace fits)

  -- the line of a broken verdict, with its run
  broken_line : (n : ℕ) → v ≡ Broken n → verdict_line g s (Broken n) ≡ BrokenLine n s.progress.opened s.progress.tally.found (trace_of (traced g s.table s.progress ++ drop n (replicate most_trace 0)) n)
  broken_line n e =
      ap (λ o. traced_line o g s) (traces n e)
      ∙ ap (λ k. BrokenLine k s.progress.opened s.progress.tally.found (trace_of (traced g s.table s.progress ++ drop k (replicate most_trace 0)) k)) (ap actions e)

  -- the line of each decided verdict
  judges_holds : v ≡ Holds → Judges g w (length cs) (verdict_line g s Holds)
  judges_holds e =
      let not_full : v ≡ Full → ⊥ = λ f. let z : ◌≡◌ {A = ℕ} 0 1 = cc in omega arith in
      record {
        answered = λ p q. let z : ◌≡◌ {A = ℕ} 0 1 = cc in omega arith;
        full = (λ h. absurd (true≢false (sym h)), λ o. absurd (not_full ((law.full decided).1 o)));
        broken = λ _. (λ h. absurd (true≢false (sym h)), λ b. absurd ((law.holds decided not_full).0 e b));
        holds = λ _. (λ _. (law.holds decided not_full).0 e, λ _. refl);
        shortest = λ n o f t q. absurd (let z : ◌≡◌ {A = ℕ} 0 1 = cc in omega arith);
      }

  judges_full : v ≡ Full → Judges g w (length cs) (verdict_line g s Full)
  judges_full e = record {
    answered = λ p q. let z : ◌≡◌ {A = ℕ} 0 1 = cc in omega arith;
    full = (λ _. (law.full decided).0 e, λ _. refl);
    broken = λ h. absurd (true≢false h);
    holds = λ h. absurd (true≢false h);
    shortest = λ n o f t q. absurd (let z : ◌≡◌ {A = ℕ} 0 1 = cc in omega arith);
  }

  judges_broken : (n : ℕ) → v ≡ Broken n → Judges g w (length cs) (verdict_line g s (Broken n))
  judges_broken n e =
      let not_full : v ≡ Full → ⊥ = λ f. let z : ◌≡◌ {A = ℕ} 0 1 = cc in omega arith in
      let not-holds : v ≡ Holds → ⊥ = λ f. let z : ◌≡◌ {A = ℕ} 0 1 = cc in omega arith in
      let acts = traced g s.table s.progress ++ drop n (replicate most_trace 0) in
      let run : Shortest g w n (actions_of (trace_of acts n)) = written_shortest g w s (run_invariant g w cs some within (length cs)) n e (drop n (replicate most_trace 0)) in
      subst (Judges g w (length cs)) (sym (broken_line n e)) (record {
        answered = λ p q. let z : ◌≡◌ {A = ℕ} 0 1 = cc in omega arith;
        full = (λ h. absurd (true≢false (sym h)), λ o. absurd (not_full ((law.full decided).1 o)));
        broken = λ _. (λ _. record { acts = actions_of (trace_of acts n); run = run.run; condemned = run.condemned }, λ _. refl);
        holds = λ _. (λ h. absurd (true≢false (sym h)), λ none. absurd (not-holds ((law.holds decided not_full).1 none)));
        shortest = λ k o f t q.
            let a : n ≡ k = cc in
            let b : trace_of acts n ≡ t = cc in
            subst (λ m. Shortest g w m (actions_of t)) a (subst (λ (x : Trace). Shortest g w n (actions_of x)) b run);
      })

  -- the line of every finished inspection
  pub judges : Judges g w (length cs) (inspected_line g w cs)
  judges = decided_verdict v (λ u. v ≡ u → Judges g w (length cs) (verdict_line g s u)) decided judges_holds judges_broken judges_full refl

  -- so what answers it is accepted
  pub accepted : (r : Result Line Refusal) → or_refused r ≡ inspected_line g w cs → r ≡ Ok (inspected_line g w cs)
  accepted (Ok l) e = ap Ok e
  accepted (Err f) e = absurd (judges.answered (fault_in_bundle f 0) (sym e))
