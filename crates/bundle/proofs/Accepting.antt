-- What is accepted of a bundle's bytes is exactly what they describe.
use Rattle.std.proofs.Common.{◌≡◌, ℕ, ◌+◌, ◌*◌, ◌≤◌, Bool, true, false, cond, ◌&&◌, ◌||◌, eqb, ltb, leb, List, [], ◌∷◌, ◌++◌, length, get_or, drop, Some, None, Ok, Err, Option, Result, refl, ap, ◌∙◌, arith, length-drop}
use Rattle.std.proofs.lemmas.List.{drop_all}
use Rattle.std.proofs.lemmas.Bool.{and_from, and_parts, cond-true, cond-false, eqb-true, le-leb, leb-true, le-ltb}
use Rattle.std.proofs.lemmas.Bool.Decides.{nat_tests}
use Rattle.refusal.specs.declared.Fault.{Fault}
use Rattle.refusal.specs.declared.PlacedFault.{PlacedFault}
use Rattle.words.specs.Words.{word}
use Rattle.fields.specs.Fields.{ended, most_bundle, past, sized}
use Rattle.sheet.specs.Sheets.{sheet_fault}
use Rattle.watch_table.specs.Tables.{table_fault}
use Rattle.bundle.specs.Accepted.{Accepts, Describes}
use Rattle.bundle.specs.Bundles.{Contents, Got, allowed, bundle_of, cells_at, cells_tag, checked_at, got, lifted, long, machine_tag, most_cells, then, watcher_tag}
use Rattle.bundle.proofs.Framing.{Framed, ReadHere, framed, read_here}

-- where a chain was accepted, each stage was
pub record Passed {A B : Type 0} (x : Result A PlacedFault) (k : A → Result B PlacedFault) (b : B) : Type 0 where
  pub value : A
  pub was : x ≡ Ok value
  pub rest : k value ≡ Ok b

passed : {A B : Type 0} (x : Result A PlacedFault) (k : A → Result B PlacedFault) (b : B) → then x k ≡ Ok b → Passed x k b
unfolding then
passed (Ok a) k b e = record { value = a; was = refl; rest = e }
passed (Err f) k b e = absurd cc

-- and a chain goes on from an accepted stage
onward : {A B : Type 0} {x : Result A PlacedFault} {a : A} (k : A → Result B PlacedFault) {y : Result B PlacedFault} → x ≡ Ok a → k a ≡ y → then x k ≡ y
unfolding then
onward k e f = ap (λ z. then z k) e ∙ f

-- a content that was passed has no fault
no_fault : (place : ℕ) (f : Option Fault) (u : Unit {0}) → lifted place f ≡ Ok u → f ≡ None
no_fault place None u e = refl
no_fault place (Some f) u e = absurd cc

-- what a stage with a checked content read
pub record Checked (fault : List ℕ → Option Fault) (bytes : List ℕ) (at tag : ℕ) (m : Got (List ℕ)) : Type 0 where
  pub frame : Framed bytes at tag m.value m.next
  pub sound : fault m.value ≡ None

checked : (fault : List ℕ → Option Fault) (bytes : List ℕ) (at tag : ℕ) (m : Got (List ℕ)) → checked_at fault bytes at tag ≡ Ok m → Checked fault bytes at tag m
unfolding checked_at
checked fault bytes at tag m e =
    let one = passed _ _ _ e in
    let two = passed _ _ _ one.rest in
    let p = one.value in
    let is : got p.content (past p) ≡ m = cc in
    rw (← is) (record { frame = framed bytes at tag p one.was; sound = no_fault _ _ _ two.was })

-- a content that is read and has no fault is passed
checked_here : (fault : List ℕ → Option Fault) (bytes : List ℕ) (at tag : ℕ) (content rest : List ℕ) → ReadHere bytes at tag content rest → fault content ≡ None → checked_at fault bytes at tag ≡ Ok (got content (at + 3 + length content))
unfolding checked_at
checked_here fault bytes at tag content rest r ok = onward _ r.read (onward _ (ap (lifted (at + 3)) ok) refl)

-- a list of two
two_of : (xs : List ℕ) → length xs ≡ 2 → xs ≡ get_or xs 0 0 ∷ (get_or xs 1 0 ∷ [])
two_of [] e = absurd (omega arith)
two_of (x ∷ []) e = absurd (omega arith)
two_of (x ∷ (y ∷ [])) e = refl
two_of (x ∷ (y ∷ (z ∷ xs))) e = absurd (omega arith)

-- what the stage of the number of cells read
pub record Counted (bytes : List ℕ) (at : ℕ) (t : Got ℕ) : Type 0 where
  pub high : ℕ
  pub low : ℕ
  pub frame : Framed bytes at cells_tag (high ∷ (low ∷ [])) t.next
  pub count : high * 256 + low ≡ t.value
  pub some : 1 ≤ t.value
  pub few : t.value ≤ most_cells

cond_ok : {A : Type 0} (t : Bool) (a b : A) (e : PlacedFault) → cond t (Ok a) (Err e) ≡ Ok b → (t ≡ true) × (a ≡ b)
cond_ok true a b e h = (refl, cc)
cond_ok false a b e h = absurd cc

counted : (bytes : List ℕ) (at : ℕ) (t : Got ℕ) → cells_at bytes at ≡ Ok t → Counted bytes at t
unfolding cells_at long allowed
counted bytes at t e =
    let one = passed _ _ _ e in
    let two = passed _ _ _ one.rest in
    let three = passed _ _ _ two.rest in
    let p = one.value in
    let n = word p.content 0 in
    let size = eqb-true (length p.content) 2 (cond_ok _ _ _ _ two.was).0 in
    let range = cond_ok (leb 1 n && leb n most_cells) n three.value _ three.was in
    let both = and_parts (leb 1 n) (leb n most_cells) range.0 in
    let is : got three.value (past p) ≡ t = cc in
    let body = two_of p.content size in
    let f = framed bytes at cells_tag p one.was in
    let low = leb-true 1 n both.0 in
    let high = leb-true n most_cells both.1 in
    rw (← is) (record {
      high = get_or p.content 0 0;
      low = get_or p.content 1 0;
      frame = rw (← body) f;
      count = range.1;
      some = omega (arith, range.1);
      few = omega (arith, range.1);
    })

-- two bytes that are read and make an allowed number are passed
counted_here : (bytes : List ℕ) (at high low n : ℕ) (rest : List ℕ) → ReadHere bytes at cells_tag (high ∷ (low ∷ [])) rest → high * 256 + low ≡ n → 1 ≤ n → n ≤ most_cells → cells_at bytes at ≡ Ok (got n (at + 3 + 2))
unfolding cells_at long allowed
counted_here bytes at high low n rest r count some few =
    onward _ r.read (onward _ refl (onward _
    (cond-true (leb 1 (high * 256 + low) && leb (high * 256 + low) most_cells) _ _ (and_from _ _ (le-leb 1 (high * 256 + low) (omega arith)) (le-leb (high * 256 + low) most_cells (omega arith))))
    (ap (λ k. Ok (got k (at + 3 + 2))) count)))

-- nothing is left exactly where the bytes from there on are none
ended_rest : (bytes : List ℕ) (at : ℕ) (u : Unit {0}) → ended bytes at ≡ Ok u → drop at bytes ≡ []
unfolding ended
ended_rest bytes at u e = let far : length bytes ≤ at = grind (arith, nat_tests) in drop_all at bytes far

no_rest : (bytes : List ℕ) (at : ℕ) → drop at bytes ≡ [] → length bytes ≤ at
no_rest bytes at e = omega (arith, length-drop at bytes, ap length e)

rest_ended : (bytes : List ℕ) (at : ℕ) → drop at bytes ≡ [] → ended bytes at ≡ Ok tt
unfolding ended
rest_ended bytes at e = cond-false (ltb at (length bytes)) _ _ (le-ltb at (length bytes) (no_rest bytes at e))

-- the frames of three fields, with nothing after them, are a whole bundle
assembled : (bytes : List ℕ) (m w : Got (List ℕ)) (t : Got ℕ) → length bytes ≤ most_bundle → Checked sheet_fault bytes 0 machine_tag m → Checked table_fault bytes m.next watcher_tag w → Counted bytes w.next t → drop t.next bytes ≡ []
    → Describes bytes (record { machine = m.value; watcher = w.value; cells = t.value })
assembled bytes m w t short machine watcher cells rest =
    let a = machine.frame in
    let b = watcher.frame in
    let d = cells.frame in
    let third = d.front ∙ ap (λ l. cells_tag ∷ (d.high ∷ (d.low ∷ ((cells.high ∷ (cells.low ∷ [])) ++ l)))) rest in
    let second = b.front ∙ ap (λ l. watcher_tag ∷ (b.high ∷ (b.low ∷ (w.value ++ l)))) third in
    record {
      first = machine_tag ∷ (a.high ∷ (a.low ∷ m.value));
      second = watcher_tag ∷ (b.high ∷ (b.low ∷ w.value));
      third = cells_tag ∷ (d.high ∷ (d.low ∷ (cells.high ∷ (cells.low ∷ []))));
      high = cells.high;
      low = cells.low;
      whole = a.front ∙ ap (λ l. machine_tag ∷ (a.high ∷ (a.low ∷ (m.value ++ l)))) second;
      short = short;
      machine = record { high = a.high; low = a.low; number = a.number; are = refl };
      watcher = record { high = b.high; low = b.low; number = b.number; are = refl };
      cells = record { high = d.high; low = d.low; number = d.number; are = refl };
      count = cells.count;
      sheet = machine.sound;
      table = watcher.sound;
      some = cells.some;
      few = cells.few;
    }

-- a bundle whose size was passed is not too long
size_passed : (bytes : List ℕ) (u : Unit {0}) → sized bytes ≡ Ok u → length bytes ≤ most_bundle
unfolding sized
size_passed bytes u e = grind (arith, nat_tests)

-- what is accepted is described
described : (bytes : List ℕ) (c : Contents) → bundle_of bytes ≡ Ok c → Describes bytes c
unfolding bundle_of
described bytes c e =
    let size = passed _ _ _ e in
    let m = passed _ _ _ size.rest in
    let w = passed _ _ _ m.rest in
    let t = passed _ _ _ w.rest in
    by_cells m.value w.value t.value (size_passed bytes size.value size.was)
    (checked sheet_fault bytes 0 machine_tag m.value m.was)
    (checked table_fault bytes m.value.next watcher_tag w.value w.was)
    (counted bytes w.value.next t.value t.was)
    (passed _ _ _ t.rest)
  where
    by_cells : (m w : Got (List ℕ)) (t : Got ℕ) → length bytes ≤ most_bundle → Checked sheet_fault bytes 0 machine_tag m → Checked table_fault bytes m.next watcher_tag w → Counted bytes w.next t
        → Passed (ended bytes t.next) (λ _. Ok (record { machine = m.value; watcher = w.value; cells = t.value })) c → Describes bytes c
    by_cells m w t short a b d end =
        let is : record { machine = m.value; watcher = w.value; cells = t.value } ≡ c = cc in
        rw (← is) (assembled bytes m w t short a b d (ended_rest bytes t.next end.value end.was))

-- a bundle of a byte and more that is not too long has a size that is passed
passes_size : (x : ℕ) (xs bytes : List ℕ) → bytes ≡ x ∷ xs → length bytes ≤ most_bundle → sized bytes ≡ Ok tt
unfolding sized
passes_size x xs bytes e h = let some : length bytes ≡ length xs + 1 = ap length e ∙ omega arith in cond-false (eqb (length bytes) 0 || ltb most_bundle (length bytes)) _ _ (grind (arith, nat_tests))

-- what is described is accepted
accepted : (bytes : List ℕ) (c : Contents) → Describes bytes c → bundle_of bytes ≡ Ok c
unfolding bundle_of
accepted bytes c d =
    let a = d.machine in
    let b = d.watcher in
    let e = d.cells in
    let front = d.whole ∙ ap (λ l. l ++ (d.second ++ d.third)) a.are in
    let one = read_here bytes 0 machine_tag a.high a.low c.machine (d.second ++ d.third) a.number front in
    let at = 0 + 3 + length c.machine in
    let two = read_here bytes at watcher_tag b.high b.low c.watcher d.third b.number (one.after ∙ ap (λ l. l ++ d.third) b.are) in
    let on = at + 3 + length c.watcher in
    let three = read_here bytes on cells_tag e.high e.low (d.high ∷ (d.low ∷ [])) [] e.number (two.after ∙ e.are) in
    onward _ (passes_size _ _ bytes front d.short)
    (onward _ (checked_here sheet_fault bytes 0 machine_tag c.machine _ one d.sheet)
    (onward _ (checked_here table_fault bytes at watcher_tag c.watcher _ two d.table)
    (onward _ (counted_here bytes on d.high d.low c.cells [] three d.count d.some d.few)
    (onward _ (rest_ended bytes (on + 3 + 2) three.after)
    refl))))

pub accepts : (bytes : List ℕ) → Accepts bytes (bundle_of bytes)
accepts bytes c = (described bytes c, accepted bytes c)
