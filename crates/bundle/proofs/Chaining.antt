-- Where the reader of a bundle stands, and what each step of it comes to.
use Rattle.std.proofs.Common.{◌≡◌, ℕ, Bool, true, false, cond, ◌&&◌, ◌==◌, nat_le, List, length, Ok, Err, IsErrAnd, Option, Result, refl, ap, ◌∙◌}
use Rattle.std.specs.Result.{result_err}
use denote.Ref.{Bor}
use Rattle.refusal.specs.Faults.{fault_in_content}
use Rattle.refusal.specs.declared.Refusal.TheVariants.{ContentLength, OutOfRange}
use Rattle.refusal.specs.declared.Fault.{Fault}
use Rattle.refusal.specs.declared.PlacedFault.{PlacedFault}
use Rattle.words.specs.Words.{word}
use Rattle.fields.specs.Fields.{at_place, Piece, due_at, ended, needed, sized, stood, told}
use Rattle.sheet.specs.Sheets.{sheet_fault}
use Rattle.watch_table.specs.Tables.{table_fault}
use Rattle.bundle.specs.Bundles.{Contents, Got, allowed, bundle_of, cells_at, cells_in, cells_tag, checked_at, content_fault, lifted, long, machine_tag, most_cells, then, watcher_tag}

-- a stage was passed, and what follows it is as the rest of the definition says
go : {A B : Type 0} {x : Result A PlacedFault} {a : A} (k : A → Result B PlacedFault) {y : Result B PlacedFault} → Ok a ≡ x → y ≡ k a → y ≡ then x k
unfolding then
go k e f = f ∙ ap (λ z. then z k) e

-- a stage was refused
stop : {A B : Type 0} {x : Result A PlacedFault} {e : PlacedFault} (k : A → Result B PlacedFault) → Err e ≡ x → Err e ≡ then x k
unfolding then
stop k e = ap (λ z. then z k) e

-- a chain within a chain
regroup : {A B C : Type 0} (x : Result A PlacedFault) (f : A → Result B PlacedFault) (g : B → Result C PlacedFault) → then (then x f) g ≡ then x (λ a. then (f a) g)
unfolding then
regroup (Ok a) f g = refl
regroup (Err e) f g = refl

-- the exit of a `?` answers the fault
pub out : {X A : Type 0} (f : X → A) (r : Result X PlacedFault) (e : PlacedFault) (b : Result A PlacedFault) → IsErrAnd r (λ y. y ≡ e) → Err e ≡ b → told f r ≡ b
out f (Ok p) e b h q = absurd h
out f (Err y) e b h q = ap Err h ∙ q

-- a stage over the same bytes
pub checked_on : (fault : List ℕ → Option Fault) (tag : ℕ) {x : Result (Got (List ℕ)) PlacedFault} {b b' : List ℕ} {a a' : ℕ} → b' ≡ b → a' ≡ a → x ≡ checked_at fault b' a' tag → x ≡ checked_at fault b a tag
checked_on fault tag {x} {b} {b'} {a} {a'} p q e = e ∙ ap (λ z. checked_at fault z a' tag) p ∙ ap (λ z. checked_at fault b z tag) q

pub cells_on : {x : Result (Got ℕ) PlacedFault} {b b' : List ℕ} (a : ℕ) → b' ≡ b → x ≡ cells_at b' a → x ≡ cells_at b a
cells_on a p e = e ∙ ap (λ z. cells_at z a) p

pub ended_on : {x : Result (Unit {0}) PlacedFault} {b b' : List ℕ} (a : ℕ) → b' ≡ b → x ≡ ended b' a → x ≡ ended b a
ended_on a p e = e ∙ ap (λ z. ended z a) p

-- what is left of the definition at each field
abbrev pub from_end : List ℕ → List ℕ → List ℕ → ℕ → ℕ → Result Contents PlacedFault
from_end b m w n at = then (ended b at) (λ _. Ok (record { machine = m; watcher = w; cells = n }))

abbrev pub from_cells : List ℕ → List ℕ → List ℕ → ℕ → Result Contents PlacedFault
from_cells b m w at = then (cells_at b at) (λ t. from_end b m w t.value t.next)

abbrev pub from_watcher : List ℕ → List ℕ → ℕ → Result Contents PlacedFault
from_watcher b m at = then (checked_at table_fault b at watcher_tag) (λ w. from_cells b m w.value w.next)

abbrev pub from_machine : List ℕ → ℕ → Result Contents PlacedFault
from_machine b at = then (checked_at sheet_fault b at machine_tag) (λ m. from_watcher b m.value m.next)

-- the bytes x of the fields are those of the bundle, and what is left at the next one is what the bundle means
pub record Stands (b : List ℕ) (x : Bor (List ℕ)) (at : ℕ) (rest : ℕ → Result Contents PlacedFault) : Type 0 where
  pub same : x.now ≡ b
  pub meaning : rest at ≡ bundle_of b

-- what taking a field answers and leaves
abbrev pub Took : Bor (List ℕ) → ℕ → Bor (List ℕ) → ℕ → ℕ → Result Piece PlacedFault → Type 0
Took x at x' at' tag r = record {
  value : r ≡ needed at (due_at x.now at tag);
  at : at' ≡ stood at (r);
  bytes : x' ≡ x;
}

-- what a content's reader answers, with the content's place
abbrev pub Reads : {A : Type 0} → Result A PlacedFault → ℕ → (Result A Fault → Type 0) → Type 0
Reads {A} x place Q = (r : Result A Fault) × Q r × (x ≡ at_place place r)

-- the fault of a content, as the definition places it
placed : (place : ℕ) (f : Option Fault) (x : Result (Unit {0}) PlacedFault) → Reads x place (λ r. result_err r ≡ f) → x ≡ lifted place f
placed place f x (Ok u, q, e) = e ∙ ap (lifted place) q
placed place f x (Err g, q, e) = e ∙ ap (lifted place) q

-- the number of cells, by the tests of its length and of its range
tests : (place n : ℕ) (s t : Bool) → at_place {A = ℕ} place (cond s (cond t (Ok n) (Err (fault_in_content OutOfRange 0))) (Err (fault_in_content ContentLength 0)))
    ≡ then {A = Unit {0}} (cond s (Ok tt) (Err (content_fault ContentLength place))) (λ _. cond t (Ok n) (Err (content_fault OutOfRange place)))
unfolding then
tests place n true true = refl
tests place n true false = refl
tests place n false t = refl

counted : (p : Piece) (x : Result ℕ PlacedFault) → Reads x p.place (λ r. r ≡ cells_in p.content) → x ≡ then (long 2 p) (λ _. allowed p (word p.content 0))
unfolding long allowed
counted p x (r, q, e) =
    let n = word p.content 0 in
    e ∙ ap (at_place p.place) q ∙ tests p.place n (length p.content == 2) (nat_le 1 n && nat_le n most_cells)

-- the fields of a bundle of allowed size, and the fault of another size
pub opened : (b : List ℕ) (x : Bor (List ℕ)) (at : ℕ) → (Ok tt ≡ sized b) × ((x.now ≡ b) × (at ≡ 0)) → Stands b x at (from_machine b)
unfolding bundle_of
opened b x at (size, (same, zero)) = record { same = same; meaning = go _ size (ap (from_machine b) zero) }

pub refused : (b : List ℕ) (e : PlacedFault) → Err e ≡ sized b → Err e ≡ bundle_of b
unfolding bundle_of
refused b e size = stop _ size

module _ (b : List ℕ) (x : Bor (List ℕ)) (at : ℕ) (x' : Bor (List ℕ)) (at' : ℕ) where
  module _ (fault : List ℕ → Option Fault) (tag : ℕ) (k : List ℕ → ℕ → Result Contents PlacedFault) where
    -- a field that is not there, one with a fault, and one with none
    pub absent : (e : PlacedFault) → Stands b x at (λ a. then (checked_at fault b a tag) (λ m. k m.value m.next)) → Took x at x' at' tag (Err e) → Err e ≡ bundle_of b
    unfolding checked_at
    absent e s t = stop _ (checked_on fault tag s.same refl (stop _ t.value)) ∙ s.meaning

    pub faulty : (p : Piece) (e : PlacedFault) → Stands b x at (λ a. then (checked_at fault b a tag) (λ m. k m.value m.next)) → Took x at x' at' tag (Ok p) → Reads {A = Unit {0}} (Err e) p.place (λ r. result_err r ≡ fault p.content) → Err e ≡ bundle_of b
    unfolding checked_at
    faulty p e s t r = stop _ (checked_on fault tag s.same refl (go _ t.value (stop _ (placed _ _ _ r)))) ∙ s.meaning

    pub sound : (p : Piece) (u : Unit {0}) → Stands b x at (λ a. then (checked_at fault b a tag) (λ m. k m.value m.next)) → Took x at x' at' tag (Ok p) → Reads (Ok u) p.place (λ r. result_err r ≡ fault p.content) → Stands b x' at' (k p.content)
    unfolding checked_at
    sound p u s t r = record {
      same = ap (λ z. z.now) t.bytes ∙ s.same;
      meaning = go _ (checked_on fault tag s.same refl (go _ t.value (go _ (placed _ _ _ r) refl))) (ap (k p.content) t.at) ∙ s.meaning;
    }

  module _ (k : ℕ → ℕ → Result Contents PlacedFault) where
    -- the number of cells is not there, refused, or allowed
    pub no_cells : (e : PlacedFault) → Stands b x at (λ a. then (cells_at b a) (λ t. k t.value t.next)) → Took x at x' at' cells_tag (Err e) → Err e ≡ bundle_of b
    unfolding cells_at
    no_cells e s t = stop _ (cells_on at s.same (stop _ t.value)) ∙ s.meaning

    pub bad_cells : (p : Piece) (e : PlacedFault) → Stands b x at (λ a. then (cells_at b a) (λ t. k t.value t.next)) → Took x at x' at' cells_tag (Ok p) → Reads {A = ℕ} (Err e) p.place (λ r. r ≡ cells_in p.content) → Err e ≡ bundle_of b
    unfolding cells_at
    bad_cells p e s t r = stop _ (cells_on at s.same (go _ t.value (stop _ (counted p _ r) ∙ regroup _ _ _))) ∙ s.meaning

    pub good_cells : (p : Piece) (n : ℕ) → Stands b x at (λ a. then (cells_at b a) (λ t. k t.value t.next)) → Took x at x' at' cells_tag (Ok p) → Reads (Ok n) p.place (λ r. r ≡ cells_in p.content) → Stands b x' at' (k n)
    unfolding cells_at
    good_cells p n s t r = record {
      same = ap (λ z. z.now) t.bytes ∙ s.same;
      meaning = go _ (cells_on at s.same (go _ t.value (go _ (counted p _ r) refl ∙ regroup _ _ _))) (ap (k n) t.at) ∙ s.meaning;
    }

-- nothing follows the last field, or something does
pub nothing_left : (b : List ℕ) (x : Bor (List ℕ)) (at : ℕ) (m w : List ℕ) (n : ℕ) (u : Unit {0}) → Stands b x at (from_end b m w n) → Ok u ≡ ended x.now at → Ok (record { machine = m; watcher = w; cells = n }) ≡ bundle_of b
nothing_left b x at m w n u s e = go _ (ended_on at s.same e) refl ∙ s.meaning

pub something_left : (b : List ℕ) (x : Bor (List ℕ)) (at : ℕ) (m w : List ℕ) (n : ℕ) (e : PlacedFault) → Stands b x at (from_end b m w n) → Err e ≡ ended x.now at → Err e ≡ bundle_of b
something_left b x at m w n e s h = stop _ (ended_on at s.same h) ∙ s.meaning
