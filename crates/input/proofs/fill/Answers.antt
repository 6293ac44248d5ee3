use Rattle.std.proofs.Common.{◌≡◌, ℕ, ◌+◌, ◌-◌, ◌≤◌, List, ◌++◌, rules, length, take, sym, ap, ◌∙◌, subst, le_refl, drop_at, length-take-le}
use Rattle.std.proofs.lemmas.Slice.{take-put_mid_below}
use Rattle.std.specs.Io.KnownBytes.{Consumes}
use Rattle.std.proofs.KnownBytes.{Consumes-trans}
use borrow.Rule.Slice.PartMut.{put_mid, post_of}
use lib.Seq.{take-add, take-append-le}
use Rattle.input.proofs.fill.Goals as goal

-- where a read gave n bytes, the front of the room has n more
front : (at k n : ℕ) (room got : List ℕ) → at ≤ length room → n ≤ length got → take at room ++ take n got ≡ take (at + n) (put_mid at k room got)
front at k n room got within fits =
    let new = put_mid at k room got in
    let old = take-put_mid_below at k room got at (le_refl at) within in
    let past = drop_at (take at room) (got ++ post_of at k room) at (length-take-le at room within) in
    ap (λ l. l ++ take n got) (sym old)
    ∙ ap (λ l. take at new ++ l) (sym (ap (take n) past ∙ take-append-le n got (post_of at k room) fits))
    ∙ sym (take-add at n new)

pub loop-len-preserved : goal.loop-len-preserved
loop-len-preserved g c =
    let i = c.loop-len.invariant in
    let part = front c.loop-len.len (length c.loop-len.room - c.loop-len.len) c.in_ok-got.got c.loop-len.room c.read.new.buf i.1 c.in_ok-got.ensures.bound.0 in
    (search rules, search rules, subst (Consumes _ _) part (Consumes-trans _ _ _ _ _ i.2 c.in_ok-got.ensures.bytes.0))
