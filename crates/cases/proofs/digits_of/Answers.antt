use Rattle.std.proofs.Common.{◌<◌, length, arith, sym, ◌∙◌, length-set}
use Rattle.cases.specs.Digits.{digit_value}
use Rattle.cases.proofs.Filling.{put, full, gives, gives_none}
use Rattle.cases.proofs.digits_of.Goals as goal
use Rattle.cases.proofs.digits_of.Goals.{in-Some+then-len-room, in-Some+else-len-room, in_default}

pub loop-b-preserved : goal.loop-b-preserved
loop-b-preserved c =
    let text = c.args.text.now in
    let i = c.loop-b.b-index in
    let room = c.loop-b.room in
    let len = c.loop-b.len in
    let inv = c.loop-b.invariant in
    let there : i < length text = omega arith in
    elim c.match-digit_of.branch [
      | in-Some+then-len-room w ↦ rw (w.room-is, w.len-is, length-set) (record {
        long = inv.long;
        within = omega (arith, w.if-len-room.true);
        digits = rw (gives text i 0 there digit_value w.in-Some.digit (sym c.digit_of.ensures ∙ w.in-Some.is)) (put len room _ w.in-Some.digit inv.within inv.digits w.if-len-room.true);
      })
      | in-Some+else-len-room w ↦ rw (w.room-is, w.len-is) (record {
        long = inv.long;
        within = inv.within;
        digits = rw (gives text i 0 there digit_value w.in-Some.digit (sym c.digit_of.ensures ∙ w.in-Some.is)) (full len room _ w.in-Some.digit inv.within inv.digits w.if-len-room.false);
      })
      | in_default w ↦ rw (w.room-is, w.len-is) (record {
        long = inv.long;
        within = inv.within;
        digits = rw (gives_none text i 0 there digit_value (sym c.digit_of.ensures ∙ w.in_default.is)) inv.digits;
      })
    ]
