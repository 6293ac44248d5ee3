use Rattle.std.proofs.Common.{◌<◌, length, arith, refl, length-set, []}
use Rattle.cases.specs.Digits.{byte_value}
use Rattle.cases.proofs.Filling.{put, full, image}
use Rattle.cases.proofs.bytes_of.Goals as goal
use Rattle.cases.proofs.bytes_of.Goals.{then-len-room, else-len-room}

pub loop-pair-preserved : goal.loop-pair-preserved
loop-pair-preserved c =
    let pairs = c.as_chunks.result.0.now in
    let i = c.loop-pair.pair-index in
    let inv = c.loop-pair.invariant in
    let there : i < length pairs = omega arith in
    let room = c.loop-pair.room in
    let len = c.loop-pair.len in
    elim c.if-len-room.branch [
      | then-len-room w ↦ rw (w.room-is, w.len-is, length-set) (record {
        long = inv.long;
        within = omega (arith, w.if-len-room.true);
        bytes = rw (image pairs i [] there byte_value w.byte_of.result w.byte_of.ensures) (put len room _ w.byte_of.result inv.within inv.bytes w.if-len-room.true);
      })
      | else-len-room w ↦ rw (w.room-is, w.len-is) (record {
        long = inv.long;
        within = inv.within;
        bytes = rw (image pairs i [] there byte_value _ refl) (full len room _ _ inv.within inv.bytes w.if-len-room.false);
      })
    ]
