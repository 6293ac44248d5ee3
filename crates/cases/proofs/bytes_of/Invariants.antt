use Rattle.std.proofs.Common.{◌≡◌, ◌≤◌, length, map, take}
use Rattle.cases.specs.Digits.{byte_value}
use Rattle.cases.proofs.bytes_of.Given as goal

-- the front of the room has the bytes of the pairs so far, as many as there is room for
abbrev pub invariant-loop-pair : goal.invariant-loop-pair
invariant-loop-pair l = record {
  long : length l.room ≡ length l.initial.room;
  within : l.len ≤ length l.room;
  bytes : take l.len l.room ≡ take (length l.room) (map byte_value (take l.pair-index l.pairs));
}
