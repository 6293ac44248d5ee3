use Rattle.std.proofs.Common.{◌≡◌, ◌≤◌, length, take}
use Rattle.std.specs.List.{filter_map}
use Rattle.cases.specs.Digits.{digit_value}
use Rattle.cases.proofs.digits_of.Given as goal

-- the front of the room has the digits of the bytes so far, as many as there is room for
abbrev pub invariant-loop-b : goal.invariant-loop-b
invariant-loop-b l = record {
  long : length l.room ≡ length l.initial.room;
  within : l.len ≤ length l.room;
  digits : take l.len l.room ≡ take (length l.room) (filter_map digit_value (take l.b-index l.text));
}
