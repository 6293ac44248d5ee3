-- The number of each refusal and of each layer, and the byte of a bundle where a fault lies.
use Rattle.std.specs.Prelude.{ℕ, ◌+◌}
use Rattle.refusal.specs.declared.Layer.{Layer}
use Rattle.refusal.specs.declared.Layer.TheVariants.{Bundle, Content}
use Rattle.refusal.specs.declared.PlacedFault.{PlacedFault}
use Rattle.refusal.specs.declared.Refusal.{Refusal}
use Rattle.refusal.specs.declared.Refusal.TheVariants.{BundleSize, FieldPastEnd, FieldOrder, ContentLength, OutOfRange, TooMany, TableSize, Budget, JoinLimits, ShortBuffer, NotIdle, StillIdle, Decided, NotBroken, OtherTable}

abbrev pub number : Refusal → ℕ
number BundleSize = 1
number FieldPastEnd = 2
number FieldOrder = 3
number ContentLength = 4
number OutOfRange = 5
number TooMany = 6
number TableSize = 12
number Budget = 13
number JoinLimits = 14
number ShortBuffer = 15
number NotIdle = 41
number StillIdle = 42
number Decided = 43
number NotBroken = 44
number OtherTable = 45

abbrev pub layer_number : Layer → ℕ
layer_number Bundle = 1
layer_number Content = 2

-- where the fault lies in what its layer was handed, and that in the bundle
abbrev pub byte_in_bundle : PlacedFault → ℕ
byte_in_bundle p = p.fault.byte + p.place
