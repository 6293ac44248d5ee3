-- Faults by the layer that found them, and the bytes of their line.
use Rattle.std.specs.Prelude.{ℕ, List, ◌++◌, codes, decimal}
use Rattle.refusal.specs.declared.Fault.{Fault}
use Rattle.refusal.specs.declared.Layer.TheVariants.{Bundle, Content}
use Rattle.refusal.specs.declared.PlacedFault.{PlacedFault}
use Rattle.refusal.specs.declared.Refusal.{Refusal}
use Rattle.refusal.specs.Numbers.{number, layer_number, byte_in_bundle}

-- a fault of a content, at a byte of it
abbrev pub fault_in_content : Refusal → ℕ → Fault
fault_in_content refusal byte = record { refusal = refusal; layer = Content; byte = byte }

-- a fault, and the place in the bundle of what its layer was handed
abbrev pub fault_at : Fault → ℕ → PlacedFault
fault_at fault place = record { fault = fault; place = place }

-- a fault of the bundle itself, at a byte of it
abbrev pub fault_in_bundle : Refusal → ℕ → PlacedFault
fault_in_bundle refusal byte = record { fault = record { refusal = refusal; layer = Bundle; byte = byte }; place = 0 }

-- the bytes by which a fault is printed: its refusal, its layer, and the byte of the bundle where it lies, as numbers
abbrev pub fault_bytes : PlacedFault → List ℕ
fault_bytes p = codes "fault " ++ (decimal (number p.fault.refusal) ++ (codes " layer " ++ (decimal (layer_number p.fault.layer) ++ (codes " at " ++ decimal (byte_in_bundle p)))))
