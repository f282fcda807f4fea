-- The number and the place of a fault.
use Rattle.std.specs.Prelude.{ℕ, ⊤}
use Rattle.ent_value.specs.declared.refusal.Refusal.{Refusal}
use Rattle.ent_value.specs.declared.refusal.Refusal.TheVariants.{Memory, Fault}
use Rattle.ent_text.specs.declared.fault.TextFault.{TextFault}
use Rattle.ent_text.specs.declared.fault.TextFault.TheVariants.{BadChar, OpenText, NumberTooLarge, TextTooLong}

abbrev pub code_of : TextFault → ℕ
code_of (BadChar place) = 101
code_of (OpenText place) = 102
code_of (NumberTooLarge place) = 103
code_of (TextTooLong place) = 104

abbrev pub place_of : TextFault → ℕ
place_of (BadChar place) = place
place_of (OpenText place) = place
place_of (NumberTooLarge place) = place
place_of (TextTooLong place) = place

-- the fact holds of the fault, where memory did not run out
abbrev pub IfFault : (TextFault → Type 0) → Refusal TextFault → Type 0
IfFault holds Memory = ⊤
IfFault holds (Fault fault) = holds fault
