-- The number and the place of a fault.
use Rattle.std.specs.Prelude.{ℕ, Option, Some, None}
use Rattle.ent_input.specs.Fault.{code_of as text_code_of, place_of as text_place_of}
use Rattle.ent_prepare.specs.declared.fault.PrepareFault.{PrepareFault}
use Rattle.ent_prepare.specs.declared.fault.PrepareFault.TheVariants.{Text, Binding}

-- a fault of bound values has no number
abbrev pub code_of : PrepareFault → Option ℕ
code_of (Text fault) = Some (text_code_of fault)
code_of (Binding fault) = None

-- and no place in the text
abbrev pub place_of : PrepareFault → Option ℕ
place_of (Text fault) = text_place_of fault
place_of (Binding fault) = None
