-- What reading a stream came to.
use Rattle.std.specs.Prelude.{Bool, true, false, Result, Ok, Err}
use Rattle.ent_stream.specs.declared.fault.StreamFault.{StreamFault}
use Rattle.ent_stream.specs.declared.fault.StreamFault.TheVariants.{TooLong, Unreadable}
use Rattle.ent_value.specs.declared.refusal.Refusal.{Refusal}
use Rattle.ent_value.specs.declared.refusal.Refusal.TheVariants.{Memory, Fault}

-- the reader failed
abbrev pub is_unreadable : {X : Type 0} → Result X (Refusal StreamFault) → Bool
is_unreadable (Ok x) = false
is_unreadable (Err Memory) = false
is_unreadable (Err (Fault TooLong)) = false
is_unreadable (Err (Fault Unreadable)) = true
