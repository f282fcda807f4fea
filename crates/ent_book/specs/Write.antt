-- Which refusals of a report are faults of its writer.
use Rattle.std.specs.Prelude.{Bool, true, false, Result, Ok, Err}
use Rattle.ent_value.specs.declared.refusal.Refusal.{Refusal}
use Rattle.ent_value.specs.declared.refusal.Refusal.TheVariants.{Memory, Fault}

-- a fault, not the want of memory
abbrev pub is_fault : {X F : Type 0} → Result X (Refusal F) → Bool
is_fault (Ok x) = false
is_fault (Err Memory) = false
is_fault (Err (Fault fault)) = true
