-- Marks of the classes of slots.
use Rattle.std.specs.Prelude.{◌<◌, List, Bool, length}
use Rattle.ent_match.specs.Links.{IsMarked}
use Rattle.ent_plan.specs.declared.slot.Slot.{Slot}
use Rattle.ent_plan.specs.declared.slot.Slot.TheVariants.{Fixed, Class}

-- the class of a slot is marked, where there is room for it
abbrev pub IsSlotMarked : List Bool → Slot → Type 0
IsSlotMarked marks (Fixed value) = Unit {0}
IsSlotMarked marks (Class number) = number < length marks → IsMarked marks number
