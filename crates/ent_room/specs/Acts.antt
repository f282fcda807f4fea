-- What a room does by itself.
use Rattle.std.specs.Prelude.{◌≡◌, None}
use Rattle.ent_admission.specs.Acts as acts
use Rattle.ent_room.specs.Room.{Room}

-- who is in no batch changes its queue, and nothing else is done
pub record OnlyShifts (old new : Room) : Type 0 where
  pub shifts : acts.OnlyShifts old.admission new.admission
  pub last : new.last ≡ old.last

-- acts lead on; where an epoch ended, there is the book of one
pub record Advances (old new : Room) : Type 0 where
  pub acts : acts.Advances old.admission new.admission
  pub none_before : new.last ≡ None → old.last ≡ None
  pub none_ended : new.last ≡ None → new.admission.epoch.number ≡ old.admission.epoch.number
