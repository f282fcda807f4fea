-- What is noted of transactions.
use Rattle.std.specs.Prelude.{◌≡◌, ◌==◌, ℕ, Bool, true, List, [], ◌∷◌, if◌then◌else◌, slice_index_or}
use Rattle.ent_value.specs.Ticks.{ticked}
use Rattle.ent_reasons.specs.declared.last_status.LastStatus.TheVariants.{Free}
use Rattle.ent_reasons.specs.declared.note.Change.{Change}
use Rattle.ent_reasons.specs.declared.note.Change.TheVariants.{Starts, Passes, Stands}
use Rattle.ent_reasons.specs.declared.note.Note.{Note}

pub record Noted : Type 0 where
  -- by number; there is no transaction 0
  pub notes : List Note
  -- all that was told is noted
  pub is_whole : Bool

-- the note of a transaction that was in no run
abbrev pub no_run : Note
no_run = record { runs = 0; passed = 0; last_status = Free }

abbrev pub note_of : List Note → ℕ → Note
note_of notes tx = slice_index_or notes tx no_run

-- a note behind a change
abbrev pub changed : Change → Note → Note
changed Starts note = record { runs = ticked 1 note.runs; passed = 0; last_status = Free }
changed Passes note = record { runs = note.runs; passed = ticked 1 note.passed; last_status = Free }
changed (Stands last_status) note = record { runs = note.runs; passed = note.passed; last_status = last_status }

-- the note of a transaction behind the same change of some transactions, one after the other
abbrev pub each : List ℕ → Change → ℕ → Note → Note
each [] change tx note = note
each (member ∷ more) change tx note = each more change tx (if member == tx then changed change note else note)

-- Notes that are whole were whole, and each is what the change of these transactions makes of it.
abbrev pub IsNoted : List ℕ → Change → Noted → Noted → Type 0
IsNoted members change old new =
    new.is_whole ≡ true
    → (old.is_whole ≡ true) × ((tx : ℕ) → note_of new.notes tx ≡ each members change tx (note_of old.notes tx))
