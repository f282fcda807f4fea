-- How far a core is told of, and the groups that tell the rest.
use Rattle.std.specs.Prelude.{◌≡◌, ◌≤◌, ℕ, true, List, [], All, Some, length, if◌then◌else◌}
use Rattle.std.specs.List.{AllByRecursion, IsDistinct}
use Rattle.ent_sched.specs.Passed.{resolved_forms}
use Rattle.ent_semantics.specs.Database.{same_name}
use Rattle.ent_semantics.specs.Form.{Tables}
use Rattle.ent_semantics.specs.Serial.{numbered}
use Rattle.ent_semantics.specs.declared.book.Entry.{Entry}
use Rattle.ent_protocol.specs.Reached.{IsReached, settled, table_names}
use Rattle.ent_protocol.specs.State.{State}
use Rattle.ent_sched.specs.Watching.{Heard, PlaysThrough}
use Rattle.ent_feed.specs.declared.group.Group.{Group}
use Rattle.ent_feed.specs.Telling.{AreTold}
use Rattle.ent_epoch.specs.Notes.{Hears, Notes, all_noted}

pub record Telling : Type 0 where
  -- how many entries of the journal are told
  pub entries : ℕ
  -- the settled tables behind them
  pub tables : Tables
  -- what was noted since
  pub notes : Notes

-- all of a state is told, and nothing was noted since
abbrev pub telling_at : State → Telling
telling_at s =
    record {
      entries = length s.journal;
      tables = settled s;
      notes = record { notes = []; is_whole = true };
    }

-- what is told is what led to this state
pub record IsToldTo (telling : Telling) (s : State) : Type 0 where
  pub entries : telling.entries ≡ length s.journal
  pub tables : telling.tables ≡ settled s

-- what is heard is noted, and no more is told by that
pub record GoesOnHearing (old : Telling) (heard : Heard) (new : Telling) : Type 0 where
  pub entries : new.entries ≡ old.entries
  pub tables : new.tables ≡ old.tables
  pub notes : Hears old.notes heard new.notes

abbrev pub HearsOn : Telling → Heard → Telling → Type 0
HearsOn old heard new = GoesOnHearing old heard new

-- Events lead from a state to that of a core. What is told is what led to the former, and notes that are whole are
-- those of these events.
pub record KeepsUp (telling : Telling) (core : State) : Type 0 where
  pub first : State
  pub reached : IsReached resolved_forms first
  pub told_to : IsToldTo telling first
  pub told : List Heard
  pub through : PlaysThrough resolved_forms first told core
  pub noted : telling.notes.is_whole ≡ true → telling.notes.notes ≡ all_noted told

-- each entry of a journal is of a transaction that has a ticket; these stand by transaction, from 1
abbrev pub HaveTickets : List ℕ → List Entry → Type 0
HaveTickets tickets journal =
    AllByRecursion (λ entry. (ticket : ℕ) × (numbered tickets entry.tx ≡ Some ticket)) journal

-- how many groups tell the rest: one for each note, or one in all where the notes aren't whole
abbrev pub groups_due : Telling → ℕ
groups_due telling = if telling.notes.is_whole then length telling.notes.notes else 1

-- Groups tell what happened to a core since what is told: from a state that this led to they tell up to one that has
-- the core's settled tables and journal. Each entry of that is of a ticket.
pub record TellsRest (tickets : List ℕ) (telling : Telling) (core : State) (groups : List Group) : Type 0 where
  pub first : State
  pub told_to : IsToldTo telling first
  pub behind : State
  pub told : AreTold tickets first groups behind
  pub tables : settled core ≡ settled behind
  pub journal : core.journal ≡ behind.journal
  pub opening : core.opening ≡ behind.opening
  pub owned : HaveTickets tickets core.journal

-- Names that differ, and a table for each of them, in what is told and in each note of notes that are whole; and the
-- journal has the entries that are told.
pub record CanTell (telling : Telling) (core : State) : Type 0 where
  pub distinct : IsDistinct same_name (table_names core.opening)
  pub tables : length telling.tables ≡ length core.opening.tables
  pub notes : telling.notes.is_whole ≡ true
      → All (λ note. length note.tables ≡ length core.opening.tables) telling.notes.notes
  pub entries : telling.entries ≤ length core.journal
