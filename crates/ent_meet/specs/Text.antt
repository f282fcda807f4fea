-- The text of a meeting: what became of each ticket, who met whom, and the tables at the end.
use Rattle.std.specs.Prelude.{ℕ, ◌+◌, ◌==◌, List, [], ◌∷◌, ◌++◌, length, map, codes, Option, Some, None, unwrap_or}
use Rattle.std.specs.Prelude.{if◌then◌else◌}
use Rattle.std.specs.List.{flat_map}
use Rattle.std.specs.Fmt.{decimal}
use Rattle.ent_book.specs.Report.{line, names_by_bytes, tables_text}
use Rattle.ent_book.specs.Tables.{tables_database}
use Rattle.ent_feed.specs.Feed.{from}
use Rattle.ent_feed.specs.declared.group.Commit.{Commit}
use Rattle.ent_feed.specs.declared.group.Group.{Group}
use Rattle.ent_room.specs.Room.{Room}
use Rattle.ent_room.specs.declared.epoch_book.EpochBook.{EpochBook}
use Rattle.ent_semantics.specs.Serial.{numbered}
use Rattle.ent_meet.specs.Tickets.{room_tickets_text}
use Rattle.ent_meet.specs.declared.epochs.Answered.{Answered}
use Rattle.ent_meet.specs.declared.epochs.EpochJoints.{EpochJoints}
use Rattle.ent_meet.specs.declared.epochs.Joint.{Joint}

-- ---- who met whom

abbrev pub tickets_of : List Commit → List ℕ
tickets_of commits = map (λ commit. commit.ticket) commits

-- the tickets of the commits that groups tell of an epoch, in order
abbrev pub tickets_of_epoch : ℕ → Group → List ℕ
tickets_of_epoch epoch group = if group.epoch == epoch then tickets_of group.commits else []

abbrev pub tickets_in : ℕ → List Group → List ℕ
tickets_in epoch groups = flat_map (tickets_of_epoch epoch) groups

-- a statement that was answered, by its ticket and its place, behind a space
abbrev pub member_text : List ℕ → Answered → List ℕ
member_text tickets member =
    codes " " ++ (decimal (unwrap_or (numbered tickets member.commit) 0) ++ (codes "." ++ decimal member.place))

abbrev pub members_text : List ℕ → List Answered → List ℕ
members_text tickets members = flat_map (member_text tickets) members

abbrev pub joint_line : List ℕ → ℕ → Joint → List ℕ
joint_line tickets number joint =
    line (codes "joint " ++ (decimal number ++ members_text tickets joint.members))

-- joint answers in the order made, from a number on
abbrev pub joints_text : List ℕ → ℕ → List Joint → List ℕ
joints_text tickets number [] = []
joints_text tickets number (joint ∷ more) =
    joint_line tickets number joint ++ joints_text tickets (number + 1) more

-- those of epochs, which are counted on
abbrev pub epochs_text : List Group → ℕ → List EpochJoints → List ℕ
epochs_text groups number [] = []
epochs_text groups number (ended ∷ more) =
    joints_text (tickets_in ended.epoch groups) number ended.joints
    ++ epochs_text groups (number + length ended.joints) more

-- ---- the tables

-- the tables of the book of the epoch that ended last
abbrev pub last_tables_text : Option EpochBook → List ℕ
last_tables_text None = []
last_tables_text (Some last) =
    tables_text (names_by_bytes last.book.opening) (tables_database last.book.database)

-- ---- the whole

abbrev pub meeting_text : Room → List EpochJoints → List ℕ
meeting_text room epochs =
    line (codes "meet 1")
    ++ (room_tickets_text room
    ++ (epochs_text (from 0 room.admission.feed.groups) 1 epochs
    ++ (last_tables_text room.last
    ++ line (codes "end"))))
