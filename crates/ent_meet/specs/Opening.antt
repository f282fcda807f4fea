-- A room in which the scripts of an input wait, each for as long as its text says.
use Rattle.std.specs.Prelude.{◌≡◌, ◌+◌, ℕ, Bool, true, false, List, [], ◌∷◌, Option, Some, None, slice_get}
use Rattle.ent_admission.specs.Admission.{no_groups}
use Rattle.ent_admission.specs.Passed.{begun}
use Rattle.ent_form.specs.Catalogue.{schemas_of}
use Rattle.ent_form.specs.declared.catalogue.TableSchema.{TableSchema}
use Rattle.ent_input.specs.Reading.{IsInput}
use Rattle.ent_prepare.specs.Prepared.{IsPrepared}
use Rattle.ent_print.specs.Printing.{script_text}
use Rattle.ent_room.specs.Putting.{with_put}
use Rattle.ent_room.specs.Room.{Room}
use Rattle.ent_room.specs.declared.putting.Stay.{Stay}
use Rattle.ent_room.specs.declared.putting.Stay.TheVariants.{AsWritten, UntilWithdrawn}
use Rattle.ent_text.specs.Left.{tokens_left}
use Rattle.ent_tree.specs.declared.limits.TheConstants.{MOST_SCRIPTS}
use Rattle.ent_tree.specs.declared.script.Input.{Input}
use Rattle.ent_tree.specs.declared.script.Script.{Script}
use Rattle.ent_waiting.specs.WaitingList.{WaitingList, nobody}
use Rattle.ent_within.specs.Said.{scripts_said}

-- a script that says WITHIN waits for as many batches, and another until it is withdrawn
abbrev pub stay_of : Option Bool → Stay
stay_of (Some false) = UntilWithdrawn
stay_of (Some true) = AsWritten
stay_of None = AsWritten

-- The scripts come to wait, in order, each as its printed text is read again. Which of them say WITHIN is told by
-- number from 0; the first has this number.
abbrev pub AreWaiting : List TableSchema → List Bool → ℕ → List Script → WaitingList → WaitingList → Type 0
AreWaiting tables said number [] first last = last ≡ first
AreWaiting tables said number (script ∷ more) first last =
    (read : Script) × IsPrepared tables (script_text script) [] read
    × AreWaiting tables said (number + 1) more (with_put read (stay_of (slice_get said number)) first) last

-- nobody waits yet; tickets are counted from 1
abbrev pub empty_list : WaitingList
empty_list = nobody 1 MOST_SCRIPTS MOST_SCRIPTS

-- In the room the scripts of the input wait, in order, and nobody else does. Its epoch, which is the first, is over the
-- opening of the input, and no script was submitted to it. There is no group yet, and nobody is to be told.
pub record IsRoomOf (input : Input) (said : List Bool) (room : Room) : Type 0 where
  pub epoch : room.admission.epoch ≡ begun 1 input.opening
  pub list : AreWaiting (schemas_of input.opening.tables) said 0 input.scripts empty_list room.admission.list
  pub coming : room.admission.coming ≡ record { keys = [] }
  pub feed : room.admission.feed ≡ no_groups 1
  pub news : room.admission.news ≡ []
  pub last : room.last ≡ None

-- the bytes are an input, whose scripts wait in the room
abbrev pub IsOpened : List ℕ → Room → Type 0
IsOpened bytes room =
    (input : Input) × IsInput bytes input × IsRoomOf input (scripts_said (tokens_left 0 bytes)) room
