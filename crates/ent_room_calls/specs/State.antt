-- How a ticket stands, in words.
use Rattle.std.specs.Prelude.{ℕ, List, ◌++◌, codes}
use Rattle.std.specs.Fmt.{decimal}
use Rattle.ent_room.specs.declared.state.State.{State}
use Rattle.ent_room.specs.declared.state.State.TheVariants as states
use Rattle.ent_semantics.specs.declared.answer.Failure.TheVariants as failures
use Rattle.ent_waiting.specs.declared.ended.Ending.{Ending}
use Rattle.ent_waiting.specs.declared.ended.Ending.TheVariants as endings

abbrev pub ending_text : Ending → List ℕ
ending_text (endings.Committed epoch number) =
    codes "committed " ++ (decimal number ++ (codes " in epoch " ++ decimal epoch))
ending_text endings.RolledBack = codes "rolled back"
ending_text (endings.Failed failures.Overflow) = codes "failed F1"
ending_text (endings.Failed failures.TableFull) = codes "failed F2"
ending_text endings.GaveUp = codes "gave up"
ending_text endings.Withdrawn = codes "withdrawn"

-- without the end of the line
abbrev pub state_text : State → List ℕ
state_text (states.Waits batches) = codes "waits, after " ++ (decimal batches ++ codes " batches that count")
state_text (states.Lonely demand) = codes "lonely: nobody who waits may offer its demand " ++ decimal demand
state_text states.NoMeeting = codes "waits, and no meeting of it was found"
state_text states.Cut = codes "waits, cut: a bound was reached, and there may be more meetings of it"
state_text states.InBatch = codes "in the batch that is on"
state_text (states.Ended ending) = ending_text ending
state_text states.Unknown = codes "unknown"
