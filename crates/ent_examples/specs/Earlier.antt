-- A job of one statement outlives the attempt that it is of.
use Rattle.std.specs.Prelude.{List, [], ◌∷◌, codes}
use Rattle.ent_lists.specs.Sets as set
use Rattle.ent_value.specs.declared.value.Value.TheVariants.{Text}
use Rattle.ent_tree.specs.declared.script.End.TheVariants.{Commit, Rollback}
use Rattle.ent_protocol.specs.Event.{Event, Reply}
use Rattle.ent_protocol.specs.Event as events
use Rattle.ent_protocol.specs.Job.{Job, Done}
use Rattle.ent_protocol.specs.Run.{Forms}
use Rattle.ent_examples.specs.Partners.{booking_job, booking_done}
use Rattle.ent_examples.specs.Grown.{A_for_B, B_for_A, A_and_B}
use Rattle.ent_examples.specs.Scripts.{ScriptOf, asks_form, books_form, script}
use Rattle.ent_examples.specs.Wish.{joint_job, joint_done}

-- the INSERT of the first one, and its result
abbrev pub first_books : Job
first_books = booking_job 1 (Text (codes "A")) set.empty

abbrev pub first_booked : Done
first_booked = booking_done 1 (Text (codes "A")) set.empty

module _ {F : Type 0} {resolved : Forms F}
    (one : ScriptOf resolved 8 (asks_form A_for_B ∷ books_form (codes "A") ∷ []) Commit)
    (two : ScriptOf resolved 8 (asks_form B_for_A ∷ []) Rollback) where
  -- the second rolls both back while the first one's job is out
  abbrev pub job_outlives : List (Event × Reply F)
  job_outlives =
      (events.Submit (script one), events.Submitted 1)
      ∷ (events.Submit (script two), events.Submitted 2)
      ∷ (events.StartRun, events.Started (1 ∷ 2 ∷ []))
      ∷ (events.Begin 1, events.Posted)
      ∷ (events.Begin 2, events.Posted)
      ∷ (events.Pick, events.Lent (joint_job A_and_B))
      ∷ (events.JoinAnswer (joint_done A_and_B), events.Answered)
      ∷ (events.Begin 1, events.Lent first_books)
      ∷ (events.Begin 1, events.NotNow)
      ∷ (events.Begin 2, events.RolledBack (1 ∷ 2 ∷ []))
      ∷ (events.Finish first_booked, events.Stale first_booked)
      ∷ []

-- in the next run, during the first one's second attempt, the result is as stale
abbrev pub next_attempt : {F : Type 0} → List (Event × Reply F)
next_attempt =
    (events.EndRun, events.Ended [])
    ∷ (events.StartRun, events.Started (1 ∷ []))
    ∷ (events.Begin 1, events.Posted)
    ∷ (events.Finish first_booked, events.Stale first_booked)
    ∷ (events.EndRun, events.Ended (1 ∷ []))
    ∷ []
