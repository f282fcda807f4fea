-- Results come twice, and to the wrong event: each is stale but the one that is outstanding.
use Rattle.std.specs.Prelude.{List, [], ◌∷◌, codes}
use Rattle.ent_lists.specs.Sets as set
use Rattle.ent_tree.specs.declared.script.End.TheVariants.{Commit}
use Rattle.ent_protocol.specs.Event.{Event, Reply}
use Rattle.ent_protocol.specs.Event as events
use Rattle.ent_protocol.specs.Job.{Done}
use Rattle.ent_protocol.specs.Run.{Forms}
use Rattle.ent_examples.specs.Partners.{Mickey, Minnie, booking_job, booking_done, first_booked, counts_1}
use Rattle.ent_examples.specs.HeldBack.{mickey, minnie, two_friends}
use Rattle.ent_examples.specs.Scripts.{ScriptOf, asks_form, books_form, script}
use Rattle.ent_examples.specs.Wish.{joint_job, joint_done}

abbrev pub Mickey_booked : Done
Mickey_booked = booking_done 1 Mickey set.empty

abbrev pub Minnie_booked : Done
Minnie_booked = booking_done 2 Minnie first_booked

module _ {F : Type 0} {resolved : Forms F}
    (one : ScriptOf resolved 8 (asks_form mickey ∷ books_form (codes "Mickey") ∷ []) Commit)
    (two : ScriptOf resolved 8 (asks_form minnie ∷ books_form (codes "Minnie") ∷ []) Commit) where
  -- the joint result is none of a statement, and is taken once
  abbrev pub joint_comes_twice : List (Event × Reply F)
  joint_comes_twice =
      (events.Submit (script one), events.Submitted 1)
      ∷ (events.Submit (script two), events.Submitted 2)
      ∷ (events.StartRun, events.Started (1 ∷ 2 ∷ []))
      ∷ (events.Begin 1, events.Posted)
      ∷ (events.Begin 2, events.Posted)
      ∷ (events.Pick, events.Lent (joint_job two_friends))
      ∷ (events.Finish (joint_done two_friends), events.Stale (joint_done two_friends))
      ∷ (events.JoinAnswer (joint_done two_friends), events.Answered)
      ∷ (events.JoinAnswer (joint_done two_friends), events.Stale (joint_done two_friends))
      ∷ []

-- the result of a statement is no joint one, and is taken once; a recall doesn't touch what was taken
abbrev pub single_comes_twice : {F : Type 0} → List (Event × Reply F)
single_comes_twice =
    (events.Begin 1, events.Lent (booking_job 1 Mickey set.empty))
    ∷ (events.JoinAnswer Mickey_booked, events.Stale Mickey_booked)
    ∷ (events.Finish Mickey_booked, counts_1)
    ∷ (events.Finish Mickey_booked, events.Stale Mickey_booked)
    ∷ (events.Begin 2, events.Blocked 1)
    ∷ (events.Begin 1, events.Prepared)
    ∷ (events.Begin 2, events.Lent (booking_job 2 Minnie first_booked))
    ∷ (events.Finish Minnie_booked, counts_1)
    ∷ (events.Recall, events.Recalled)
    ∷ (events.Begin 2, events.Committed ((1, 1) ∷ (2, 2) ∷ []))
    ∷ (events.Begin 2, events.Absent)
    ∷ (events.EndRun, events.Ended [])
    ∷ []
