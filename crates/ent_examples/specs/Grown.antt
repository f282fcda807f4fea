-- A component grows while its job is out: the result of the old job is stale, and the new component is answered.
use Rattle.std.specs.Prelude.{List, [], ◌∷◌, codes}
use Rattle.ent_tree.specs.declared.script.End.TheVariants.{Commit}
use Rattle.ent_protocol.specs.Event.{Event, Reply}
use Rattle.ent_protocol.specs.Event as events
use Rattle.ent_protocol.specs.Run.{Forms}
use Rattle.ent_examples.specs.Scripts.{ScriptOf, asks_form, script}
use Rattle.ent_examples.specs.Wish.{Wish, Friend, in_R, first_asks, joint_job, joint_done}

-- A and B ask for each other, and C for A
abbrev pub A_for_B : Wish
A_for_B = in_R (codes "A") (codes "B")

abbrev pub B_for_A : Wish
B_for_A = in_R (codes "B") (codes "A")

abbrev pub C_for_A : Wish
C_for_A = in_R (codes "C") (codes "A")

abbrev pub A_and_B : List Friend
A_and_B = first_asks 1 A_for_B ∷ first_asks 2 B_for_A ∷ []

abbrev pub A_B_and_C : List Friend
A_B_and_C = first_asks 1 A_for_B ∷ first_asks 2 B_for_A ∷ first_asks 3 C_for_A ∷ []

module _ {F : Type 0} {resolved : Forms F} (one : ScriptOf resolved 8 (asks_form A_for_B ∷ []) Commit)
    (two : ScriptOf resolved 8 (asks_form B_for_A ∷ []) Commit)
    (three : ScriptOf resolved 8 (asks_form C_for_A ∷ []) Commit) where
  -- the job of the first two is lent when the third posts
  abbrev pub job_is_late : List (Event × Reply F)
  job_is_late =
      (events.Submit (script one), events.Submitted 1)
      ∷ (events.Submit (script two), events.Submitted 2)
      ∷ (events.Submit (script three), events.Submitted 3)
      ∷ (events.StartRun, events.Started (1 ∷ 2 ∷ 3 ∷ []))
      ∷ (events.Begin 1, events.Posted)
      ∷ (events.Begin 2, events.Posted)
      ∷ (events.Pick, events.Lent (joint_job A_and_B))
      ∷ (events.Begin 3, events.Posted)
      ∷ (events.JoinAnswer (joint_done A_and_B), events.Stale (joint_done A_and_B))
      ∷ []

-- all three are answered and commit; the old job, still lent, is no reason to go on
abbrev pub all_are_answered : {F : Type 0} → List (Event × Reply F)
all_are_answered =
    (events.Pick, events.Lent (joint_job A_B_and_C))
    ∷ (events.JoinAnswer (joint_done A_B_and_C), events.Answered)
    ∷ (events.Begin 1, events.Prepared)
    ∷ (events.Begin 2, events.Prepared)
    ∷ (events.Begin 3, events.Committed ((1, 1) ∷ (2, 2) ∷ (3, 3) ∷ []))
    ∷ (events.JoinAnswer (joint_done A_and_B), events.Stale (joint_done A_and_B))
    ∷ (events.EndRun, events.Ended [])
    ∷ []
