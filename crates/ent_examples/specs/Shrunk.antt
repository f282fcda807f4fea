-- A component grows while its job is out and shrinks back by a rollback: the job is lent no more, and lent again.
use Rattle.std.specs.Prelude.{List, [], ◌∷◌, codes}
use Rattle.ent_tree.specs.declared.script.End.TheVariants.{Commit, Rollback}
use Rattle.ent_protocol.specs.Event.{Event, Reply}
use Rattle.ent_protocol.specs.Event as events
use Rattle.ent_protocol.specs.Run.{Forms}
use Rattle.ent_examples.specs.Grown.{A_for_B, B_for_A, C_for_A, A_and_B}
use Rattle.ent_examples.specs.Scripts.{ScriptOf, asks_form, script}
use Rattle.ent_examples.specs.Wish.{Wish, Friend, in_S, first_asks, joint_job, joint_done}

-- C and D ask for each other under another relation
abbrev pub C_for_D : Wish
C_for_D = in_S (codes "C") (codes "D")

abbrev pub D_for_C : Wish
D_for_C = in_S (codes "D") (codes "C")

abbrev pub C_and_D : List Friend
C_and_D = first_asks 3 C_for_D ∷ first_asks 4 D_for_C ∷ []

module _ {F : Type 0} {resolved : Forms F} (one : ScriptOf resolved 8 (asks_form A_for_B ∷ []) Commit)
    (two : ScriptOf resolved 8 (asks_form B_for_A ∷ []) Commit)
    (three : ScriptOf resolved 8 (asks_form C_for_D ∷ asks_form C_for_A ∷ []) Commit)
    (four : ScriptOf resolved 8 (asks_form D_for_C ∷ []) Rollback) where
  -- C and D are answered, and are of one group from here
  abbrev pub group_forms : List (Event × Reply F)
  group_forms =
      (events.Submit (script one), events.Submitted 1)
      ∷ (events.Submit (script two), events.Submitted 2)
      ∷ (events.Submit (script three), events.Submitted 3)
      ∷ (events.Submit (script four), events.Submitted 4)
      ∷ (events.StartRun, events.Started (1 ∷ 2 ∷ 3 ∷ 4 ∷ []))
      ∷ (events.Begin 3, events.Posted)
      ∷ (events.Begin 4, events.Posted)
      ∷ (events.Pick, events.Lent (joint_job C_and_D))
      ∷ (events.JoinAnswer (joint_done C_and_D), events.Answered)
      ∷ []

-- the job of A and B is lent; C comes to them by its next statement, and goes with D's group
abbrev pub comes_and_goes : {F : Type 0} → List (Event × Reply F)
comes_and_goes =
    (events.Begin 1, events.Posted)
    ∷ (events.Begin 2, events.Posted)
    ∷ (events.Pick, events.Lent (joint_job A_and_B))
    ∷ (events.Begin 3, events.Posted)
    ∷ (events.JoinAnswer (joint_done A_and_B), events.Stale (joint_done A_and_B))
    ∷ (events.Begin 4, events.RolledBack (3 ∷ 4 ∷ []))
    ∷ (events.JoinAnswer (joint_done A_and_B), events.Stale (joint_done A_and_B))
    ∷ []

-- the same job is lent again, and now its result is taken
abbrev pub is_picked_again : {F : Type 0} → List (Event × Reply F)
is_picked_again =
    (events.Pick, events.Lent (joint_job A_and_B))
    ∷ (events.JoinAnswer (joint_done A_and_B), events.Answered)
    ∷ (events.Begin 1, events.Prepared)
    ∷ (events.Begin 2, events.Committed ((1, 1) ∷ (2, 2) ∷ []))
    ∷ (events.EndRun, events.Ended [])
    ∷ []
