-- Three ask for each other in a ring: they are answered together, and commit together.
use Rattle.std.specs.Prelude.{List, [], ◌∷◌, codes}
use Rattle.ent_tree.specs.declared.script.End.TheVariants.{Commit}
use Rattle.ent_protocol.specs.Event.{Event, Reply}
use Rattle.ent_protocol.specs.Event as events
use Rattle.ent_protocol.specs.Run.{Forms}
use Rattle.ent_examples.specs.Grown.{A_for_B, C_for_A}
use Rattle.ent_examples.specs.Scripts.{ScriptOf, asks_form, script}
use Rattle.ent_examples.specs.Wish.{Wish, Friend, in_R, first_asks, joint_job, joint_done}

-- A asks for B, B for C, and C for A
abbrev pub B_for_C : Wish
B_for_C = in_R (codes "B") (codes "C")

abbrev pub ring_of_three : List Friend
ring_of_three = first_asks 1 A_for_B ∷ first_asks 2 B_for_C ∷ first_asks 3 C_for_A ∷ []

module _ {F : Type 0} {resolved : Forms F} (one : ScriptOf resolved 8 (asks_form A_for_B ∷ []) Commit)
    (two : ScriptOf resolved 8 (asks_form B_for_C ∷ []) Commit)
    (three : ScriptOf resolved 8 (asks_form C_for_A ∷ []) Commit) where
  -- all three post, and are one component
  abbrev pub ring_closes : List (Event × Reply F)
  ring_closes =
      (events.Submit (script one), events.Submitted 1)
      ∷ (events.Submit (script two), events.Submitted 2)
      ∷ (events.Submit (script three), events.Submitted 3)
      ∷ (events.StartRun, events.Started (1 ∷ 2 ∷ 3 ∷ []))
      ∷ (events.Begin 1, events.Posted)
      ∷ (events.Begin 2, events.Posted)
      ∷ (events.Begin 3, events.Posted)
      ∷ (events.Pick, events.Lent (joint_job ring_of_three))
      ∷ (events.JoinAnswer (joint_done ring_of_three), events.Answered)
      ∷ []

-- the last of them to be prepared commits all three
abbrev pub ring_commits : {F : Type 0} → List (Event × Reply F)
ring_commits =
    (events.Begin 1, events.Prepared)
    ∷ (events.Begin 2, events.Prepared)
    ∷ (events.Begin 3, events.Committed ((1, 1) ∷ (2, 2) ∷ (3, 3) ∷ []))
    ∷ (events.EndRun, events.Ended [])
    ∷ []
