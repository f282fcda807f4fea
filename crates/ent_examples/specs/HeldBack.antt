-- A third who offers what the second does is held back until both have committed, and then waits alone.
use Rattle.std.specs.Prelude.{List, [], ◌∷◌, codes}
use Rattle.ent_tree.specs.declared.script.End.TheVariants.{Commit}
use Rattle.ent_protocol.specs.Event.{Event, Reply}
use Rattle.ent_protocol.specs.Event as events
use Rattle.ent_protocol.specs.Run.{Forms}
use Rattle.ent_examples.specs.Scripts.{ScriptOf, asks_form, script}
use Rattle.ent_examples.specs.Wish.{Wish, Friend, in_R, first_asks, joint_job, joint_done}

abbrev pub mickey : Wish
mickey = in_R (codes "Mickey") (codes "Minnie")

abbrev pub minnie : Wish
minnie = in_R (codes "Minnie") (codes "Mickey")

abbrev pub two_friends : List Friend
two_friends = first_asks 1 mickey ∷ first_asks 2 minnie ∷ []

module _ {F : Type 0} {resolved : Forms F} (one : ScriptOf resolved 8 (asks_form mickey ∷ []) Commit)
    (two : ScriptOf resolved 8 (asks_form minnie ∷ []) Commit)
    (third : ScriptOf resolved 1 (asks_form minnie ∷ []) Commit) where
  -- the post of the first one would unify with the heads of the second and the third
  abbrev pub holds_back : List (Event × Reply F)
  holds_back =
      (events.Submit (script one), events.Submitted 1)
      ∷ (events.Submit (script two), events.Submitted 2)
      ∷ (events.Submit (script third), events.Submitted 3)
      ∷ (events.StartRun, events.Started (1 ∷ 2 ∷ 3 ∷ []))
      ∷ (events.Begin 1, events.Posted)
      ∷ (events.Begin 2, events.Posted)
      ∷ (events.Begin 3, events.HeldBack (record { asker = 1; index = 0; first = 2; second = 3 }))
      ∷ (events.Pick, events.Lent (joint_job two_friends))
      ∷ (events.JoinAnswer (joint_done two_friends), events.Answered)
      ∷ []

-- the two commit, and the third is posted; nobody answers it, and its only run ends
abbrev pub posts_later : {F : Type 0} → List (Event × Reply F)
posts_later =
    (events.Begin 1, events.Prepared)
    ∷ (events.Begin 2, events.Committed ((1, 1) ∷ (2, 2) ∷ []))
    ∷ (events.Begin 3, events.Posted)
    ∷ (events.EndRun, events.Ended (3 ∷ []))
    ∷ []
