use Rattle.std.proofs.Common.{ℕ, List, map}
use Rattle.std.specs.BTreeMap.{BTreeMap}
use Rattle.ent_history.specs.Told.{joint_answer_of}
use Rattle.ent_semantics.specs.Serial.{ReadView}
use Rattle.ent_history.specs.Account.{Account}
use Rattle.ent_history.specs.Placed.{placed}
use Rattle.ent_check.specs.Offers.{AreJoined, joint_in, offer_of}
use Rattle.ent_check.specs.Seats.{AreSeatsOf}
use Rattle.ent_check.proofs.Demands.{MetBehind, NothingFound}
use Rattle.ent_check.proofs.post.first_unmet.Given as goal

-- the posts of the joint answers so far are met
abbrev pub invariant-loop-index : goal.invariant-loop-index
invariant-loop-index l =
    (all : List Account) (run : List ReadView) (seats : BTreeMap (ℕ × ℕ) (ℕ × ℕ))
    → AreSeatsOf (placed (map joint_answer_of l.joint_answers)) seats → NothingFound all l.joint_answers
    → AreJoined (joint_in seats) (map offer_of run) l.joined
    → MetBehind all run l.joint_answers l.index
