-- Groups of members are the classes that live joint answers make.
use Rattle.std.specs.Prelude.{◌≡◌, ◌↔◌, ◌==◌, ℕ, zero, suc, Bool, true, Contains}
use Rattle.std.specs.List.{list_any}
use Rattle.ent_semantics.specs.declared.book.JointAnswer.{JointAnswer}
use Rattle.ent_protocol.specs.Reached.{live_joints}
use Rattle.ent_protocol.specs.State.{State, Member, members}

-- a transaction stands in a joint answer
abbrev pub takes_part : JointAnswer → ℕ → Bool
takes_part joint tx = list_any (λ part. part.tx == tx) joint.members

-- both stand in one live joint answer
pub record AreJoined (s : State) (first second : Member) : Type 0 where
  pub joint : JointAnswer
  pub live : Contains (live_joints s) joint
  pub of_first : takes_part joint first.tx ≡ true
  pub of_second : takes_part joint second.tx ≡ true

-- from one to the other in a number of steps, each between members that are joined
abbrev pub AreLinkedIn : ℕ → State → Member → Member → Type 0
AreLinkedIn zero s first last = first ≡ last
AreLinkedIn (suc n) s first last =
    (next : Member) × Contains (members s) next × AreJoined s first next × AreLinkedIn n s next last

-- the least equivalence on the members that joins those of a live joint answer
abbrev pub AreLinked : State → Member → Member → Type 0
AreLinked s first last = (n : ℕ) × AreLinkedIn n s first last

-- members are of one group exactly where they are of one class
abbrev pub GroupsAreClasses : State → Type 0
GroupsAreClasses s =
    (one other : Member) → Contains (members s) one → Contains (members s) other
    → (one.group ≡ other.group) ↔ AreLinked s one other
