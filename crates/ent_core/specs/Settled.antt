-- Joint answers that were made before the present run began.
use Rattle.std.specs.Prelude.{ℕ, ◌≤◌, List, Contains, length, map, take}
use Rattle.std.specs.List.{AllByRecursion}
use Rattle.ent_semantics.specs.declared.book.Fated.{Fated}
use Rattle.ent_semantics.specs.declared.book.JointAnswer.{JointAnswer}

-- the transactions that have a fate
abbrev pub finished : List Fated → List ℕ
finished fates = map (λ fated. fated.tx) fates

-- each member of a joint answer has a fate
abbrev pub IsFated : List Fated → JointAnswer → Type 0
IsFated fates joint = AllByRecursion (λ member. Contains (finished fates) member.tx) joint.members

-- each member of the first joint answers, so many, has a fate
pub record AreSettled (settled : ℕ) (joints : List JointAnswer) (fates : List Fated) : Type 0 where
  pub within : settled ≤ length joints
  pub fated : AllByRecursion (IsFated fates) (take settled joints)
