-- Jobs that are lent stand once, and their members stand before their statements.
use Rattle.std.specs.Prelude.{◌≡◌, ◌≢◌, false, AllPairs, Contains}
use Rattle.ent_protocol.specs.Job.{Job, Work, One, Joint, Single}
use Rattle.ent_protocol.specs.State.{State, Member}

-- two jobs of a statement are of two transactions, and two joint jobs aren't of the same statements
abbrev pub AreOther : Work → Work → Type 0
AreOther (One one) (One other) = one.tx ≢ other.tx
AreOther (One one) (Joint asked) = Unit {0}
AreOther (Joint asked) (One one) = Unit {0}
AreOther (Joint one) (Joint other) = one ≢ other

-- an unposted member of this attempt, at this place, that isn't prepared
pub record StandsBefore (s : State) (single : Single) : Type 0 where
  pub member : Member
  pub active : Contains s.active member
  pub tx : member.tx ≡ single.tx
  pub attempt : member.attempt ≡ single.attempt
  pub place : member.place ≡ single.place
  pub unposted : member.posted ≡ false

pub record LentStandOnce (s : State) : Type 0 where
  pub once : AllPairs (λ (one other : Job). AreOther one.work other.work) s.lent
  pub before : (job : Job) (single : Single) → Contains s.lent job → job.work ≡ One single → StandsBefore s single
