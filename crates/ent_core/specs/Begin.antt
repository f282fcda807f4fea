-- What a begin comes to, before anything is changed.
use Rattle.std.specs.Prelude.{◌≡◌, ℕ, false, List, [], ◌∷◌, ◌++◌, None, Some, IsSome, Contains}
use Rattle.ent_form.specs.declared.fault.FormFault.{FormFault}
use Rattle.ent_semantics.specs.Pool.{Posted}
use Rattle.ent_protocol.specs.Begin.{Begins, holding, with_member}
use Rattle.ent_protocol.specs.Event.{Reply}
use Rattle.ent_protocol.specs.Event as replies
use Rattle.ent_protocol.specs.Job.{Job, Joint, One, Work}
use Rattle.ent_protocol.specs.Member.{Asks, Next, active_member, next_of, posted_as}
use Rattle.ent_protocol.specs.State.{State, Member, Use}
use Rattle.ent_protocol.specs.Uses.{blocker, entangled_uses, statement_uses}
use Rattle.ent_run.specs.Places.{IsAt}
use Rattle.ent_waits.specs.Free.{IsFree, IsIdle}
use Rattle.ent_core.specs.declared.begin.BeginRefusal.{BeginRefusal}
use Rattle.ent_core.specs.declared.begin.BeginRefusal.TheVariants as refusals
use Rattle.ent_core.specs.declared.begin.FreeMember.{FreeMember}

-- no member of a number that isn't prepared has posted
abbrev pub IsUnposted : State → ℕ → Type 0
IsUnposted s tx = (member : Member) → Contains s.active member → member.tx ≡ tx → member.posted ≡ false

-- the member of a number may begin, and this comes next
pub record MayBegin (s : State) (tx : ℕ) (member : Member) (next : Next) : Type 0 where
  pub there : active_member s tx ≡ Some member
  pub idle : IsIdle s member
  pub is_next : next_of s member ≡ next

-- the member of a number stands at a place of those that aren't prepared, and is free
pub record IsFreeMember (s : State) (found : FreeMember) : Type 0 where
  pub at : IsAt s.active found.tx found.place
  pub free : (member : Member) → active_member s found.tx ≡ Some member → IsFree s member

-- what is replied to a member that may not begin
abbrev pub begin_refusal_seen : BeginRefusal → Reply FormFault
begin_refusal_seen refusals.Absent = replies.Absent
begin_refusal_seen refusals.NotNow = replies.NotNow
begin_refusal_seen (refusals.Blocked holder) = replies.Blocked holder

-- the uses of the statement that work carries out alone; posted statements hold theirs already
abbrev pub work_uses : Work → List Use
work_uses (One single) = statement_uses single.statement
work_uses (Joint posted) = []

abbrev pub job_uses : Job → List Use
job_uses job = work_uses job.work

-- a member's job is lent, and it holds the uses of the job's statement
abbrev pub LendsTo : ℕ → Job → State → State → Type 0
LendsTo tx job old new =
    (member : Member) → active_member old tx ≡ Some member
    → new ≡ record (with_member (holding member (job_uses job)) old) { lent = old.lent ++ job ∷ [] }

-- lending this job to the member of a number is its begin
pub record IsToLend (s : State) (tx : ℕ) (job : Job) : Type 0 where
  pub there : IsSome (active_member s tx)
  pub unposted : IsUnposted s tx
  pub lends : (new : State) → LendsTo tx job s new → Begins {F = FormFault} s tx (replies.Lent job) new

-- the member of a number may begin, nobody blocks it, and this is its statement, which comes next
pub record IsToPost (s : State) (tx : ℕ) (query : Posted) : Type 0 where
  pub member : Member
  pub may : MayBegin s tx member (Asks query.statement)
  pub unblocked : blocker s member (entangled_uses query.statement) ≡ None
  pub is : query ≡ posted_as member query.statement
