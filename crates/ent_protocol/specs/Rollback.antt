-- A group is rolled back.
use Rattle.std.specs.Prelude.{ℕ, Bool, true, false, not, ◌==◌, List, [], ◌∷◌, ◌++◌, map, Option, Some, None}
use Rattle.std.specs.Prelude.{slice_set, if◌then◌else◌}
use Rattle.std.specs.List.{filter, filter_map, list_any}
use Rattle.ent_semantics.specs.declared.answer.Failure.{Failure}
use Rattle.ent_semantics.specs.declared.book.Fate.{Fate}
use Rattle.ent_semantics.specs.declared.book.Fate.TheVariants.{GaveUp, RolledBack, Failed}
use Rattle.ent_semantics.specs.declared.book.Fated.{Fated}
use Rattle.ent_semantics.specs.declared.book.JointAnswer.{JointAnswer}
use Rattle.ent_semantics.specs.Serial.{numbered}
use Rattle.ent_semantics.specs.Form.{Tables}
use Rattle.ent_protocol.specs.Job.{Job, Work, One, Joint}
use Rattle.ent_protocol.specs.Member.{is_of, is_tx}
use Rattle.ent_protocol.specs.State.{State, Submitted, Member, Change, Dormant, members, by_number}

-- each changed table as it stood, the newest change first
abbrev pub put_back : List Change → Tables → Tables
put_back [] tables = tables
put_back (change ∷ more) tables = put_back more (slice_set tables change.table change.before)

-- why members are rolled back: for a partner's sake, or the run's; or one of them asked for it, or failed
pub data Cause : Type 0 where
  NoOne : Cause
  Asked : (tx : ℕ) → Cause
  Failing : (tx : ℕ) → (failure : Failure) → Cause

-- the fate that the cause gives a member, where it is the one that asked or failed
abbrev pub own_fate : Cause → Member → Option Fate
own_fate NoOne member = None
own_fate (Asked tx) member = if member.tx == tx then Some (RolledBack member.attempt) else None
own_fate (Failing tx failure) member = if member.tx == tx then Some (Failed failure member.attempt) else None

-- the runs that a member's script asks for are over
abbrev pub is_last_run : List Submitted → Member → Bool
is_last_run submitted member = within (numbered submitted member.tx)
  where
    within : Option Submitted → Bool
    within (Some own) = member.attempt == own.script.within
    within None = true

-- its own fate; else it gives up where its runs are over; else it has none, and goes on another time
abbrev pub or_gives_up : Option Fate → Bool → ℕ → Option Fate
or_gives_up (Some fate) over runs = Some fate
or_gives_up None true runs = Some (GaveUp runs)
or_gives_up None false runs = None

abbrev pub fate_of : List Submitted → Cause → Member → Option Fate
fate_of submitted cause member =
    or_gives_up (own_fate cause member) (is_last_run submitted member) member.attempt

abbrev pub fated_as : ℕ → Option Fate → Option Fated
fated_as tx (Some fate) = Some (record { tx = tx; fate = fate })
fated_as tx None = None

abbrev pub fated_by : List Submitted → Cause → Member → Option Fated
fated_by submitted cause member = fated_as member.tx (fate_of submitted cause member)

abbrev pub dormant_by : List Submitted → Cause → Member → Option Dormant
dormant_by submitted cause member = without_fate (fate_of submitted cause member)
  where
    without_fate : Option Fate → Option Dormant
    without_fate (Some fate) = None
    without_fate None = Some (record { tx = member.tx; runs = member.attempt })

-- a transaction is one of some members
abbrev pub is_among : List Member → ℕ → Bool
is_among gone tx = list_any (is_tx tx) gone

-- one of them is a member of a joint answer
abbrev pub is_joint_of : List Member → JointAnswer → Bool
is_joint_of gone joint = list_any (λ member. is_among gone member.tx) joint.members

-- a job goes with them: their own, and every joint one
abbrev pub goes_with : List Member → Job → Bool
goes_with gone job = work_of job.work
  where
    work_of : Work → Bool
    work_of (One single) = is_among gone single.tx
    work_of (Joint posted) = true

-- Members are taken out of the run: what they changed is put back, the newest change first, over all of them together;
-- their joint answers, uses and posts are dropped, and their jobs and every joint job are lent no more. By number, each
-- has a fate, or goes to the end of the dormant list.
abbrev pub taken_out : List Member → Cause → State → State
taken_out gone cause s =
    record s {
      dormant = s.dormant ++ filter_map (dormant_by s.submitted cause) (by_number (λ member. member.tx) gone);
      prepared = filter (λ member. not (is_among gone member.tx)) s.prepared;
      active = filter (λ member. not (is_among gone member.tx)) s.active;
      joints = filter (λ joint. not (is_joint_of gone joint)) s.joints;
      lent = filter (λ job. not (goes_with gone job)) s.lent;
      tables = put_back (filter (λ change. is_among gone change.tx) s.changes) s.tables;
      changes = filter (λ change. not (is_among gone change.tx)) s.changes;
      fates = s.fates ++ filter_map (fated_by s.submitted cause) (by_number (λ member. member.tx) gone);
    }

-- the members of a group, by number
abbrev pub group_members : State → ℕ → List Member
group_members s group = by_number (λ member. member.tx) (filter (is_of group) (members s))

abbrev pub group_numbers : State → ℕ → List ℕ
group_numbers s group = map (λ member. member.tx) (group_members s group)

abbrev pub rolled_back : ℕ → Cause → State → State
rolled_back group cause s = taken_out (group_members s group) cause s
