-- What events do to the jobs that are lent.
use Rattle.std.specs.Prelude.{◌≡◌, ℕ, Bool, true, false, List, [], ◌∷◌, ◌++◌, Option, Some, None, ◌||◌}
use Rattle.std.specs.List.{remove}
use Rattle.ent_form.specs.declared.fault.FormFault.{FormFault}
use Rattle.ent_core.specs.Passed.{resolved_forms}
use Rattle.ent_stamp.specs.Stamps.{jobs_left_by}
use Rattle.ent_protocol.specs.Event.{Event, Finish, JoinAnswer, Reply}
use Rattle.ent_protocol.specs.Event as events
use Rattle.ent_protocol.specs.Job.{Done, Job, One, Joint, Work}
use Rattle.ent_protocol.specs.Step.{Step}
use Rattle.ent_desk.specs.Advance.{is_leaving}
use Rattle.ent_desk.specs.Seen.{DeskState}

-- ---- events

-- members went, of these numbers
abbrev pub gone_in : {F : Type 0} → Reply F → Option (List ℕ)
gone_in (events.RolledBack group) = Some group
gone_in (events.Failed failure group) = Some group
gone_in (events.Broken cycle group) = Some group
gone_in other = None

abbrev pub is_ended : {F : Type 0} → Reply F → Bool
is_ended (events.Ended members) = true
is_ended other = false

abbrev pub is_stale : {F : Type 0} → Reply F → Bool
is_stale (events.Stale done) = true
is_stale other = false

abbrev pub left_where : Option (List ℕ) → List Job → List Job
left_where None jobs = jobs
left_where (Some gone) jobs = jobs_left_by gone jobs

-- the jobs that are lent behind an event that lends none: at the end of a run none is
abbrev pub left_behind : Bool → Option (List ℕ) → List Job → List Job
left_behind true went jobs = []
left_behind false went jobs = left_where went jobs

abbrev pub left_in : {F : Type 0} → Reply F → List Job → List Job
left_in reply jobs = left_behind (is_ended reply) (gone_in reply) jobs

-- Behind an event that takes no result: a job more is lent, the newest; or those that are left are.
abbrev pub IsLentBehind : {F : Type 0} → Reply F → List Job → List Job → Type 0
IsLentBehind (events.Lent job) before after = after ≡ before ++ job ∷ []
IsLentBehind other before after = after ≡ left_in other before

-- The job of a result that isn't stale is taken.
abbrev pub without_taken : Bool → ℕ → List Job → List Job
without_taken true index jobs = jobs
without_taken false index jobs = remove jobs index

-- behind a result whose job stands at an index
abbrev pub IsLeftBehind : {F : Type 0} → Reply F → ℕ → List Job → List Job → Type 0
IsLeftBehind reply index before after = after ≡ left_in reply (without_taken (is_stale reply) index before)

-- ---- results

abbrev pub is_single : Work → Bool
is_single (One single) = true
is_single (Joint asked) = false

abbrev pub coming_as : Bool → Done → Event
coming_as true done = Finish done
coming_as false done = JoinAnswer done

-- a result comes in as one of a statement, or as one of a joint job
abbrev pub coming_in : Done → Event
coming_in done = coming_as (is_single done.job.work) done

-- the event of a result is made
pub record TakesIn (before : DeskState) (done : Done) (after : DeskState) : Type 0 where
  pub reply : Reply FormFault
  pub step : Step resolved_forms before.core (coming_in done) reply after.core
  pub count : after.count ≡ before.count
  pub left : after.left ≡ (before.left || is_leaving reply)
