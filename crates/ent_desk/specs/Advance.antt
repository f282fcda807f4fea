-- How far a session comes under the lock.
use Rattle.std.specs.Prelude.{◌≡◌, ℕ, Bool, true, false, List, ◌∷◌, ◌++◌, Option, Some, None, ◌||◌}
use Rattle.std.specs.List.{AllByRecursion}
use Rattle.ent_core.specs.Pick.{NoneCanBePicked}
use Rattle.ent_form.specs.declared.fault.FormFault.{FormFault}
use Rattle.ent_core.specs.Passed.{resolved_forms}
use Rattle.ent_protocol.specs.Event.{Event, Reason, Reply}
use Rattle.ent_protocol.specs.Event as events
use Rattle.ent_protocol.specs.Job.{Job}
use Rattle.ent_protocol.specs.Lookup.{running_members}
use Rattle.ent_protocol.specs.Play.{is_idle}
use Rattle.ent_protocol.specs.Quiet.{CanMove, HasJobOut, IsReason, NoneIs}
use Rattle.ent_protocol.specs.Reached.{CanClose, book_of}
use Rattle.ent_protocol.specs.State.{State}
use Rattle.ent_protocol.specs.Step.{Step}
use Rattle.ent_protocol.specs.Waits.{NoDeadlock}
use Rattle.ent_protocol_laws.specs.Fates.{HaveFates}
use Rattle.ent_desk.specs.Seen.{DeskState}
use Rattle.ent_desk.specs.declared.advance.Advance.{Advance}
use Rattle.ent_desk.specs.declared.advance.Advance.TheVariants as advances

-- ---- what replies tell

-- how far a session comes, with a job that is lent
abbrev pub Told : Type 0
Told = Advance Job

abbrev pub moved_unless : Bool → Option Told
moved_unless true = None
moved_unless false = Some advances.Moved

-- the job that a reply lends, or that something moved; nothing where it refuses, or says that there is nothing to do
abbrev pub advance_in : {F : Type 0} → Reply F → Option Told
advance_in (events.Lent job) = Some (advances.Lent job)
advance_in other = moved_unless (is_idle other)

-- members leave the run: they have their fates, or wait for another one
abbrev pub is_leaving : {F : Type 0} → Reply F → Bool
is_leaving (events.Committed entries) = true
is_leaving (events.RolledBack group) = true
is_leaving (events.Failed failure group) = true
is_leaving (events.Broken cycle group) = true
is_leaving (events.Ended members) = true
is_leaving other = false

-- ---- what comes next

-- in the run nobody can begin, nothing can be picked, and there is no deadlock
pub record IsStill (s : State) : Type 0 where
  pub nobody_moves : NoneIs (CanMove s)
  pub none_picked : NoneCanBePicked s
  pub no_deadlock : NoDeadlock s

-- An event is the next one: the members begin by number, and behind them come a pick, a deadlock that is broken, and
-- the end of a run or the start of one. Nothing that comes before it can move.
abbrev pub IsNext : State → Event → Type 0
IsNext s (events.Begin tx) =
    (before : List ℕ) × (behind : List ℕ) × (running_members s ≡ before ++ tx ∷ behind)
    × AllByRecursion (λ other. ¬ CanMove s other) before
IsNext s events.Pick = NoneIs (CanMove s)
IsNext s events.BreakCycle = NoneIs (CanMove s) × NoneCanBePicked s
IsNext s events.EndRun = IsStill s
IsNext s events.StartRun = IsStill s
IsNext s other = ⊥

-- the next one, which neither starts a run nor ends one
abbrev pub IsNextInRun : State → Event → Type 0
IsNextInRun s events.StartRun = ⊥
IsNextInRun s events.EndRun = ⊥
IsNextInRun s other = IsNext s other

-- something in the run must come before its end
abbrev pub HasReason : State → Type 0
HasReason s = (reason : Reason) × IsReason s reason

-- A run is on, a job is out, and nothing can move until it comes back.
pub record AwaitsJob (s : State) : Type 0 where
  pub running : s.running ≡ true
  pub tx : ℕ
  pub out : HasJobOut s tx
  pub still : IsStill s

-- no run is on, nobody waits for one, and each script has its fate
pub record IsDone (s : State) : Type 0 where
  pub closes : CanClose s
  pub fates : HaveFates (book_of s)

-- ---- what is made

-- an event is made, and its reply tells this
pub record Makes (event : Event) (before : DeskState) (told : Option Told) (after : DeskState) : Type 0 where
  pub reply : Reply FormFault
  pub step : Step resolved_forms before.core event reply after.core
  pub tells : advance_in reply ≡ told
  pub count : after.count ≡ before.count
  pub left : after.left ≡ (before.left || is_leaving reply)

-- an event that moves something is made; or all is as before, and this holds
abbrev pub MakesUnless : Type 0 → Event → DeskState → Option Told → DeskState → Type 0
MakesUnless fact event before (Some advance) after = Makes event before (Some advance) after
MakesUnless fact event before None after = (after ≡ before) × fact

-- The next event that moves something is made, and tells of it. Or all is as before: nothing moves until a job comes
-- back, or each script has its fate.
abbrev pub Advances : DeskState → Told → DeskState → Type 0
Advances before advances.Idle after = (after ≡ before) × AwaitsJob before.core
Advances before advances.Done after = (after ≡ before) × IsDone before.core
Advances before told after = (event : Event) × IsNext before.core event × Makes event before (Some told) after

-- ---- what is made in a run

-- the next event of the run is made, and tells of it
abbrev pub MovesInRun : DeskState → Told → DeskState → Type 0
MovesInRun before told after =
    (event : Event) × IsNextInRun before.core event × Makes event before (Some told) after

-- the same of the members of the run; where none of them moves, all is as before
abbrev pub BeginsUnless : DeskState → Option Told → DeskState → Type 0
BeginsUnless before (Some told) after = MovesInRun before told after
BeginsUnless before None after = (after ≡ before) × NoneIs (CanMove before.core)

-- the same of the run; where nothing in it moves, all is as before
abbrev pub MovesUnlessStill : DeskState → Option Told → DeskState → Type 0
MovesUnlessStill before (Some told) after = MovesInRun before told after
MovesUnlessStill before None after = (after ≡ before) × IsStill before.core

-- As Advances, but no run starts, and none ends. Idle: nothing in the run moves, and it is on, or somebody waits for
-- one.
abbrev pub AdvancesInRun : DeskState → Told → DeskState → Type 0
AdvancesInRun before advances.Idle after = (after ≡ before) × IsStill before.core × (¬ CanClose before.core)
AdvancesInRun before advances.Done after = (after ≡ before) × IsDone before.core
AdvancesInRun before told after = MovesInRun before told after

-- ---- runs

-- A run starts. Or all is as before: a run is on, or each script has its fate.
abbrev pub StartsRun : DeskState → Told → DeskState → Type 0
StartsRun before advances.Moved after = Makes events.StartRun before (Some advances.Moved) after
StartsRun before advances.Idle after = (after ≡ before) × (before.core.running ≡ true)
StartsRun before advances.Done after = (after ≡ before) × IsDone before.core
StartsRun before (advances.Lent job) after = ⊥

-- The run ends. Or all is as before: something in the run must come first, or no run is on, and somebody waits for one;
-- or each script has its fate.
abbrev pub EndsRun : DeskState → Told → DeskState → Type 0
EndsRun before advances.Moved after = Makes events.EndRun before (Some advances.Moved) after
EndsRun before advances.Idle after =
    (after ≡ before) × (¬ CanClose before.core) × (before.core.running ≡ true → HasReason before.core)
EndsRun before advances.Done after = (after ≡ before) × IsDone before.core
EndsRun before (advances.Lent job) after = ⊥

-- nothing is made: each script has its fate, or a run is on, or somebody waits for one
abbrev pub RestsAs : State → Told → Type 0
RestsAs s advances.Idle = ¬ CanClose s
RestsAs s advances.Done = IsDone s
RestsAs s other = ⊥
