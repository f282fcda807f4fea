-- What replies tell of an advance, and what is made.
use Rattle.std.proofs.Common.{◌≡◌, inl, inr, ◌||◌, ℕ, Bool, true, false, List, [], ◌∷◌, refl, sym, ap, subst, ◌∙◌}
use Rattle.std.proofs.Common.{Option, Some, None, Result, Ok, Err, IfOk, OnErr}
use Rattle.ent_core.specs.Pick.{NoneCanBePicked}
use Rattle.ent_form.specs.declared.fault.FormFault.{FormFault}
use Rattle.ent_core.specs.Passed.{resolved_forms}
use Rattle.ent_lists.specs.Elements.{clash}
use Rattle.ent_protocol.specs.Begin.{Begins}
use Rattle.ent_protocol.specs.Event.{Event, Reply}
use Rattle.ent_protocol.specs.Event as events
use Rattle.ent_protocol.specs.Play.{is_idle}
use Rattle.ent_protocol.specs.PoolEvents.{Picks}
use Rattle.ent_protocol.specs.Quiet.{CanMove, IsReason, NoneIs}
use Rattle.ent_protocol.specs.Reached.{CanClose, IsFinished, IsReached, book_of}
use Rattle.ent_protocol.specs.Run.{BreaksIfAny, Ends, EndsWhileRunning, Starts, StartsWith}
use Rattle.ent_protocol.specs.State.{State, Dormant}
use Rattle.ent_protocol.specs.Step.{Step}
use Rattle.ent_protocol.specs.Waits.{NoDeadlock}
use Rattle.ent_protocol_laws.specs.ByNumber.{StandByNumber}
use Rattle.ent_protocol_laws.specs.Standing.{StandOnce}
use Rattle.ent_protocol_laws.specs.Fates.{HaveFates}
use Rattle.ent_desk.specs.Advance.{Told, Advances, AdvancesInRun, BeginsUnless, EndsRun, IsDone, IsNext}
use Rattle.ent_desk.specs.Advance.{IsNextInRun, IsStill, Makes, MakesUnless, MovesInRun, MovesUnlessStill, RestsAs}
use Rattle.ent_desk.specs.Advance.{StartsRun, advance_in, is_leaving, moved_unless}
use Rattle.ent_desk.specs.Seen.{DeskState, LeadsOn}
use Rattle.ent_desk.specs.declared.advance.Advance.TheVariants as advances
use Rattle.ent_desk.proofs.Keeping.{advances_on, none_on}
use Rattle.ent_desk.proofs.Leaving.{idle_stays, stays_left}
use Rattle.ent_desk.proofs.Standstill.{awaits, cannot_move}

-- ---- what replies tell

abbrev is_move : Told → Bool
is_move (advances.Lent job) = true
is_move advances.Moved = true
is_move advances.Idle = false
is_move advances.Done = false

some_move : (one other : Told) → is_move one ≡ true → Some one ≡ Some other → is_move other ≡ true
some_move one other is e = let same : one ≡ other = cc in subst (λ (told : Told). is_move told ≡ true) same is

not_none : (told : Told) → None ≡ Some told → ⊥
not_none told e = cc

unless_moves : (idle : Bool) (told : Told) → moved_unless idle ≡ Some told → is_move told ≡ true
unless_moves true told e = absurd (not_none told e)
unless_moves false told e = some_move advances.Moved told refl e

unless_none : (idle : Bool) → moved_unless idle ≡ None → idle ≡ true
unless_none true e = refl
unless_none false e = absurd (not_none advances.Moved (sym e))

module _ {F : Type 0} where
  -- a reply tells of a move
  pub moves_told : (reply : Reply F) (told : Told) → advance_in reply ≡ Some told → is_move told ≡ true
  moves_told (events.Submitted tx) told e = unless_moves false told e
  moves_told (events.Started members) told e = unless_moves false told e
  moves_told (events.Blocked holder) told e = unless_moves true told e
  moves_told (events.Lent job) told e = some_move (advances.Lent job) told refl e
  moves_told (events.HeldBack fault) told e = unless_moves true told e
  moves_told events.Posted told e = unless_moves false told e
  moves_told events.Prepared told e = unless_moves false told e
  moves_told (events.Committed entries) told e = unless_moves false told e
  moves_told (events.RolledBack group) told e = unless_moves false told e
  moves_told (events.Stepped answer) told e = unless_moves false told e
  moves_told (events.Failed failure group) told e = unless_moves false told e
  moves_told events.Nothing told e = unless_moves true told e
  moves_told events.Answered told e = unless_moves false told e
  moves_told events.NoChoice told e = unless_moves false told e
  moves_told (events.Broken cycle group) told e = unless_moves false told e
  moves_told events.NoCycle told e = unless_moves true told e
  moves_told (events.Ended members) told e = unless_moves false told e
  moves_told events.Recalled told e = unless_moves false told e
  moves_told events.Absent told e = unless_moves true told e
  moves_told events.NotNow told e = unless_moves true told e
  moves_told (events.Stale done) told e = unless_moves true told e
  moves_told (events.Busy reason) told e = unless_moves true told e
  moves_told (events.Full script) told e = unless_moves true told e
  moves_told (events.Faulty script fault) told e = unless_moves true told e

  -- a reply that tells of nothing is idle
  pub idle_told : (reply : Reply F) → advance_in reply ≡ None → is_idle reply ≡ true
  idle_told (events.Submitted tx) e = unless_none false e
  idle_told (events.Started members) e = unless_none false e
  idle_told (events.Blocked holder) e = unless_none true e
  idle_told (events.Lent job) e = absurd (not_none (advances.Lent job) (sym e))
  idle_told (events.HeldBack fault) e = unless_none true e
  idle_told events.Posted e = unless_none false e
  idle_told events.Prepared e = unless_none false e
  idle_told (events.Committed entries) e = unless_none false e
  idle_told (events.RolledBack group) e = unless_none false e
  idle_told (events.Stepped answer) e = unless_none false e
  idle_told (events.Failed failure group) e = unless_none false e
  idle_told events.Nothing e = unless_none true e
  idle_told events.Answered e = unless_none false e
  idle_told events.NoChoice e = unless_none false e
  idle_told (events.Broken cycle group) e = unless_none false e
  idle_told events.NoCycle e = unless_none true e
  idle_told (events.Ended members) e = unless_none false e
  idle_told events.Recalled e = unless_none false e
  idle_told events.Absent e = unless_none true e
  idle_told events.NotNow e = unless_none true e
  idle_told (events.Stale done) e = unless_none true e
  idle_told (events.Busy reason) e = unless_none true e
  idle_told (events.Full script) e = unless_none true e
  idle_told (events.Faulty script fault) e = unless_none true e

by_told : (event : Event) (before after : DeskState) (told : Told) → is_move told ≡ true → IsNext before.core event
    → Makes event before (Some told) after → Advances before told after
by_told event before after (advances.Lent job) move next makes = (event, next, makes)
by_told event before after advances.Moved move next makes = (event, next, makes)
by_told event before after advances.Idle move next makes = clash false move refl
by_told event before after advances.Done move next makes = clash false move refl

-- the next event is made
pub next_made : (event : Event) (before after : DeskState) (told : Told) → IsNext before.core event
    → Makes event before (Some told) after → Advances before told after
next_made event before after told next makes =
    by_told event before after told (moves_told makes.reply told makes.tells) next makes

-- no run is on, and nobody waits for one
pub is_done : (s : State) → IsReached resolved_forms s → CanClose s
    → ((s : State) → IsFinished resolved_forms s → HaveFates (book_of s)) → IsDone s
is_done s reached closes fates =
    record {
      closes = closes;
      fates = fates s (record { reached = reached; no_run = closes.0; none_dormant = closes.1 });
    }

-- ---- events

abbrev pub desk : ℕ → State → Bool → DeskState
desk count core left = record { core = core; count = count; left = left }

module _ (count : ℕ) (old new : State) (reply : Reply FormFault) (before after : Bool)
    (left : after ≡ (before || is_leaving reply)) where
  makes : (event : Event) (told : Option Told) → told ≡ advance_in reply
      → Step resolved_forms old event reply new → Makes event (desk count old before) told (desk count new after)
  makes event told is step = record { reply = reply; step = step; tells = sym is; count = refl; left = left }

  -- where nothing is told of, nobody left
  same : None ≡ advance_in reply → new ≡ old → desk count new after ≡ desk count old before
  same none is =
      let stays = stays_left before (is_leaving reply) (idle_stays reply (idle_told reply (sym none))) in
      let none_left : after ≡ before = left ∙ sym stays in
      λ j. desk count (is j) (none_left j)

  told_some : (told : Told) (other : Reply FormFault) → reply ≡ other → advance_in other ≡ Some told
      → None ≡ advance_in reply → ⊥
  told_some told other is tells none =
      not_none told (none ∙ ap (λ (r : Reply FormFault). advance_in r) is ∙ tells)

  -- ---- a pick

  none_picked : Picks old reply new → None ≡ advance_in reply → (new ≡ old) × NoneCanBePicked old
  none_picked (inl h) none = absurd (told_some (advances.Lent _) (events.Lent _) h.replies refl none)
  none_picked (inr h) none = (h.1.1, h.0)

  pub pick_made : (told : Option Told) → told ≡ advance_in reply → Picks old reply new
      → MakesUnless (NoneCanBePicked old) events.Pick (desk count old before) told (desk count new after)
  pick_made (Some told) is step = makes events.Pick (Some told) is step
  pick_made None is step = let h = none_picked step is in (same is h.0, h.1)

  -- ---- a deadlock

  none_broken : BreaksIfAny old reply new → None ≡ advance_in reply → (new ≡ old) × NoDeadlock old
  none_broken (inl h) none = absurd (told_some advances.Moved (events.Broken _ _) h.replies refl none)
  none_broken (inr h) none = (h.1.1, h.0)

  pub break_made : (told : Option Told) → told ≡ advance_in reply → BreaksIfAny old reply new
      → MakesUnless (NoDeadlock old) events.BreakCycle (desk count old before) told (desk count new after)
  break_made (Some told) is step = makes events.BreakCycle (Some told) is step
  break_made None is step = let h = none_broken step is in (same is h.0, h.1)

  -- ---- a begin

  pub begin_made : (tx : ℕ) (told : Option Told) → told ≡ advance_in reply → Begins old tx reply new
      → StandByNumber old → StandOnce old → (is_idle reply ≡ true → new ≡ old)
      → MakesUnless (¬ CanMove old tx) (events.Begin tx) (desk count old before) told (desk count new after)
  begin_made tx (Some told) is step stand once stays = makes (events.Begin tx) (Some told) is step
  begin_made tx None is step stand once stays =
      let idle = idle_told reply (sym is) in
      (same is (stays idle), cannot_move old once stand tx reply new step idle)

  -- ---- the end of a run

  why_busy : (running : Bool) → running ≡ true → EndsWhileRunning old running reply new → None ≡ advance_in reply
      → (new ≡ old) × ((reason : events.Reason) × IsReason old reason)
  why_busy false on step none = clash false on refl
  why_busy true on (inl h) none = absurd (told_some advances.Moved (events.Ended _) h.1 refl none)
  why_busy true on (inr h) none = (h.2.1, (h.0, h.1))

  ends_told : (told : Told) (running : Bool) → running ≡ true → EndsWhileRunning old running reply new
      → Some told ≡ advance_in reply → advances.Moved ≡ told
  ends_told told false on step is = clash false on refl
  ends_told told true on (inl h) is =
      let both : Some told ≡ Some advances.Moved = is ∙ ap (λ (r : Reply FormFault). advance_in r) h.1 in cc
  ends_told told true on (inr h) is = absurd (not_none told (sym
      (is ∙ ap (λ (r : Reply FormFault). advance_in r) h.2.0)))

  pub ended : (told : Told) → Some told ≡ advance_in reply → old.running ≡ true → Ends old reply new
      → EndsRun (desk count old before) told (desk count new after)
  ended told is on step =
      let moved = ends_told told old.running on step is in
      subst (λ (t : Told). EndsRun (desk count old before) t (desk count new after)) moved
      (makes events.EndRun (Some advances.Moved) (ap Some moved ∙ is) step)

  pub kept_busy : None ≡ advance_in reply → old.running ≡ true → Ends old reply new
      → EndsRun (desk count old before) advances.Idle (desk count new after)
  kept_busy none on step =
      let h = why_busy old.running on step none in
      (same none h.0, (λ closes. clash old.running on closes.0), (λ running. h.1))

  -- ---- the start of a run

  none_started : (running : Bool) (dormant : List Dormant) → running ≡ false → StartsWith old running dormant reply new
      → None ≡ advance_in reply → (new ≡ old) × (dormant ≡ [])
  none_started true dormant off h none = clash true refl off
  none_started false [] off h none = (h.1, refl)
  none_started false (first ∷ more) off h none =
      absurd (told_some advances.Moved (events.Started _) h.0 refl none)

  starts_told : (told : Told) (running : Bool) (dormant : List Dormant) → running ≡ false
      → StartsWith old running dormant reply new → Some told ≡ advance_in reply → advances.Moved ≡ told
  starts_told told true dormant off step is = clash true refl off
  starts_told told false [] off step is =
      absurd (not_none told (sym (is ∙ ap (λ (r : Reply FormFault). advance_in r) step.0)))
  starts_told told false (first ∷ more) off step is =
      let both : Some told ≡ Some advances.Moved = is ∙ ap (λ (r : Reply FormFault). advance_in r) step.0 in cc

  pub started : (told : Told) → Some told ≡ advance_in reply → old.running ≡ false → Starts old reply new
      → StartsRun (desk count old before) told (desk count new after)
  started told is off step =
      let moved = starts_told told old.running old.dormant off step is in
      subst (λ (t : Told). StartsRun (desk count old before) t (desk count new after)) moved
      (makes events.StartRun (Some advances.Moved) (ap Some moved ∙ is) step)

  pub all_done : None ≡ advance_in reply → old.running ≡ false → Starts old reply new → IsReached resolved_forms old
      → ((s : State) → IsFinished resolved_forms s → HaveFates (book_of s))
      → StartsRun (desk count old before) advances.Done (desk count new after)
  all_done none off step reached fates =
      let h = none_started old.running old.dormant off step none in
      (same none h.0, is_done old reached (off, h.1) fates)

-- ---- in a run

in_run_next : (s : State) (event : Event) → IsNextInRun s event → IsNext s event
in_run_next s (events.Submit script) next = next
in_run_next s events.StartRun next = absurd next
in_run_next s (events.Begin tx) next = next
in_run_next s (events.Finish done) next = next
in_run_next s events.Pick next = next
in_run_next s (events.JoinAnswer done) next = next
in_run_next s events.BreakCycle next = next
in_run_next s events.EndRun next = absurd next
in_run_next s events.Recall next = next

pub moves_advance : (before after : DeskState) (told : Told) → MovesInRun before told after
    → Advances before told after
moves_advance before after told h = next_made h.0 before after told (in_run_next before.core h.0 h.1) h.2

pub moves_in_run : (before after : DeskState) (told : Told) → MovesInRun before told after
    → AdvancesInRun before told after
moves_in_run before after (advances.Lent job) h = h
moves_in_run before after advances.Moved h = h
moves_in_run before after advances.Idle h =
    clash false (moves_told h.2.reply advances.Idle h.2.tells) refl
moves_in_run before after advances.Done h =
    clash false (moves_told h.2.reply advances.Done h.2.tells) refl

pub rests_in_run : (before after : DeskState) (told : Told) → after ≡ before → IsStill before.core
    → RestsAs after.core told → AdvancesInRun before told after
rests_in_run before after (advances.Lent job) same still h = absurd h
rests_in_run before after advances.Moved same still h = absurd h
rests_in_run before after advances.Idle same still h =
    (same, still, subst (λ (d : DeskState). ¬ CanClose d.core) same h)
rests_in_run before after advances.Done same still h = (same, subst (λ (d : DeskState). IsDone d.core) same h)

-- ---- runs

pub ends_advance : {E : Type 0} (r : Result Told E) (before after : DeskState) → before.core.running ≡ true
    → IsStill before.core → IfOk r (λ told. EndsRun before told after) → IfOk r (λ told. Advances before told after)
ends_advance (Ok (advances.Lent job)) before after on still h = absurd h
ends_advance (Ok advances.Moved) before after on still h = (events.EndRun, still, h)
ends_advance (Ok advances.Idle) before after on still h =
    let why = h.2 on in (h.0, awaits before.core on still why.0 why.1)
ends_advance (Ok advances.Done) before after on still h = h
ends_advance (Err fault) before after on still h = tt

pub starts_advance : {E : Type 0} (r : Result Told E) (before after : DeskState) → before.core.running ≡ false
    → IsStill before.core → IfOk r (λ told. StartsRun before told after)
    → IfOk r (λ told. Advances before told after)
starts_advance (Ok (advances.Lent job)) before after off still h = absurd h
starts_advance (Ok advances.Moved) before after off still h = (events.StartRun, still, h)
starts_advance (Ok advances.Idle) before after off still h = clash before.core.running h.1 off
starts_advance (Ok advances.Done) before after off still h = h
starts_advance (Err fault) before after off still h = tt

-- a run can't end where none is on
pub rests_as_ended : (s : DeskState) (told : Told) → s.core.running ≡ false → RestsAs s.core told
    → EndsRun s told s
rests_as_ended s (advances.Lent job) off h = absurd h
rests_as_ended s advances.Moved off h = absurd h
rests_as_ended s advances.Idle off h = (refl, h, (λ on. clash s.core.running on off))
rests_as_ended s advances.Done off h = (refl, h)

-- ---- one part of an advance after another

pub moved_in_run : (fact : Type 0) (event : Event) (before after : DeskState) (told : Option Told)
    (advance : Told) → IsNextInRun before.core event → told ≡ Some advance
    → MakesUnless fact event before told after → MovesInRun before advance after
moved_in_run fact event before after told advance next is h =
    (event, next, subst (λ (t : Option Told). MakesUnless fact event before t after) is h)

pub stayed : (fact : Type 0) (event : Event) (before after : DeskState) (told : Option Told) → told ≡ None
    → MakesUnless fact event before told after → (after ≡ before) × fact
stayed fact event before after told is h = subst (λ (t : Option Told). MakesUnless fact event before t after) is h

pub begun_first : (before after : DeskState) (told : Option Told) (advance : Told) → told ≡ Some advance
    → BeginsUnless before told after → MovesInRun before advance after
begun_first before after told advance is h = subst (λ (t : Option Told). BeginsUnless before t after) is h

pub none_begun : (before after : DeskState) (told : Option Told) → told ≡ None → BeginsUnless before told after
    → (after ≡ before) × NoneIs (CanMove before.core)
none_begun before after told is h = subst (λ (t : Option Told). BeginsUnless before t after) is h

pub run_moved : (before after : DeskState) (told : Option Told) (advance : Told) → told ≡ Some advance
    → MovesUnlessStill before told after → MovesInRun before advance after
run_moved before after told advance is h =
    subst (λ (t : Option Told). MovesUnlessStill before t after) is h

pub run_still : (before after : DeskState) (told : Option Told) → told ≡ None
    → MovesUnlessStill before told after → (after ≡ before) × IsStill before.core
run_still before after told is h = subst (λ (t : Option Told). MovesUnlessStill before t after) is h

-- a deadlock is broken, or there is none
pub broken_or_still : (before mid after : DeskState) (told : Option Told) → mid ≡ before
    → NoneIs (CanMove before.core) → NoneCanBePicked before.core
    → MakesUnless (NoDeadlock mid.core) events.BreakCycle mid told after → MovesUnlessStill before told after
broken_or_still before mid after (Some told) is nobody none h =
    (events.BreakCycle, (nobody, none), subst (λ (d : DeskState). Makes events.BreakCycle d (Some told) after) is h)
broken_or_still before mid after None is nobody none h = (
  h.0 ∙ is,
  record {
    nobody_moves = nobody;
    none_picked = none;
    no_deadlock = subst (λ (d : DeskState). NoDeadlock d.core) is h.1;
  },
)

-- what comes behind a part that changed nothing
pub behind_still : {E : Type 0} (r : Result (Option Told) E) (before mid after : DeskState) → mid ≡ before
    → IfOk r (λ told. MovesUnlessStill mid told after) → IfOk r (λ told. MovesUnlessStill before told after)
behind_still r before mid after is h =
    subst (λ (d : DeskState). IfOk r (λ told. MovesUnlessStill d told after)) is h

pub behind : {E : Type 0} (r : Result Told E) (before mid after : DeskState) → mid ≡ before
    → IfOk r (λ advance. Advances mid advance after) → IfOk r (λ advance. Advances before advance after)
behind r before mid after is h = subst (λ (d : DeskState). IfOk r (λ advance. Advances d advance after)) is h

pub led_behind : {E : Type 0} (r : Result Told E) (before mid after : DeskState) → mid ≡ before
    → IfOk r (λ advance. Advances mid advance after) → OnErr r (after ≡ mid) → LeadsOn before after
led_behind (Ok advance) before mid after is h other =
    advances_on advance before after (subst (λ (d : DeskState). Advances d advance after) is h)
led_behind (Err fault) before mid after is h other = none_on before after (other ∙ is)
