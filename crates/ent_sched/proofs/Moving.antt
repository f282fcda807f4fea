-- What uses up a step of progress, and which replies lend nothing.
use Rattle.std.proofs.Common.{◌≡◌, ◌⊎◌, Bool, true, false, [], inl, inr, refl, sym, ap, subst, ◌∙◌, arith}
use Rattle.ent_protocol.specs.Event.{Event, Reply}
use Rattle.ent_protocol.specs.Event as events
use Rattle.ent_protocol.specs.Play.{is_idle}
use Rattle.ent_protocol.specs.PoolEvents.{Picks}
use Rattle.ent_protocol.specs.Run.{BreaksIfAny}
use Rattle.ent_protocol.specs.State.{State}
use Rattle.ent_protocol_laws.specs.Progress.{is_progress}
use Rattle.ent_protocol_laws.specs.Idle.{IsTurnTaken}
use Rattle.ent_protocol_laws.specs.Replies.{lent_by}
use Rattle.ent_protocol_laws.specs.Lending.{IsJointTaken, IsSingleTaken}
use Rattle.ent_sched.specs.Progress.{UsesUp}

-- fewer than before are left, and then fewer still
pub used_twice : (first middle last : State) → UsesUp first middle → UsesUp middle last → UsesUp first last
used_twice first middle last one other =
    λ most left within.
    let fewer = one most left within in
    let least = other most fewer.less fewer.within in
    let above = fewer.below in
    let below = least.below in
    record { less = least.less; below = omega (arith, above, below); within = least.within }

-- what a part of a round comes to: it moved and used up a step, or all is as it was
abbrev pub Moves : Bool → State → State → Type 0
Moves moved first last = (moved ≡ true → UsesUp first last) × (moved ≡ false → last ≡ first)

pub moved_then : (other : Bool) (first middle last : State) → UsesUp first middle → Moves other middle last
    → UsesUp first last
moved_then true first middle last one rest = used_twice first middle last one (rest.0 refl)
moved_then false first middle last one rest = subst (UsesUp first) (sym (rest.1 refl)) one

-- of two parts one behind the other one moved
pub one_moved : (one other : Bool) (first middle last : State) → Moves one first middle → Moves other middle last
    → (one ≡ true) ⊎ (other ≡ true) → UsesUp first last
one_moved true other first middle last before rest either =
    moved_then other first middle last (before.0 refl) rest
one_moved false other first middle last before rest (inl moved) = absurd cc
one_moved false other first middle last before rest (inr moved) =
    subst (λ s. UsesUp s last) (before.1 refl) (rest.0 moved)

module _ {F : Type 0} where
  -- no job is lent by it
  abbrev pub LendsNone : Reply F → Type 0
  LendsNone (events.Lent job) = ⊥
  LendsNone other = Unit {0}

  pub none_lent : (reply : Reply F) → LendsNone reply → lent_by reply ≡ []
  none_lent (events.Submitted tx) h = refl
  none_lent (events.Started members) h = refl
  none_lent (events.Blocked holder) h = refl
  none_lent (events.Lent job) h = absurd h
  none_lent (events.HeldBack fault) h = refl
  none_lent events.Posted h = refl
  none_lent events.Prepared h = refl
  none_lent (events.Committed entries) h = refl
  none_lent (events.RolledBack group) h = refl
  none_lent (events.Stepped answer) h = refl
  none_lent (events.Failed failure group) h = refl
  none_lent events.Nothing h = refl
  none_lent events.Answered h = refl
  none_lent events.NoChoice h = refl
  none_lent (events.Broken cycle group) h = refl
  none_lent events.NoCycle h = refl
  none_lent (events.Ended members) h = refl
  none_lent events.Recalled h = refl
  none_lent events.Absent h = refl
  none_lent events.NotNow h = refl
  none_lent (events.Stale done) h = refl
  none_lent (events.Busy reason) h = refl
  none_lent (events.Full script) h = refl
  none_lent (events.Faulty script fault) h = refl

  -- what a begin is answered that neither lends nor tells of progress
  pub held_up : (reply : Reply F) → IsTurnTaken reply → LendsNone reply → is_progress reply ≡ false
      → is_idle reply ≡ true
  held_up (events.Blocked holder) taken none still = refl
  held_up (events.HeldBack fault) taken none still = refl
  held_up (events.Lent job) taken none still = absurd none
  held_up events.Posted taken none still = absurd cc
  held_up events.Prepared taken none still = absurd cc
  held_up (events.Committed entries) taken none still = absurd cc
  held_up (events.RolledBack group) taken none still = absurd cc
  held_up (events.Submitted tx) taken none still = absurd taken
  held_up (events.Started members) taken none still = absurd taken
  held_up (events.Stepped answer) taken none still = absurd taken
  held_up (events.Failed failure group) taken none still = absurd taken
  held_up events.Nothing taken none still = refl
  held_up events.Answered taken none still = absurd taken
  held_up events.NoChoice taken none still = absurd taken
  held_up (events.Broken cycle group) taken none still = absurd taken
  held_up events.NoCycle taken none still = refl
  held_up (events.Ended members) taken none still = absurd taken
  held_up events.Recalled taken none still = absurd taken
  held_up events.Absent taken none still = refl
  held_up events.NotNow taken none still = refl
  held_up (events.Stale done) taken none still = refl
  held_up (events.Busy reason) taken none still = refl
  held_up (events.Full script) taken none still = refl
  held_up (events.Faulty script fault) taken none still = refl

  pub single_progress : (reply : Reply F) → IsSingleTaken reply → is_progress reply ≡ true
  single_progress (events.Submitted tx) taken = absurd taken
  single_progress (events.Started members) taken = absurd taken
  single_progress (events.Blocked holder) taken = absurd taken
  single_progress (events.Lent job) taken = absurd taken
  single_progress (events.HeldBack fault) taken = absurd taken
  single_progress events.Posted taken = absurd taken
  single_progress events.Prepared taken = absurd taken
  single_progress (events.Committed entries) taken = absurd taken
  single_progress (events.RolledBack group) taken = absurd taken
  single_progress (events.Stepped answer) taken = refl
  single_progress (events.Failed failure group) taken = refl
  single_progress events.Nothing taken = absurd taken
  single_progress events.Answered taken = absurd taken
  single_progress events.NoChoice taken = absurd taken
  single_progress (events.Broken cycle group) taken = absurd taken
  single_progress events.NoCycle taken = absurd taken
  single_progress (events.Ended members) taken = absurd taken
  single_progress events.Recalled taken = absurd taken
  single_progress events.Absent taken = absurd taken
  single_progress events.NotNow taken = absurd taken
  single_progress (events.Stale done) taken = absurd taken
  single_progress (events.Busy reason) taken = absurd taken
  single_progress (events.Full script) taken = absurd taken
  single_progress (events.Faulty script fault) taken = absurd taken

  pub joint_progress : (reply : Reply F) → IsJointTaken reply → is_progress reply ≡ true
  joint_progress (events.Submitted tx) taken = absurd taken
  joint_progress (events.Started members) taken = absurd taken
  joint_progress (events.Blocked holder) taken = absurd taken
  joint_progress (events.Lent job) taken = absurd taken
  joint_progress (events.HeldBack fault) taken = absurd taken
  joint_progress events.Posted taken = absurd taken
  joint_progress events.Prepared taken = absurd taken
  joint_progress (events.Committed entries) taken = absurd taken
  joint_progress (events.RolledBack group) taken = absurd taken
  joint_progress (events.Stepped answer) taken = absurd taken
  joint_progress (events.Failed failure group) taken = absurd taken
  joint_progress events.Nothing taken = absurd taken
  joint_progress events.Answered taken = refl
  joint_progress events.NoChoice taken = refl
  joint_progress (events.Broken cycle group) taken = absurd taken
  joint_progress events.NoCycle taken = absurd taken
  joint_progress (events.Ended members) taken = absurd taken
  joint_progress events.Recalled taken = absurd taken
  joint_progress events.Absent taken = absurd taken
  joint_progress events.NotNow taken = absurd taken
  joint_progress (events.Stale done) taken = absurd taken
  joint_progress (events.Busy reason) taken = absurd taken
  joint_progress (events.Full script) taken = absurd taken
  joint_progress (events.Faulty script fault) taken = absurd taken

  -- where nothing is lent, nothing was picked
  pub nothing_picked : (s : State) (reply : Reply F) (new : State) → Picks s reply new → LendsNone reply
      → (reply ≡ events.Nothing) × (new ≡ s)
  nothing_picked s reply new (inl step) none = absurd (subst LendsNone step.replies none)
  nothing_picked s reply new (inr step) none = (step.1.0, step.1.1)

  -- a broken cycle lends nothing, and tells of progress; where there is none all stays
  pub broken_lends_none : (s : State) (reply : Reply F) (new : State) → BreaksIfAny s reply new → LendsNone reply
  broken_lends_none s reply new (inl step) = subst LendsNone (sym step.replies) tt
  broken_lends_none s reply new (inr step) = subst LendsNone (sym step.1.0) tt

  pub no_cycle : (s : State) (reply : Reply F) (new : State) → BreaksIfAny s reply new → is_progress reply ≡ false
      → (reply ≡ events.NoCycle) × (new ≡ s)
  no_cycle s reply new (inl step) still =
      let bad : true ≡ false = sym (ap is_progress step.replies) ∙ still in absurd cc
  no_cycle s reply new (inr step) still = (step.1.0, step.1.1)
