-- Replies that tell of progress are as many as what was left at most.
use Rattle.std.proofs.Common.{◌≡◌, ◌≤◌, ◌+◌, ℕ, suc, Bool, true, false, cond, List, [], ◌∷◌, refl, arith, count_by}
use Rattle.std.specs.List.{AllByRecursion}
use Rattle.std.proofs.lemmas.List.Sums.{sum_by-cons}
use Rattle.ent_protocol.specs.Event.{Event, Reply}
use Rattle.ent_protocol.specs.Play.{Plays}
use Rattle.ent_protocol.specs.Reached.{IsReached}
use Rattle.ent_protocol.specs.Run.{Forms}
use Rattle.ent_protocol.specs.State.{State}
use Rattle.ent_protocol.specs.Step.{Step}
use Rattle.ent_protocol_laws.specs.Standing.{GoesOn}
use Rattle.ent_protocol_laws.specs.Progress.{brings_work, is_progress}
use Rattle.ent_protocol_laws.specs.Within.{IsBelow, IsWithin}
use Rattle.ent_protocol_laws.proofs.ReachedStates.{reached_next}

-- the laws of one step
pub record StepLaws {F : Type 0} (forms : Forms F) : Type 0 where
  pub stays : (s : State) (event : Event) (reply : Reply F) (new : State) (most left : ℕ) → IsReached forms s
      → Step forms s event reply new → brings_work reply ≡ false → IsWithin most left s → IsWithin most left new
  pub below : (s : State) (event : Event) (reply : Reply F) (new : State) (most left : ℕ) → IsReached forms s
      → Step forms s event reply new → is_progress reply ≡ true → IsWithin most left s → IsBelow most left new
  pub goes_on : (s : State) (event : Event) (reply : Reply F) (new : State) → Step forms s event reply new
      → GoesOn s new

one_more : (all rest less left : ℕ) → all ≡ 1 + rest → rest ≤ less → suc less ≤ left → all ≤ left
one_more all rest less left e low below = omega (arith, e, low, below)

no_more : (all rest left : ℕ) → all ≡ 0 + rest → rest ≤ left → all ≤ left
no_more all rest left e low = omega (arith, e, low)

module _ {F : Type 0} (forms : Forms F) (laws : StepLaws forms) where
  -- one step, where it is known of those behind it
  one_step : (step : Event × Reply F) (more : List (Event × Reply F)) (s next : State) (most left : ℕ)
      → IsReached forms s → Step forms s step.0 step.1 next → brings_work step.1 ≡ false → IsWithin most left s
      → ((less : ℕ) → IsWithin most less next → count_by (λ (step : Event × Reply F). is_progress step.1) more ≤ less)
      → count_by (λ (step : Event × Reply F). is_progress step.1) (step ∷ more) ≤ left
  one_step step more s next most left reached made idle w rest =
      by (is_progress step.1) refl
      (sum_by-cons (λ (step : Event × Reply F). cond (is_progress step.1) 1 0) step more)
    where
      by : (b : Bool) → is_progress step.1 ≡ b
          → count_by (λ (step : Event × Reply F). is_progress step.1) (step ∷ more)
          ≡ cond b 1 0 + count_by (λ (step : Event × Reply F). is_progress step.1) more
          → count_by (λ (step : Event × Reply F). is_progress step.1) (step ∷ more) ≤ left
      by true is e =
          let u = laws.below s step.0 step.1 next most left reached made is w in
          one_more _ _ u.less left e (rest u.less u.within) u.below
      by false is e =
          no_more _ _ left e (rest left (laws.stays s step.0 step.1 next most left reached made idle w))

  pub few_progress : (steps : List (Event × Reply F)) (s last : State) (most left : ℕ) → IsReached forms s
      → Plays forms s steps last → AllByRecursion (λ (step : Event × Reply F). brings_work step.1 ≡ false) steps
      → IsWithin most left s → count_by (λ (step : Event × Reply F). is_progress step.1) steps ≤ left
  few_progress [] s last most left reached plays idle w = omega arith
  few_progress (step ∷ more) s last most left reached plays idle w =
      one_step step more s plays.0 most left reached plays.1 idle.0 w
      (λ less within. few_progress more plays.0 last most less
      (reached_next forms laws.goes_on s step.0 step.1 plays.0 reached plays.1) plays.2 idle.1 within)
