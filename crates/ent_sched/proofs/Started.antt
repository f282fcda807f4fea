-- Runs that start and end, and calls that end well.
use Rattle.std.proofs.Common.{◌≡◌, ◌⊎◌, ◌∙◌, inl, inr, Bool, true, false, List, [], ◌∷◌, Result, Ok, Err, OnOk, ap, sym}
use Rattle.std.proofs.Common.{if◌then◌else◌, refl}
use Rattle.ent_protocol.specs.Event.{Reply}
use Rattle.ent_protocol.specs.Event as events
use Rattle.ent_protocol.specs.Reached.{CanClose}
use Rattle.ent_protocol.specs.Run.{EndsWhileRunning, Forms, Starts, StartsWith, ending, starting}
use Rattle.ent_protocol.specs.State.{State, Dormant}
use Rattle.ent_protocol.specs.Step.{Step}
use Rattle.ent_sched.specs.Bounds.{run_start}
use Rattle.ent_sched.proofs.Staying.{clash}

-- nothing was left to be done, or a run has started
abbrev pub IsStarted : State → State → Type 0
IsStarted s new = (CanClose s × (new ≡ s)) ⊎ ((CanClose s → ⊥) × (new ≡ starting s))

pub started : {F : Type 0} (s : State) (reply : Reply F) (new : State) → s.running ≡ false → Starts s reply new
    → IsStarted s new
started {F} s reply new off step = by s.running s.dormant off (λ done. done.1) (λ none. (off, none)) step
  where
    by : (running : Bool) (dormant : List Dormant) → running ≡ false → (CanClose s → dormant ≡ [])
        → (dormant ≡ [] → CanClose s) → StartsWith s running dormant reply new → IsStarted s new
    by true dormant is done none step = clash refl is
    by false [] is done none step = inl (none refl, step.1)
    by false (first ∷ more) is done none step = inr ((λ close. some (done close)), step.1)
      where
        some : first ∷ more ≡ [] → ⊥
        some e = cc

module _ (s new : State) (off : s.running ≡ false) where
  pub on_of : IsStarted s new → new.running ≡ true
      → (CanClose s → ⊥) × (new ≡ run_start s) × (new.running ≡ true)
  on_of (inl same) on = clash on (ap (λ (x : State). x.running) same.1 ∙ off)
  on_of (inr starts) on =
      let same = ap (λ (b : Bool). if b then s else starting s) off in
      (starts.0, starts.1 ∙ sym same, on)

  pub off_of : IsStarted s new → new.running ≡ false → CanClose s × (new ≡ s)
  off_of (inl same) none = same
  off_of (inr starts) none = clash (ap (λ (x : State). x.running) starts.1) none

  pub lent_of : IsStarted s new → s.lent ≡ [] → new.lent ≡ []
  lent_of (inl same) none = ap (λ (x : State). x.lent) same.1 ∙ none
  lent_of (inr starts) none = ap (λ (x : State). x.lent) starts.1 ∙ none

-- behind the end of a run that may end, and where no run was on, none is on
pub run_over : {F : Type 0} (forms : Forms F) (s : State) (reply : Reply F) (new : State)
    → Step forms s events.EndRun reply new → (s.running ≡ true → new ≡ ending s) → s.lent ≡ []
    → (new.running ≡ false) × (new.lent ≡ [])
run_over forms s reply new step ends none = by s.running refl step
  where
    by : (b : Bool) → s.running ≡ b → EndsWhileRunning s b reply new → (new.running ≡ false) × (new.lent ≡ [])
    by false off how = (ap (λ (x : State). x.running) how.1 ∙ off, ap (λ (x : State). x.lent) how.1 ∙ none)
    by true on how = (ap (λ (x : State). x.running) (ends on), ap (λ (x : State). x.lent) (ends on))

pub on_ok : {T E : Type 0} {P Q : Type 0} (result : Result T E) → (P → Q) → OnOk result P → OnOk result Q
on_ok (Ok x) f h = f h
on_ok (Err e) f h = h
