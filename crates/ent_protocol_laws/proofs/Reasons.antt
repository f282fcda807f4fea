-- Deadlocks that are shown, and reasons why a run can't end yet.
use Rattle.std.proofs.Common.{◌≡◌, ◌⊎◌, inl, inr, ℕ, List, [], ◌∷◌, refl, ap, arith, slice_index}
use Rattle.ent_group.specs.Cycle.{Closes, IsOnCycle}
use Rattle.ent_lock.specs.Use.{IsLeast}
use Rattle.ent_protocol.specs.Event.{Reason, JobOut, CanBegin, Untried, Cycle}
use Rattle.ent_protocol.specs.Quiet.{IsQuiet, IsReason}
use Rattle.ent_protocol.specs.State.{State}
use Rattle.ent_protocol.specs.Waits.{IsDeadlock, NoDeadlock, waits}
use Rattle.ent_protocol_laws.specs.Alike.{BeginAlike}

first_on_cycle : (s : State) (cycle : List ℕ) → Closes (waits s) cycle → IsOnCycle (waits s) (slice_index cycle 0)
first_on_cycle s [] closes = let low = closes.not_empty in absurd (omega (arith, low))
first_on_cycle s (x ∷ xs) closes = (x ∷ xs, closes, (0, omega arith, refl))

pub begin_alike : (s : State) (cycle other : List ℕ) → IsDeadlock s cycle → IsDeadlock s other
    → BeginAlike cycle other
begin_alike s cycle other one two =
    let low = two.greatest (slice_index cycle 0) (first_on_cycle s cycle one.is_cycle.closes) in
    let high = one.greatest (slice_index other 0) (first_on_cycle s other two.is_cycle.closes) in
    omega (arith, low, high)

pub none_stands : (s : State) (cycle : List ℕ) → IsDeadlock s cycle → NoDeadlock s → ⊥
none_stands s cycle one none = none (slice_index cycle 0) (first_on_cycle s cycle one.is_cycle.closes)

least_alike : (P : ℕ → Type 0) (m n : ℕ) → IsLeast P m → IsLeast P n → m ≡ n
least_alike P m n one other =
    let low = one.1 n other.0 in let high = other.1 m one.0 in omega (arith, low, high)

pub no_reason : (s : State) → IsQuiet s → (reason : Reason) → IsReason s reason → ⊥
no_reason s quiet (JobOut tx) h = quiet.nothing_out tx h.0
no_reason s quiet (CanBegin tx) h = quiet.nobody_moves tx h.1.0
no_reason s quiet (Untried tx) h = quiet.all_tried tx h.2.0
no_reason s quiet (Cycle cycle) h = none_stands s cycle h.3 quiet.no_deadlock

-- both are that a deadlock stands
pub record BothCycles (reason other : Reason) : Type 0 where
  pub cycle : List ℕ
  pub another : List ℕ
  pub begin_alike : BeginAlike cycle another
  pub is : reason ≡ Cycle cycle
  pub is_other : other ≡ Cycle another

pub reasons_alike : (s : State) (reason other : Reason) → IsReason s reason → IsReason s other
    → (reason ≡ other) ⊎ BothCycles reason other
reasons_alike s (JobOut m) (JobOut n) h k = inl (ap JobOut (least_alike _ m n h k))
reasons_alike s (JobOut m) (CanBegin n) h k = absurd (k.0 m h.0)
reasons_alike s (JobOut m) (Untried n) h k = absurd (k.0 m h.0)
reasons_alike s (JobOut m) (Cycle d) h k = absurd (k.0 m h.0)
reasons_alike s (CanBegin m) (JobOut n) h k = absurd (h.0 n k.0)
reasons_alike s (CanBegin m) (CanBegin n) h k = inl (ap CanBegin (least_alike _ m n h.1 k.1))
reasons_alike s (CanBegin m) (Untried n) h k = absurd (k.1 m h.1.0)
reasons_alike s (CanBegin m) (Cycle d) h k = absurd (k.1 m h.1.0)
reasons_alike s (Untried m) (JobOut n) h k = absurd (h.0 n k.0)
reasons_alike s (Untried m) (CanBegin n) h k = absurd (h.1 n k.1.0)
reasons_alike s (Untried m) (Untried n) h k = inl (ap Untried (least_alike _ m n h.2 k.2))
reasons_alike s (Untried m) (Cycle d) h k = absurd (k.2 m h.2.0)
reasons_alike s (Cycle c) (JobOut n) h k = absurd (h.0 n k.0)
reasons_alike s (Cycle c) (CanBegin n) h k = absurd (h.1 n k.1.0)
reasons_alike s (Cycle c) (Untried n) h k = absurd (h.2 n k.2.0)
reasons_alike s (Cycle c) (Cycle d) h k =
    inr (record {
      cycle = c;
      another = d;
      begin_alike = begin_alike s c d h.3 k.3;
      is = refl;
      is_other = refl;
    })
