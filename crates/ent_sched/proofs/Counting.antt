-- How many events rounds make.
use Rattle.std.proofs.Common.{◌≡◌, ◌≤◌, ◌+◌, ◌-◌, ◌*◌, ℕ, length, ap, arith, mul-le-mul_right}
use Rattle.ent_protocol.specs.Run.{Forms}
use Rattle.ent_protocol.specs.State.{State, members}
use Rattle.ent_protocol_laws.specs.Within.{IsBelow, IsWithin}
use Rattle.ent_sched.specs.Onward.{TicksOn, events_of_round}
use Rattle.ent_sched.specs.Bounds.{events_of_rounds, events_of_run, most_progress, run_start}
use Rattle.ent_sched.specs.Tally.{Tally}

-- events and their ticks add up
pub record AddUp {F : Type 0} (forms : Forms F) : Type 0 where
  pub joined : (n m : ℕ) (first middle last : Tally) → TicksOn forms n first middle → TicksOn forms m middle last
      → TicksOn forms (n + m) first last
  pub widened : (n m : ℕ) (first last : Tally) → n ≤ m → TicksOn forms n first last → TicksOn forms m first last

-- ---- steps of progress

within_more : (most less left : ℕ) (s : State) → less ≤ left → IsWithin most less s → IsWithin most left s
within_more most less left s low h =
    record {
      few = h.few;
      transactions = h.transactions;
      hit = h.hit;
      within = let w = h.within in omega (arith, low, w);
    }

-- where a step of what was left is used up, one was left, and without it the others are
pub one_made : (most left made more : ℕ) (s : State) → more ≡ made + 1 → IsBelow most (left - made) s
    → (more ≤ left) × IsWithin most (left - more) s
one_made most left made more s is h =
    let below = h.below in (
      omega (arith, below, is),
      within_more most h.less (left - more) s (omega (arith, below, is)) h.within,
    )

-- ---- events

-- rounds that made progress, and one more
one_more : (made more per this : ℕ) → more ≡ made + 1 → this ≤ per → made * per + this ≤ more * per
one_more made more per this is low =
    let same = ap (λ k. k * per) is in
    let e : (made + 1) * per ≡ made * per + per = grind arith in
    omega (arith, same, e, low)

-- as many rounds as there may be, and one more
one_behind : (made left per this : ℕ) → made ≤ left → this ≤ per → made * per + this ≤ (left + 1) * per
one_behind made left per this few low =
    let e : (left + 1) * per ≡ left * per + per = grind arith in
    let most = mul-le-mul_right per few in
    omega (arith, e, low, most)

-- a round of a state with no more members
no_longer : (first middle : State) → length (members middle) ≤ length (members first)
    → events_of_round middle ≤ events_of_round first
no_longer first middle few = omega (arith, few)

module _ {F : Type 0} (forms : Forms F) (adds : AddUp forms) (first middle last : Tally) where
  pub round_made : (made more left : ℕ) → more ≡ made + 1 → IsWithin (length (members first.core)) left middle.core
      → TicksOn forms (made * events_of_round first.core) first middle
      → TicksOn forms (events_of_round middle.core) middle last
      → TicksOn forms (more * events_of_round first.core) first last
  round_made made more left is within before behind =
      let per = events_of_round first.core in
      let this = no_longer first.core middle.core within.few in
      let low = one_more made more per (events_of_round middle.core) is this in
      adds.widened (made * per + events_of_round middle.core) (more * per) first last low
      (adds.joined (made * per) (events_of_round middle.core) first middle last before behind)

  pub last_round_made : (made left : ℕ) → made ≤ most_progress first.core
      → IsWithin (length (members first.core)) left middle.core
      → TicksOn forms (made * events_of_round first.core) first middle
      → TicksOn forms (events_of_round middle.core) middle last
      → TicksOn forms (events_of_rounds first.core) first last
  last_round_made made left few within before behind =
      let per = events_of_round first.core in
      let this = no_longer first.core middle.core within.few in
      let low = one_behind made (most_progress first.core) per (events_of_round middle.core) few this in
      adds.widened (made * per + events_of_round middle.core) (events_of_rounds first.core) first last low
      (adds.joined (made * per) (events_of_round middle.core) first middle last before behind)

  -- a run is started, and its rounds are made
  pub rounds_made : middle.core ≡ run_start first.core → TicksOn forms 1 first middle
      → TicksOn forms (events_of_rounds middle.core) middle last
      → TicksOn forms (events_of_rounds (run_start first.core) + 1) first last
  rounds_made is before behind =
      let e = ap events_of_rounds is in
      adds.widened (1 + events_of_rounds middle.core) (events_of_rounds (run_start first.core) + 1) first last
      (omega (arith, e)) (adds.joined 1 (events_of_rounds middle.core) first middle last before behind)

  -- and it is ended
  pub run_made : TicksOn forms (events_of_rounds (run_start first.core) + 1) first middle → TicksOn forms 1 middle last
      → TicksOn forms (events_of_run first.core) first last
  run_made before behind =
      adds.widened (events_of_rounds (run_start first.core) + 1 + 1) (events_of_run first.core) first last
      (omega arith) (adds.joined (events_of_rounds (run_start first.core) + 1) 1 first middle last before behind)
