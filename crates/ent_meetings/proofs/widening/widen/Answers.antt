use Rattle.std.proofs.Common.{◌≡◌, ◌<◌, ℕ, List, IfOk, Result, Ok, Err, length, subst, arith}
use Rattle.std.proofs.lemmas.List.Sorted.{length_permutation}
use Rattle.ent_group.specs.declared.members.TheConstants.{MOST_MEMBERS}
use Rattle.ent_meetings.specs.Settling.{IsWhole}
use Rattle.ent_meetings.proofs.NobodyElse.{none_might}
use Rattle.std.specs.Global.{Vec}
use Rattle.std.specs.List.Sorted.{IsNonDecreasing, IsPermutation}
use Rattle.ent_meetings.specs.Gathering.{IsRunnable}
use Rattle.ent_meetings.specs.Meeting.{IsClearMeeting, IsMeeting}
use Rattle.ent_meetings.specs.Waiting.{Waiting}
use Rattle.ent_meetings.specs.Widening.{IsWidened, MightCome}
use Rattle.ent_meetings.proofs.Wider.{IsOrdered, clear_still, meets_still, ordered}
use Rattle.ent_meetings.proofs.widening.widen.Goals as goal

-- what an answer says that is in order
said : {E : Type 0} (waiting : Waiting) (tickets mid slice : List ℕ) (answer : Result (Vec ℕ) E)
    → IsWidened waiting tickets mid → (IsRunnable tickets → IsRunnable mid) → slice ≡ mid
    → IfOk answer (λ sorted. IsPermutation slice sorted.items) → IfOk answer (λ sorted. IsNonDecreasing sorted.items)
    → (P : List ℕ → Type 0) → ((sorted : List ℕ) → IsOrdered waiting tickets sorted → P sorted)
    → IfOk answer (λ sorted. P sorted.items)
said waiting tickets mid slice (Ok sorted) widened runnable is same rises P from =
    from sorted.items (ordered waiting tickets mid sorted.items slice widened runnable is same rises)
said waiting tickets mid slice (Err error) widened runnable is same rises P from = tt

pub returns-clause-meets : goal.returns-clause-meets
returns-clause-meets c =
    let grows = c.in_ok-widen.ensures.ok in
    said c.args.index.now c.args.meeting.items c.widen.new.self.tickets.items c.as_slice-2.result.now
    c.by_arrival.result
    grows.wider grows.runnable c.as_slice-2.ensures.value c.by_arrival.ensures.same c.by_arrival.ensures.sorted
    (λ wider. (root : ℕ) → IsMeeting c.args.index.now root c.args.meeting.items → IsMeeting c.args.index.now root wider)
    (λ sorted is root. meets_still c.args.index.now root c.args.meeting.items sorted is)

pub returns-clause-clear : goal.returns-clause-clear
returns-clause-clear c =
    let grows = c.in_ok-widen.ensures.ok in
    said c.args.index.now c.args.meeting.items c.widen.new.self.tickets.items c.as_slice-2.result.now
    c.by_arrival.result
    grows.wider grows.runnable c.as_slice-2.ensures.value c.by_arrival.ensures.same c.by_arrival.ensures.sorted
    (λ wider. (root : ℕ) → IsClearMeeting c.args.index.now root c.args.meeting.items
    → IsClearMeeting c.args.index.now root wider)
    (λ sorted is root. clear_still c.args.index.now root c.args.meeting.items sorted is)

pub returns-clause-widened : goal.returns-clause-widened
returns-clause-widened c =
    let grows = c.in_ok-widen.ensures.ok in
    said c.args.index.now c.args.meeting.items c.widen.new.self.tickets.items c.as_slice-2.result.now
    c.by_arrival.result
    grows.wider grows.runnable c.as_slice-2.ensures.value c.by_arrival.ensures.same c.by_arrival.ensures.sorted
    (λ wider. IsWidened c.args.index.now c.args.meeting.items wider) (λ sorted is. is.widened)

-- nobody else might come
said_whole : {E : Type 0} (waiting : Waiting) (mid slice : List ℕ) (answer : Result (Vec ℕ) E) (left : ℕ)
    → (0 < left → length mid < MOST_MEMBERS → IsWhole waiting mid) → slice ≡ mid
    → IfOk answer (λ sorted. IsPermutation slice sorted.items)
    → IfOk answer (λ wider. 0 < left → length wider.items < MOST_MEMBERS → (ticket : ℕ)
    → MightCome waiting wider.items ticket → ⊥)
said_whole waiting mid slice (Ok sorted) left whole is same =
    let moved : IsPermutation mid sorted.items = subst (λ (xs : List ℕ). IsPermutation xs sorted.items) is same in
    λ some low ticket might.
    none_might waiting mid sorted.items (whole some (omega (
      arith,
      low,
      length_permutation mid sorted.items moved,
    ))) moved
    ticket might
said_whole waiting mid slice (Err error) left whole is same = tt

pub returns-clause-whole : goal.returns-clause-whole
returns-clause-whole c =
    said_whole c.args.index.now c.widen.new.self.tickets.items c.as_slice-2.result.now c.by_arrival.result
    c.widen.new.looks
    c.in_ok-widen.ensures.whole c.as_slice-2.ensures.value c.by_arrival.ensures.same
