-- Nothing moves: a member whose begin is refused can't, and a run that can't end awaits a job.
use Rattle.std.proofs.Common.{◌≡◌, inl, inr, ◌<◌, ◌≤◌, ◌+◌, ◌++◌, ℕ, Bool, true, false, List}
use Rattle.std.proofs.Common.{length, take, drop, get_or, refl, sym, ap, subst, ◌∙◌, Option, Some, None}
use Rattle.std.specs.List.{AllByRecursion}
use Rattle.std.proofs.lemmas.List.{drop_more, take-append-drop, take_all, take_more}
use Rattle.ent_value.specs.declared.value.Value.{Value}
use Rattle.ent_semantics.specs.declared.entangled.Entangled.{Entangled}
use Rattle.ent_semantics.specs.declared.statement.Statement.{Statement}
use Rattle.ent_semantics.specs.Component.{IsComponent}
use Rattle.ent_semantics.specs.Pool.{IsSafe}
use Rattle.ent_lists.specs.Elements.{In, clash, contains_in, in_second, neither, of_all}
use Rattle.ent_lists.proofs.Lists.{all_behind}
use Rattle.ent_protocol.specs.Begin.{Begins, BeginsCommit, BeginsEntangled, BeginsNext, BeginsOrdinary, Posts}
use Rattle.ent_protocol.specs.Begin.{pool_with}
use Rattle.ent_protocol.specs.Commit.{is_ready, preparing}
use Rattle.ent_protocol.specs.Event.{Reason, Reply}
use Rattle.ent_protocol.specs.Event as events
use Rattle.ent_protocol.specs.Lookup.{running_members}
use Rattle.ent_protocol.specs.Member.{Next, Ordinary, Asks, Commits, RollsBack, active_member, is_lent, next_of, pool}
use Rattle.ent_protocol.specs.Play.{is_idle}
use Rattle.ent_protocol.specs.Quiet.{CanMove, CanPost, HasJobOut, IsReason, IsUntried, MovesBy, NoneIs}
use Rattle.ent_protocol.specs.State.{State, Member}
use Rattle.ent_protocol.specs.Uses.{blocker, entangled_uses, statement_uses}
use Rattle.ent_protocol_laws.specs.ByNumber.{StandByNumber}
use Rattle.ent_protocol_laws.specs.Standing.{StandOnce}
use Rattle.ent_protocol_laws.proofs.Pooled.{never_unsafe, pool_apart}
use Rattle.ent_protocol_laws.proofs.Reasons.{none_stands}
use Rattle.ent_protocol_laws.proofs.Idle.{is_own}
use Rattle.ent_protocol_laws.proofs.Numbers.{is_running}
use Rattle.ent_protocol_laws.proofs.Ready.{begins_next}
use Rattle.ent_core.specs.Begin.{begin_refusal_seen}
use Rattle.ent_core.specs.declared.begin.BeginRefusal.{BeginRefusal}
use Rattle.ent_core.specs.declared.begin.BeginRefusal.TheVariants as refusals
use Rattle.ent_desk.specs.Advance.{AwaitsJob, IsNext, IsStill}

-- ---- a begin that is refused

module _ {F : Type 0} where
  not_idle : (reply is : Reply F) → reply ≡ is → is_idle is ≡ false → is_idle reply ≡ true → ⊥
  not_idle reply is e busy idle = clash (is_idle is) (ap is_idle (sym e) ∙ idle) busy

  module _ (s : State) (stand : StandByNumber s) (m : Member) (at : In m s.active) (unposted : m.posted ≡ false)
      (reply : Reply F) (new : State) (idle : is_idle reply ≡ true) where
    ordinary : (c : Statement Value) (blocked : Option ℕ) → BeginsOrdinary s m c blocked reply new → blocked ≡ None → ⊥
    ordinary c (Some holder) step free = cc
    ordinary c None step free = not_idle reply _ step.0 refl idle

    posts : (asked : Entangled Value) → Posts s m asked reply new → IsSafe (pool_with s m asked) → ⊥
    posts asked (inl step) safe = not_idle reply _ step.1 refl idle
    posts asked (inr step) safe =
        never_unsafe (pool_with s m asked) step.0 (pool_apart s stand m asked at unposted) safe step.1

    entangled : (asked : Entangled Value) (blocked : Option ℕ) → BeginsEntangled s m asked blocked reply new
        → CanPost s m asked blocked → ⊥
    entangled asked (Some holder) step can = absurd can
    entangled asked None step can = posts asked step can

    commits : (ready : Bool) → BeginsCommit (preparing s m) m.group ready reply new → ⊥
    commits true step = not_idle reply _ step.0 refl idle
    commits false step = not_idle reply _ step.0 refl idle

    moves : (next : Next) → BeginsNext s m next reply new → MovesBy s m next → ⊥
    moves (Ordinary c) step free = ordinary c (blocker s m (statement_uses c)) step free
    moves (Asks asked) step can = entangled asked (blocker s m (entangled_uses asked)) step can
    moves Commits step can = commits (is_ready (preparing s m) m.group) step
    moves RollsBack step can = not_idle reply _ step.0 refl idle

  pub cannot_move : (s : State) → StandOnce s → StandByNumber s → (tx : ℕ) (reply : Reply F) (new : State)
      → Begins s tx reply new → is_idle reply ≡ true → ¬ CanMove s tx
  cannot_move s once stand tx reply new step idle = λ can.
      let m = can.member in
      let at = contains_in s.active m can.active in
      let own : active_member s tx ≡ Some m =
      subst (λ (n : ℕ). active_member s n ≡ Some m) can.own (is_own s once stand m at) in
      moves s stand m at (neither m.posted (is_lent s tx) can.waiting).0 reply new idle (next_of s m)
      (begins_next s tx m reply new own can.waiting step) can.moves

-- what a begin is refused for
pub refusal_idle : (why : BeginRefusal) → is_idle (begin_refusal_seen why) ≡ true
refusal_idle refusals.Absent = refl
refusal_idle refusals.NotNow = refl
refusal_idle (refusals.Blocked holder) = refl

-- ---- members one after the other

-- one more that can't move
pub one_more_stuck : (s : State) (items : List ℕ) (i : ℕ) → i < length items
    → AllByRecursion (λ other. ¬ CanMove s other) (take i items) → ¬ CanMove s (get_or items i 0)
    → AllByRecursion (λ other. ¬ CanMove s other) (take (i + 1) items)
one_more_stuck s items i within all one =
    subst (AllByRecursion (λ other. ¬ CanMove s other)) (sym (take_more items i 0 within))
    (all_behind (λ other. ¬ CanMove s other) (take i items) (get_or items i 0) all one)

-- the next one may begin
pub next_member : (s : State) (items : List ℕ) (i : ℕ) → running_members s ≡ items → i < length items
    → AllByRecursion (λ other. ¬ CanMove s other) (take i items) → IsNext s (events.Begin (get_or items i 0))
next_member s items i are within all = (
  take i items,
  drop (i + 1) items,
  are ∙ sym (take-append-drop i items) ∙ ap (λ (l : List ℕ). take i items ++ l) (drop_more items i 0 within),
  all,
)

-- where none of the members can move, nobody can
pub none_moves : (s : State) (items : List ℕ) (i : ℕ) → running_members s ≡ items → length items ≤ i
    → AllByRecursion (λ other. ¬ CanMove s other) (take i items) → NoneIs (CanMove s)
none_moves s items i are low all = λ tx can.
    let m = can.member in
    let at = in_second s.prepared s.active m (contains_in s.active m can.active) in
    of_all (λ other. ¬ CanMove s other) items tx
    (subst (AllByRecursion (λ other. ¬ CanMove s other)) (take_all i items low) all)
    (subst (In tx) are (subst (λ (n : ℕ). In n (running_members s)) can.own (is_running s m at))) can

-- ---- a run that can't end

-- an untried component, no job of which is out, can be picked
untried_out : (s : State) (tx : ℕ) (u : IsUntried s tx) → IsStill s → ((n : ℕ) → HasJobOut s n → ⊥) → ⊥
untried_out s tx u still none_out =
    let c : IsComponent (pool s) u.asked = u.component in
    let there = (c.class c.first).1 (c.in_remainder, (0, refl)) in
    still.none_picked u.asked
    (record {
      component = u.component;
      untried = u.untried;
      not_out = λ out. none_out c.first.tx
          (inr (record {
            asked = u.asked;
            out = out;
            component = u.component;
            query = c.first;
            is_in = there;
            own = refl;
          }));
    })

pub awaits : (s : State) → s.running ≡ true → IsStill s → (reason : Reason) → IsReason s reason → AwaitsJob s
awaits s on still (events.JobOut tx) h = record { running = on; tx = tx; out = h.0; still = still }
awaits s on still (events.CanBegin tx) h = absurd (still.nobody_moves tx h.1.0)
awaits s on still (events.Untried tx) h = absurd (untried_out s tx h.2.0 still h.0)
awaits s on still (events.Cycle cycle) h = absurd (none_stands s cycle h.3 still.no_deadlock)
