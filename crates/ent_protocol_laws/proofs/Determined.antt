-- What an event does is determined.
use Rattle.std.proofs.Common.{◌≡◌, ◌⊎◌, inl, inr, ℕ, Bool, true, false, ◌||◌, List, [], ◌∷◌, ◌++◌, refl, sym}
use Rattle.std.proofs.Common.{ap, subst, ◌∙◌, arith, Option, Some, None, Result, Ok, Err}
use Rattle.ent_value.specs.declared.value.Value.{Value}
use Rattle.ent_tree.specs.declared.script.Script.{Script}
use Rattle.ent_semantics.specs.Entangled.{Valuation}
use Rattle.ent_semantics.specs.declared.entangled.Entangled.{Entangled}
use Rattle.ent_semantics.specs.declared.operand.Known.{Known}
use Rattle.ent_semantics.specs.declared.statement.Statement.{Statement}
use Rattle.ent_semantics.specs.Pool.{Posted, first_tx}
use Rattle.ent_protocol.specs.Begin.{BeginsOrdinary, Posts, BeginsEntangled, BeginsCommit, BeginsNext, BeginsUnless}
use Rattle.ent_protocol.specs.Begin.{BeginsMember, pool_with}
use Rattle.ent_protocol.specs.Commit.{preparing, is_ready}
use Rattle.ent_protocol.specs.Event.{Event, Reason, Reply}
use Rattle.ent_protocol.specs.Event as events
use Rattle.ent_protocol.specs.Finish.{FinishesBy, Finishes, FinishesSingle, IsOutstandingSingle}
use Rattle.ent_protocol.specs.Job.{Choice, Done, Fault, Job, Joint, One, Outcome, Shown, Changed, Bound, Single}
use Rattle.ent_protocol.specs.Member.{Next, Ordinary, Asks, Commits, RollsBack, active_member, is_lent}
use Rattle.ent_protocol.specs.Member.{next_of}
use Rattle.ent_protocol.specs.PoolEvents.{AnswersBy, JoinsOrIsStale, Picks, joint_job}
use Rattle.ent_protocol.specs.Rollback.{NoOne, group_numbers, rolled_back}
use Rattle.ent_protocol.specs.Run.{BreaksIfAny, EndsWhileRunning, Forms, StartsWith, SubmitsForm, SubmitsUnless}
use Rattle.ent_protocol.specs.State.{State, Dormant, Member}
use Rattle.ent_protocol.specs.Step.{Step}
use Rattle.ent_protocol.specs.Uses.{statement_uses, entangled_uses, blocker}
use Rattle.ent_protocol_laws.specs.ByNumber.{StandByNumber}
use Rattle.ent_protocol_laws.specs.Lent.{LentStandOnce}
use Rattle.ent_protocol_laws.specs.Alike.{AreAlike}
use Rattle.ent_lists.specs.Elements.{In, neither}
use Rattle.ent_protocol_laws.proofs.Found.{found}
use Rattle.ent_protocol_laws.proofs.Picked.{AreClasses, same_component}
use Rattle.ent_protocol_laws.proofs.TakenOnce.{taken_alike}
use Rattle.ent_protocol_laws.proofs.Pooled.{never_unsafe, pool_apart}
use Rattle.ent_protocol_laws.proofs.FirstUnsafe.{one_fault}
use Rattle.ent_protocol_laws.proofs.Reasons.{BothCycles, begin_alike, no_reason, none_stands, reasons_alike}

-- ---- parts that are equal

same_member : (m n : Member) → Some m ≡ Some n → m ≡ n
same_member m n e = cc

pub same_single : (one other : Single) → One one ≡ One other → one ≡ other
same_single one other e = cc

pub same_asked : (one other : List Posted) → Joint one ≡ Joint other → one ≡ other
same_asked one other e = cc

same_choice : (one other : Option (List Valuation)) → Choice one ≡ Choice other → one ≡ other
same_choice one other e = cc

module _ {F : Type 0} where
  -- one state, and one reply but for the deadlock that is shown
  abbrev Same : Reply F → Reply F → State → State → Type 0
  Same reply other new another = (new ≡ another) × AreAlike reply other

  both : (reply other is : Reply F) (new another state : State) → reply ≡ is → new ≡ state → other ≡ is
      → another ≡ state → Same reply other new another
  both reply other is new another state d f e g = (f ∙ sym g, inl (d ∙ sym e))

  -- ---- begin

  module _ (s : State) (by_number : StandByNumber s) where
    ordinary : (m : Member) (c : Statement Value) (blocked : Option ℕ) (reply other : Reply F) (new another : State)
        → BeginsOrdinary s m c blocked reply new → BeginsOrdinary s m c blocked other another
        → Same reply other new another
    ordinary m c (Some holder) reply other new another h k = both _ _ _ _ _ _ h.0 h.1 k.0 k.1
    ordinary m c None reply other new another h k = both _ _ _ _ _ _ h.0 h.1 k.0 k.1

    posts : (m : Member) (asked : Entangled Value) (reply other : Reply F) (new another : State) → In m s.active
        → m.posted ≡ false → Posts s m asked reply new → Posts s m asked other another
        → Same reply other new another
    posts m asked reply other new another at unposted (inl h) (inl k) = both _ _ _ _ _ _ h.1 h.2 k.1 k.2
    posts m asked reply other new another at unposted (inl h) (inr k) =
        absurd (never_unsafe (pool_with s m asked) k.0 (pool_apart s by_number m asked at unposted) h.0 k.1)
    posts m asked reply other new another at unposted (inr h) (inl k) =
        absurd (never_unsafe (pool_with s m asked) h.0 (pool_apart s by_number m asked at unposted) k.0 h.1)
    posts m asked reply other new another at unposted (inr h) (inr k) =
        let fault = one_fault (pool_with s m asked) k.0 h.0 k.1 h.1 in
        both _ _ _ _ _ _ h.2.0 h.2.1 (k.2.0 ∙ ap events.HeldBack fault) k.2.1

    entangled : (m : Member) (asked : Entangled Value) (blocked : Option ℕ) (reply other : Reply F)
        (new another : State) → In m s.active → m.posted ≡ false → BeginsEntangled s m asked blocked reply new
        → BeginsEntangled s m asked blocked other another → Same reply other new another
    entangled m asked (Some holder) reply other new another at unposted h k = both _ _ _ _ _ _ h.0 h.1 k.0 k.1
    entangled m asked None reply other new another at unposted h k =
        posts m asked reply other new another at unposted h k

    commits : (m : Member) (ready : Bool) (reply other : Reply F) (new another : State)
        → BeginsCommit (preparing s m) m.group ready reply new
        → BeginsCommit (preparing s m) m.group ready other another
        → Same reply other new another
    commits m true reply other new another h k = both _ _ _ _ _ _ h.0 h.1 k.0 k.1
    commits m false reply other new another h k = both _ _ _ _ _ _ h.0 h.1 k.0 k.1

    next : (m : Member) (is : Next) (reply other : Reply F) (new another : State) → In m s.active → m.posted ≡ false
        → BeginsNext s m is reply new → BeginsNext s m is other another → Same reply other new another
    next m (Ordinary c) reply other new another at unposted h k =
        ordinary m c (blocker s m (statement_uses c)) reply other new another h k
    next m (Asks asked) reply other new another at unposted h k =
        entangled m asked (blocker s m (entangled_uses asked)) reply other new another at unposted h k
    next m Commits reply other new another at unposted h k =
        commits m (is_ready (preparing s m) m.group) reply other new another h k
    next m RollsBack reply other new another at unposted h k = both _ _ _ _ _ _ h.0 h.1 k.0 k.1

    unless : (tx : ℕ) (busy : Bool) (m : Member) (reply other : Reply F) (new another : State) → In m s.active
        → (m.posted || is_lent s tx) ≡ busy → BeginsUnless busy s m reply new → BeginsUnless busy s m other another
        → Same reply other new another
    unless tx true m reply other new another at is h k = both _ _ _ _ _ _ h.0 h.1 k.0 k.1
    unless tx false m reply other new another at is h k =
        next m (next_of s m) reply other new another at (neither m.posted (is_lent s tx) is).0 h k

    begins : (tx : ℕ) (member : Option Member) (reply other : Reply F) (new another : State)
        → active_member s tx ≡ member → BeginsMember s tx member reply new → BeginsMember s tx member other another
        → Same reply other new another
    begins tx (Some m) reply other new another is h k =
        unless tx (m.posted || is_lent s tx) m reply other new another (found s tx m is).0 refl h k
    begins tx None reply other new another is h k = both _ _ _ _ _ _ h.0 h.1 k.0 k.1

  -- ---- results

  by_outcome : (s : State) (m : Member) (c : Statement Value) (outcome : Outcome) (reply other : Reply F)
      (new another : State) → FinishesBy s m c outcome reply new → FinishesBy s m c outcome other another
      → Same reply other new another
  by_outcome s m c (Fault failure) reply other new another h k = both _ _ _ _ _ _ h.0 h.1 k.0 k.1
  by_outcome s m c (Shown rows) reply other new another h k = both _ _ _ _ _ _ h.0 h.1 k.0 k.1
  by_outcome s m c (Changed count removed added) reply other new another h k = both _ _ _ _ _ _ h.0 h.1 k.0 k.1
  by_outcome s m c (Bound value) reply other new another h k = both _ _ _ _ _ _ h.0 h.1 k.0 k.1
  by_outcome s m c (Choice groundings) reply other new another h k = absurd h

  outstanding : (s : State) (done : Done) (single : Single) (reply : Reply F) (new : State) → done.job.work ≡ One single
      → FinishesSingle s done single reply new → IsOutstandingSingle s done
  outstanding s done single reply new is h = (single, h.left, is, h.taken)

  finish : (s : State) (done : Done) (reply other : Reply F) (new another : State) → LentStandOnce s
      → Finishes s done reply new → Finishes s done other another → Same reply other new another
  finish s done reply other new another once (inl h) (inl k) =
      let single = same_single k.0 h.0 (sym k.1 ∙ h.1) in
      let left = taken_alike s done.job k.2.left h.2.left once k.2.taken h.2.taken in
      let member = same_member k.2.member h.2.member
      (sym k.2.is_member ∙ ap (λ (x : Single). active_member s x.tx) single ∙ h.2.is_member) in
      by_outcome (record s { lent = h.2.left }) h.2.member h.0.statement done.outcome reply other new another h.2.steps
      (subst (λ (x : Single). FinishesBy (record s { lent = h.2.left }) h.2.member x.statement done.outcome other
      another) single
      (subst (λ m. FinishesBy (record s { lent = h.2.left }) m k.0.statement done.outcome other another) member
      (subst (λ (jobs : List Job). FinishesBy (record s { lent = jobs }) k.2.member k.0.statement done.outcome other
      another) left k.2.steps)))
  finish s done reply other new another once (inl h) (inr k) =
      absurd (k.0 (outstanding s done h.0 reply new h.1 h.2))
  finish s done reply other new another once (inr h) (inl k) =
      absurd (h.0 (outstanding s done k.0 other another k.1 k.2))
  finish s done reply other new another once (inr h) (inr k) = both _ _ _ _ _ _ h.1.0 h.1.1 k.1.0 k.1.1

  answers : (s : State) (asked : List Posted) (groundings : Option (List Valuation)) (reply other : Reply F)
      (new another : State) → AnswersBy s asked groundings reply new → AnswersBy s asked groundings other another
      → Same reply other new another
  answers s asked (Some groundings) reply other new another h k = both _ _ _ _ _ _ h.0 h.1 k.0 k.1
  answers s asked None reply other new another h k = both _ _ _ _ _ _ h.0 h.1 k.0 k.1

  join : (s : State) (done : Done) (reply other : Reply F) (new another : State) → LentStandOnce s
      → JoinsOrIsStale s done reply new → JoinsOrIsStale s done other another → Same reply other new another
  join s done reply other new another once (inl h) (inl k) =
      let one = h.outstanding in
      let two = k.outstanding in
      let asked = same_asked two.asked one.asked (sym two.is_joint ∙ one.is_joint) in
      let left = taken_alike s done.job two.left one.left once two.taken one.taken in
      let groundings = same_choice k.groundings h.groundings (sym k.choice ∙ h.choice) in
      answers (record s { lent = one.left }) one.asked h.groundings reply other new another h.answers
      (subst (λ those. AnswersBy (record s { lent = one.left }) those h.groundings other another) asked
      (subst (λ chosen. AnswersBy (record s { lent = one.left }) two.asked chosen other another) groundings
      (subst (λ (jobs : List Job). AnswersBy (record s { lent = jobs }) two.asked k.groundings other another) left
      k.answers)))
  join s done reply other new another once (inl h) (inr k) = absurd (k.0 h.outstanding)
  join s done reply other new another once (inr h) (inl k) = absurd (h.0 k.outstanding)
  join s done reply other new another once (inr h) (inr k) = both _ _ _ _ _ _ h.1.0 h.1.1 k.1.0 k.1.1

  pick : (s : State) (reply other : Reply F) (new another : State) → StandByNumber s → AreClasses
      → Picks s reply new → Picks s other another → Same reply other new another
  pick s reply other new another by_number classes (inl h) (inl k) =
      let low = h.least k.asked k.can in
      let high = k.least h.asked h.can in
      let first : first_tx k.asked ≡ first_tx h.asked = omega (arith, low, high) in
      let asked = same_component s by_number classes k.asked h.asked k.can.component h.can.component first in
      both _ _ _ _ _ _ h.replies h.is (k.replies ∙ ap (λ those. events.Lent (joint_job s those)) asked)
      (k.is ∙ ap (λ those. record s { lent = s.lent ++ joint_job s those ∷ [] }) asked)
  pick s reply other new another by_number classes (inl h) (inr k) = absurd (k.0 h.asked h.can)
  pick s reply other new another by_number classes (inr h) (inl k) = absurd (h.0 k.asked k.can)
  pick s reply other new another by_number classes (inr h) (inr k) = both _ _ _ _ _ _ h.1.0 h.1.1 k.1.0 k.1.1

  -- ---- scripts and runs

  submits_form : (s : State) (script : Script) (form : Result (List (Statement Known)) F) (reply other : Reply F)
      (new another : State) → SubmitsForm s script form reply new → SubmitsForm s script form other another
      → Same reply other new another
  submits_form s script (Ok form) reply other new another h k = both _ _ _ _ _ _ h.0 h.1 k.0 k.1
  submits_form s script (Err fault) reply other new another h k = both _ _ _ _ _ _ h.0 h.1 k.0 k.1

  submit : (full : Bool) (forms : Forms F) (s : State) (script : Script) (reply other : Reply F) (new another : State)
      → SubmitsUnless full forms s script reply new → SubmitsUnless full forms s script other another
      → Same reply other new another
  submit true forms s script reply other new another h k = both _ _ _ _ _ _ h.0 h.1 k.0 k.1
  submit false forms s script reply other new another h k =
      submits_form s script (forms.resolve s.opening script) reply other new another h k

  start : (s : State) (running : Bool) (dormant : List Dormant) (reply other : Reply F) (new another : State)
      → StartsWith s running dormant reply new → StartsWith s running dormant other another
      → Same reply other new another
  start s true dormant reply other new another h k = both _ _ _ _ _ _ h.0 h.1 k.0 k.1
  start s false [] reply other new another h k = both _ _ _ _ _ _ h.0 h.1 k.0 k.1
  start s false (first ∷ more) reply other new another h k = both _ _ _ _ _ _ h.0 h.1 k.0 k.1

  break : (s : State) (reply other : Reply F) (new another : State) → BreaksIfAny s reply new
      → BreaksIfAny s other another → Same reply other new another
  break s reply other new another (inl h) (inl k) =
      let alike = begin_alike s h.cycle k.cycle h.deadlock k.deadlock in
      let victim = same_member k.victim h.victim
      (sym k.is_victim ∙ ap (active_member s) (sym alike) ∙ h.is_victim) in (
        h.is ∙ ap (λ (m : Member). rolled_back m.group NoOne s) (sym victim) ∙ sym k.is,
        inr (inl (record {
          cycle = h.cycle;
          another = k.cycle;
          group = group_numbers s h.victim.group;
          begin_alike = alike;
          is = h.replies;
          is_other = k.replies ∙ ap (λ (m : Member). events.Broken k.cycle (group_numbers s m.group)) victim;
        })),
      )
  break s reply other new another (inl h) (inr k) = absurd (none_stands s h.cycle h.deadlock k.0)
  break s reply other new another (inr h) (inl k) = absurd (none_stands s k.cycle k.deadlock h.0)
  break s reply other new another (inr h) (inr k) = both _ _ _ _ _ _ h.1.0 h.1.1 k.1.0 k.1.1

  busy : (s : State) (reply other : Reply F) (reason another : Reason) → reply ≡ events.Busy reason
      → other ≡ events.Busy another → (reason ≡ another) ⊎ BothCycles reason another → AreAlike reply other
  busy s reply other reason another is is_other (inl same) = inl (is ∙ ap events.Busy same ∙ sym is_other)
  busy s reply other reason another is is_other (inr cycles) =
      inr (inr (record {
        cycle = cycles.cycle;
        another = cycles.another;
        begin_alike = cycles.begin_alike;
        is = is ∙ ap events.Busy cycles.is;
        is_other = is_other ∙ ap events.Busy cycles.is_other;
      }))

  end_run : (s : State) (running : Bool) (reply other : Reply F) (new another : State)
      → EndsWhileRunning s running reply new → EndsWhileRunning s running other another
      → Same reply other new another
  end_run s false reply other new another h k = both _ _ _ _ _ _ h.0 h.1 k.0 k.1
  end_run s true reply other new another (inl h) (inl k) = both _ _ _ _ _ _ h.1 h.2 k.1 k.2
  end_run s true reply other new another (inl h) (inr k) = absurd (no_reason s h.0 k.0 k.1)
  end_run s true reply other new another (inr h) (inl k) = absurd (no_reason s k.0 h.0 h.1)
  end_run s true reply other new another (inr h) (inr k) = (
    h.2.1 ∙ sym k.2.1,
    busy s reply other h.0 k.0 h.2.0 k.2.0 (reasons_alike s h.0 k.0 h.1 k.1),
  )

  -- ---- all of them

  pub determined : (forms : Forms F) (s : State) (event : Event) (reply other : Reply F) (new another : State)
      → AreClasses → LentStandOnce s → StandByNumber s → Step forms s event reply new
      → Step forms s event other another → Same reply other new another
  determined forms s (events.Submit script) reply other new another classes once by_number h k =
      submit _ forms s script reply other new another h k
  determined forms s events.StartRun reply other new another classes once by_number h k =
      start s s.running s.dormant reply other new another h k
  determined forms s (events.Begin tx) reply other new another classes once by_number h k =
      begins s by_number tx (active_member s tx) reply other new another refl h k
  determined forms s (events.Finish done) reply other new another classes once by_number h k =
      finish s done reply other new another once h k
  determined forms s events.Pick reply other new another classes once by_number h k =
      pick s reply other new another by_number classes h k
  determined forms s (events.JoinAnswer done) reply other new another classes once by_number h k =
      join s done reply other new another once h k
  determined forms s events.BreakCycle reply other new another classes once by_number h k =
      break s reply other new another h k
  determined forms s events.EndRun reply other new another classes once by_number h k =
      end_run s s.running reply other new another h k
  determined forms s events.Recall reply other new another classes once by_number h k =
      both _ _ _ _ _ _ h.0 h.1 k.0 k.1
