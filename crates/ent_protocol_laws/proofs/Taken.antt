-- Jobs that are lent one at a time, and results that come in at once.
use Rattle.std.proofs.Common.{◌≡◌, inl, inr, ℕ, Bool, true, false, cond, not, List, [], ◌∷◌, ◌++◌, refl, sym, ap}
use Rattle.std.proofs.Common.{subst, ◌∙◌, Option, Some, None}
use Rattle.std.specs.List.{filter}
use Rattle.ent_value.specs.declared.value.Value.{Value}
use Rattle.ent_semantics.specs.Entangled.{Valuation}
use Rattle.ent_semantics.specs.declared.entangled.Entangled.{Entangled}
use Rattle.ent_semantics.specs.declared.statement.Statement.{Statement}
use Rattle.ent_semantics.specs.Pool.{Posted}
use Rattle.ent_protocol.specs.Begin.{BeginsOrdinary, Posts, BeginsEntangled, BeginsCommit, BeginsNext, BeginsUnless}
use Rattle.ent_protocol.specs.Begin.{BeginsMember, single_job}
use Rattle.ent_protocol.specs.Commit.{preparing, is_ready}
use Rattle.ent_protocol.specs.Event.{Event, Reply}
use Rattle.ent_protocol.specs.Event as events
use Rattle.ent_protocol.specs.Finish.{FinishesBy, Finishes, IsOutstandingSingle, IsTaken}
use Rattle.ent_protocol.specs.Job.{Job, One, Single, Done, Outcome, Shown, Changed, Bound, Choice, Fault}
use Rattle.ent_protocol.specs.Member.{Next, Ordinary, Asks, Commits, RollsBack, active_member, is_prepared}
use Rattle.ent_protocol.specs.Member.{next_of}
use Rattle.ent_protocol.specs.PoolEvents.{AnswersBy, IsOutstandingJoint, IsPresentComponent, JoinsOrIsStale, Picks}
use Rattle.ent_protocol.specs.PoolEvents.{joint_job}
use Rattle.ent_protocol.specs.Rollback.{goes_with, group_members}
use Rattle.ent_protocol.specs.Run.{Forms}
use Rattle.ent_protocol.specs.State.{State, Member}
use Rattle.ent_protocol.specs.Step.{Step}
use Rattle.ent_protocol.specs.Uses.{statement_uses, entangled_uses, blocker}
use Rattle.ent_protocol_laws.specs.Replies.{lent_by}
use Rattle.ent_protocol_laws.specs.Lending.{IsJointTaken, IsLentAlone, IsSingleTaken}
use Rattle.ent_protocol_laws.proofs.Leaves.{Leaves, left_behind}

-- ---- a job that is the only one

empty_behind : (before behind : List Job) (job : Job) → [] ≡ before ++ job ∷ behind → ⊥
empty_behind [] behind job e = cc
empty_behind (x ∷ before) behind job e = cc

pub none_taken : (job : Job) (jobs left : List Job) → jobs ≡ [] → IsTaken job jobs left → ⊥
none_taken job jobs left none taken = empty_behind taken.before taken.behind job (sym none ∙ taken.is_there)

only_one : (before behind left : List Job) (job only : Job) → only ∷ [] ≡ before ++ job ∷ behind
    → left ≡ before ++ behind → left ≡ []
only_one [] behind left job only e others = let none : [] ≡ behind = cc in others ∙ sym none
only_one (x ∷ before) behind left job only e others =
    absurd (empty_behind before behind job (let rest : [] ≡ before ++ job ∷ behind = cc in rest))

taken_alone : (job only : Job) (jobs left : List Job) → jobs ≡ only ∷ [] → IsTaken job jobs left → left ≡ []
taken_alone job only jobs left alone taken =
    only_one taken.before taken.behind left job only (sym alone ∙ taken.is_there) taken.others

-- ---- what is lent

abbrev IsLentBy : Bool → Bool → List Job → State → Type 0
IsLentBy added rolled jobs new = new.lent ≡ jobs

leaves_lent : (s : State) → s.lent ≡ [] → Leaves s IsLentBy
leaves_lent s none =
    record {
      same = none;
      submits = λ script form. none;
      starts = λ first more off asleep. none;
      lends = λ m c at. ap (λ jobs. jobs ++ single_job s m c ∷ []) none;
      posts = λ m c at. none;
      prepares = λ m at. none;
      commits = λ m at ready. none;
      rolls_back = λ group cause. ap (filter (λ job. not (goes_with (group_members s group) job))) none;
      fails = λ left group cause back. absurd (none_taken back.job s.lent left none back.taken);
      finishes = λ left m c outcome back at. absurd (none_taken back.job s.lent left none back.taken);
      picks = λ asked. ap (λ jobs. jobs ++ joint_job s asked ∷ []) none;
      joins = λ left asked groundings back. absurd (none_taken back.job s.lent left none back.taken);
      tries = λ left asked back. absurd (none_taken back.job s.lent left none back.taken);
      ends = λ on. refl;
      recalls = refl;
    }

abbrev IsSingle : Job → Type 0
IsSingle job = (single : Single) × (job.work ≡ One single)

still_present : (s new : State) (jobs : List Job) (asked : List Posted) → new ≡ record s { lent = jobs }
    → IsPresentComponent s asked → IsPresentComponent new asked
still_present s new jobs asked is h =
    subst (λ (x : State). IsPresentComponent x asked) (sym is) h

module _ {F : Type 0} where
  pub lent_behind : (forms : Forms F) (s : State) (event : Event) (reply : Reply F) (new : State) → s.lent ≡ []
      → Step forms s event reply new → new.lent ≡ lent_by reply
  lent_behind forms s event reply new none step =
      left_behind s IsLentBy (leaves_lent s none) forms event reply new step

  alone : (forms : Forms F) (s : State) (event : Event) (done : Done) (lent : State)
      → IsLentAlone forms s event done lent → lent.lent ≡ done.job ∷ []
  alone forms s event done lent h = lent_behind forms s event (events.Lent done.job) lent h.none_lent h.lends

  is_taken : (forms : Forms F) (s : State) (event : Event) (done : Done) (lent : State)
      → IsLentAlone forms s event done lent → IsTaken done.job lent.lent []
  is_taken forms s event done lent h =
      record { before = []; behind = []; is_there = alone forms s event done lent h; others = refl }

  -- ---- whose job a begin lends

  -- a reply that lends a job of a statement, or none
  abbrev LendsSingle : Reply F → Type 0
  LendsSingle (events.Lent job) = IsSingle job
  LendsSingle other = Unit {0}

  said : (reply is : Reply F) → reply ≡ is → LendsSingle is → LendsSingle reply
  said reply is e h = subst LendsSingle (sym e) h

  of_ordinary : (s : State) (m : Member) (c : Statement Value) (blocked : Option ℕ) (reply : Reply F) (new : State)
      → BeginsOrdinary s m c blocked reply new → LendsSingle reply
  of_ordinary s m c (Some holder) reply new step = said reply _ step.0 tt
  of_ordinary s m c None reply new step = said reply (events.Lent (single_job s m c)) step.0 (_, refl)

  of_post : (s : State) (m : Member) (asked : Entangled Value) (reply : Reply F) (new : State)
      → Posts s m asked reply new → LendsSingle reply
  of_post s m asked reply new (inl step) = said reply _ step.1 tt
  of_post s m asked reply new (inr step) = said reply _ step.2.0 tt

  of_entangled : (s : State) (m : Member) (asked : Entangled Value) (blocked : Option ℕ) (reply : Reply F)
      (new : State) → BeginsEntangled s m asked blocked reply new → LendsSingle reply
  of_entangled s m asked (Some holder) reply new step = said reply _ step.0 tt
  of_entangled s m asked None reply new step = of_post s m asked reply new step

  of_commit : (prepared : State) (group : ℕ) (ready : Bool) (reply : Reply F) (new : State)
      → BeginsCommit prepared group ready reply new → LendsSingle reply
  of_commit prepared group true reply new step = said reply _ step.0 tt
  of_commit prepared group false reply new step = said reply _ step.0 tt

  of_next : (s : State) (m : Member) (is : Next) (reply : Reply F) (new : State) → BeginsNext s m is reply new
      → LendsSingle reply
  of_next s m (Ordinary c) reply new step = of_ordinary s m c (blocker s m (statement_uses c)) reply new step
  of_next s m (Asks asked) reply new step = of_entangled s m asked (blocker s m (entangled_uses asked)) reply new step
  of_next s m Commits reply new step =
      of_commit (preparing s m) m.group (is_ready (preparing s m) m.group) reply new step
  of_next s m RollsBack reply new step = said reply _ step.0 tt

  of_unless : (busy : Bool) (s : State) (m : Member) (reply : Reply F) (new : State) → BeginsUnless busy s m reply new
      → LendsSingle reply
  of_unless true s m reply new step = said reply _ step.0 tt
  of_unless false s m reply new step = of_next s m (next_of s m) reply new step

  of_nobody : (prepared : Bool) (reply : Reply F) → reply ≡ cond prepared events.NotNow events.Absent
      → LendsSingle reply
  of_nobody true reply e = said reply _ e tt
  of_nobody false reply e = said reply _ e tt

  of_member : (s : State) (tx : ℕ) (member : Option Member) (reply : Reply F) (new : State)
      → BeginsMember s tx member reply new → LendsSingle reply
  of_member s tx (Some m) reply new step = of_unless _ s m reply new step
  of_member s tx None reply new step = of_nobody (is_prepared s tx) reply step.0

  pub single_out : (forms : Forms F) (s : State) (tx : ℕ) (done : Done) (lent : State)
      → IsLentAlone forms s (events.Begin tx) done lent → IsOutstandingSingle lent done
  single_out forms s tx done lent h =
      let of_job = of_member s tx (active_member s tx) (events.Lent done.job) lent h.lends in
      (of_job.0, [], of_job.1, is_taken forms s (events.Begin tx) done lent h)

  -- ---- its result comes in

  single_said : (reply is : Reply F) → reply ≡ is → IsSingleTaken is → IsSingleTaken reply
  single_said reply is e h = subst IsSingleTaken (sym e) h

  taken_by : (s : State) (m : Member) (c : Statement Value) (outcome : Outcome) (reply : Reply F) (new : State)
      → FinishesBy s m c outcome reply new → IsSingleTaken reply
  taken_by s m c (Fault failure) reply new step = single_said reply _ step.0 tt
  taken_by s m c (Shown rows) reply new step = single_said reply _ step.0 tt
  taken_by s m c (Changed count removed added) reply new step = single_said reply _ step.0 tt
  taken_by s m c (Bound value) reply new step = single_said reply _ step.0 tt
  taken_by s m c (Choice groundings) reply new step = absurd step

  pub single_taken : (s : State) (done : Done) (reply : Reply F) (new : State) → IsOutstandingSingle s done
      → Finishes s done reply new → IsSingleTaken reply
  single_taken s done reply new out (inl step) =
      taken_by _ step.2.member step.0.statement done.outcome reply new step.2.steps
  single_taken s done reply new out (inr step) = absurd (step.0 out)

  returned_by : (s : State) (m : Member) (c : Statement Value) (outcome : Outcome) (reply : Reply F) (new : State)
      → s.lent ≡ [] → FinishesBy s m c outcome reply new → new.lent ≡ []
  returned_by s m c (Fault failure) reply new none step =
      ap (λ (x : State). x.lent) step.1 ∙ ap (filter (λ job. not (goes_with (group_members s m.group) job))) none
  returned_by s m c (Shown rows) reply new none step = ap (λ (x : State). x.lent) step.1 ∙ none
  returned_by s m c (Changed count removed added) reply new none step = ap (λ (x : State). x.lent) step.1 ∙ none
  returned_by s m c (Bound value) reply new none step = ap (λ (x : State). x.lent) step.1 ∙ none
  returned_by s m c (Choice groundings) reply new none step = absurd step

  pub single_returned : (forms : Forms F) (s : State) (tx : ℕ) (done : Done) (lent : State) (reply : Reply F)
      (new : State) → IsLentAlone forms s (events.Begin tx) done lent → Finishes lent done reply new → new.lent ≡ []
  single_returned forms s tx done lent reply new h (inl step) =
      returned_by (record lent { lent = step.2.left }) step.2.member step.0.statement done.outcome reply new
      (taken_alone done.job done.job lent.lent step.2.left (alone forms s (events.Begin tx) done lent h) step.2.taken)
      step.2.steps
  single_returned forms s tx done lent reply new h (inr step) =
      absurd (step.0 (single_out forms s tx done lent h))

  -- ---- joint jobs

  same_job : (one other : Job) → ◌≡◌ {A = Reply F} (events.Lent one) (events.Lent other) → one ≡ other
  same_job one other e = cc

  nothing_lent : (job : Job) → ◌≡◌ {A = Reply F} (events.Lent job) events.Nothing → ⊥
  nothing_lent job e = cc

  pub joint_out : (forms : Forms F) (s : State) (done : Done) (lent : State)
      → IsLentAlone forms s events.Pick done lent → IsOutstandingJoint lent done
  joint_out forms s done lent h = by h.lends
    where
      by : Picks {F = F} s (events.Lent done.job) lent → IsOutstandingJoint lent done
      by (inl step) =
          record {
            asked = step.asked;
            is_joint = ap (λ (job : Job). job.work) (same_job done.job (joint_job s step.asked) step.replies);
            left = [];
            taken = is_taken forms s events.Pick done lent h;
            component =
                still_present s lent (s.lent ++ joint_job s step.asked ∷ []) step.asked step.is step.can.component;
          }
      by (inr step) = absurd (nothing_lent done.job step.1.0)

  joint_said : (reply is : Reply F) → reply ≡ is → IsJointTaken is → IsJointTaken reply
  joint_said reply is e h = subst IsJointTaken (sym e) h

  answered_by : (s : State) (asked : List Posted) (groundings : Option (List Valuation)) (reply : Reply F)
      (new : State) → AnswersBy s asked groundings reply new → IsJointTaken reply
  answered_by s asked (Some groundings) reply new step = joint_said reply _ step.0 tt
  answered_by s asked None reply new step = joint_said reply _ step.0 tt

  pub joint_taken : (s : State) (done : Done) (reply : Reply F) (new : State) → IsOutstandingJoint s done
      → JoinsOrIsStale s done reply new → IsJointTaken reply
  joint_taken s done reply new out (inl step) =
      answered_by _ step.outstanding.asked step.groundings reply new step.answers
  joint_taken s done reply new out (inr step) = absurd (step.0 out)

  joined_by : (s : State) (asked : List Posted) (groundings : Option (List Valuation)) (reply : Reply F)
      (new : State) → s.lent ≡ [] → AnswersBy s asked groundings reply new → new.lent ≡ []
  joined_by s asked (Some groundings) reply new none step = ap (λ (x : State). x.lent) step.1 ∙ none
  joined_by s asked None reply new none step = ap (λ (x : State). x.lent) step.1 ∙ none

  pub joint_returned : (forms : Forms F) (s : State) (done : Done) (lent : State) (reply : Reply F) (new : State)
      → IsLentAlone forms s events.Pick done lent → JoinsOrIsStale lent done reply new → new.lent ≡ []
  joint_returned forms s done lent reply new h (inl step) =
      let out = step.outstanding in
      joined_by (record lent { lent = out.left }) out.asked step.groundings reply new
      (taken_alone done.job done.job lent.lent out.left (alone forms s events.Pick done lent h) out.taken)
      step.answers
  joint_returned forms s done lent reply new h (inr step) = absurd (step.0 (joint_out forms s done lent h))
