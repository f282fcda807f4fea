-- A run that is on stays on but for its end.
use Rattle.std.proofs.Common.{◌≡◌, ◌∙◌, inl, inr, ℕ, Bool, true, false, List, refl, sym, ap}
use Rattle.std.proofs.Common.{Option, Some, None, Result, Ok, Err}
use Rattle.ent_value.specs.declared.value.Value.{Value}
use Rattle.ent_tree.specs.declared.script.Script.{Script}
use Rattle.ent_semantics.specs.Entangled.{Valuation}
use Rattle.ent_semantics.specs.declared.entangled.Entangled.{Entangled}
use Rattle.ent_semantics.specs.declared.operand.Known.{Known}
use Rattle.ent_semantics.specs.declared.statement.Statement.{Statement}
use Rattle.ent_semantics.specs.Pool.{Posted}
use Rattle.ent_protocol.specs.Begin.{BeginsOrdinary, Posts, BeginsEntangled, BeginsCommit, BeginsNext, BeginsUnless}
use Rattle.ent_protocol.specs.Begin.{BeginsMember, lending, posting}
use Rattle.ent_protocol.specs.Commit.{preparing, committing, is_ready}
use Rattle.ent_protocol.specs.Event.{Event, Reply}
use Rattle.ent_protocol.specs.Event as events
use Rattle.ent_protocol.specs.Finish.{FinishesBy, Finishes}
use Rattle.ent_protocol.specs.Job.{Job, Done, Outcome, Shown, Changed, Bound, Choice, Fault}
use Rattle.ent_protocol.specs.Member.{Next, Ordinary, Asks, Commits, RollsBack, active_member, next_of}
use Rattle.ent_protocol.specs.PoolEvents.{Picks, AnswersBy, JoinsOrIsStale}
use Rattle.ent_protocol.specs.Run.{Forms, SubmitsForm, SubmitsUnless, StartsWith, submitting, BreaksIfAny}
use Rattle.ent_protocol.specs.State.{State, Member, Dormant}
use Rattle.ent_protocol.specs.Step.{Step}
use Rattle.ent_protocol.specs.Uses.{statement_uses, entangled_uses, blocker}

-- a flag is not both
pub clash : {A : Type 0} {b : Bool} → b ≡ true → b ≡ false → A
clash {A} {b} on off = absurd (apart (sym on ∙ off))
  where
    apart : true ≡ false → ⊥
    apart e = cc

-- all events but the one that ends a run
abbrev pub goes_within : Event → Bool
goes_within events.EndRun = false
goes_within other = true

-- a run is on where one was
abbrev Stays : State → State → Type 0
Stays s new = new.running ≡ s.running

like : (s new is : State) → new ≡ is → Stays s is → Stays s new
like s new is e h = ap (λ (x : State). x.running) e ∙ h

module _ {F : Type 0} (s : State) where
  -- ---- begin

  ordinary : (m : Member) (c : Statement Value) (blocked : Option ℕ) (reply : Reply F) (new : State)
      → BeginsOrdinary s m c blocked reply new → Stays s new
  ordinary m c (Some holder) reply new step = like s new s step.1 refl
  ordinary m c None reply new step = like s new (lending s m c) step.1 refl

  posts : (m : Member) (asked : Entangled Value) (reply : Reply F) (new : State)
      → Posts s m asked reply new → Stays s new
  posts m asked reply new (inl step) = like s new (posting s m asked) step.2 refl
  posts m asked reply new (inr step) = like s new s step.2.1 refl

  entangled : (m : Member) (asked : Entangled Value) (blocked : Option ℕ) (reply : Reply F) (new : State)
      → BeginsEntangled s m asked blocked reply new → Stays s new
  entangled m asked (Some holder) reply new step = like s new s step.1 refl
  entangled m asked None reply new step = posts m asked reply new step

  commit : (m : Member) (ready : Bool) (reply : Reply F) (new : State)
      → BeginsCommit (preparing s m) m.group ready reply new → Stays s new
  commit m true reply new step = like s new (committing (preparing s m) m.group) step.1 refl
  commit m false reply new step = like s new (preparing s m) step.1 refl

  next_step : (m : Member) (is : Next) (reply : Reply F) (new : State) → BeginsNext s m is reply new → Stays s new
  next_step m (Ordinary c) reply new step = ordinary m c (blocker s m (statement_uses c)) reply new step
  next_step m (Asks asked) reply new step = entangled m asked (blocker s m (entangled_uses asked)) reply new step
  next_step m Commits reply new step = commit m (is_ready (preparing s m) m.group) reply new step
  next_step m RollsBack reply new step = like s new _ step.1 refl

  unless : (busy : Bool) (m : Member) (reply : Reply F) (new : State) → BeginsUnless busy s m reply new → Stays s new
  unless true m reply new step = like s new s step.1 refl
  unless false m reply new step = next_step m (next_of s m) reply new step

  begins : (tx : ℕ) (member : Option Member) (reply : Reply F) (new : State) → BeginsMember s tx member reply new
      → Stays s new
  begins tx (Some m) reply new step = unless _ m reply new step
  begins tx None reply new step = like s new s step.1 refl

  -- ---- results

  by_outcome : (m : Member) (left : List Job) (c : Statement Value) (outcome : Outcome) (reply : Reply F) (new : State)
      → FinishesBy (record s { lent = left }) m c outcome reply new → Stays s new
  by_outcome m left c (Fault failure) reply new step = like s new _ step.1 refl
  by_outcome m left c (Shown rows) reply new step = like s new _ step.1 refl
  by_outcome m left c (Changed count removed added) reply new step = like s new _ step.1 refl
  by_outcome m left c (Bound value) reply new step = like s new _ step.1 refl
  by_outcome m left c (Choice groundings) reply new step = absurd step

  finish : (done : Done) (reply : Reply F) (new : State) → Finishes s done reply new → Stays s new
  finish done reply new (inl step) =
      let h = step.2 in
      by_outcome h.member h.left step.0.statement done.outcome reply new h.steps
  finish done reply new (inr step) = like s new s step.1.1 refl

  answers_by : (left : List Job) (asked : List Posted) (groundings : Option (List Valuation)) (reply : Reply F)
      (new : State) → AnswersBy (record s { lent = left }) asked groundings reply new → Stays s new
  answers_by left asked (Some groundings) reply new step = like s new _ step.1 refl
  answers_by left asked None reply new step = like s new _ step.1 refl

  join : (done : Done) (reply : Reply F) (new : State) → JoinsOrIsStale s done reply new → Stays s new
  join done reply new (inl step) =
      answers_by step.outstanding.left step.outstanding.asked step.groundings reply new step.answers
  join done reply new (inr step) = like s new s step.1.1 refl

  pick : (reply : Reply F) (new : State) → Picks s reply new → Stays s new
  pick reply new (inl step) = like s new _ step.is refl
  pick reply new (inr step) = like s new s step.1.1 refl

  -- ---- scripts and runs

  submits_form : (script : Script) (form : Result (List (Statement Known)) F) (reply : Reply F) (new : State)
      → SubmitsForm s script form reply new → Stays s new
  submits_form script (Ok form) reply new step = like s new (submitting s script form) step.1 refl
  submits_form script (Err fault) reply new step = like s new s step.1 refl

  submit : (full : Bool) (forms : Forms F) (script : Script) (reply : Reply F) (new : State)
      → SubmitsUnless full forms s script reply new → Stays s new
  submit true forms script reply new step = like s new s step.1 refl
  submit false forms script reply new step = submits_form script (forms.resolve s.opening script) reply new step

  start : (running : Bool) (dormant : List Dormant) (reply : Reply F) (new : State) → running ≡ true
      → StartsWith s running dormant reply new → Stays s new
  start true dormant reply new on step = like s new s step.1 refl
  start false dormant reply new on step = clash on refl

  break : (reply : Reply F) (new : State) → BreaksIfAny s reply new → Stays s new
  break reply new (inl step) = like s new _ step.is refl
  break reply new (inr step) = like s new s step.1.1 refl

  pub stays_on : (forms : Forms F) (event : Event) (reply : Reply F) (new : State) → Step forms s event reply new
      → goes_within event ≡ true → s.running ≡ true → new.running ≡ true
  stays_on forms (events.Submit script) reply new step within on = submit _ forms script reply new step ∙ on
  stays_on forms events.StartRun reply new step within on = start s.running s.dormant reply new on step ∙ on
  stays_on forms (events.Begin tx) reply new step within on =
      begins tx (active_member s tx) reply new step ∙ on
  stays_on forms (events.Finish done) reply new step within on = finish done reply new step ∙ on
  stays_on forms events.Pick reply new step within on = pick reply new step ∙ on
  stays_on forms (events.JoinAnswer done) reply new step within on = join done reply new step ∙ on
  stays_on forms events.BreakCycle reply new step within on = break reply new step ∙ on
  stays_on forms events.EndRun reply new step within on = clash {b = false} (within) refl
  stays_on forms events.Recall reply new step within on = like s new _ step.1 refl ∙ on
