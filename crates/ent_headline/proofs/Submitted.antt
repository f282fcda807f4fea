-- The form of each script that was submitted is what it resolves to.
use Rattle.std.proofs.Common.{◌≡◌, ℕ, zero, suc, Bool, true, false, ◌||◌, List, [], ◌∷◌, refl, sym, subst}
use Rattle.std.proofs.Common.{Option, Some, None, Result, Ok, Err, inl, inr, Contains}
use Rattle.std.specs.Prelude.{nat_le, length}
use Rattle.std.specs.List.{AllByRecursion}
use Rattle.ent_value.specs.declared.value.Value.{Value}
use Rattle.ent_tree.specs.declared.declaration.Opening.{Opening}
use Rattle.ent_tree.specs.declared.limits.TheConstants.{MOST_SCRIPTS}
use Rattle.ent_tree.specs.declared.script.Script.{Script}
use Rattle.ent_semantics.specs.declared.entangled.Entangled.{Entangled}
use Rattle.ent_semantics.specs.declared.operand.Known.{Known}
use Rattle.ent_semantics.specs.declared.statement.Statement.{Statement}
use Rattle.ent_semantics.specs.Pool.{Posted}
use Rattle.ent_protocol.specs.Begin.{BeginsOrdinary, Posts, BeginsEntangled, BeginsCommit, BeginsNext, BeginsUnless}
use Rattle.ent_protocol.specs.Begin.{BeginsMember}
use Rattle.ent_protocol.specs.Commit.{preparing, is_ready}
use Rattle.ent_protocol.specs.Event.{Event, Reply}
use Rattle.ent_protocol.specs.Event as events
use Rattle.ent_protocol.specs.Finish.{FinishesBy, Finishes}
use Rattle.ent_protocol.specs.Job.{Outcome, Shown, Changed, Bound, Choice, Fault, Done}
use Rattle.ent_protocol.specs.Member.{Next, Ordinary, Asks, Commits, RollsBack, active_member, next_of, is_lent}
use Rattle.ent_protocol.specs.PoolEvents.{Picks, AnswersBy, JoinsOrIsStale}
use Rattle.ent_protocol.specs.Reached.{opened, LeadsTo, IsReached}
use Rattle.ent_protocol.specs.Run.{Forms, SubmitsForm, SubmitsUnless, StartsWith, BreaksIfAny, EndsWhileRunning}
use Rattle.ent_protocol.specs.State.{State, Submitted, Member, Dormant}
use Rattle.ent_protocol.specs.Step.{Step}
use Rattle.ent_protocol.specs.Uses.{statement_uses, entangled_uses, blocker}
use Rattle.ent_semantics.specs.Entangled.{Valuation}
use Rattle.ent_lists.specs.Elements.{of_all, contains_in}
use Rattle.ent_lists.proofs.Lists.{all_behind}

module _ {F : Type 0} (forms : Forms F) where
  abbrev IsResolved : Opening → Submitted → Type 0
  IsResolved opening own = forms.resolve opening own.script ≡ Ok own.form

  abbrev AreResolved : State → Type 0
  AreResolved s = AllByRecursion (IsResolved s.opening) s.submitted

  as_is : (s new : State) → new ≡ s → AreResolved s → AreResolved new
  as_is s new e h = subst AreResolved (sym e) h

  -- ---- a member begins

  ordinary : (s : State) (m : Member) (c : Statement Value) (blocked : Option ℕ) (reply : Reply F) (new : State)
      → BeginsOrdinary s m c blocked reply new → AreResolved s → AreResolved new
  ordinary s m c (Some holder) reply new step h = as_is s new step.1 h
  ordinary s m c None reply new step h = as_is _ new step.1 h

  posts : (s : State) (m : Member) (asked : Entangled Value) (reply : Reply F) (new : State)
      → Posts s m asked reply new → AreResolved s → AreResolved new
  posts s m asked reply new (inl step) h = as_is _ new step.2 h
  posts s m asked reply new (inr step) h = as_is s new step.2.1 h

  entangled : (s : State) (m : Member) (asked : Entangled Value) (blocked : Option ℕ) (reply : Reply F) (new : State)
      → BeginsEntangled s m asked blocked reply new → AreResolved s → AreResolved new
  entangled s m asked (Some holder) reply new step h = as_is s new step.1 h
  entangled s m asked None reply new step h = posts s m asked reply new step h

  commit : (prepared : State) (group : ℕ) (ready : Bool) (reply : Reply F) (new : State)
      → BeginsCommit prepared group ready reply new → AreResolved prepared → AreResolved new
  commit prepared group true reply new step h = as_is _ new step.1 h
  commit prepared group false reply new step h = as_is prepared new step.1 h

  next_step : (s : State) (m : Member) (is : Next) (reply : Reply F) (new : State) → BeginsNext s m is reply new
      → AreResolved s → AreResolved new
  next_step s m (Ordinary c) reply new step h = ordinary s m c (blocker s m (statement_uses c)) reply new step h
  next_step s m (Asks asked) reply new step h =
      entangled s m asked (blocker s m (entangled_uses asked)) reply new step h
  next_step s m Commits reply new step h =
      commit (preparing s m) m.group (is_ready (preparing s m) m.group) reply new step h
  next_step s m RollsBack reply new step h = as_is _ new step.1 h

  unless : (busy : Bool) (s : State) (m : Member) (reply : Reply F) (new : State)
      → BeginsUnless busy s m reply new → AreResolved s → AreResolved new
  unless true s m reply new step h = as_is s new step.1 h
  unless false s m reply new step h = next_step s m (next_of s m) reply new step h

  begins : (s : State) (tx : ℕ) (member : Option Member) (reply : Reply F) (new : State)
      → BeginsMember s tx member reply new → AreResolved s → AreResolved new
  begins s tx (Some m) reply new step h = unless (m.posted || is_lent s tx) s m reply new step h
  begins s tx None reply new step h = as_is s new step.1 h

  -- ---- results

  by_outcome : (s : State) (m : Member) (c : Statement Value) (outcome : Outcome) (reply : Reply F) (new : State)
      → FinishesBy s m c outcome reply new → AreResolved s → AreResolved new
  by_outcome s m c (Fault failure) reply new step h = as_is _ new step.1 h
  by_outcome s m c (Shown rows) reply new step h = as_is _ new step.1 h
  by_outcome s m c (Changed count removed added) reply new step h = as_is _ new step.1 h
  by_outcome s m c (Bound value) reply new step h = as_is _ new step.1 h
  by_outcome s m c (Choice groundings) reply new step h = absurd step

  finish : (s : State) (done : Done) (reply : Reply F) (new : State) → Finishes s done reply new
      → AreResolved s → AreResolved new
  finish s done reply new (inl step) h =
      by_outcome (record s { lent = step.2.left }) step.2.member step.0.statement done.outcome reply new step.2.steps h
  finish s done reply new (inr step) h = as_is s new step.1.1 h

  answers_by : (s : State) (asked : List Posted) (groundings : Option (List Valuation)) (reply : Reply F)
      (new : State) → AnswersBy s asked groundings reply new → AreResolved s → AreResolved new
  answers_by s asked (Some groundings) reply new step h = as_is _ new step.1 h
  answers_by s asked None reply new step h = as_is _ new step.1 h

  join : (s : State) (done : Done) (reply : Reply F) (new : State) → JoinsOrIsStale s done reply new
      → AreResolved s → AreResolved new
  join s done reply new (inl step) h =
      answers_by (record s { lent = step.outstanding.left }) step.outstanding.asked step.groundings reply new
      step.answers h
  join s done reply new (inr step) h = as_is s new step.1.1 h

  pick : (s : State) (reply : Reply F) (new : State) → Picks s reply new → AreResolved s → AreResolved new
  pick s reply new (inl step) h = as_is _ new step.is h
  pick s reply new (inr step) h = as_is s new step.1.1 h

  -- ---- scripts and runs

  submit_form : (s : State) (script : Script) (form : Result (List (Statement Known)) F) (reply : Reply F)
      (new : State) → forms.resolve s.opening script ≡ form → SubmitsForm s script form reply new
      → AreResolved s → AreResolved new
  submit_form s script (Ok form) reply new is step h =
      as_is _ new step.1
      (all_behind (IsResolved s.opening) s.submitted (record { script = script; form = form }) h is)
  submit_form s script (Err fault) reply new is step h = as_is s new step.1 h

  submit : (full : Bool) (s : State) (script : Script) (reply : Reply F) (new : State)
      → SubmitsUnless full forms s script reply new → AreResolved s → AreResolved new
  submit true s script reply new step h = as_is s new step.1 h
  submit false s script reply new step h =
      submit_form s script (forms.resolve s.opening script) reply new refl step h

  start : (s : State) (running : Bool) (dormant : List Dormant) (reply : Reply F) (new : State)
      → StartsWith s running dormant reply new → AreResolved s → AreResolved new
  start s true dormant reply new step h = as_is s new step.1 h
  start s false [] reply new step h = as_is s new step.1 h
  start s false (first ∷ more) reply new step h = as_is _ new step.1 h

  break : (s : State) (reply : Reply F) (new : State) → BreaksIfAny s reply new → AreResolved s → AreResolved new
  break s reply new (inl step) h = as_is _ new step.is h
  break s reply new (inr step) h = as_is s new step.1.1 h

  end_run : (s : State) (running : Bool) (reply : Reply F) (new : State) → EndsWhileRunning s running reply new
      → AreResolved s → AreResolved new
  end_run s false reply new step h = as_is s new step.1 h
  end_run s true reply new (inl step) h = as_is _ new step.2 h
  end_run s true reply new (inr step) h = as_is s new step.2.1 h

  stepped_on : (s : State) (event : Event) (reply : Reply F) (new : State) → Step forms s event reply new
      → AreResolved s → AreResolved new
  stepped_on s (events.Submit script) reply new step h =
      submit (nat_le MOST_SCRIPTS (length s.submitted)) s script reply new step h
  stepped_on s events.StartRun reply new step h = start s s.running s.dormant reply new step h
  stepped_on s (events.Begin tx) reply new step h = begins s tx (active_member s tx) reply new step h
  stepped_on s (events.Finish done) reply new step h = finish s done reply new step h
  stepped_on s events.Pick reply new step h = pick s reply new step h
  stepped_on s (events.JoinAnswer done) reply new step h = join s done reply new step h
  stepped_on s events.BreakCycle reply new step h = break s reply new step h
  stepped_on s events.EndRun reply new step h = end_run s s.running reply new step h
  stepped_on s events.Recall reply new step h = as_is _ new step.1 h

  led_on : (n : ℕ) (first last : State) → LeadsTo forms n first last → AreResolved first → AreResolved last
  led_on zero first last leads h = as_is first last leads h
  led_on (suc n) first last leads h =
      stepped_on leads.0 leads.1 leads.2 last leads.4 (led_on n first leads.0 leads.3 h)

  pub submitted_resolved : (s : State) (own : Submitted) → IsReached forms s → Contains s.submitted own
      → IsResolved s.opening own
  submitted_resolved s own reached there =
      of_all (IsResolved s.opening) s.submitted own (led_on reached.0 (opened s.opening) s reached.1 tt)
      (contains_in s.submitted own there)
