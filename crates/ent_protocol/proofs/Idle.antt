-- A refusal leaves the state as it was.
use Rattle.std.proofs.Common.{◌≡◌, inl, inr, ℕ, Bool, true, false, List, [], ◌∷◌, Option, Some, None, Result, Ok, Err}
use Rattle.std.proofs.Common.{sym, ap, ◌∙◌, refl}
use Rattle.ent_value.specs.declared.value.Value.{Value}
use Rattle.ent_tree.specs.declared.script.Script.{Script}
use Rattle.ent_semantics.specs.Entangled.{Valuation}
use Rattle.ent_semantics.specs.declared.entangled.Entangled.{Entangled}
use Rattle.ent_semantics.specs.declared.operand.Known.{Known}
use Rattle.ent_semantics.specs.declared.statement.Statement.{Statement}
use Rattle.ent_semantics.specs.Pool.{Posted}
use Rattle.ent_protocol.specs.Begin.{BeginsOrdinary, Posts, BeginsEntangled, BeginsCommit, BeginsNext, BeginsUnless}
use Rattle.ent_protocol.specs.Begin.{BeginsMember}
use Rattle.ent_protocol.specs.Event.{Event, Reply}
use Rattle.ent_protocol.specs.Event as events
use Rattle.ent_protocol.specs.Finish.{FinishesBy, Finishes}
use Rattle.ent_protocol.specs.Job.{Done, Outcome, Shown, Changed, Bound, Choice, Fault}
use Rattle.ent_protocol.specs.Member.{Next, Ordinary, Asks, Commits, RollsBack}
use Rattle.ent_protocol.specs.Play.{is_idle}
use Rattle.ent_protocol.specs.PoolEvents.{Picks, AnswersBy, JoinsOrIsStale}
use Rattle.ent_protocol.specs.Run.{Forms, SubmitsForm, SubmitsUnless, StartsWith, BreaksIfAny, EndsWhileRunning}
use Rattle.ent_protocol.specs.State.{State, Member, Dormant}
use Rattle.ent_protocol.specs.Step.{Step}

module _ {F : Type 0} where
  -- a reply that isn't idle
  not_idle : {A : Type 0} (reply other : Reply F) → reply ≡ other → is_idle other ≡ false → is_idle reply ≡ true → A
  not_idle reply other e f h = absurd (different (sym f ∙ ap is_idle (sym e) ∙ h))
    where
      different : false ≡ true → ⊥
      different x = cc

  ordinary : (s : State) (member : Member) (statement : Statement Value) (blocked : Option ℕ) (reply : Reply F)
      (new : State) → BeginsOrdinary s member statement blocked reply new → is_idle reply ≡ true → new ≡ s
  ordinary s member statement (Some holder) reply new h idle = h.1
  ordinary s member statement None reply new h idle = not_idle reply _ h.0 refl idle

  posts : (s : State) (member : Member) (statement : Entangled Value) (reply : Reply F) (new : State)
      → Posts s member statement reply new → is_idle reply ≡ true → new ≡ s
  posts s member statement reply new (inl h) idle = not_idle reply _ h.1 refl idle
  posts s member statement reply new (inr h) idle = h.2.1

  entangled : (s : State) (member : Member) (statement : Entangled Value) (blocked : Option ℕ) (reply : Reply F)
      (new : State) → BeginsEntangled s member statement blocked reply new → is_idle reply ≡ true → new ≡ s
  entangled s member statement (Some holder) reply new h idle = h.1
  entangled s member statement None reply new h idle = posts s member statement reply new h idle

  commits : (s prepared : State) (group : ℕ) (ready : Bool) (reply : Reply F) (new : State)
      → BeginsCommit prepared group ready reply new → is_idle reply ≡ true → new ≡ s
  commits s prepared group true reply new h idle = not_idle reply _ h.0 refl idle
  commits s prepared group false reply new h idle = not_idle reply _ h.0 refl idle

  next : (s : State) (member : Member) (is : Next) (reply : Reply F) (new : State)
      → BeginsNext s member is reply new → is_idle reply ≡ true → new ≡ s
  next s member (Ordinary statement) reply new h idle = ordinary s member statement _ reply new h idle
  next s member (Asks statement) reply new h idle = entangled s member statement _ reply new h idle
  next s member Commits reply new h idle = commits s _ member.group _ reply new h idle
  next s member RollsBack reply new h idle = not_idle reply _ h.0 refl idle

  unless : (busy : Bool) (s : State) (member : Member) (reply : Reply F) (new : State)
      → BeginsUnless busy s member reply new → is_idle reply ≡ true → new ≡ s
  unless true s member reply new h idle = h.1
  unless false s member reply new h idle = next s member _ reply new h idle

  begins : (s : State) (tx : ℕ) (member : Option Member) (reply : Reply F) (new : State)
      → BeginsMember s tx member reply new → is_idle reply ≡ true → new ≡ s
  begins s tx (Some member) reply new h idle = unless _ s member reply new h idle
  begins s tx None reply new h idle = h.1

  finishes : (s before : State) (member : Member) (statement : Statement Value) (outcome : Outcome) (reply : Reply F)
      (new : State) → FinishesBy before member statement outcome reply new → is_idle reply ≡ true → new ≡ s
  finishes s before member statement (Fault failure) reply new h idle = not_idle reply _ h.0 refl idle
  finishes s before member statement (Shown rows) reply new h idle = not_idle reply _ h.0 refl idle
  finishes s before member statement (Changed count removed added) reply new h idle = not_idle reply _ h.0 refl idle
  finishes s before member statement (Bound value) reply new h idle = not_idle reply _ h.0 refl idle
  finishes s before member statement (Choice groundings) reply new h idle = absurd h

  finish : (s : State) (done : Done) (reply : Reply F) (new : State) → Finishes s done reply new
      → is_idle reply ≡ true → new ≡ s
  finish s done reply new (inl h) idle =
      finishes s (record s { lent = h.2.left }) h.2.member h.0.statement done.outcome reply new h.2.steps idle
  finish s done reply new (inr h) idle = h.1.1

  picks : (s : State) (reply : Reply F) (new : State) → Picks s reply new → is_idle reply ≡ true → new ≡ s
  picks s reply new (inl h) idle = not_idle reply _ h.replies refl idle
  picks s reply new (inr h) idle = h.1.1

  answers : (s before : State) (asked : List Posted) (groundings : Option (List Valuation)) (reply : Reply F)
      (new : State) → AnswersBy before asked groundings reply new → is_idle reply ≡ true → new ≡ s
  answers s before asked (Some groundings) reply new h idle = not_idle reply _ h.0 refl idle
  answers s before asked None reply new h idle = not_idle reply _ h.0 refl idle

  joins : (s : State) (done : Done) (reply : Reply F) (new : State) → JoinsOrIsStale s done reply new
      → is_idle reply ≡ true → new ≡ s
  joins s done reply new (inl h) idle = answers s _ h.outstanding.asked h.groundings reply new h.answers idle
  joins s done reply new (inr h) idle = h.1.1

  submits_form : (s : State) (script : Script) (form : Result (List (Statement Known)) F) (reply : Reply F)
      (new : State) → SubmitsForm s script form reply new → is_idle reply ≡ true → new ≡ s
  submits_form s script (Ok form) reply new h idle = not_idle reply _ h.0 refl idle
  submits_form s script (Err fault) reply new h idle = h.1

  submits : (full : Bool) (forms : Forms F) (s : State) (script : Script) (reply : Reply F) (new : State)
      → SubmitsUnless full forms s script reply new → is_idle reply ≡ true → new ≡ s
  submits true forms s script reply new h idle = h.1
  submits false forms s script reply new h idle = submits_form s script _ reply new h idle

  starts : (s : State) (running : Bool) (dormant : List Dormant) (reply : Reply F) (new : State)
      → StartsWith s running dormant reply new → is_idle reply ≡ true → new ≡ s
  starts s true dormant reply new h idle = h.1
  starts s false [] reply new h idle = h.1
  starts s false (first ∷ more) reply new h idle = not_idle reply _ h.0 refl idle

  breaks : (s : State) (reply : Reply F) (new : State) → BreaksIfAny s reply new → is_idle reply ≡ true → new ≡ s
  breaks s reply new (inl h) idle = not_idle reply _ h.replies refl idle
  breaks s reply new (inr h) idle = h.1.1

  ends : (s : State) (running : Bool) (reply : Reply F) (new : State) → EndsWhileRunning s running reply new
      → is_idle reply ≡ true → new ≡ s
  ends s false reply new h idle = h.1
  ends s true reply new (inl h) idle = not_idle reply _ h.1 refl idle
  ends s true reply new (inr h) idle = h.2.1

  pub idle_kept : (forms : Forms F) (s : State) (event : Event) (reply : Reply F) (new : State)
      → Step forms s event reply new → is_idle reply ≡ true → new ≡ s
  idle_kept forms s (events.Submit script) reply new h idle = submits _ forms s script reply new h idle
  idle_kept forms s events.StartRun reply new h idle = starts s _ _ reply new h idle
  idle_kept forms s (events.Begin tx) reply new h idle = begins s tx _ reply new h idle
  idle_kept forms s (events.Finish done) reply new h idle = finish s done reply new h idle
  idle_kept forms s events.Pick reply new h idle = picks s reply new h idle
  idle_kept forms s (events.JoinAnswer done) reply new h idle = joins s done reply new h idle
  idle_kept forms s events.BreakCycle reply new h idle = breaks s reply new h idle
  idle_kept forms s events.EndRun reply new h idle = ends s _ reply new h idle
  idle_kept forms s events.Recall reply new h idle = not_idle reply _ h.0 refl idle
