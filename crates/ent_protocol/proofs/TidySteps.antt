-- Members and changes are tidy in every state that is reached.
use Rattle.std.proofs.Common.{◌≡◌, inl, inr, ℕ, zero, suc, Bool, true, false, List, [], ◌∷◌}
use Rattle.std.proofs.Common.{refl, sym, ap, subst, Option, Some, None, Result, Ok, Err}
use Rattle.std.specs.List.{AllByRecursion}
use Rattle.ent_value.specs.declared.value.Value.{Value}
use Rattle.ent_tree.specs.declared.script.Script.{Script}
use Rattle.ent_semantics.specs.Entangled.{Valuation}
use Rattle.ent_semantics.specs.declared.entangled.Entangled.{Entangled}
use Rattle.ent_semantics.specs.declared.operand.Known.{Known}
use Rattle.ent_semantics.specs.declared.statement.Statement.{Statement}
use Rattle.ent_semantics.specs.Pool.{Posted}
use Rattle.ent_protocol.specs.Begin.{BeginsOrdinary, Posts, BeginsEntangled, BeginsCommit, BeginsNext, BeginsUnless}
use Rattle.ent_protocol.specs.Begin.{BeginsMember, lending, posting}
use Rattle.ent_protocol.specs.Commit.{preparing}
use Rattle.ent_protocol.specs.Event.{Event, Reply}
use Rattle.ent_protocol.specs.Event as events
use Rattle.ent_protocol.specs.Finish.{FinishesBy, Finishes, FinishesSingle}
use Rattle.ent_protocol.specs.Job.{Done, Single, Outcome, Shown, Changed, Bound, Choice, Fault}
use Rattle.ent_protocol.specs.Member.{Next, Ordinary, Asks, Commits, RollsBack, active_member}
use Rattle.ent_protocol.specs.PoolEvents.{Picks, AnswersBy, JoinsOrIsStale}
use Rattle.ent_protocol.specs.Reached.{opened, LeadsTo, IsReached, settled}
use Rattle.ent_protocol.specs.Rollback.{is_among, put_back, Asked, Failing, NoOne, group_members}
use Rattle.ent_protocol.specs.Run.{Forms, SubmitsForm, SubmitsUnless, StartsWith, starting, BreaksIfAny}
use Rattle.ent_protocol.specs.Run.{EndsWhileRunning}
use Rattle.ent_protocol.specs.State.{State, Member, Change, Dormant}
use Rattle.ent_protocol.specs.Step.{Step}
use Rattle.ent_protocol.specs.Tidy.{is_member, IsTidy}
use Rattle.ent_protocol.proofs.Among.{found_among}
use Rattle.ent_protocol.proofs.Tidied.{no_changes, one_replaced, out, all_out, found_on, prepares, commits, relent}
use Rattle.ent_protocol.proofs.Tidied.{finishes_tidy, joins}

as_it_is : (s new : State) → new ≡ s → IsTidy s → IsTidy new
as_it_is s new e h = subst IsTidy (sym e) h

starts_tidy : (s : State) → s.running ≡ false → IsTidy s → IsTidy (starting s)
starts_tidy s off h =
    record {
      no_prepared = λ e. absurd (different e);
      no_active = λ e. absurd (different e);
      owned = subst (λ cs. AllByRecursion (λ (c : Change). is_member (starting s) c.tx ≡ true) cs)
          (sym (no_changes s h off)) tt;
    }
  where
    different : true ≡ false → ⊥
    different x = cc

module _ {F : Type 0} where
  ordinary : (s : State) (member : Member) (statement : Statement Value) (blocked : Option ℕ) (reply : Reply F)
      (new : State) → BeginsOrdinary s member statement blocked reply new → IsTidy s → IsTidy new
  ordinary s member statement (Some holder) reply new step h = as_it_is s new step.1 h
  ordinary s member statement None reply new step h =
      as_it_is _ new step.1 (one_replaced s (lending s member statement) _ refl refl refl refl h)

  posts : (s : State) (member : Member) (statement : Entangled Value) (reply : Reply F) (new : State)
      → Posts s member statement reply new → IsTidy s → IsTidy new
  posts s member statement reply new (inl step) h =
      as_it_is _ new step.2 (one_replaced s (posting s member statement) _ refl refl refl refl h)
  posts s member statement reply new (inr step) h = as_it_is s new step.2.1 h

  entangled : (s : State) (member : Member) (statement : Entangled Value) (blocked : Option ℕ) (reply : Reply F)
      (new : State) → BeginsEntangled s member statement blocked reply new → IsTidy s → IsTidy new
  entangled s member statement (Some holder) reply new step h = as_it_is s new step.1 h
  entangled s member statement None reply new step h = posts s member statement reply new step h

  commit : (prepared : State) (group : ℕ) (ready : Bool) (reply : Reply F) (new : State)
      → BeginsCommit prepared group ready reply new → IsTidy prepared → (prepared.running ≡ false → ⊥) → IsTidy new
  commit prepared group true reply new step h on = as_it_is _ new step.1 (commits prepared group h on)
  commit prepared group false reply new step h on = as_it_is prepared new step.1 h

  next : (s : State) (member : Member) (is : Next) (reply : Reply F) (new : State)
      → BeginsNext s member is reply new → IsTidy s → (s.running ≡ false → ⊥) → IsTidy new
  next s member (Ordinary statement) reply new step h on = ordinary s member statement _ reply new step h
  next s member (Asks statement) reply new step h on = entangled s member statement _ reply new step h
  next s member Commits reply new step h on =
      commit (preparing s member) member.group _ reply new step (prepares s member h on) on
  next s member RollsBack reply new step h on =
      as_it_is _ new step.1 (out (group_members s member.group) (Asked member.tx) s h)

  unless : (busy : Bool) (s : State) (member : Member) (reply : Reply F) (new : State)
      → BeginsUnless busy s member reply new → IsTidy s → (s.running ≡ false → ⊥) → IsTidy new
  unless true s member reply new step h on = as_it_is s new step.1 h
  unless false s member reply new step h on = next s member _ reply new step h on

  begins : (s : State) (tx : ℕ) (member : Option Member) (reply : Reply F) (new : State)
      → active_member s tx ≡ member → BeginsMember s tx member reply new → IsTidy s → IsTidy new
  begins s tx (Some member) reply new found step h =
      unless _ s member reply new step h (found_on s tx member h found)
  begins s tx None reply new found step h = as_it_is s new step.1 h

  finishes : (s : State) (member : Member) (statement : Statement Value) (outcome : Outcome) (reply : Reply F)
      (new : State) → FinishesBy s member statement outcome reply new → IsTidy s
      → (is_among s.active member.tx ≡ true) → IsTidy new
  finishes s member statement (Fault failure) reply new step h there =
      as_it_is _ new step.1 (out (group_members s member.group) (Failing member.tx failure) s h)
  finishes s member statement (Shown rows) reply new step h there =
      as_it_is _ new step.1 (finishes_tidy s member statement (Shown rows) there h)
  finishes s member statement (Changed count removed added) reply new step h there =
      as_it_is _ new step.1 (finishes_tidy s member statement (Changed count removed added) there h)
  finishes s member statement (Bound value) reply new step h there =
      as_it_is _ new step.1 (finishes_tidy s member statement (Bound value) there h)
  finishes s member statement (Choice groundings) reply new step h there = absurd step

  single : (s : State) (done : Done) (of_job : Single) (reply : Reply F) (new : State)
      → FinishesSingle s done of_job reply new → IsTidy s → IsTidy new
  single s done of_job reply new step h =
      let found = found_among of_job.tx s.active step.member step.is_member in
      finishes (record s { lent = step.left }) step.member of_job.statement done.outcome reply new step.steps
      (relent s step.left h) (subst (λ tx. is_among s.active tx ≡ true) (sym found.0) found.1)

  finish : (s : State) (done : Done) (reply : Reply F) (new : State) → Finishes s done reply new
      → IsTidy s → IsTidy new
  finish s done reply new (inl step) h = single s done step.0 reply new step.2 h
  finish s done reply new (inr step) h = as_it_is s new step.1.1 h

  picks : (s : State) (reply : Reply F) (new : State) → Picks s reply new → IsTidy s → IsTidy new
  picks s reply new (inl step) h = as_it_is _ new step.is (relent s _ h)
  picks s reply new (inr step) h = as_it_is s new step.1.1 h

  answers : (s : State) (asked : List Posted) (groundings : Option (List Valuation)) (reply : Reply F)
      (new : State) → AnswersBy s asked groundings reply new → IsTidy s → IsTidy new
  answers s asked (Some groundings) reply new step h = as_it_is _ new step.1 (joins s asked groundings h)
  answers s asked None reply new step h =
      as_it_is _ new step.1
      (record { no_prepared = h.no_prepared; no_active = h.no_active; owned = h.owned })

  join : (s : State) (done : Done) (reply : Reply F) (new : State) → JoinsOrIsStale s done reply new
      → IsTidy s → IsTidy new
  join s done reply new (inl step) h =
      answers (record s { lent = step.outstanding.left }) step.outstanding.asked step.groundings reply new step.answers
      (relent s step.outstanding.left h)
  join s done reply new (inr step) h = as_it_is s new step.1.1 h

  submits_form : (s : State) (script : Script) (form : Result (List (Statement Known)) F) (reply : Reply F)
      (new : State) → SubmitsForm s script form reply new → IsTidy s → IsTidy new
  submits_form s script (Ok form) reply new step h =
      as_it_is _ new step.1
      (record { no_prepared = h.no_prepared; no_active = h.no_active; owned = h.owned })
  submits_form s script (Err fault) reply new step h = as_it_is s new step.1 h

  submits : (full : Bool) (forms : Forms F) (s : State) (script : Script) (reply : Reply F) (new : State)
      → SubmitsUnless full forms s script reply new → IsTidy s → IsTidy new
  submits true forms s script reply new step h = as_it_is s new step.1 h
  submits false forms s script reply new step h = submits_form s script _ reply new step h

  starts : (s : State) (running : Bool) (dormant : List Dormant) (reply : Reply F) (new : State)
      → s.running ≡ running → StartsWith s running dormant reply new → IsTidy s → IsTidy new
  starts s true dormant reply new e step h = as_it_is s new step.1 h
  starts s false [] reply new e step h = as_it_is s new step.1 h
  starts s false (first ∷ more) reply new e step h = as_it_is (starting s) new step.1 (starts_tidy s e h)

  breaks : (s : State) (reply : Reply F) (new : State) → BreaksIfAny s reply new → IsTidy s → IsTidy new
  breaks s reply new (inl step) h =
      as_it_is _ new step.is (out (group_members s step.victim.group) NoOne s h)
  breaks s reply new (inr step) h = as_it_is s new step.1.1 h

  ends : (s : State) (running : Bool) (reply : Reply F) (new : State) → EndsWhileRunning s running reply new
      → IsTidy s → IsTidy new
  ends s false reply new step h = as_it_is s new step.1 h
  ends s true reply new (inl step) h = as_it_is _ new step.2 (all_out s h)
  ends s true reply new (inr step) h = as_it_is s new step.2.1 h

  pub tidied : (forms : Forms F) (s : State) (event : Event) (reply : Reply F) (new : State)
      → Step forms s event reply new → IsTidy s → IsTidy new
  tidied forms s (events.Submit script) reply new step h = submits _ forms s script reply new step h
  tidied forms s events.StartRun reply new step h = starts s s.running s.dormant reply new refl step h
  tidied forms s (events.Begin tx) reply new step h = begins s tx (active_member s tx) reply new refl step h
  tidied forms s (events.Finish done) reply new step h = finish s done reply new step h
  tidied forms s events.Pick reply new step h = picks s reply new step h
  tidied forms s (events.JoinAnswer done) reply new step h = join s done reply new step h
  tidied forms s events.BreakCycle reply new step h = breaks s reply new step h
  tidied forms s events.EndRun reply new step h = ends s _ reply new step h
  tidied forms s events.Recall reply new step h = as_it_is _ new step.1 (relent s _ h)

  led : (forms : Forms F) (n : ℕ) (first last : State) → LeadsTo forms n first last → IsTidy first → IsTidy last
  led forms zero first last step h = as_it_is first last step h
  led forms (suc n) first last step h =
      tidied forms step.0 step.1 step.2 last step.4 (led forms n first step.0 step.3 h)

  pub reached_tidy : (forms : Forms F) (s : State) → IsReached forms s → IsTidy s
  reached_tidy forms s reached =
      led forms reached.0 (opened s.opening) s reached.1
      (record { no_prepared = λ e. refl; no_active = λ e. refl; owned = tt })

  pub reached_settled : (forms : Forms F) (s : State) → IsReached forms s → s.running ≡ false
      → settled s ≡ s.tables
  reached_settled forms s reached off =
      ap (λ changes. put_back changes s.tables) (no_changes s (reached_tidy forms s reached) off)
