-- What an event does that starts no run: a group commits, or the reply is no commit and something holds of the state.
use Rattle.std.proofs.Common.{◌≡◌, ◌⊎◌, inl, inr, ℕ, suc, Bool, true, false, cond, List, [], ◌∷◌, ◌++◌, length}
use Rattle.std.proofs.Common.{refl, sym, ap, subst, Option, Some, None, Result, Ok, Err}
use Rattle.ent_tree.specs.declared.script.Script.{Script}
use Rattle.ent_value.specs.declared.value.Value.{Value}
use Rattle.ent_semantics.specs.Entangled.{Valuation}
use Rattle.ent_semantics.specs.declared.entangled.Entangled.{Entangled}
use Rattle.ent_semantics.specs.declared.operand.Known.{Known}
use Rattle.ent_semantics.specs.declared.statement.Statement.{Statement}
use Rattle.ent_semantics.specs.Pool.{Posted}
use Rattle.ent_protocol.specs.Begin.{BeginsCommit, BeginsEntangled, BeginsMember, BeginsNext, BeginsOrdinary}
use Rattle.ent_protocol.specs.Begin.{BeginsUnless, Posts, lending, posting}
use Rattle.ent_protocol.specs.Commit.{commit_numbers, committing, committing_members, is_ready, preparing}
use Rattle.ent_protocol.specs.Event.{Event, Reply}
use Rattle.ent_protocol.specs.Event as events
use Rattle.ent_protocol.specs.Finish.{Finishes, FinishesBy, finished}
use Rattle.ent_protocol.specs.Job.{Job, Outcome, Shown, Changed, Bound, Choice, Fault, Done}
use Rattle.ent_protocol.specs.Member.{Next, Ordinary, Asks, Commits, RollsBack, active_member, is_prepared, next_of}
use Rattle.ent_protocol.specs.PoolEvents.{AnswersBy, JoinsOrIsStale, Picks, joining, joint_job}
use Rattle.ent_protocol.specs.Rollback.{Asked, Cause, Failing, NoOne, rolled_back}
use Rattle.ent_protocol.specs.Run.{BreaksIfAny, EndsWhileRunning, Forms, StartsWith, SubmitsForm, SubmitsUnless, ending}
use Rattle.ent_protocol.specs.Run.{starting, submitting}
use Rattle.ent_protocol.specs.State.{State, Dormant, Member}
use Rattle.ent_protocol.specs.Step.{Step}
use Rattle.ent_protocol.specs.Uses.{blocker, entangled_uses, statement_uses}
use Rattle.ent_lists.specs.Elements.{In}
use Rattle.ent_protocol_laws.proofs.Found.{found}
use Rattle.ent_protocol_laws.specs.Commits.{is_commit}

-- a group commits, of a member that prepares
pub record CommitsOf {F : Type 0} (s : State) (reply : Reply F) (new : State) : Type 0 where
  pub member : Member
  pub at : In member s.active
  pub ready : is_ready (preparing s member) member.group ≡ true
  pub replies : reply ≡ events.Committed
      (commit_numbers (suc (length s.journal)) (committing_members (preparing s member) member.group))
  pub is : new ≡ committing (preparing s member) member.group

-- what holds of each state that another event leaves
pub record Quiet (s : State) (Q : State → Type 0) : Type 0 where
  pub same : Q s
  pub submits : (script : Script) (form : List (Statement Known)) → Q (submitting s script form)
  pub lends : (member : Member) (statement : Statement Value) → Q (lending s member statement)
  pub posts : (member : Member) (statement : Entangled Value) → Q (posting s member statement)
  pub prepares : (member : Member) → In member s.active → Q (preparing s member)
  pub rolls_back : (group : ℕ) (cause : Cause) → Q (rolled_back group cause s)
  pub fails : (left : List Job) (group : ℕ) (cause : Cause) → Q (rolled_back group cause (record s { lent = left }))
  pub finishes : (left : List Job) (member : Member) (statement : Statement Value) (outcome : Outcome)
      → Q (finished (record s { lent = left }) member statement outcome)
  pub picks : (asked : List Posted) → Q (record s { lent = s.lent ++ joint_job s asked ∷ [] })
  pub joins : (left : List Job) (asked : List Posted) (groundings : List Valuation)
      → Q (joining (record s { lent = left }) asked groundings)
  pub tries : (left : List Job) (asked : List Posted) → Q (record s { lent = left; tried = asked ∷ s.tried })
  pub ends : Q (ending s)
  pub recalls : Q (record s { lent = [] })

module _ {F : Type 0} (s : State) (Q : State → Type 0) (quiet : Quiet s Q) where
  abbrev Said : Reply F → State → Type 0
  Said reply new = CommitsOf s reply new ⊎ ((is_commit reply ≡ false) × Q new)

  told : (reply is : Reply F) (new state : State) → reply ≡ is → new ≡ state → is_commit is ≡ false → Q state
      → Said reply new
  told reply is new state of_reply of_state none h =
      inr (subst (λ r. is_commit r ≡ false) (sym of_reply) none, subst Q (sym of_state) h)

  -- ---- begin

  ordinary : (m : Member) (c : Statement Value) (blocked : Option ℕ) (reply : Reply F) (new : State)
      → BeginsOrdinary s m c blocked reply new → Said reply new
  ordinary m c (Some holder) reply new step = told reply (events.Blocked holder) new s step.0 step.1 refl quiet.same
  ordinary m c None reply new step = told reply _ new (lending s m c) step.0 step.1 refl (quiet.lends m c)

  asks_to_post : (m : Member) (asked : Entangled Value) (reply : Reply F) (new : State) → Posts s m asked reply new
      → Said reply new
  asks_to_post m asked reply new (inl step) =
      told reply events.Posted new (posting s m asked) step.1 step.2 refl (quiet.posts m asked)
  asks_to_post m asked reply new (inr step) =
      told reply (events.HeldBack step.0) new s step.2.0 step.2.1 refl quiet.same

  entangled : (m : Member) (asked : Entangled Value) (blocked : Option ℕ) (reply : Reply F) (new : State)
      → BeginsEntangled s m asked blocked reply new → Said reply new
  entangled m asked (Some holder) reply new step =
      told reply (events.Blocked holder) new s step.0 step.1 refl quiet.same
  entangled m asked None reply new step = asks_to_post m asked reply new step

  commit : (m : Member) (ready : Bool) (reply : Reply F) (new : State) → is_ready (preparing s m) m.group ≡ ready
      → BeginsCommit (preparing s m) m.group ready reply new → In m s.active → Said reply new
  commit m true reply new is step at =
      inl (record { member = m; at = at; ready = is; replies = step.0; is = step.1 })
  commit m false reply new is step at =
      told reply events.Prepared new (preparing s m) step.0 step.1 refl (quiet.prepares m at)

  next_step : (m : Member) (is : Next) (reply : Reply F) (new : State) → BeginsNext s m is reply new → In m s.active
      → Said reply new
  next_step m (Ordinary c) reply new step at = ordinary m c (blocker s m (statement_uses c)) reply new step
  next_step m (Asks asked) reply new step at = entangled m asked (blocker s m (entangled_uses asked)) reply new step
  next_step m Commits reply new step at = commit m (is_ready (preparing s m) m.group) reply new refl step at
  next_step m RollsBack reply new step at =
      told reply _ new _ step.0 step.1 refl (quiet.rolls_back m.group (Asked m.tx))

  unless : (busy : Bool) (m : Member) (reply : Reply F) (new : State) → BeginsUnless busy s m reply new → In m s.active
      → Said reply new
  unless true m reply new step at = told reply events.NotNow new s step.0 step.1 refl quiet.same
  unless false m reply new step at = next_step m (next_of s m) reply new step at

  nobody : (prepared : Bool) (reply : Reply F) (new : State) → reply ≡ cond prepared events.NotNow events.Absent
      → new ≡ s → Said reply new
  nobody true reply new of_reply of_state = told reply events.NotNow new s of_reply of_state refl quiet.same
  nobody false reply new of_reply of_state = told reply events.Absent new s of_reply of_state refl quiet.same

  begins : (tx : ℕ) (member : Option Member) (reply : Reply F) (new : State) → active_member s tx ≡ member
      → BeginsMember s tx member reply new → Said reply new
  begins tx (Some m) reply new is step = unless _ m reply new step (found s tx m is).0
  begins tx None reply new is step = nobody (is_prepared s tx) reply new step.0 step.1

  -- ---- results

  by_outcome : (m : Member) (left : List Job) (c : Statement Value) (outcome : Outcome) (reply : Reply F) (new : State)
      → FinishesBy (record s { lent = left }) m c outcome reply new → Said reply new
  by_outcome m left c (Fault failure) reply new step =
      told reply _ new _ step.0 step.1 refl (quiet.fails left m.group (Failing m.tx failure))
  by_outcome m left c (Shown rows) reply new step =
      told reply _ new _ step.0 step.1 refl (quiet.finishes left m c (Shown rows))
  by_outcome m left c (Changed count removed added) reply new step =
      told reply _ new _ step.0 step.1 refl (quiet.finishes left m c (Changed count removed added))
  by_outcome m left c (Bound value) reply new step =
      told reply _ new _ step.0 step.1 refl (quiet.finishes left m c (Bound value))
  by_outcome m left c (Choice groundings) reply new step = absurd step

  finish : (done : Done) (reply : Reply F) (new : State) → Finishes s done reply new → Said reply new
  finish done reply new (inl step) =
      let h = step.2 in
      by_outcome h.member h.left step.0.statement done.outcome reply new h.steps
  finish done reply new (inr step) = told reply (events.Stale done) new s step.1.0 step.1.1 refl quiet.same

  answers_by : (left : List Job) (asked : List Posted) (groundings : Option (List Valuation)) (reply : Reply F)
      (new : State) → AnswersBy (record s { lent = left }) asked groundings reply new → Said reply new
  answers_by left asked (Some groundings) reply new step =
      told reply events.Answered new _ step.0 step.1 refl (quiet.joins left asked groundings)
  answers_by left asked None reply new step =
      told reply events.NoChoice new _ step.0 step.1 refl (quiet.tries left asked)

  join : (done : Done) (reply : Reply F) (new : State) → JoinsOrIsStale s done reply new → Said reply new
  join done reply new (inl step) =
      let out = step.outstanding in
      answers_by out.left out.asked step.groundings reply new step.answers
  join done reply new (inr step) = told reply (events.Stale done) new s step.1.0 step.1.1 refl quiet.same

  pick : (reply : Reply F) (new : State) → Picks s reply new → Said reply new
  pick reply new (inl step) = told reply _ new _ step.replies step.is refl (quiet.picks step.asked)
  pick reply new (inr step) = told reply events.Nothing new s step.1.0 step.1.1 refl quiet.same

  -- ---- scripts and runs

  submits_form : (script : Script) (form : Result (List (Statement Known)) F) (reply : Reply F) (new : State)
      → SubmitsForm s script form reply new → Said reply new
  submits_form script (Ok form) reply new step =
      told reply _ new (submitting s script form) step.0 step.1 refl (quiet.submits script form)
  submits_form script (Err fault) reply new step =
      told reply (events.Faulty script fault) new s step.0 step.1 refl quiet.same

  submit : (full : Bool) (forms : Forms F) (script : Script) (reply : Reply F) (new : State)
      → SubmitsUnless full forms s script reply new → Said reply new
  submit true forms script reply new step = told reply (events.Full script) new s step.0 step.1 refl quiet.same
  submit false forms script reply new step = submits_form script (forms.resolve s.opening script) reply new step

  break : (reply : Reply F) (new : State) → BreaksIfAny s reply new → Said reply new
  break reply new (inl step) =
      told reply _ new _ step.replies step.is refl (quiet.rolls_back step.victim.group NoOne)
  break reply new (inr step) = told reply events.NoCycle new s step.1.0 step.1.1 refl quiet.same

  end_run : (running : Bool) (reply : Reply F) (new : State) → EndsWhileRunning s running reply new → Said reply new
  end_run false reply new step = told reply events.NotNow new s step.0 step.1 refl quiet.same
  end_run true reply new (inl step) = told reply _ new (ending s) step.1 step.2 refl quiet.ends
  end_run true reply new (inr step) = told reply (events.Busy step.0) new s step.2.0 step.2.1 refl quiet.same

  -- ---- all of them, but for the start of a run

  pub commits_or_quiet : (forms : Forms F) (event : Event) (reply : Reply F) (new : State)
      → Step forms s event reply new → (event ≡ events.StartRun → ⊥) → Said reply new
  commits_or_quiet forms (events.Submit script) reply new step other = submit _ forms script reply new step
  commits_or_quiet forms events.StartRun reply new step other = absurd (other refl)
  commits_or_quiet forms (events.Begin tx) reply new step other = begins tx (active_member s tx) reply new refl step
  commits_or_quiet forms (events.Finish done) reply new step other = finish done reply new step
  commits_or_quiet forms events.Pick reply new step other = pick reply new step
  commits_or_quiet forms (events.JoinAnswer done) reply new step other = join done reply new step
  commits_or_quiet forms events.BreakCycle reply new step other = break reply new step
  commits_or_quiet forms events.EndRun reply new step other = end_run s.running reply new step
  commits_or_quiet forms events.Recall reply new step other =
      told reply events.Recalled new _ step.0 step.1 refl quiet.recalls

-- the start of a run is no commit either
pub starts_quiet : {F : Type 0} (s : State) (Q : State → Type 0) → Q s → Q (starting s) → (running : Bool)
    (dormant : List Dormant) (reply : Reply F) (new : State) → StartsWith s running dormant reply new
    → (is_commit reply ≡ false) × Q new
starts_quiet s Q same starts true dormant reply new step =
    (ap is_commit step.0, subst Q (sym step.1) same)
starts_quiet s Q same starts false [] reply new step =
    (ap is_commit step.0, subst Q (sym step.1) same)
starts_quiet s Q same starts false (first ∷ more) reply new step =
    (ap is_commit step.0, subst Q (sym step.1) starts)

-- any event commits a group, or is none and leaves what holds
pub commits_or_keeps : {F : Type 0} (forms : Forms F) (s : State) (Q : State → Type 0) → Quiet s Q → Q (starting s)
    → (event : Event) (reply : Reply F) (new : State) → Step forms s event reply new
    → CommitsOf s reply new ⊎ ((is_commit reply ≡ false) × Q new)
commits_or_keeps forms s Q quiet starts events.StartRun reply new step =
    inr (starts_quiet s Q quiet.same starts s.running s.dormant reply new step)
commits_or_keeps forms s Q quiet starts (events.Submit script) reply new step =
    commits_or_quiet s Q quiet forms (events.Submit script) reply new step (λ e. cc)
commits_or_keeps forms s Q quiet starts (events.Begin tx) reply new step =
    commits_or_quiet s Q quiet forms (events.Begin tx) reply new step (λ e. cc)
commits_or_keeps forms s Q quiet starts (events.Finish done) reply new step =
    commits_or_quiet s Q quiet forms (events.Finish done) reply new step (λ e. cc)
commits_or_keeps forms s Q quiet starts events.Pick reply new step =
    commits_or_quiet s Q quiet forms events.Pick reply new step (λ e. cc)
commits_or_keeps forms s Q quiet starts (events.JoinAnswer done) reply new step =
    commits_or_quiet s Q quiet forms (events.JoinAnswer done) reply new step (λ e. cc)
commits_or_keeps forms s Q quiet starts events.BreakCycle reply new step =
    commits_or_quiet s Q quiet forms events.BreakCycle reply new step (λ e. cc)
commits_or_keeps forms s Q quiet starts events.EndRun reply new step =
    commits_or_quiet s Q quiet forms events.EndRun reply new step (λ e. cc)
commits_or_keeps forms s Q quiet starts events.Recall reply new step =
    commits_or_quiet s Q quiet forms events.Recall reply new step (λ e. cc)
