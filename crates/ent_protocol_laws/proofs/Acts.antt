-- What holds of every state that is reached: what the opening's own state has and each change of a state keeps.
use Rattle.std.proofs.Common.{◌≡◌, inl, inr, ℕ, zero, suc, Bool, true, false, ◌||◌, List, [], ◌∷◌, ◌++◌}
use Rattle.std.proofs.Common.{map, refl, sym, ap, subst, Option, Some, None, Result, Ok, Err}
use Rattle.std.specs.List.{list_any}
use Rattle.ent_value.specs.declared.value.Value.{Value}
use Rattle.ent_tree.specs.declared.script.Script.{Script}
use Rattle.ent_semantics.specs.Entangled.{Valuation}
use Rattle.ent_semantics.specs.declared.entangled.Entangled.{Entangled}
use Rattle.ent_semantics.specs.declared.operand.Known.{Known}
use Rattle.ent_semantics.specs.declared.statement.Statement.{Statement}
use Rattle.ent_semantics.specs.Form.{Tables}
use Rattle.ent_semantics.specs.Choice.{AreGroundings, IsLeastChoiceIfAny}
use Rattle.ent_semantics.specs.Pool.{IsSafe, Posted}
use Rattle.ent_protocol.specs.Begin.{BeginsOrdinary, Posts, BeginsEntangled, BeginsCommit, BeginsNext, BeginsUnless}
use Rattle.ent_protocol.specs.Begin.{BeginsMember, lending, posting, pool_with}
use Rattle.ent_protocol.specs.Commit.{preparing, committing, is_ready}
use Rattle.ent_protocol.specs.Event.{Event, Reply}
use Rattle.ent_protocol.specs.Event as events
use Rattle.ent_protocol.specs.Finish.{FinishesBy, Finishes, IsTaken, finished}
use Rattle.ent_protocol.specs.Job.{Job, One, Joint, Done, Single, Outcome, Shown, Changed, Bound}
use Rattle.ent_protocol.specs.Job.{Choice, Fault, IsOutcome, tables_of}
use Rattle.ent_protocol.specs.Member.{Next, Ordinary, Asks, Commits, RollsBack, active_member, next_of, is_lent, is_of}
use Rattle.ent_protocol.specs.PoolEvents.{Picks, AnswersBy, JoinsOrIsStale, IsPresentComponent, IsOut, joining}
use Rattle.ent_protocol.specs.PoolEvents.{joint_job}
use Rattle.ent_protocol.specs.Reached.{opened, LeadsTo, IsReached}
use Rattle.ent_protocol.specs.Rollback.{Cause, Asked, Failing, NoOne, rolled_back}
use Rattle.ent_protocol.specs.Run.{Forms, SubmitsForm, SubmitsUnless, StartsWith, starting, submitting, BreaksIfAny}
use Rattle.ent_protocol.specs.Run.{EndsWhileRunning, ending}
use Rattle.ent_protocol.specs.State.{State, Member, Dormant}
use Rattle.ent_protocol.specs.Step.{Step}
use Rattle.ent_protocol.specs.Uses.{statement_uses, entangled_uses, blocker}
use Rattle.ent_lists.specs.Elements.{In, neither, turned}
use Rattle.ent_protocol_laws.proofs.Found.{found}

-- a member that isn't prepared, has no statement in the pool, and no job of which is lent
pub record IsIdle (s : State) (member : Member) : Type 0 where
  pub at : In member s.active
  pub unposted : member.posted ≡ false
  pub not_lent : is_lent s member.tx ≡ false

-- the job of a statement that came back, its member, and the other jobs
pub record ComesBack (s : State) (member : Member) (left : List Job) : Type 0 where
  pub job : Job
  pub taken : IsTaken job s.lent left
  pub single : Single
  pub is_single : job.work ≡ One single
  pub at : In member s.active
  pub own : member.tx ≡ single.tx

-- what each change of a state keeps; a statement is posted only if the pool is safe with it
pub record AreKept (P : State → Type 0) : Type 0 where
  pub submits : (s : State) (script : Script) (form : List (Statement Known)) → P s → P (submitting s script form)
  pub starts : (s : State) → s.running ≡ false → P s → P (starting s)
  pub lends : (s : State) (member : Member) (statement : Statement Value) → IsIdle s member
      → next_of s member ≡ Ordinary statement → P s → P (lending s member statement)
  pub posts : (s : State) (member : Member) (statement : Entangled Value) → IsIdle s member
      → next_of s member ≡ Asks statement → IsSafe (pool_with s member statement) → P s
      → P (posting s member statement)
  pub prepares : (s : State) (member : Member) → IsIdle s member → P s → P (preparing s member)
  pub commits : (s : State) (group : ℕ) → list_any (is_of group) s.active ≡ false → P s → P (committing s group)
  pub rolls_back : (s : State) (group : ℕ) (cause : Cause) → P s → P (rolled_back group cause s)
  pub takes : (s : State) (job : Job) (left : List Job) → IsTaken job s.lent left → P s
      → P (record s { lent = left })
  pub finishes : (s : State) (member : Member) (left : List Job) (statement : Statement Value) (outcome : Outcome)
      → ComesBack s member left → P s → P (finished (record s { lent = left }) member statement outcome)
  pub picks : (s : State) (asked : List Posted) → IsPresentComponent s asked → (IsOut s asked → ⊥) → P s
      → P (record s { lent = s.lent ++ joint_job s asked ∷ [] })
  pub joins : (s : State) (job : Job) (left : List Job) (asked : List Posted) (groundings : List Valuation)
      → IsTaken job s.lent left → IsPresentComponent s asked
      → ((tables : Tables) × AreGroundings tables asked groundings) → P s
      → P (joining (record s { lent = left }) asked groundings)
  pub tries : (s : State) (asked : List Posted) → P s → P (record s { tried = asked ∷ s.tried })
  pub ends : (s : State) → P s → P (ending s)
  pub recalls : (s : State) → P s → P (record s { lent = [] })

module _ {F : Type 0} (forms : Forms F) (P : State → Type 0) (kept : AreKept P) where
  as_is : (s new : State) → new ≡ s → P s → P new
  as_is s new e h = subst P (sym e) h

  -- ---- begin

  ordinary : (s : State) (m : Member) (c : Statement Value) (blocked : Option ℕ) (reply : Reply F) (new : State)
      → BeginsOrdinary s m c blocked reply new → IsIdle s m → next_of s m ≡ Ordinary c → P s → P new
  ordinary s m c (Some holder) reply new step idle next h = as_is s new step.1 h
  ordinary s m c None reply new step idle next h = as_is _ new step.1 (kept.lends s m c idle next h)

  asks_to_post : (s : State) (m : Member) (asked : Entangled Value) (reply : Reply F) (new : State)
      → Posts s m asked reply new → IsIdle s m → next_of s m ≡ Asks asked → P s → P new
  asks_to_post s m asked reply new (inl step) idle next h = as_is _ new step.2 (kept.posts s m asked idle next step.0 h)
  asks_to_post s m asked reply new (inr step) idle next h = as_is s new step.2.1 h

  entangled : (s : State) (m : Member) (asked : Entangled Value) (blocked : Option ℕ) (reply : Reply F) (new : State)
      → BeginsEntangled s m asked blocked reply new → IsIdle s m → next_of s m ≡ Asks asked → P s → P new
  entangled s m asked (Some holder) reply new step idle next h = as_is s new step.1 h
  entangled s m asked None reply new step idle next h = asks_to_post s m asked reply new step idle next h

  commit : (prepared : State) (group : ℕ) (ready : Bool) (reply : Reply F) (new : State)
      → is_ready prepared group ≡ ready → BeginsCommit prepared group ready reply new → P prepared → P new
  commit prepared group true reply new is step h =
      as_is _ new step.1 (kept.commits prepared group (turned (list_any (is_of group) prepared.active) is) h)
  commit prepared group false reply new is step h = as_is prepared new step.1 h

  next_step : (s : State) (m : Member) (is : Next) (reply : Reply F) (new : State) → next_of s m ≡ is
      → BeginsNext s m is reply new → IsIdle s m → P s → P new
  next_step s m (Ordinary c) reply new is step idle h =
      ordinary s m c (blocker s m (statement_uses c)) reply new step idle is h
  next_step s m (Asks asked) reply new is step idle h =
      entangled s m asked (blocker s m (entangled_uses asked)) reply new step idle is h
  next_step s m Commits reply new is step idle h =
      commit (preparing s m) m.group (is_ready (preparing s m) m.group) reply new refl step (kept.prepares s m idle h)
  next_step s m RollsBack reply new is step idle h =
      as_is _ new step.1 (kept.rolls_back s m.group (Asked m.tx) h)

  unless : (busy : Bool) (s : State) (m : Member) (reply : Reply F) (new : State)
      → (m.posted || is_lent s m.tx) ≡ busy → BeginsUnless busy s m reply new → In m s.active → P s → P new
  unless true s m reply new is step at h = as_is s new step.1 h
  unless false s m reply new is step at h =
      let two = neither m.posted (is_lent s m.tx) is in
      next_step s m (next_of s m) reply new refl step
      (record { at = at; unposted = two.0; not_lent = two.1 }) h

  begins : (s : State) (tx : ℕ) (member : Option Member) (reply : Reply F) (new : State)
      → active_member s tx ≡ member → BeginsMember s tx member reply new → P s → P new
  begins s tx (Some m) reply new is step h =
      let f = found s tx m is in
      unless (m.posted || is_lent s tx) s m reply new (ap (λ n. m.posted || is_lent s n) f.1) step f.0 h
  begins s tx None reply new is step h = as_is s new step.1 h

  -- ---- results

  by_outcome : (s : State) (m : Member) (left : List Job) (c : Statement Value) (outcome : Outcome) (reply : Reply F)
      (new : State) → FinishesBy (record s { lent = left }) m c outcome reply new → ComesBack s m left → P s → P new
  by_outcome s m left c (Fault failure) reply new step back h =
      as_is _ new step.1
      (kept.rolls_back (record s { lent = left }) m.group (Failing m.tx failure)
      (kept.takes s back.job left back.taken h))
  by_outcome s m left c (Shown rows) reply new step back h =
      as_is _ new step.1 (kept.finishes s m left c (Shown rows) back h)
  by_outcome s m left c (Changed count removed added) reply new step back h =
      as_is _ new step.1 (kept.finishes s m left c (Changed count removed added) back h)
  by_outcome s m left c (Bound value) reply new step back h =
      as_is _ new step.1 (kept.finishes s m left c (Bound value) back h)
  by_outcome s m left c (Choice groundings) reply new step back h = absurd step

  finish : (s : State) (done : Done) (reply : Reply F) (new : State) → Finishes s done reply new → P s → P new
  finish s done reply new (inl step) h =
      let single = step.0 in
      let f = found s single.tx step.2.member step.2.is_member in
      by_outcome s step.2.member step.2.left single.statement done.outcome reply new step.2.steps
      (record { job = done.job; taken = step.2.taken; single = single; is_single = step.1; at = f.0; own = f.1 }) h
  finish s done reply new (inr step) h = as_is s new step.1.1 h

  answers_by : (s : State) (job : Job) (left : List Job) (asked : List Posted) (groundings : Option (List Valuation))
      (tables : Tables) (reply : Reply F) (new : State)
      → AnswersBy (record s { lent = left }) asked groundings reply new → IsTaken job s.lent left
      → IsLeastChoiceIfAny tables asked groundings → IsPresentComponent s asked → P s → P new
  answers_by s job left asked (Some groundings) tables reply new step taken chosen component h =
      as_is _ new step.1 (kept.joins s job left asked groundings taken component (tables, chosen.choice.grounded) h)
  answers_by s job left asked None tables reply new step taken chosen component h =
      as_is _ new step.1 (kept.tries (record s { lent = left }) asked (kept.takes s job left taken h))

  join : (s : State) (done : Done) (reply : Reply F) (new : State) → JoinsOrIsStale s done reply new → P s → P new
  join s done reply new (inl step) h =
      let out = step.outstanding in
      let chosen : IsOutcome (Joint out.asked) (tables_of done.job.tables) (Choice step.groundings) =
      subst (λ w. IsOutcome w (tables_of done.job.tables) (Choice step.groundings)) out.is_joint
      (subst (IsOutcome done.job.work (tables_of done.job.tables)) step.choice step.meant) in
      answers_by s done.job out.left out.asked step.groundings (tables_of done.job.tables) reply new step.answers
      out.taken chosen out.component h
  join s done reply new (inr step) h = as_is s new step.1.1 h

  pick : (s : State) (reply : Reply F) (new : State) → Picks s reply new → P s → P new
  pick s reply new (inl step) h =
      as_is _ new step.is (kept.picks s step.asked step.can.component step.can.not_out h)
  pick s reply new (inr step) h = as_is s new step.1.1 h

  -- ---- scripts and runs

  submit_form : (s : State) (script : Script) (form : Result (List (Statement Known)) F) (reply : Reply F)
      (new : State) → SubmitsForm s script form reply new → P s → P new
  submit_form s script (Ok form) reply new step h = as_is _ new step.1 (kept.submits s script form h)
  submit_form s script (Err fault) reply new step h = as_is s new step.1 h

  submit : (full : Bool) (s : State) (script : Script) (reply : Reply F) (new : State)
      → SubmitsUnless full forms s script reply new → P s → P new
  submit true s script reply new step h = as_is s new step.1 h
  submit false s script reply new step h =
      submit_form s script (forms.resolve s.opening script) reply new step h

  start : (s : State) (running : Bool) (dormant : List Dormant) (reply : Reply F) (new : State)
      → s.running ≡ running → StartsWith s running dormant reply new → P s → P new
  start s true dormant reply new is step h = as_is s new step.1 h
  start s false [] reply new is step h = as_is s new step.1 h
  start s false (first ∷ more) reply new is step h = as_is _ new step.1 (kept.starts s is h)

  break : (s : State) (reply : Reply F) (new : State) → BreaksIfAny s reply new → P s → P new
  break s reply new (inl step) h = as_is _ new step.is (kept.rolls_back s step.victim.group NoOne h)
  break s reply new (inr step) h = as_is s new step.1.1 h

  end_run : (s : State) (running : Bool) (reply : Reply F) (new : State) → EndsWhileRunning s running reply new
      → P s → P new
  end_run s false reply new step h = as_is s new step.1 h
  end_run s true reply new (inl step) h = as_is _ new step.2 (kept.ends s h)
  end_run s true reply new (inr step) h = as_is s new step.2.1 h

  pub stepped_on : (s : State) (event : Event) (reply : Reply F) (new : State) → Step forms s event reply new
      → P s → P new
  stepped_on s (events.Submit script) reply new step h = submit _ s script reply new step h
  stepped_on s events.StartRun reply new step h = start s s.running s.dormant reply new refl step h
  stepped_on s (events.Begin tx) reply new step h = begins s tx (active_member s tx) reply new refl step h
  stepped_on s (events.Finish done) reply new step h = finish s done reply new step h
  stepped_on s events.Pick reply new step h = pick s reply new step h
  stepped_on s (events.JoinAnswer done) reply new step h = join s done reply new step h
  stepped_on s events.BreakCycle reply new step h = break s reply new step h
  stepped_on s events.EndRun reply new step h = end_run s s.running reply new step h
  stepped_on s events.Recall reply new step h = as_is _ new step.1 (kept.recalls s h)

  led_on : (n : ℕ) (first last : State) → LeadsTo forms n first last → P first → P last
  led_on zero first last leads h = as_is first last leads h
  led_on (suc n) first last leads h =
      stepped_on leads.0 leads.1 leads.2 last leads.4 (led_on n first leads.0 leads.3 h)

  pub reached : (s : State) → P (opened s.opening) → IsReached forms s → P s
  reached s h r = led_on r.0 (opened s.opening) s r.1 h
