-- What an event leaves: of each way in which it may change a state something is said, whether it adds a script, whether
-- somebody is rolled back, and which job it lends.
use Rattle.std.proofs.Common.{◌≡◌, inl, inr, ℕ, Bool, true, false, cond, List, [], ◌∷◌, ◌++◌, refl, sym}
use Rattle.std.proofs.Common.{subst, Option, Some, None, Result, Ok, Err}
use Rattle.ent_value.specs.declared.value.Value.{Value}
use Rattle.ent_tree.specs.declared.script.Script.{Script}
use Rattle.ent_semantics.specs.Entangled.{Valuation}
use Rattle.ent_semantics.specs.declared.entangled.Entangled.{Entangled}
use Rattle.ent_semantics.specs.declared.operand.Known.{Known}
use Rattle.ent_semantics.specs.declared.statement.Statement.{Statement}
use Rattle.ent_semantics.specs.Pool.{Posted}
use Rattle.ent_protocol.specs.Begin.{BeginsOrdinary, Posts, BeginsEntangled, BeginsCommit, BeginsNext, BeginsUnless}
use Rattle.ent_protocol.specs.Begin.{BeginsMember, lending, posting, single_job}
use Rattle.ent_protocol.specs.Commit.{preparing, committing, is_ready}
use Rattle.ent_protocol.specs.Event.{Event, Reply}
use Rattle.ent_protocol.specs.Event as events
use Rattle.ent_protocol.specs.Finish.{FinishesBy, Finishes, IsTaken, finished}
use Rattle.ent_protocol.specs.Job.{Job, Done, Outcome, Shown, Changed, Bound, Choice, Fault}
use Rattle.ent_protocol.specs.Member.{Next, Ordinary, Asks, Commits, RollsBack, active_member, is_prepared}
use Rattle.ent_protocol.specs.Member.{next_of}
use Rattle.ent_protocol.specs.PoolEvents.{Picks, AnswersBy, JoinsOrIsStale, joining, joint_job}
use Rattle.ent_protocol.specs.Rollback.{Cause, Asked, Failing, NoOne, rolled_back}
use Rattle.ent_protocol.specs.Run.{Forms, SubmitsForm, SubmitsUnless, StartsWith, starting, submitting, BreaksIfAny}
use Rattle.ent_protocol.specs.Run.{EndsWhileRunning, ending}
use Rattle.ent_protocol.specs.State.{State, Member, Dormant}
use Rattle.ent_protocol.specs.Step.{Step}
use Rattle.ent_protocol.specs.Uses.{statement_uses, entangled_uses, blocker}
use Rattle.ent_protocol_laws.specs.Replies.{adds_script, lent_by}
use Rattle.ent_protocol_laws.specs.Restored.{rolls_back}
use Rattle.ent_lists.specs.Elements.{In}
use Rattle.ent_protocol_laws.proofs.Found.{found}

-- a job came back, and these are the others
pub record CameBack (s : State) (left : List Job) : Type 0 where
  pub job : Job
  pub taken : IsTaken job s.lent left

-- of what is left behind an event: whether a script was added, whether somebody was rolled back, the job that is lent,
-- and the state
pub record Leaves (s : State) (P : Bool → Bool → List Job → State → Type 0) : Type 0 where
  pub same : P false false [] s
  pub submits : (script : Script) (form : List (Statement Known)) → P true false [] (submitting s script form)
  pub starts : (first : Dormant) (more : List Dormant) → s.running ≡ false → s.dormant ≡ first ∷ more
      → P false false [] (starting s)
  pub lends : (member : Member) (statement : Statement Value) → In member s.active
      → P false false (single_job s member statement ∷ []) (lending s member statement)
  pub posts : (member : Member) (statement : Entangled Value) → In member s.active
      → P false false [] (posting s member statement)
  pub prepares : (member : Member) → In member s.active → P false false [] (preparing s member)
  pub commits : (member : Member) → In member s.active → is_ready (preparing s member) member.group ≡ true
      → P false false [] (committing (preparing s member) member.group)
  pub rolls_back : (group : ℕ) (cause : Cause) → P false true [] (rolled_back group cause s)
  pub fails : (left : List Job) (group : ℕ) (cause : Cause) → CameBack s left
      → P false true [] (rolled_back group cause (record s { lent = left }))
  pub finishes : (left : List Job) (member : Member) (statement : Statement Value) (outcome : Outcome)
      → CameBack s left → In member s.active
      → P false false [] (finished (record s { lent = left }) member statement outcome)
  pub picks : (asked : List Posted)
      → P false false (joint_job s asked ∷ []) (record s { lent = s.lent ++ joint_job s asked ∷ [] })
  pub joins : (left : List Job) (asked : List Posted) (groundings : List Valuation) → CameBack s left
      → P false false [] (joining (record s { lent = left }) asked groundings)
  pub tries : (left : List Job) (asked : List Posted) → CameBack s left
      → P false false [] (record s { lent = left; tried = asked ∷ s.tried })
  pub ends : s.running ≡ true → P false true [] (ending s)
  pub recalls : P false false [] (record s { lent = [] })

module _ {F : Type 0} (s : State) (P : Bool → Bool → List Job → State → Type 0) (leaves : Leaves s P) where
  -- what is said of a reply that adds no script, and of the state behind it
  abbrev Said : Reply F → State → Type 0
  Said reply new = P false (rolls_back reply) (lent_by reply) new

  -- what is said of a reply and a state, where these are others
  told : (reply is : Reply F) (new state : State) → reply ≡ is → new ≡ state → Said is state
      → Said reply new
  told reply is new state of_reply of_state h =
      subst (λ (r : Reply F). Said r new) (sym of_reply)
      (subst (λ (x : State). Said is x) (sym of_state) h)

  -- ---- begin

  ordinary : (m : Member) (c : Statement Value) (blocked : Option ℕ) (reply : Reply F) (new : State)
      → BeginsOrdinary s m c blocked reply new → In m s.active → Said reply new
  ordinary m c (Some holder) reply new step at = told reply (events.Blocked holder) new s step.0 step.1 leaves.same
  ordinary m c None reply new step at =
      told reply (events.Lent (single_job s m c)) new (lending s m c) step.0 step.1 (leaves.lends m c at)

  asks_to_post : (m : Member) (asked : Entangled Value) (reply : Reply F) (new : State)
      → Posts s m asked reply new → In m s.active → Said reply new
  asks_to_post m asked reply new (inl step) at =
      told reply events.Posted new (posting s m asked) step.1 step.2 (leaves.posts m asked at)
  asks_to_post m asked reply new (inr step) at =
      told reply (events.HeldBack step.0) new s step.2.0 step.2.1 leaves.same

  entangled : (m : Member) (asked : Entangled Value) (blocked : Option ℕ) (reply : Reply F) (new : State)
      → BeginsEntangled s m asked blocked reply new → In m s.active → Said reply new
  entangled m asked (Some holder) reply new step at =
      told reply (events.Blocked holder) new s step.0 step.1 leaves.same
  entangled m asked None reply new step at = asks_to_post m asked reply new step at

  commit : (m : Member) (ready : Bool) (reply : Reply F) (new : State) → is_ready (preparing s m) m.group ≡ ready
      → BeginsCommit (preparing s m) m.group ready reply new → In m s.active → Said reply new
  commit m true reply new is step at =
      told reply _ new (committing (preparing s m) m.group) step.0 step.1 (leaves.commits m at is)
  commit m false reply new is step at =
      told reply events.Prepared new (preparing s m) step.0 step.1 (leaves.prepares m at)

  next_step : (m : Member) (is : Next) (reply : Reply F) (new : State) → BeginsNext s m is reply new
      → In m s.active → Said reply new
  next_step m (Ordinary c) reply new step at = ordinary m c (blocker s m (statement_uses c)) reply new step at
  next_step m (Asks asked) reply new step at = entangled m asked (blocker s m (entangled_uses asked)) reply new step at
  next_step m Commits reply new step at = commit m (is_ready (preparing s m) m.group) reply new refl step at
  next_step m RollsBack reply new step at =
      told reply _ new (rolled_back m.group (Asked m.tx) s) step.0 step.1 (leaves.rolls_back m.group (Asked m.tx))

  unless : (busy : Bool) (m : Member) (reply : Reply F) (new : State) → BeginsUnless busy s m reply new
      → In m s.active → Said reply new
  unless true m reply new step at = told reply events.NotNow new s step.0 step.1 leaves.same
  unless false m reply new step at = next_step m (next_of s m) reply new step at

  nobody : (prepared : Bool) (reply : Reply F) (new : State)
      → reply ≡ cond prepared events.NotNow events.Absent → new ≡ s
      → Said reply new
  nobody true reply new of_reply of_state = told reply events.NotNow new s of_reply of_state leaves.same
  nobody false reply new of_reply of_state = told reply events.Absent new s of_reply of_state leaves.same

  begins : (tx : ℕ) (member : Option Member) (reply : Reply F) (new : State) → active_member s tx ≡ member
      → BeginsMember s tx member reply new → Said reply new
  begins tx (Some m) reply new is step =
      unless _ m reply new step (found s tx m is).0
  begins tx None reply new is step = nobody (is_prepared s tx) reply new step.0 step.1

  -- ---- results

  by_outcome : (m : Member) (left : List Job) (c : Statement Value) (outcome : Outcome) (reply : Reply F) (new : State)
      → FinishesBy (record s { lent = left }) m c outcome reply new → CameBack s left → In m s.active
      → Said reply new
  by_outcome m left c (Fault failure) reply new step back at =
      told reply _ new _ step.0 step.1 (leaves.fails left m.group (Failing m.tx failure) back)
  by_outcome m left c (Shown rows) reply new step back at =
      told reply _ new _ step.0 step.1 (leaves.finishes left m c (Shown rows) back at)
  by_outcome m left c (Changed count removed added) reply new step back at =
      told reply _ new _ step.0 step.1 (leaves.finishes left m c (Changed count removed added) back at)
  by_outcome m left c (Bound value) reply new step back at =
      told reply _ new _ step.0 step.1 (leaves.finishes left m c (Bound value) back at)
  by_outcome m left c (Choice groundings) reply new step back at = absurd step

  finish : (done : Done) (reply : Reply F) (new : State) → Finishes s done reply new → Said reply new
  finish done reply new (inl step) =
      let h = step.2 in
      by_outcome h.member h.left step.0.statement done.outcome reply new h.steps
      (record { job = done.job; taken = h.taken }) (found s step.0.tx h.member h.is_member).0
  finish done reply new (inr step) = told reply (events.Stale done) new s step.1.0 step.1.1 leaves.same

  answers_by : (left : List Job) (asked : List Posted) (groundings : Option (List Valuation)) (reply : Reply F)
      (new : State) → AnswersBy (record s { lent = left }) asked groundings reply new → CameBack s left
      → Said reply new
  answers_by left asked (Some groundings) reply new step back =
      told reply events.Answered new _ step.0 step.1 (leaves.joins left asked groundings back)
  answers_by left asked None reply new step back =
      told reply events.NoChoice new _ step.0 step.1 (leaves.tries left asked back)

  join : (done : Done) (reply : Reply F) (new : State) → JoinsOrIsStale s done reply new
      → Said reply new
  join done reply new (inl step) =
      let out = step.outstanding in
      answers_by out.left out.asked step.groundings reply new step.answers
      (record { job = done.job; taken = out.taken })
  join done reply new (inr step) = told reply (events.Stale done) new s step.1.0 step.1.1 leaves.same

  pick : (reply : Reply F) (new : State) → Picks s reply new → Said reply new
  pick reply new (inl step) =
      told reply (events.Lent (joint_job s step.asked)) new _ step.replies step.is (leaves.picks step.asked)
  pick reply new (inr step) = told reply events.Nothing new s step.1.0 step.1.1 leaves.same

  -- ---- scripts and runs

  abbrev AfterSubmit : Script → Reply F → State → Type 0
  AfterSubmit script reply new = P (adds_script (events.Submit script) reply) (rolls_back reply) (lent_by reply) new

  submitted : (script : Script) (reply is : Reply F) (new state : State) → reply ≡ is → new ≡ state
      → AfterSubmit script is state → AfterSubmit script reply new
  submitted script reply is new state of_reply of_state h =
      subst (λ (r : Reply F). AfterSubmit script r new) (sym of_reply)
      (subst (λ (x : State). AfterSubmit script is x) (sym of_state) h)

  submits_form : (script : Script) (form : Result (List (Statement Known)) F) (reply : Reply F) (new : State)
      → SubmitsForm s script form reply new → AfterSubmit script reply new
  submits_form script (Ok form) reply new step =
      submitted script reply _ new (submitting s script form) step.0 step.1 (leaves.submits script form)
  submits_form script (Err fault) reply new step =
      submitted script reply (events.Faulty script fault) new s step.0 step.1 leaves.same

  submit : (full : Bool) (forms : Forms F) (script : Script) (reply : Reply F) (new : State)
      → SubmitsUnless full forms s script reply new → AfterSubmit script reply new
  submit true forms script reply new step =
      submitted script reply (events.Full script) new s step.0 step.1 leaves.same
  submit false forms script reply new step =
      submits_form script (forms.resolve s.opening script) reply new step

  start : (running : Bool) (dormant : List Dormant) (reply : Reply F) (new : State) → s.running ≡ running
      → s.dormant ≡ dormant → StartsWith s running dormant reply new → Said reply new
  start true dormant reply new on asleep step = told reply events.NotNow new s step.0 step.1 leaves.same
  start false [] reply new on asleep step = told reply events.Absent new s step.0 step.1 leaves.same
  start false (first ∷ more) reply new on asleep step =
      told reply _ new (starting s) step.0 step.1 (leaves.starts first more on asleep)

  break : (reply : Reply F) (new : State) → BreaksIfAny s reply new → Said reply new
  break reply new (inl step) =
      told reply _ new (rolled_back step.victim.group NoOne s) step.replies step.is
      (leaves.rolls_back step.victim.group NoOne)
  break reply new (inr step) = told reply events.NoCycle new s step.1.0 step.1.1 leaves.same

  end_run : (running : Bool) (reply : Reply F) (new : State) → s.running ≡ running
      → EndsWhileRunning s running reply new → Said reply new
  end_run false reply new on step = told reply events.NotNow new s step.0 step.1 leaves.same
  end_run true reply new on (inl step) = told reply _ new (ending s) step.1 step.2 (leaves.ends on)
  end_run true reply new on (inr step) = told reply (events.Busy step.0) new s step.2.0 step.2.1 leaves.same

  -- ---- all of them

  pub left_behind : (forms : Forms F) (event : Event) (reply : Reply F) (new : State) → Step forms s event reply new
      → P (adds_script event reply) (rolls_back reply) (lent_by reply) new
  left_behind forms (events.Submit script) reply new step = submit _ forms script reply new step
  left_behind forms events.StartRun reply new step = start s.running s.dormant reply new refl refl step
  left_behind forms (events.Begin tx) reply new step = begins tx (active_member s tx) reply new refl step
  left_behind forms (events.Finish done) reply new step = finish done reply new step
  left_behind forms events.Pick reply new step = pick reply new step
  left_behind forms (events.JoinAnswer done) reply new step = join done reply new step
  left_behind forms events.BreakCycle reply new step = break reply new step
  left_behind forms events.EndRun reply new step = end_run s.running reply new refl step
  left_behind forms events.Recall reply new step =
      told reply events.Recalled new _ step.0 step.1 leaves.recalls
