-- What an event makes of a state, in few cases.
use Rattle.std.proofs.Common.{◌≡◌, inl, inr, ℕ, suc, Bool, true, false, ◌||◌, List, [], ◌∷◌, ◌++◌, length, refl}
use Rattle.std.proofs.Common.{ap, subst, ◌∙◌, Option, Some, None, Result, Ok, Err, map, if◌then◌else◌}
use Rattle.ent_value.specs.declared.value.Value.{Value}
use Rattle.ent_tree.specs.declared.script.Script.{Script}
use Rattle.ent_semantics.specs.declared.answer.Answer.TheVariants as answers
use Rattle.ent_semantics.specs.Entangled.{Valuation}
use Rattle.ent_semantics.specs.Form.{Tables}
use Rattle.ent_semantics.specs.FormKinds.{changed_tables}
use Rattle.ent_semantics.specs.declared.entangled.Entangled.{Entangled}
use Rattle.ent_semantics.specs.declared.operand.Known.{Known}
use Rattle.ent_semantics.specs.declared.statement.Statement.{Statement}
use Rattle.ent_semantics.specs.Choice.{IsLeastChoiceIfAny}
use Rattle.ent_semantics.specs.Pool.{Posted}
use Rattle.ent_semantics.proofs.Grounded.{groundings_counted}
use Rattle.ent_protocol.specs.Begin.{BeginsOrdinary, BeginsEntangled, BeginsCommit, BeginsNext, BeginsUnless}
use Rattle.ent_protocol.specs.Begin.{BeginsMember, lending, posting, with_member}
use Rattle.ent_protocol.specs.Begin as begin
use Rattle.ent_protocol.specs.Commit.{preparing, committing, is_ready}
use Rattle.ent_protocol.specs.Event.{Event, Reply}
use Rattle.ent_protocol.specs.Event as events
use Rattle.ent_protocol.specs.Finish.{FinishesBy, Finishes, IsTaken, noted, stepped, variable_of, with_bound}
use Rattle.ent_protocol.specs.Finish.{with_change}
use Rattle.ent_protocol.specs.Job.{Job, Joint, Done, Outcome, Shown, Changed, Bound}
use Rattle.ent_protocol.specs.Job.{Choice, Fault, IsOutcome, tables_of}
use Rattle.ent_protocol.specs.Member.{Next, Ordinary, Asks, active_member, next_of, is_lent, is_prepared}
use Rattle.ent_protocol.specs.Member as nexts
use Rattle.ent_protocol.specs.PoolEvents.{AnswersBy, JoinsOrIsStale, IsPresentComponent, CanBePicked, joining}
use Rattle.ent_protocol.specs.PoolEvents.{joint_job}
use Rattle.ent_protocol.specs.PoolEvents as pool_events
use Rattle.ent_protocol.specs.Rollback.{Cause, Asked, Failing, NoOne, rolled_back}
use Rattle.ent_protocol.specs.Run.{Forms, SubmitsForm, SubmitsUnless, StartsWith, starting, submitting, BreaksIfAny}
use Rattle.ent_protocol.specs.Run.{EndsWhileRunning, ending}
use Rattle.ent_protocol.specs.State.{State, Member, Change, Dormant}
use Rattle.ent_protocol.specs.Step.{Step}
use Rattle.ent_protocol.specs.Uses.{statement_uses, entangled_uses, blocker}
use Rattle.ent_protocol_laws.proofs.Acts.{IsIdle, ComesBack}
use Rattle.ent_protocol_laws.proofs.Found.{found}
use Rattle.ent_protocol_laws.specs.Progress.{brings_work, is_progress}
use Rattle.ent_lists.specs.Elements.{In, neither}

-- a joint job that came back, and the other jobs
pub record JointBack (s : State) (asked : List Posted) (left : List Job) : Type 0 where
  pub job : Job
  pub taken : IsTaken job s.lent left
  pub is_joint : job.work ≡ Joint asked
  pub component : IsPresentComponent s asked

pub data Act (s : State) : Type 0 where
  Stays : Act s
  Submits : (script : Script) → (form : List (Statement Known)) → Act s
  Starts : Act s
  Lends : (member : Member) → (statement : Statement Value) → IsIdle s member
      → next_of s member ≡ Ordinary statement → Act s
  Posts : (member : Member) → (statement : Entangled Value) → IsIdle s member → next_of s member ≡ Asks statement
      → Act s
  Prepares : (member : Member) → IsIdle s member → next_of s member ≡ nexts.Commits → Act s
  Commits : (member : Member) → IsIdle s member → Act s
  RollsBack : (member : Member) → (cause : Cause) → In member s.active → Act s
  Steps : (member : Member) → (own : Member) → (left : List Job) → (tables : Tables) → (changes : List Change)
      → ComesBack s member left → own.tx ≡ member.tx → own.place ≡ suc member.place → own.posted ≡ false → Act s
  Fails : (member : Member) → (cause : Cause) → (left : List Job) → ComesBack s member left → Act s
  Picks : (asked : List Posted) → CanBePicked s asked → Act s
  Answers : (asked : List Posted) → (groundings : List Valuation) → (left : List Job) → JointBack s asked left
      → length groundings ≡ length asked → Act s
  Tries : (asked : List Posted) → (left : List Job) → JointBack s asked left → Act s
  Ends : Act s
  Recalls : Act s

abbrev pub after : (s : State) → Act s → State
after s Stays = s
after s (Submits script form) = submitting s script form
after s Starts = starting s
after s (Lends member statement idle next) = lending s member statement
after s (Posts member statement idle next) = posting s member statement
after s (Prepares member idle next) = preparing s member
after s (Commits member idle) = committing (preparing s member) member.group
after s (RollsBack member cause at) = rolled_back member.group cause s
after s (Steps member own left tables changes back tx place posted) =
    record (with_member own s) { lent = left; tables = tables; changes = changes }
after s (Fails member cause left back) = rolled_back member.group cause (record s { lent = left })
after s (Picks asked can) = record s { lent = s.lent ++ joint_job s asked ∷ [] }
after s (Answers asked groundings left back enough) = joining (record s { lent = left }) asked groundings
after s (Tries asked left back) = record s { lent = left; tried = asked ∷ s.tried }
after s Ends = ending s
after s Recalls = record s { lent = [] }

-- steps of progress
abbrev pub worth : (s : State) → Act s → Bool
worth s (Posts member statement idle next) = true
worth s (Prepares member idle next) = true
worth s (Commits member idle) = true
worth s (RollsBack member cause at) = true
worth s (Steps member own left tables changes back tx place posted) = true
worth s (Fails member cause left back) = true
worth s (Answers asked groundings left back enough) = true
worth s (Tries asked left back) = true
worth s other = false

abbrev pub opens : (s : State) → Act s → Bool
opens s (Submits script form) = true
opens s Starts = true
opens s other = false

-- an event's reply and the state that it leads to come of an act
pub record IsAct {F : Type 0} (s : State) (reply : Reply F) (new : State) : Type 0 where
  pub act : Act s
  pub is : new ≡ after s act
  pub progress : is_progress reply ≡ worth s act
  pub work : brings_work reply ≡ opens s act

module _ {F : Type 0} where
  -- the reply is known
  acts : (s : State) (reply is : Reply F) (new : State) (act : Act s) → reply ≡ is → new ≡ after s act
      → is_progress is ≡ worth s act → brings_work is ≡ opens s act → IsAct s reply new
  acts s reply is new act told leads progress work =
      record {
        act = act;
        is = leads;
        progress = ap (λ (r : Reply F). is_progress r) told ∙ progress;
        work = ap (λ (r : Reply F). brings_work r) told ∙ work;
      }

  -- ---- begin

  ordinary : (s : State) (m : Member) (c : Statement Value) (blocked : Option ℕ) (reply : Reply F) (new : State)
      → BeginsOrdinary s m c blocked reply new → IsIdle s m → next_of s m ≡ Ordinary c → IsAct s reply new
  ordinary s m c (Some holder) reply new step idle next = acts s reply _ new Stays step.0 step.1 refl refl
  ordinary s m c None reply new step idle next = acts s reply _ new (Lends m c idle next) step.0 step.1 refl refl

  posts : (s : State) (m : Member) (asked : Entangled Value) (reply : Reply F) (new : State)
      → begin.Posts s m asked reply new → IsIdle s m → next_of s m ≡ Asks asked
      → IsAct s reply new
  posts s m asked reply new (inl step) idle next =
      acts s reply _ new (Posts m asked idle next) step.1 step.2 refl refl
  posts s m asked reply new (inr step) idle next = acts s reply _ new Stays step.2.0 step.2.1 refl refl

  entangled : (s : State) (m : Member) (asked : Entangled Value) (blocked : Option ℕ) (reply : Reply F) (new : State)
      → BeginsEntangled s m asked blocked reply new → IsIdle s m → next_of s m ≡ Asks asked → IsAct s reply new
  entangled s m asked (Some holder) reply new step idle next = acts s reply _ new Stays step.0 step.1 refl refl
  entangled s m asked None reply new step idle next = posts s m asked reply new step idle next

  commit : (s : State) (m : Member) (ready : Bool) (reply : Reply F) (new : State)
      → BeginsCommit (preparing s m) m.group ready reply new → IsIdle s m → next_of s m ≡ nexts.Commits
      → IsAct s reply new
  commit s m true reply new step idle next = acts s reply _ new (Commits m idle) step.0 step.1 refl refl
  commit s m false reply new step idle next = acts s reply _ new (Prepares m idle next) step.0 step.1 refl refl

  next_step : (s : State) (m : Member) (is : Next) (reply : Reply F) (new : State) → next_of s m ≡ is
      → BeginsNext s m is reply new → IsIdle s m → IsAct s reply new
  next_step s m (Ordinary c) reply new is step idle =
      ordinary s m c (blocker s m (statement_uses c)) reply new step idle is
  next_step s m (Asks asked) reply new is step idle =
      entangled s m asked (blocker s m (entangled_uses asked)) reply new step idle is
  next_step s m nexts.Commits reply new is step idle =
      commit s m (is_ready (preparing s m) m.group) reply new step idle is
  next_step s m nexts.RollsBack reply new is step idle =
      acts s reply _ new (RollsBack m (Asked m.tx) idle.at) step.0 step.1 refl refl

  unless : (busy : Bool) (s : State) (m : Member) (reply : Reply F) (new : State)
      → (m.posted || is_lent s m.tx) ≡ busy → BeginsUnless busy s m reply new → In m s.active → IsAct s reply new
  unless true s m reply new is step at = acts s reply _ new Stays step.0 step.1 refl refl
  unless false s m reply new is step at =
      let two = neither m.posted (is_lent s m.tx) is in
      next_step s m (next_of s m) reply new refl step (record { at = at; unposted = two.0; not_lent = two.1 })

  absent : (b : Bool) (s : State) (reply : Reply F) (new : State)
      → reply ≡ (if b then events.NotNow else events.Absent) → new ≡ s → IsAct s reply new
  absent true s reply new told is = acts s reply _ new Stays told is refl refl
  absent false s reply new told is = acts s reply _ new Stays told is refl refl

  begins : (s : State) (tx : ℕ) (member : Option Member) (reply : Reply F) (new : State)
      → active_member s tx ≡ member → BeginsMember s tx member reply new → IsAct s reply new
  begins s tx (Some m) reply new is step =
      let f = found s tx m is in
      unless (m.posted || is_lent s tx) s m reply new (ap (λ n. m.posted || is_lent s n) f.1) step f.0
  begins s tx None reply new is step = absent (is_prepared s tx) s reply new step.0 step.1

  -- ---- results

  by_outcome : (s : State) (m : Member) (left : List Job) (c : Statement Value) (outcome : Outcome) (reply : Reply F)
      (new : State) → FinishesBy (record s { lent = left }) m c outcome reply new → ComesBack s m left
      → IsAct s reply new
  by_outcome s m left c (Fault failure) reply new step back =
      acts s reply _ new (Fails m (Failing m.tx failure) left back) step.0 step.1 refl refl
  by_outcome s m left c (Shown rows) reply new step back =
      acts s reply _ new
      (Steps m (stepped (answers.Rows rows) m) left s.tables s.changes back refl refl refl) step.0 step.1 refl refl
  by_outcome s m left c (Changed count removed added) reply new step back =
      acts s reply _ new
      (Steps m (stepped (answers.Count count) m) left (with_change (changed_tables c) removed added s.tables)
      (noted m.tx (changed_tables c) s.tables s.changes) back refl refl refl) step.0 step.1 refl refl
  by_outcome s m left c (Bound value) reply new step back =
      acts s reply _ new
      (Steps m
      (stepped (answers.Value value) (record m { bound = with_bound (variable_of c) value m.bound })) left s.tables
      s.changes back refl refl refl) step.0 step.1 refl refl
  by_outcome s m left c (Choice groundings) reply new step back = absurd step

  finish : (s : State) (done : Done) (reply : Reply F) (new : State) → Finishes s done reply new
      → IsAct s reply new
  finish s done reply new (inl step) =
      let single = step.0 in
      let f = found s single.tx step.2.member step.2.is_member in
      by_outcome s step.2.member step.2.left single.statement done.outcome reply new step.2.steps
      (record { job = done.job; taken = step.2.taken; single = single; is_single = step.1; at = f.0; own = f.1 })
  finish s done reply new (inr step) = acts s reply _ new Stays step.1.0 step.1.1 refl refl

  answers_by : (s : State) (left : List Job) (asked : List Posted) (groundings : Option (List Valuation))
      (tables : Tables) (reply : Reply F) (new : State)
      → AnswersBy (record s { lent = left }) asked groundings reply new → JointBack s asked left
      → IsLeastChoiceIfAny tables asked groundings → IsAct s reply new
  answers_by s left asked (Some groundings) tables reply new step back chosen =
      acts s reply _ new
      (Answers asked groundings left back (groundings_counted tables asked groundings chosen.choice.grounded))
      step.0 step.1 refl refl
  answers_by s left asked None tables reply new step back chosen =
      acts s reply _ new (Tries asked left back) step.0 step.1 refl refl

  join : (s : State) (done : Done) (reply : Reply F) (new : State) → JoinsOrIsStale s done reply new
      → IsAct s reply new
  join s done reply new (inl step) =
      let out = step.outstanding in
      let chosen : IsOutcome (Joint out.asked) (tables_of done.job.tables) (Choice step.groundings) =
      subst (λ w. IsOutcome w (tables_of done.job.tables) (Choice step.groundings)) out.is_joint
      (subst (IsOutcome done.job.work (tables_of done.job.tables)) step.choice step.meant) in
      answers_by s out.left out.asked step.groundings (tables_of done.job.tables) reply new step.answers
      (record { job = done.job; taken = out.taken; is_joint = out.is_joint; component = out.component }) chosen
  join s done reply new (inr step) = acts s reply _ new Stays step.1.0 step.1.1 refl refl

  pick : (s : State) (reply : Reply F) (new : State) → pool_events.Picks s reply new
      → IsAct s reply new
  pick s reply new (inl step) = acts s reply _ new (Picks step.asked step.can) step.replies step.is refl refl
  pick s reply new (inr step) = acts s reply _ new Stays step.1.0 step.1.1 refl refl

  -- ---- scripts and runs

  submit_form : (s : State) (script : Script) (form : Result (List (Statement Known)) F) (reply : Reply F)
      (new : State) → SubmitsForm s script form reply new → IsAct s reply new
  submit_form s script (Ok form) reply new step =
      acts s reply _ new (Submits script form) step.0 step.1 refl refl
  submit_form s script (Err fault) reply new step = acts s reply _ new Stays step.0 step.1 refl refl

  submit : (forms : Forms F) (full : Bool) (s : State) (script : Script) (reply : Reply F) (new : State)
      → SubmitsUnless full forms s script reply new → IsAct s reply new
  submit forms true s script reply new step = acts s reply _ new Stays step.0 step.1 refl refl
  submit forms false s script reply new step =
      submit_form s script (forms.resolve s.opening script) reply new step

  start : (s : State) (running : Bool) (dormant : List Dormant) (reply : Reply F) (new : State)
      → StartsWith s running dormant reply new → IsAct s reply new
  start s true dormant reply new step = acts s reply _ new Stays step.0 step.1 refl refl
  start s false [] reply new step = acts s reply _ new Stays step.0 step.1 refl refl
  start s false (first ∷ more) reply new step = acts s reply _ new Starts step.0 step.1 refl refl

  break : (s : State) (reply : Reply F) (new : State) → BreaksIfAny s reply new → IsAct s reply new
  break s reply new (inl step) =
      acts s reply _ new (RollsBack step.victim NoOne (found s _ step.victim step.is_victim).0) step.replies step.is
      refl refl
  break s reply new (inr step) = acts s reply _ new Stays step.1.0 step.1.1 refl refl

  end_run : (s : State) (running : Bool) (reply : Reply F) (new : State) → EndsWhileRunning s running reply new
      → IsAct s reply new
  end_run s false reply new step = acts s reply _ new Stays step.0 step.1 refl refl
  end_run s true reply new (inl step) = acts s reply _ new Ends step.1 step.2 refl refl
  end_run s true reply new (inr step) = acts s reply _ new Stays step.2.0 step.2.1 refl refl

  pub act_of : (forms : Forms F) (s : State) (event : Event) (reply : Reply F) (new : State)
      → Step forms s event reply new → IsAct s reply new
  act_of forms s (events.Submit script) reply new step = submit forms _ s script reply new step
  act_of forms s events.StartRun reply new step = start s s.running s.dormant reply new step
  act_of forms s (events.Begin tx) reply new step = begins s tx (active_member s tx) reply new refl step
  act_of forms s (events.Finish done) reply new step = finish s done reply new step
  act_of forms s events.Pick reply new step = pick s reply new step
  act_of forms s (events.JoinAnswer done) reply new step = join s done reply new step
  act_of forms s events.BreakCycle reply new step = break s reply new step
  act_of forms s events.EndRun reply new step = end_run s s.running reply new step
  act_of forms s events.Recall reply new step = acts s reply _ new Recalls step.0 step.1 refl refl
