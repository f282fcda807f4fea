-- Every state that is reached keeps what the opening's own state has.
use Rattle.std.proofs.Common.{◌≡◌, inl, inr, ℕ, zero, suc, ◌==◌, Bool, true, false, ◌||◌, List, [], ◌∷◌, refl}
use Rattle.std.proofs.Common.{sym, ap, subst, ◌∙◌, Option, Some, None, Result, Ok, Err}
use Rattle.std.specs.List.{AllByRecursion, list_any}
use Rattle.ent_value.specs.declared.value.Value.{Value}
use Rattle.ent_tree.specs.declared.script.Script.{Script}
use Rattle.ent_semantics.specs.Database.{nothing_bound}
use Rattle.ent_semantics.specs.Entangled.{Valuation}
use Rattle.ent_semantics.specs.Form.{Tables, closed_worth, form_meaning}
use Rattle.ent_semantics.specs.declared.entangled.Entangled.{Entangled}
use Rattle.ent_semantics.specs.declared.operand.Known.{Known}
use Rattle.ent_semantics.specs.declared.statement.Statement.{Statement}
use Rattle.ent_semantics.specs.Choice.{IsChoice, IsLeastChoiceIfAny, all_heads, all_posts}
use Rattle.ent_semantics.specs.Pool.{Posted}
use Rattle.ent_protocol.specs.Begin.{BeginsOrdinary, Posts, BeginsEntangled, BeginsCommit, BeginsNext, BeginsUnless}
use Rattle.ent_protocol.specs.Begin.{BeginsMember}
use Rattle.ent_protocol.specs.Commit.{preparing, is_ready}
use Rattle.ent_protocol.specs.Event.{Event, Reply}
use Rattle.ent_protocol.specs.Event as events
use Rattle.ent_protocol.specs.Finish.{FinishesBy, Finishes, FinishesSingle, IsTaken, finished}
use Rattle.ent_protocol.specs.Job.{Job, Work, One, Joint, Done, Single, Outcome, Shown, Changed, Bound}
use Rattle.ent_protocol.specs.Job.{Choice, Fault, IsOutcome, IsEffect, tables_of}
use Rattle.ent_protocol.specs.Member.{Next, Ordinary, Asks, Commits, RollsBack, active_member, next_of, is_lent}
use Rattle.ent_protocol.specs.Member.{is_of, is_single_of, environment_of}
use Rattle.ent_protocol.specs.PoolEvents.{Picks, AnswersBy, Joins, JoinsOrIsStale, IsPresentComponent}
use Rattle.ent_protocol.specs.PoolEvents.{answered_groups}
use Rattle.ent_protocol.specs.Reached.{opened, LeadsTo, IsReached}
use Rattle.ent_protocol.specs.Rollback.{Asked, Failing, NoOne}
use Rattle.ent_protocol.specs.Run.{Forms, SubmitsForm, SubmitsUnless, StartsWith, BreaksIfAny, EndsWhileRunning}
use Rattle.ent_protocol.specs.State.{State, Member, Dormant}
use Rattle.ent_protocol.specs.Step.{Step}
use Rattle.ent_protocol.specs.Uses.{statement_uses, entangled_uses, blocker}
use Rattle.ent_protocol_laws.proofs.Found.{found, taken_fewer, taken_there}
use Rattle.ent_protocol_laws.specs.Faithful.{AreFaithful}
use Rattle.ent_lists.specs.Elements.{In, Pairs, of_all, in_either, neither, not_so}
use Rattle.ent_lists.specs.Elements.{pairs_first, pairs_second, pairs_across, pairs_joined}
use Rattle.ent_protocol_laws.proofs.Frame.{Laws}
use Rattle.ent_protocol_laws.proofs.Operations.{HoldsUses}
use Rattle.ent_protocol_laws.proofs.Outcomes.{lands}
use Rattle.ent_protocol_laws.proofs.Jobs.{JobRight, WorkRight, SingleRight, PostedQueryRight, OtherJob, OtherWork}
use Rattle.ent_protocol_laws.proofs.SerialKept.{Kept, history_of, one_member}
use Rattle.ent_protocol_laws.proofs.Stands.{lends, posts, prepares}
use Rattle.ent_protocol_laws.proofs.SerialLeft.{commits}
use Rattle.ent_protocol_laws.proofs.SerialFinished.{finishes_by}
use Rattle.ent_protocol_laws.proofs.Joined.{joins}
use Rattle.ent_lists.specs.Elements.{contains_in, in_contains, same_number, turned}
use Rattle.ent_protocol_laws.proofs.Aside.{with_jobs, picks, present_all, component_on}
use Rattle.ent_protocol_laws.proofs.Aside.{queries_apart, queries_some, groups_answered}
use Rattle.ent_protocol_laws.proofs.Runs.{submits, starts, rolls_back, ends, kept_opened}

-- ---- what is taken

taken_apart : (job : Job) (jobs left : List Job) → IsTaken job jobs left → Pairs OtherJob jobs → Pairs OtherJob left
taken_apart job jobs left t pairs =
    let all = subst (Pairs OtherJob) t.is_there pairs in
    subst (Pairs OtherJob) (sym t.others)
    (pairs_joined OtherJob t.before t.behind (pairs_first OtherJob t.before (job ∷ t.behind) all)
    (pairs_second OtherJob t.before (job ∷ t.behind) all).1
    (λ a b at bt. pairs_across OtherJob t.before (job ∷ t.behind) a b all at (inr bt)))

-- what is left is of other transactions
taken_other : (job : Job) (jobs left : List Job) → IsTaken job jobs left → Pairs OtherJob jobs → (single : Single)
    → job.work ≡ One single → (other : Job) → In other left → is_single_of single.tx other ≡ false
taken_other job jobs left t pairs single is other at =
    let all = subst (Pairs OtherJob) t.is_there pairs in
    elim (in_either t.before t.behind other (subst (In other) t.others at)) [
      | inl a ↦ by other.work (subst (λ w. OtherWork other.work w) is
          (pairs_across OtherJob t.before (job ∷ t.behind) other job all a (inl refl)))
      | inr b ↦ by_turned other.work (subst (λ w. OtherWork w other.work) is
          (of_all (OtherJob job) t.behind other (pairs_second OtherJob t.before (job ∷ t.behind) all).0 b))
    ]
  where
    by : (w : Work) → OtherWork w (One single)
        → is_single_of single.tx (record { work = w; tables = other.tables }) ≡ false
    by (One one) h = not_so (one.tx == single.tx) (λ e. h (same_number one.tx single.tx e))
    by (Joint asked) h = refl

    by_turned : (w : Work) → OtherWork (One single) w
        → is_single_of single.tx (record { work = w; tables = other.tables }) ≡ false
    by_turned (One one) h = not_so (one.tx == single.tx) (λ e. h (sym (same_number one.tx single.tx e)))
    by_turned (Joint asked) h = refl

module _ {F : Type 0} (forms : Forms F) (laws : Laws) where
  as_is : (s new : State) → new ≡ s → Kept forms s → Kept forms new
  as_is s new e kept = subst (Kept forms) (sym e) kept

  -- ---- begin

  ordinary : (s : State) (m : Member) (c : Statement Value) (blocked : Option ℕ) (reply : Reply F) (new : State)
      → blocker s m (statement_uses c) ≡ blocked → BeginsOrdinary s m c blocked reply new → Kept forms s
      → AreFaithful forms s.opening → In m s.active → m.posted ≡ false → is_lent s m.tx ≡ false
      → next_of s m ≡ Ordinary c → Kept forms new
  ordinary s m c (Some holder) reply new free step kept faithful at unposted idle next = as_is s new step.1 kept
  ordinary s m c None reply new free step kept faithful at unposted idle next =
      as_is _ new step.1 (lends forms laws s kept faithful m at unposted idle c next free)

  asks_to_post : (s : State) (m : Member) (asked : Entangled Value) (reply : Reply F) (new : State)
      → Posts s m asked reply new → Kept forms s → AreFaithful forms s.opening → In m s.active → m.posted ≡ false
      → is_lent s m.tx ≡ false → next_of s m ≡ Asks asked → blocker s m (entangled_uses asked) ≡ None
      → Kept forms new
  asks_to_post s m asked reply new (inl step) kept faithful at unposted idle next free =
      as_is _ new step.2 (posts forms laws s kept faithful m at unposted idle asked next free)
  asks_to_post s m asked reply new (inr step) kept faithful at unposted idle next free = as_is s new step.2.1 kept

  entangled : (s : State) (m : Member) (asked : Entangled Value) (blocked : Option ℕ) (reply : Reply F) (new : State)
      → blocker s m (entangled_uses asked) ≡ blocked → BeginsEntangled s m asked blocked reply new → Kept forms s
      → AreFaithful forms s.opening → In m s.active → m.posted ≡ false → is_lent s m.tx ≡ false
      → next_of s m ≡ Asks asked → Kept forms new
  entangled s m asked (Some holder) reply new free step kept faithful at unposted idle next =
      as_is s new step.1 kept
  entangled s m asked None reply new free step kept faithful at unposted idle next =
      asks_to_post s m asked reply new step kept faithful at unposted idle next free

  commit : (prepared : State) (group : ℕ) (ready : Bool) (reply : Reply F) (new : State)
      → is_ready prepared group ≡ ready → BeginsCommit prepared group ready reply new → Kept forms prepared
      → (prepared.running ≡ false → ⊥) → Kept forms new
  commit prepared group true reply new is step kept on =
      as_is _ new step.1
      (commits forms laws prepared kept group (turned (list_any (is_of group) prepared.active) is) on)
  commit prepared group false reply new is step kept on = as_is prepared new step.1 kept

  next_step : (s : State) (m : Member) (is : Next) (reply : Reply F) (new : State) → next_of s m ≡ is
      → BeginsNext s m is reply new → Kept forms s → AreFaithful forms s.opening → In m s.active
      → m.posted ≡ false → is_lent s m.tx ≡ false → (s.running ≡ false → ⊥) → Kept forms new
  next_step s m (Ordinary c) reply new is step kept faithful at unposted idle on =
      ordinary s m c (blocker s m (statement_uses c)) reply new refl step kept faithful at unposted idle is
  next_step s m (Asks asked) reply new is step kept faithful at unposted idle on =
      entangled s m asked (blocker s m (entangled_uses asked)) reply new refl step kept faithful at unposted idle is
  next_step s m Commits reply new is step kept faithful at unposted idle on =
      commit (preparing s m) m.group (is_ready (preparing s m) m.group) reply new refl step
      (prepares forms laws s kept faithful m at unposted idle is) on
  next_step s m RollsBack reply new is step kept faithful at unposted idle on =
      as_is _ new step.1 (rolls_back forms laws s kept m.group (Asked m.tx))

  unless : (busy : Bool) (s : State) (m : Member) (reply : Reply F) (new : State)
      → (m.posted || is_lent s m.tx) ≡ busy → BeginsUnless busy s m reply new → Kept forms s
      → AreFaithful forms s.opening → In m s.active → (s.running ≡ false → ⊥) → Kept forms new
  unless true s m reply new is step kept faithful at on = as_is s new step.1 kept
  unless false s m reply new is step kept faithful at on =
      let two = neither m.posted (is_lent s m.tx) is in
      next_step s m (next_of s m) reply new refl step kept faithful at two.0 two.1 on

  active_on : (s : State) (m : Member) → Kept forms s → In m s.active → s.running ≡ false → ⊥
  active_on s m kept at off = subst (In m) (kept.idle off).1 at

  begins : (s : State) (tx : ℕ) (member : Option Member) (reply : Reply F) (new : State)
      → active_member s tx ≡ member → BeginsMember s tx member reply new → Kept forms s → AreFaithful forms s.opening
      → Kept forms new
  begins s tx (Some m) reply new is step kept faithful =
      let f = found s tx m is in
      unless (m.posted || is_lent s tx) s m reply new (ap (λ n. m.posted || is_lent s n) f.1) step kept faithful f.0
      (active_on s m kept f.0)
  begins s tx None reply new is step kept faithful = as_is s new step.1 kept

  -- ---- finish

  by_outcome : (s : State) (m : Member) (c : Statement Value) (outcome : Outcome) (reply : Reply F) (new : State)
      → FinishesBy s m c outcome reply new → Kept forms s → Kept forms (finished s m c outcome) → Kept forms new
  by_outcome s m c (Fault failure) reply new step kept after =
      as_is _ new step.1 (rolls_back forms laws s kept m.group (Failing m.tx failure))
  by_outcome s m c (Shown rows) reply new step kept after = as_is _ new step.1 after
  by_outcome s m c (Changed count removed added) reply new step kept after = as_is _ new step.1 after
  by_outcome s m c (Bound value) reply new step kept after = as_is _ new step.1 after
  by_outcome s m c (Choice groundings) reply new step kept after = absurd step

  single : (s : State) (done : Done) (of_job : Single) (reply : Reply F) (new : State) → done.job.work ≡ One of_job
      → FinishesSingle s done of_job reply new → Kept forms s → AreFaithful forms s.opening
      → Kept forms new
  single s done of_job reply new is step kept faithful =
      let f = found s of_job.tx step.member step.is_member in
      let fewer = taken_fewer done.job s.lent step.left step.taken in
      let left = with_jobs forms s kept step.left s.tried fewer
      (taken_apart done.job s.lent step.left step.taken kept.jobs_apart) in
      let right : SingleRight s.submitted s.active s.tables (tables_of done.job.tables) of_job =
      subst (WorkRight s.submitted s.active s.tables (tables_of done.job.tables)) is
      (of_all (JobRight s.submitted s.active s.tables) s.lent done.job kept.jobs
      (taken_there done.job s.lent step.left step.taken)) in
      let x = history_of forms (record s { lent = step.left }) left step.member f.0 in
      let same : right.member ≡ x.0.member =
      one_member forms s kept right.member step.member right.at f.0 (right.tx ∙ sym f.1) ∙ x.2 in
      let effect : IsEffect of_job.statement (tables_of done.job.tables)
      (form_meaning closed_worth of_job.statement [] (tables_of done.job.tables) nothing_bound) done.outcome =
      subst (λ w. IsOutcome w (tables_of done.job.tables) done.outcome) is step.meant in
      let after : Kept forms (finished (record s { lent = step.left }) x.0.member of_job.statement done.outcome) =
      finishes_by forms laws (record s { lent = step.left }) left faithful x.0 x.1 of_job.statement
      (ap (next_of s) (sym same) ∙ right.next)
      (subst (λ (y : Member). HoldsUses y (statement_uses of_job.statement)) same right.holds)
      (λ job jt. ap (λ n. is_single_of n job) (ap (λ (y : Member). y.tx) (sym x.2) ∙ f.1)
      ∙ taken_other done.job s.lent step.left step.taken kept.jobs_apart of_job is job jt)
      done.outcome
      (lands of_job.statement (tables_of done.job.tables) s.tables (environment_of x.0.member) done.outcome right.alike
      right.room effect) in
      by_outcome (record s { lent = step.left }) step.member of_job.statement done.outcome reply new step.steps left
      (subst (λ (y : Member). Kept forms (finished (record s { lent = step.left }) y of_job.statement done.outcome))
      (sym x.2) after)

  finish : (s : State) (done : Done) (reply : Reply F) (new : State) → Finishes s done reply new
      → Kept forms s → AreFaithful forms s.opening → Kept forms new
  finish s done reply new (inl step) kept faithful = single s done step.0 reply new step.1 step.2 kept faithful
  finish s done reply new (inr step) kept faithful = as_is s new step.1.1 kept

  -- ---- joint answers

  answers_by : (s : State) (asked : List Posted) (groundings : Option (List Valuation)) (seen : Tables)
      (left : List Job) (reply : Reply F) (new : State)
      → AnswersBy (record s { lent = left }) asked groundings reply new
      → ((values : List Valuation) → groundings ≡ Some values → IsChoice seen asked values)
      → Kept forms s → AreFaithful forms s.opening → IsPresentComponent s asked
      → AllByRecursion (PostedQueryRight s.active s.tables seen) asked
      → ((job : Job) → In job left → In job s.lent) → Pairs OtherJob left → Kept forms new
  answers_by s asked (Some values) seen left reply new step chosen kept faithful component right fewer apart =
      as_is _ new step.1
      (joins forms laws s kept faithful asked values seen (answered_groups (record s { lent = left }) asked)
      (chosen values refl).grounded (present_all s asked component) right (queries_apart s asked component)
      (queries_some s asked component)
      (λ post at.
      contains_in (all_heads asked values) post
      ((chosen values refl).met post (in_contains (all_posts asked values) post at)))
      (λ a at x xt same. groups_answered forms s kept asked a at x xt same) left fewer
      apart (component_on forms s kept asked component))
  answers_by s asked None seen left reply new step chosen kept faithful component right fewer apart =
      as_is _ new step.1 (with_jobs forms s kept left (asked ∷ s.tried) fewer apart)

  answered : (s : State) (done : Done) (reply : Reply F) (new : State) → Joins s done reply new
      → Kept forms s → AreFaithful forms s.opening → Kept forms new
  answered s done reply new step kept faithful =
      let out = step.outstanding in
      let seen = tables_of done.job.tables in
      let right : AllByRecursion (PostedQueryRight s.active s.tables (tables_of done.job.tables)) out.asked =
      subst (WorkRight s.submitted s.active s.tables (tables_of done.job.tables)) out.is_joint
      (of_all (JobRight s.submitted s.active s.tables) s.lent done.job kept.jobs
      (taken_there done.job s.lent out.left out.taken)) in
      let chosen : IsOutcome (Joint out.asked) (tables_of done.job.tables) (Choice step.groundings) =
      subst (λ w. IsOutcome w (tables_of done.job.tables) (Choice step.groundings)) out.is_joint
      (subst (IsOutcome done.job.work (tables_of done.job.tables)) step.choice step.meant) in
      answers_by s out.asked step.groundings (tables_of done.job.tables) out.left reply new step.answers
      (λ values is. (subst (λ g. IsLeastChoiceIfAny (tables_of done.job.tables) out.asked g) is
      chosen).choice)
      kept faithful out.component right (taken_fewer done.job s.lent out.left out.taken)
      (taken_apart done.job s.lent out.left out.taken kept.jobs_apart)

  join : (s : State) (done : Done) (reply : Reply F) (new : State) → JoinsOrIsStale s done reply new
      → Kept forms s → AreFaithful forms s.opening → Kept forms new
  join s done reply new (inl step) kept faithful = answered s done reply new step kept faithful
  join s done reply new (inr step) kept faithful = as_is s new step.1.1 kept

  -- ---- the other events

  pick : (s : State) (reply : Reply F) (new : State) → Picks s reply new → Kept forms s → Kept forms new
  pick s reply new (inl step) kept = as_is _ new step.is (picks forms s kept step.asked step.can.component)
  pick s reply new (inr step) kept = as_is s new step.1.1 kept

  submit_form : (s : State) (script : Script) (form : Result (List (Statement Known)) F) (reply : Reply F)
      (new : State) → forms.resolve s.opening script ≡ form → SubmitsForm s script form reply new → Kept forms s
      → Kept forms new
  submit_form s script (Ok form) reply new is step kept = as_is _ new step.1 (submits forms s kept script form is)
  submit_form s script (Err fault) reply new is step kept = as_is s new step.1 kept

  submit : (full : Bool) (s : State) (script : Script) (reply : Reply F) (new : State)
      → SubmitsUnless full forms s script reply new → Kept forms s → Kept forms new
  submit true s script reply new step kept = as_is s new step.1 kept
  submit false s script reply new step kept =
      submit_form s script (forms.resolve s.opening script) reply new refl step kept

  start : (s : State) (running : Bool) (dormant : List Dormant) (reply : Reply F) (new : State)
      → s.running ≡ running → StartsWith s running dormant reply new → Kept forms s → Kept forms new
  start s true dormant reply new is step kept = as_is s new step.1 kept
  start s false [] reply new is step kept = as_is s new step.1 kept
  start s false (first ∷ more) reply new is step kept = as_is _ new step.1 (starts forms s kept is)

  break : (s : State) (reply : Reply F) (new : State) → BreaksIfAny s reply new → Kept forms s → Kept forms new
  break s reply new (inl step) kept = as_is _ new step.is (rolls_back forms laws s kept step.victim.group NoOne)
  break s reply new (inr step) kept = as_is s new step.1.1 kept

  end_run : (s : State) (running : Bool) (reply : Reply F) (new : State) → EndsWhileRunning s running reply new
      → Kept forms s → Kept forms new
  end_run s false reply new step kept = as_is s new step.1 kept
  end_run s true reply new (inl step) kept = as_is _ new step.2 (ends forms laws s kept)
  end_run s true reply new (inr step) kept = as_is s new step.2.1 kept

  pub stepped_on : (s : State) (event : Event) (reply : Reply F) (new : State) → Step forms s event reply new
      → Kept forms s → AreFaithful forms s.opening → Kept forms new
  stepped_on s (events.Submit script) reply new step kept faithful = submit _ s script reply new step kept
  stepped_on s events.StartRun reply new step kept faithful = start s s.running s.dormant reply new refl step kept
  stepped_on s (events.Begin tx) reply new step kept faithful =
      begins s tx (active_member s tx) reply new refl step kept faithful
  stepped_on s (events.Finish done) reply new step kept faithful =
      finish s done reply new step kept faithful
  stepped_on s events.Pick reply new step kept faithful = pick s reply new step kept
  stepped_on s (events.JoinAnswer done) reply new step kept faithful =
      join s done reply new step kept faithful
  stepped_on s events.BreakCycle reply new step kept faithful = break s reply new step kept
  stepped_on s events.EndRun reply new step kept faithful = end_run s s.running reply new step kept
  stepped_on s events.Recall reply new step kept faithful =
      as_is _ new step.1 (with_jobs forms s kept [] s.tried (λ job bad. absurd bad) tt)

  led_on : (n : ℕ) (first last : State) → LeadsTo forms n first last → Kept forms first → Kept forms last
  led_on zero first last leads kept = as_is first last leads kept
  led_on (suc n) first last leads kept =
      let before = led_on n first leads.0 leads.3 kept in
      stepped_on leads.0 leads.1 leads.2 last leads.4 before before.faithful

  pub reached_kept : (s : State) → AreFaithful forms s.opening → IsReached forms s → Kept forms s
  reached_kept s faithful reached =
      led_on reached.0 (opened s.opening) s reached.1 (kept_opened forms s.opening faithful)
