-- Who gets a fate in an event was a member of the run, and the fate counts its runs.
use Rattle.std.proofs.Common.{◌≡◌, ◌⊎◌, ◌==◌, ◌||◌, ℕ, suc, Bool, true, false, cond, List, [], ◌∷◌, length, refl, sym}
use Rattle.std.proofs.Common.{ap, subst, ◌∙◌, inl, inr, Option, Some, None, Result, Ok, Err}
use Rattle.std.specs.List.{filter, filter_map}
use Rattle.ent_value.specs.declared.value.Value.{Value}
use Rattle.ent_tree.specs.declared.script.Script.{Script}
use Rattle.ent_semantics.specs.declared.book.Fate.{Fate}
use Rattle.ent_semantics.specs.declared.book.Fate.TheVariants as fates
use Rattle.ent_semantics.specs.declared.book.Fated.{Fated}
use Rattle.ent_semantics.specs.Entangled.{Valuation}
use Rattle.ent_semantics.specs.declared.entangled.Entangled.{Entangled}
use Rattle.ent_semantics.specs.declared.operand.Known.{Known}
use Rattle.ent_semantics.specs.declared.statement.Statement.{Statement}
use Rattle.ent_semantics.specs.Pool.{Posted}
use Rattle.ent_protocol.specs.Begin.{BeginsCommit, BeginsEntangled, BeginsMember, BeginsNext, BeginsOrdinary}
use Rattle.ent_protocol.specs.Begin.{BeginsUnless, Posts}
use Rattle.ent_protocol.specs.Commit.{commit_fates, committing, committing_members, is_ready, preparing}
use Rattle.ent_protocol.specs.Event.{Event, Reply}
use Rattle.ent_protocol.specs.Event as events
use Rattle.ent_protocol.specs.Finish.{Finishes, FinishesBy, finished}
use Rattle.ent_protocol.specs.Job.{Bound, Changed, Choice, Done, Fault, Job, Outcome, Shown}
use Rattle.ent_protocol.specs.Member.{Asks, Commits, Next, Ordinary, RollsBack, active_member, is_lent, is_of}
use Rattle.ent_protocol.specs.Member.{next_of}
use Rattle.ent_protocol.specs.PoolEvents.{AnswersBy, JoinsOrIsStale, Picks}
use Rattle.ent_protocol.specs.Rollback.{Asked, Cause, Failing, NoOne, fate_of, fated_as, fated_by, group_members}
use Rattle.ent_protocol.specs.Rollback.{is_last_run, or_gives_up, own_fate, rolled_back, taken_out}
use Rattle.ent_protocol.specs.Run.{BreaksIfAny, EndsWhileRunning, Forms, StartsWith, SubmitsForm, SubmitsUnless}
use Rattle.ent_protocol.specs.State.{Dormant, Member, State, Submitted, by_number, members}
use Rattle.ent_protocol.specs.Step.{Step}
use Rattle.ent_protocol.specs.Uses.{blocker, entangled_uses, statement_uses}
use Rattle.ent_protocol_laws.specs.Numbered.{from_by_number}
use Rattle.ent_protocol_laws.proofs.Found.{found}
use Rattle.ent_protocol_laws.proofs.Left.{tx_of}
use Rattle.ent_lists.specs.Elements.{In, in_either, in_first, in_second, of_filter}
use Rattle.ent_lists.proofs.Lists.{of_filter_map}
use Rattle.ent_program_laws.specs.Reportable.{runs_of}

-- ---- fates that members get

-- the fate counts the runs of a member
abbrev pub OfMember : State → Fated → Type 0
OfMember s fated = (member : Member) × In member (members s) × (runs_of fated.fate ≡ member.attempt)

-- who has a fate had it before, or was a member
abbrev pub FatesFrom : State → State → Type 0
FatesFrom s new = (fated : Fated) → In fated new.fates → In fated s.fates ⊎ OfMember s fated

stay : (s new : State) → new.fates ≡ s.fates → FatesFrom s new
stay s new same fated at = inl (subst (In fated) same at)

own_runs : (cause : Cause) (m : Member) (fate : Fate) → own_fate cause m ≡ Some fate → runs_of fate ≡ m.attempt
own_runs NoOne m fate e = cc (e)
own_runs (Asked tx) m fate e = by (m.tx == tx) e
  where
    by : (b : Bool) → cond b (Some (fates.RolledBack m.attempt)) None ≡ Some fate → runs_of fate ≡ m.attempt
    by true e = let same : fate ≡ fates.RolledBack m.attempt = cc in ap runs_of same
    by false e = cc (e)
own_runs (Failing tx failure) m fate e = by (m.tx == tx) e
  where
    by : (b : Bool) → cond b (Some (fates.Failed failure m.attempt)) None ≡ Some fate → runs_of fate ≡ m.attempt
    by true e = let same : fate ≡ fates.Failed failure m.attempt = cc in ap runs_of same
    by false e = cc (e)

given_runs : (own : Option Fate) (last : Bool) (runs : ℕ) (fate : Fate)
    → ((other : Fate) → own ≡ Some other → runs_of other ≡ runs) → or_gives_up own last runs ≡ Some fate
    → runs_of fate ≡ runs
given_runs (Some other) last runs fate its e = let same : fate ≡ other = cc in ap runs_of same ∙ its other refl
given_runs None true runs fate its e = let same : fate ≡ fates.GaveUp runs = cc in ap runs_of same
given_runs None false runs fate its e = cc (e)

fated_runs : (submitted : List Submitted) (cause : Cause) (m : Member) (fated : Fated)
    → fated_by submitted cause m ≡ Some fated → runs_of fated.fate ≡ m.attempt
fated_runs submitted cause m fated e = by (fate_of submitted cause m) refl e
  where
    by : (fate : Option Fate) → fate_of submitted cause m ≡ fate → fated_as m.tx fate ≡ Some fated
        → runs_of fated.fate ≡ m.attempt
    by (Some fate) is e =
        let same : fated ≡ record { tx = m.tx; fate = fate } = cc in
        ap (λ (f : Fated). runs_of f.fate) same
        ∙ given_runs (own_fate cause m) (is_last_run submitted m) m.attempt fate (own_runs cause m) is
    by None is e = cc (e)

left_out : (s : State) (gone : List Member) (cause : Cause) → ((m : Member) → In m gone → In m (members s))
    → FatesFrom s (taken_out gone cause s)
left_out s gone cause of_run fated at =
    elim (in_either s.fates (filter_map (fated_by s.submitted cause) (by_number tx_of gone)) fated at) [
      | inl old ↦ inl old
      | inr new ↦
          let r = of_filter_map (fated_by s.submitted cause) (by_number tx_of gone) fated new in
          inr (r.0, of_run r.0 (from_by_number tx_of gone r.0 r.1), fated_runs s.submitted cause r.0 fated r.2)
    ]

grouped : (s : State) (group : ℕ) (m : Member) → In m (group_members s group) → In m (members s)
grouped s group m at =
    (of_filter (is_of group) (members s) m (from_by_number tx_of (filter (is_of group) (members s)) m at)).0

rolled_out : (s : State) (group : ℕ) (cause : Cause) → FatesFrom s (rolled_back group cause s)
rolled_out s group cause = left_out s (group_members s group) cause (grouped s group)

commit_runs : (number : ℕ) (gone : List Member) (fated : Fated) → In fated (commit_fates number gone)
    → (m : Member) × In m gone × (runs_of fated.fate ≡ m.attempt)
commit_runs number [] fated at = absurd at
commit_runs number (m ∷ more) fated (inl same) = (m, inl refl, ap (λ (f : Fated). runs_of f.fate) same)
commit_runs number (m ∷ more) fated (inr at) =
    let r = commit_runs (suc number) more fated at in
    (r.0, inr r.1, r.2)

commits_out : (s : State) (member : Member) → In member s.active → (group : ℕ)
    → FatesFrom s (committing (preparing s member) group)
commits_out s member at group fated there =
    let prepared = preparing s member in
    let gone = committing_members prepared group in
    elim (in_either s.fates (commit_fates (suc (length s.journal)) gone) fated there) [
      | inl old ↦ inl old
      | inr new ↦
          let r = commit_runs (suc (length s.journal)) gone fated new in
          let own = of_filter (is_of group) prepared.prepared r.0 r.1 in
          inr (r.0, was_member r.0 (in_either s.prepared (member ∷ []) r.0 own.0), r.2)
    ]
  where
    was_member : (m : Member) → In m s.prepared ⊎ In m (member ∷ []) → In m (members s)
    was_member m (inl old) = in_first s.prepared s.active m old
    was_member m (inr (inl same)) = in_second s.prepared s.active m (subst (λ x. In x s.active) (sym same) at)
    was_member m (inr (inr bad)) = absurd bad

finished_stay : (s : State) (m : Member) (statement : Statement Value) (outcome : Outcome)
    → (finished s m statement outcome).fates ≡ s.fates
finished_stay s m statement (Changed count removed added) = refl
finished_stay s m statement (Bound value) = refl
finished_stay s m statement (Shown rows) = refl
finished_stay s m statement (Fault failure) = refl
finished_stay s m statement (Choice groundings) = refl

-- ---- one event

module _ {F : Type 0} (forms : Forms F) where
  as_is : (s same new : State) → same.fates ≡ s.fates → new ≡ same → FatesFrom s new
  as_is s same new fates e = stay s new (ap (λ (t : State). t.fates) e ∙ fates)

  turned : (s other new : State) → FatesFrom s other → new ≡ other → FatesFrom s new
  turned s other new from e = subst (FatesFrom s) (sym e) from

  posts : (s : State) (m : Member) (asked : Entangled Value) (reply : Reply F) (new : State)
      → Posts s m asked reply new → FatesFrom s new
  posts s m asked reply new (inl step) = as_is s _ new refl step.2
  posts s m asked reply new (inr step) = as_is s s new refl step.2.1

  ordinary : (s : State) (m : Member) (c : Statement Value) (blocked : Option ℕ) (reply : Reply F) (new : State)
      → BeginsOrdinary s m c blocked reply new → FatesFrom s new
  ordinary s m c (Some holder) reply new step = as_is s s new refl step.1
  ordinary s m c None reply new step = as_is s _ new refl step.1

  entangled : (s : State) (m : Member) (asked : Entangled Value) (blocked : Option ℕ) (reply : Reply F) (new : State)
      → BeginsEntangled s m asked blocked reply new → FatesFrom s new
  entangled s m asked (Some holder) reply new step = as_is s s new refl step.1
  entangled s m asked None reply new step = posts s m asked reply new step

  commit : (s : State) (m : Member) → In m s.active → (ready : Bool) (reply : Reply F) (new : State)
      → BeginsCommit (preparing s m) m.group ready reply new → FatesFrom s new
  commit s m at true reply new step =
      turned s (committing (preparing s m) m.group) new (commits_out s m at m.group) step.1
  commit s m at false reply new step = as_is s (preparing s m) new refl step.1

  next_step : (s : State) (m : Member) → In m s.active → (is : Next) (reply : Reply F) (new : State)
      → BeginsNext s m is reply new → FatesFrom s new
  next_step s m at (Ordinary c) reply new step = ordinary s m c (blocker s m (statement_uses c)) reply new step
  next_step s m at (Asks asked) reply new step =
      entangled s m asked (blocker s m (entangled_uses asked)) reply new step
  next_step s m at Commits reply new step = commit s m at (is_ready (preparing s m) m.group) reply new step
  next_step s m at RollsBack reply new step =
      turned s (rolled_back m.group (Asked m.tx) s) new (rolled_out s m.group (Asked m.tx)) step.1

  unless : (busy : Bool) (s : State) (m : Member) → In m s.active → (reply : Reply F) (new : State)
      → BeginsUnless busy s m reply new → FatesFrom s new
  unless true s m at reply new step = as_is s s new refl step.1
  unless false s m at reply new step = next_step s m at (next_of s m) reply new step

  begins : (s : State) (tx : ℕ) (member : Option Member) (reply : Reply F) (new : State)
      → active_member s tx ≡ member → BeginsMember s tx member reply new → FatesFrom s new
  begins s tx (Some m) reply new is step =
      unless (m.posted || is_lent s tx) s m (found s tx m is).0 reply new step
  begins s tx None reply new is step = as_is s s new refl step.1

  by_outcome : (s : State) (m : Member) (left : List Job) (c : Statement Value) (outcome : Outcome) (reply : Reply F)
      (new : State) → FinishesBy (record s { lent = left }) m c outcome reply new → FatesFrom s new
  by_outcome s m left c (Fault failure) reply new step =
      turned s (rolled_back m.group (Failing m.tx failure) (record s { lent = left })) new
      (rolled_out (record s { lent = left }) m.group (Failing m.tx failure)) step.1
  by_outcome s m left c (Shown rows) reply new step =
      as_is s _ new (finished_stay (record s { lent = left }) m c (Shown rows)) step.1
  by_outcome s m left c (Changed count removed added) reply new step =
      as_is s _ new (finished_stay (record s { lent = left }) m c (Changed count removed added)) step.1
  by_outcome s m left c (Bound value) reply new step =
      as_is s _ new (finished_stay (record s { lent = left }) m c (Bound value)) step.1
  by_outcome s m left c (Choice groundings) reply new step = absurd step

  finish : (s : State) (done : Done) (reply : Reply F) (new : State) → Finishes s done reply new → FatesFrom s new
  finish s done reply new (inl step) =
      by_outcome s step.2.member step.2.left step.0.statement done.outcome reply new step.2.steps
  finish s done reply new (inr step) = as_is s s new refl step.1.1

  answers_by : (s : State) (left : List Job) (asked : List Posted) (groundings : Option (List Valuation))
      (reply : Reply F) (new : State) → AnswersBy (record s { lent = left }) asked groundings reply new
      → FatesFrom s new
  answers_by s left asked (Some groundings) reply new step = as_is s _ new refl step.1
  answers_by s left asked None reply new step = as_is s _ new refl step.1

  join : (s : State) (done : Done) (reply : Reply F) (new : State) → JoinsOrIsStale s done reply new
      → FatesFrom s new
  join s done reply new (inl step) =
      answers_by s step.outstanding.left step.outstanding.asked step.groundings reply new step.answers
  join s done reply new (inr step) = as_is s s new refl step.1.1

  pick : (s : State) (reply : Reply F) (new : State) → Picks s reply new → FatesFrom s new
  pick s reply new (inl step) = as_is s _ new refl step.is
  pick s reply new (inr step) = as_is s s new refl step.1.1

  submit_form : (s : State) (script : Script) (form : Result (List (Statement Known)) F) (reply : Reply F)
      (new : State) → SubmitsForm s script form reply new → FatesFrom s new
  submit_form s script (Ok form) reply new step = as_is s _ new refl step.1
  submit_form s script (Err fault) reply new step = as_is s s new refl step.1

  submit : (full : Bool) (s : State) (script : Script) (reply : Reply F) (new : State)
      → SubmitsUnless full forms s script reply new → FatesFrom s new
  submit true s script reply new step = as_is s s new refl step.1
  submit false s script reply new step =
      submit_form s script (forms.resolve s.opening script) reply new step

  start : (s : State) (running : Bool) (dormant : List Dormant) (reply : Reply F) (new : State)
      → StartsWith s running dormant reply new → FatesFrom s new
  start s true dormant reply new step = as_is s s new refl step.1
  start s false [] reply new step = as_is s s new refl step.1
  start s false (first ∷ more) reply new step = as_is s _ new refl step.1

  break : (s : State) (reply : Reply F) (new : State) → BreaksIfAny s reply new → FatesFrom s new
  break s reply new (inl step) =
      turned s (rolled_back step.victim.group NoOne s) new (rolled_out s step.victim.group NoOne) step.is
  break s reply new (inr step) = as_is s s new refl step.1.1

  end_run : (s : State) (running : Bool) (reply : Reply F) (new : State) → EndsWhileRunning s running reply new
      → FatesFrom s new
  end_run s false reply new step = as_is s s new refl step.1
  end_run s true reply new (inl step) =
      turned s _ new (left_out s (members s) NoOne (λ m at. at)) step.2
  end_run s true reply new (inr step) = as_is s s new refl step.2.1

  pub fates_from : (s : State) (event : Event) (reply : Reply F) (new : State) → Step forms s event reply new
      → FatesFrom s new
  fates_from s (events.Submit script) reply new step = submit _ s script reply new step
  fates_from s events.StartRun reply new step = start s s.running s.dormant reply new step
  fates_from s (events.Begin tx) reply new step = begins s tx (active_member s tx) reply new refl step
  fates_from s (events.Finish done) reply new step = finish s done reply new step
  fates_from s events.Pick reply new step = pick s reply new step
  fates_from s (events.JoinAnswer done) reply new step = join s done reply new step
  fates_from s events.BreakCycle reply new step = break s reply new step
  fates_from s events.EndRun reply new step = end_run s s.running reply new step
  fates_from s events.Recall reply new step = as_is s _ new refl step.1
