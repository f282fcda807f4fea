-- Commits are numbered as the journal's entries are.
use Rattle.std.proofs.Common.{◌≡◌, inl, inr, ℕ, zero, suc, ◌+◌, Bool, true, false, List, [], ◌∷◌, ◌++◌, map, length}
use Rattle.std.proofs.Common.{cond, refl, sym, ap, subst, ◌∙◌, arith, Option, Some, None, Result, Ok, Err}
use Rattle.std.specs.List.{filter_map, cons_option}
use Rattle.ent_value.specs.declared.value.Value.{Value}
use Rattle.ent_tree.specs.declared.script.Script.{Script}
use Rattle.ent_semantics.specs.declared.answer.Failure.{Failure}
use Rattle.ent_semantics.specs.declared.book.Entry.{Entry}
use Rattle.ent_semantics.specs.declared.book.Fate.{Fate}
use Rattle.ent_semantics.specs.declared.book.Fate.TheVariants as fates
use Rattle.ent_semantics.specs.declared.book.Fated.{Fated}
use Rattle.ent_semantics.specs.Entangled.{Valuation}
use Rattle.ent_semantics.specs.declared.entangled.Entangled.{Entangled}
use Rattle.ent_semantics.specs.declared.operand.Known.{Known}
use Rattle.ent_semantics.specs.declared.statement.Statement.{Statement}
use Rattle.ent_semantics.specs.Pool.{Posted}
use Rattle.ent_protocol.specs.Begin.{BeginsOrdinary, Posts, BeginsEntangled, BeginsCommit, BeginsNext, BeginsUnless}
use Rattle.ent_protocol.specs.Begin.{BeginsMember}
use Rattle.ent_protocol.specs.Commit.{preparing, committing, committing_members, commit_fates, entry_of}
use Rattle.ent_protocol.specs.Event.{Event, Reply}
use Rattle.ent_protocol.specs.Event as events
use Rattle.ent_protocol.specs.Finish.{FinishesBy, Finishes, finished}
use Rattle.ent_protocol.specs.Job.{Done, Outcome, Shown, Changed, Bound, Choice, Fault}
use Rattle.ent_protocol.specs.Member.{Next, Ordinary, Asks, Commits, RollsBack, active_member}
use Rattle.ent_protocol.specs.Numbers.{with_commit, commits_in, entry_numbers, AreNumbered}
use Rattle.ent_protocol.specs.PoolEvents.{Picks, AnswersBy, JoinsOrIsStale}
use Rattle.ent_protocol.specs.Reached.{opened, LeadsTo, IsReached}
use Rattle.ent_protocol.specs.Rollback.{Cause, NoOne, Asked, Failing, or_gives_up, fate_of, fated_as, fated_by}
use Rattle.ent_protocol.specs.Rollback.{taken_out, group_members}
use Rattle.ent_protocol.specs.Run.{Forms, SubmitsForm, SubmitsUnless, StartsWith, BreaksIfAny, EndsWhileRunning}
use Rattle.ent_protocol.specs.State.{State, Submitted, Member, Dormant, by_number, members}
use Rattle.ent_protocol.specs.Step.{Step}

-- ---- lists of numbers

with_joined : (tx : ℕ) (fate : Fate) (xs ys : List (ℕ × ℕ))
    → with_commit tx fate (xs ++ ys) ≡ with_commit tx fate xs ++ ys
with_joined tx (fates.Committed number runs) xs ys = refl
with_joined tx (fates.GaveUp runs) xs ys = refl
with_joined tx (fates.RolledBack runs) xs ys = refl
with_joined tx (fates.Failed failure runs) xs ys = refl

commits_joined : (xs ys : List Fated) → commits_in (xs ++ ys) ≡ commits_in xs ++ commits_in ys
commits_joined [] ys = refl
commits_joined (x ∷ xs) ys =
    ap (with_commit x.tx x.fate) (commits_joined xs ys) ∙ with_joined x.tx x.fate (commits_in xs) (commits_in ys)

entries_joined : (n : ℕ) (xs ys : List Entry)
    → entry_numbers n (xs ++ ys) ≡ entry_numbers n xs ++ entry_numbers (length xs + n) ys
entries_joined n [] ys = ap (λ k. entry_numbers k ys) (omega arith)
entries_joined n (x ∷ xs) ys =
    ap (λ more. (n, x.tx) ∷ more) (entries_joined (suc n) xs ys
    ∙ ap (λ k. entry_numbers (suc n) xs ++ entry_numbers k ys) (omega arith))

members_numbered : (n : ℕ) (ms : List Member) → commits_in (commit_fates n ms) ≡ entry_numbers n (map entry_of ms)
members_numbered n [] = refl
members_numbered n (m ∷ ms) = ap (λ more. (n, m.tx) ∷ more) (members_numbered (suc n) ms)

-- ---- members that are rolled back don't commit

-- what a fate adds to the commits
abbrev adds : ℕ → Option Fate → List (ℕ × ℕ) → List (ℕ × ℕ)
adds tx None more = more
adds tx (Some fate) more = with_commit tx fate more

gives_up : (tx runs : ℕ) (over : Bool) (more : List (ℕ × ℕ)) → adds tx (or_gives_up None over runs) more ≡ more
gives_up tx runs true more = refl
gives_up tx runs false more = refl

asked : (tx runs : ℕ) (is over : Bool) (more : List (ℕ × ℕ))
    → adds tx (or_gives_up (cond is (Some (fates.RolledBack runs)) None) over runs) more ≡ more
asked tx runs true over more = refl
asked tx runs false over more = gives_up tx runs over more

failing : (tx runs : ℕ) (failure : Failure) (is over : Bool) (more : List (ℕ × ℕ))
    → adds tx (or_gives_up (cond is (Some (fates.Failed failure runs)) None) over runs) more ≡ more
failing tx runs failure true over more = refl
failing tx runs failure false over more = gives_up tx runs over more

no_commit : (submitted : List Submitted) (cause : Cause) (m : Member) (more : List (ℕ × ℕ))
    → adds m.tx (fate_of submitted cause m) more ≡ more
no_commit submitted NoOne m more = gives_up m.tx m.attempt _ more
no_commit submitted (Asked tx) m more = asked m.tx m.attempt _ _ more
no_commit submitted (Failing tx failure) m more = failing m.tx m.attempt failure _ _ more

-- the fates of some members, one after the other
added : (f : Member → Option Fate) (m : Member) (ms : List Member)
    → commits_in (filter_map (λ x. fated_as x.tx (f x)) (m ∷ ms))
    ≡ adds m.tx (f m) (commits_in (filter_map (λ x. fated_as x.tx (f x)) ms))
added f m ms =
    elim (f m) as (λ fate. commits_in (cons_option (fated_as m.tx fate) (filter_map (λ x. fated_as x.tx (f x)) ms))
    ≡ adds m.tx fate (commits_in (filter_map (λ x. fated_as x.tx (f x)) ms))) [
      | None ↦ refl
      | Some fate ↦ refl
    ]

none_commits : (submitted : List Submitted) (cause : Cause) (ms : List Member)
    → commits_in (filter_map (fated_by submitted cause) ms) ≡ []
none_commits submitted cause [] = refl
none_commits submitted cause (m ∷ ms) =
    added (fate_of submitted cause) m ms ∙ no_commit submitted cause m _ ∙ none_commits submitted cause ms

nothing_more : (xs : List (ℕ × ℕ)) → xs ++ [] ≡ xs
nothing_more [] = refl
nothing_more (x ∷ xs) = ap (λ more. x ∷ more) (nothing_more xs)

-- ---- states

out : (gone : List Member) (cause : Cause) (s : State) → AreNumbered s → AreNumbered (taken_out gone cause s)
out gone cause s h =
    commits_joined s.fates (filter_map (fated_by s.submitted cause) (by_number (λ member. member.tx) gone))
    ∙ ap (λ more. commits_in s.fates ++ more)
    (none_commits s.submitted cause (by_number (λ member. member.tx) gone))
    ∙ nothing_more (commits_in s.fates) ∙ h

commits : (s : State) (group : ℕ) → AreNumbered s → AreNumbered (committing s group)
commits s group h =
    let gone = committing_members s group in
    commits_joined s.fates (commit_fates (suc (length s.journal)) gone)
    ∙ (λ i. h i ++ members_numbered (suc (length s.journal)) gone i)
    ∙ ap (λ k. entry_numbers 1 s.journal ++ entry_numbers k (map entry_of gone)) (next (length s.journal))
    ∙ sym (entries_joined 1 s.journal (map entry_of gone))
  where
    next : (n : ℕ) → suc n ≡ n + 1
    next n = omega arith

as_it_is : (s new : State) → new ≡ s → AreNumbered s → AreNumbered new
as_it_is s new e h = subst AreNumbered (sym e) h

finishes_numbered : (s : State) (member : Member) (statement : Statement Value) (outcome : Outcome) → AreNumbered s
    → AreNumbered (finished s member statement outcome)
finishes_numbered s member statement (Changed count removed added) h = h
finishes_numbered s member statement (Bound value) h = h
finishes_numbered s member statement (Shown rows) h = h
finishes_numbered s member statement (Choice groundings) h = h
finishes_numbered s member statement (Fault failure) h = h

module _ {F : Type 0} where
  ordinary : (s : State) (member : Member) (statement : Statement Value) (blocked : Option ℕ) (reply : Reply F)
      (new : State) → BeginsOrdinary s member statement blocked reply new → AreNumbered s → AreNumbered new
  ordinary s member statement (Some holder) reply new step h = as_it_is s new step.1 h
  ordinary s member statement None reply new step h = as_it_is _ new step.1 h

  posts : (s : State) (member : Member) (statement : Entangled Value) (reply : Reply F) (new : State)
      → Posts s member statement reply new → AreNumbered s → AreNumbered new
  posts s member statement reply new (inl step) h = as_it_is _ new step.2 h
  posts s member statement reply new (inr step) h = as_it_is s new step.2.1 h

  entangled : (s : State) (member : Member) (statement : Entangled Value) (blocked : Option ℕ) (reply : Reply F)
      (new : State) → BeginsEntangled s member statement blocked reply new → AreNumbered s → AreNumbered new
  entangled s member statement (Some holder) reply new step h = as_it_is s new step.1 h
  entangled s member statement None reply new step h = posts s member statement reply new step h

  commit : (prepared : State) (group : ℕ) (ready : Bool) (reply : Reply F) (new : State)
      → BeginsCommit prepared group ready reply new → AreNumbered prepared → AreNumbered new
  commit prepared group true reply new step h = as_it_is _ new step.1 (commits prepared group h)
  commit prepared group false reply new step h = as_it_is prepared new step.1 h

  next : (s : State) (member : Member) (is : Next) (reply : Reply F) (new : State)
      → BeginsNext s member is reply new → AreNumbered s → AreNumbered new
  next s member (Ordinary statement) reply new step h = ordinary s member statement _ reply new step h
  next s member (Asks statement) reply new step h = entangled s member statement _ reply new step h
  next s member Commits reply new step h = commit (preparing s member) member.group _ reply new step h
  next s member RollsBack reply new step h =
      as_it_is _ new step.1 (out (group_members s member.group) (Asked member.tx) s h)

  unless : (busy : Bool) (s : State) (member : Member) (reply : Reply F) (new : State)
      → BeginsUnless busy s member reply new → AreNumbered s → AreNumbered new
  unless true s member reply new step h = as_it_is s new step.1 h
  unless false s member reply new step h = next s member _ reply new step h

  begins : (s : State) (tx : ℕ) (member : Option Member) (reply : Reply F) (new : State)
      → BeginsMember s tx member reply new → AreNumbered s → AreNumbered new
  begins s tx (Some member) reply new step h = unless _ s member reply new step h
  begins s tx None reply new step h = as_it_is s new step.1 h

  finishes : (s : State) (member : Member) (statement : Statement Value) (outcome : Outcome) (reply : Reply F)
      (new : State) → FinishesBy s member statement outcome reply new → AreNumbered s → AreNumbered new
  finishes s member statement (Fault failure) reply new step h =
      as_it_is _ new step.1 (out (group_members s member.group) (Failing member.tx failure) s h)
  finishes s member statement (Shown rows) reply new step h =
      as_it_is _ new step.1 (finishes_numbered s member statement (Shown rows) h)
  finishes s member statement (Changed count removed added) reply new step h =
      as_it_is _ new step.1 (finishes_numbered s member statement (Changed count removed added) h)
  finishes s member statement (Bound value) reply new step h =
      as_it_is _ new step.1 (finishes_numbered s member statement (Bound value) h)
  finishes s member statement (Choice groundings) reply new step h = absurd step

  finish : (s : State) (done : Done) (reply : Reply F) (new : State) → Finishes s done reply new
      → AreNumbered s → AreNumbered new
  finish s done reply new (inl step) h =
      finishes (record s { lent = step.2.left }) step.2.member step.0.statement done.outcome reply new step.2.steps h
  finish s done reply new (inr step) h = as_it_is s new step.1.1 h

  picks : (s : State) (reply : Reply F) (new : State) → Picks s reply new → AreNumbered s → AreNumbered new
  picks s reply new (inl step) h = as_it_is _ new step.is h
  picks s reply new (inr step) h = as_it_is s new step.1.1 h

  answers : (s : State) (asked : List Posted) (groundings : Option (List Valuation)) (reply : Reply F)
      (new : State) → AnswersBy s asked groundings reply new → AreNumbered s → AreNumbered new
  answers s asked (Some groundings) reply new step h = as_it_is _ new step.1 h
  answers s asked None reply new step h = as_it_is _ new step.1 h

  join : (s : State) (done : Done) (reply : Reply F) (new : State) → JoinsOrIsStale s done reply new
      → AreNumbered s → AreNumbered new
  join s done reply new (inl step) h =
      answers (record s { lent = step.outstanding.left }) step.outstanding.asked step.groundings
      reply new step.answers h
  join s done reply new (inr step) h = as_it_is s new step.1.1 h

  submits_form : (s : State) (script : Script) (form : Result (List (Statement Known)) F) (reply : Reply F)
      (new : State) → SubmitsForm s script form reply new → AreNumbered s → AreNumbered new
  submits_form s script (Ok form) reply new step h = as_it_is _ new step.1 h
  submits_form s script (Err fault) reply new step h = as_it_is s new step.1 h

  submits : (full : Bool) (forms : Forms F) (s : State) (script : Script) (reply : Reply F) (new : State)
      → SubmitsUnless full forms s script reply new → AreNumbered s → AreNumbered new
  submits true forms s script reply new step h = as_it_is s new step.1 h
  submits false forms s script reply new step h = submits_form s script _ reply new step h

  starts : (s : State) (running : Bool) (dormant : List Dormant) (reply : Reply F) (new : State)
      → StartsWith s running dormant reply new → AreNumbered s → AreNumbered new
  starts s true dormant reply new step h = as_it_is s new step.1 h
  starts s false [] reply new step h = as_it_is s new step.1 h
  starts s false (first ∷ more) reply new step h = as_it_is _ new step.1 h

  breaks : (s : State) (reply : Reply F) (new : State) → BreaksIfAny s reply new → AreNumbered s → AreNumbered new
  breaks s reply new (inl step) h = as_it_is _ new step.is (out (group_members s step.victim.group) NoOne s h)
  breaks s reply new (inr step) h = as_it_is s new step.1.1 h

  ends : (s : State) (running : Bool) (reply : Reply F) (new : State) → EndsWhileRunning s running reply new
      → AreNumbered s → AreNumbered new
  ends s false reply new step h = as_it_is s new step.1 h
  ends s true reply new (inl step) h = as_it_is _ new step.2 (out (members s) NoOne s h)
  ends s true reply new (inr step) h = as_it_is s new step.2.1 h

  numbered : (forms : Forms F) (s : State) (event : Event) (reply : Reply F) (new : State)
      → Step forms s event reply new → AreNumbered s → AreNumbered new
  numbered forms s (events.Submit script) reply new step h = submits _ forms s script reply new step h
  numbered forms s events.StartRun reply new step h = starts s s.running s.dormant reply new step h
  numbered forms s (events.Begin tx) reply new step h = begins s tx (active_member s tx) reply new step h
  numbered forms s (events.Finish done) reply new step h = finish s done reply new step h
  numbered forms s events.Pick reply new step h = picks s reply new step h
  numbered forms s (events.JoinAnswer done) reply new step h = join s done reply new step h
  numbered forms s events.BreakCycle reply new step h = breaks s reply new step h
  numbered forms s events.EndRun reply new step h = ends s _ reply new step h
  numbered forms s events.Recall reply new step h = as_it_is _ new step.1 h

  led : (forms : Forms F) (n : ℕ) (first last : State) → LeadsTo forms n first last → AreNumbered first
      → AreNumbered last
  led forms zero first last step h = as_it_is first last step h
  led forms (suc n) first last step h =
      numbered forms step.0 step.1 step.2 last step.4 (led forms n first step.0 step.3 h)

  pub reached_numbered : (forms : Forms F) (s : State) → IsReached forms s → AreNumbered s
  reached_numbered forms s reached = led forms reached.0 (opened s.opening) s reached.1 refl
