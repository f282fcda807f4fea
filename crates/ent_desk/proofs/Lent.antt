-- Which jobs are lent behind an event.
use Rattle.std.proofs.Common.{◌≡◌, inl, inr, ◌++◌, ◌∙◌, ◌||◌, ℕ, Bool, true, false, List, [], ◌∷◌, Option, Some, None}
use Rattle.std.proofs.Common.{Result, Ok, Err, add-one, ap, drop, length, nat_le, refl, slice_get, subst, sym, take}
use Rattle.std.specs.List.{remove}
use Rattle.std.specs.Prelude.{Contains, if◌then◌else◌}
use Rattle.ent_value.specs.declared.value.Value.{Value}
use Rattle.ent_form.specs.declared.fault.FormFault.{FormFault}
use Rattle.ent_tree.specs.declared.limits.TheConstants.{MOST_SCRIPTS}
use Rattle.ent_tree.specs.declared.script.Script.{Script}
use Rattle.ent_semantics.specs.declared.entangled.Entangled.{Entangled}
use Rattle.ent_semantics.specs.declared.operand.Known.{Known}
use Rattle.ent_semantics.specs.declared.statement.Statement.{Statement}
use Rattle.ent_semantics.specs.Entangled.{Valuation}
use Rattle.ent_semantics.specs.Pool.{Posted}
use Rattle.ent_job.proofs.Leaving.{left_with}
use Rattle.ent_job.proofs.Taken.{taken_at, taken_from}
use Rattle.ent_protocol.specs.Begin.{Begins, BeginsMember, BeginsUnless, BeginsNext, BeginsOrdinary, BeginsEntangled}
use Rattle.ent_protocol.specs.Begin.{BeginsCommit, Posts, single_job}
use Rattle.ent_protocol.specs.Commit.{is_ready, preparing}
use Rattle.ent_protocol.specs.Event.{Reply}
use Rattle.ent_protocol.specs.Event as events
use Rattle.ent_protocol.specs.Finish.{Finishes, FinishesBy, IsOutstandingSingle, IsTaken}
use Rattle.ent_protocol.specs.Job.{Done, Job, Outcome, Shown, Changed, Bound, Choice, Fault}
use Rattle.ent_protocol.specs.Member.{Next, Ordinary, Asks, Commits, RollsBack, active_member, is_lent, is_prepared}
use Rattle.ent_protocol.specs.Member.{next_of}
use Rattle.ent_protocol.specs.PoolEvents.{AnswersBy, IsOutstandingJoint, JoinsOrIsStale, Picks}
use Rattle.ent_protocol.specs.Rollback.{group_members, group_numbers}
use Rattle.ent_protocol.specs.Run.{BreaksIfAny, Ends, EndsWhileRunning, Forms, Starts, StartsWith, Submits}
use Rattle.ent_protocol.specs.Run.{SubmitsForm, SubmitsUnless}
use Rattle.ent_protocol.specs.State.{State, Member, Dormant}
use Rattle.ent_protocol.specs.Step.{Step}
use Rattle.ent_protocol.specs.Uses.{blocker, entangled_uses, statement_uses}
use Rattle.ent_protocol_laws.proofs.TakenOnce.{taken_alike}
use Rattle.ent_protocol_laws.specs.Lent.{LentStandOnce}
use Rattle.ent_core.specs.Passed.{resolved_forms}
use Rattle.ent_core.specs.Reply.{reply_seen}
use Rattle.ent_core.specs.declared.reply.Reply.{Reply as Given}
use Rattle.ent_core.specs.declared.reply.Reply.TheVariants as given
use Rattle.ent_desk.proofs.Counting.{Keeps, finishes_none, joins_none}
use Rattle.ent_desk.proofs.Leaving.{stays_left}
use Rattle.ent_stamp.specs.Stamps.{jobs_left_by}
use Rattle.ent_desk.specs.Seen.{DeskState}
use Rattle.ent_desk.specs.Lending.{IsLeftBehind, IsLentBehind, TakesIn, coming_as, is_single, left_behind, left_in}

-- ---- events that take no result

module _ {F : Type 0} (old new : State) (reply : Reply F) where
  lent_by : (s : State) (is : Reply F) → reply ≡ is → new ≡ s → IsLentBehind is old.lent s.lent
      → IsLentBehind reply old.lent new.lent
  lent_by s is e same h =
      subst (λ (r : Reply F). IsLentBehind r old.lent new.lent) (sym e)
      (subst (λ (x : State). IsLentBehind is old.lent x.lent) (sym same) h)

  begins_ordinary : (member : Member) (statement : Statement Value) (holder : Option ℕ)
      → BeginsOrdinary old member statement holder reply new → IsLentBehind reply old.lent new.lent
  begins_ordinary member statement (Some holder) h = lent_by _ (events.Blocked holder) h.0 h.1 refl
  begins_ordinary member statement None h =
      lent_by _ (events.Lent (single_job old member statement)) h.0 h.1 refl

  posts : (member : Member) (statement : Entangled Value) → Posts old member statement reply new
      → IsLentBehind reply old.lent new.lent
  posts member statement (inl h) = lent_by _ events.Posted h.1 h.2 refl
  posts member statement (inr h) = lent_by _ (events.HeldBack h.0) h.2.0 h.2.1 refl

  begins_entangled : (member : Member) (statement : Entangled Value) (holder : Option ℕ)
      → BeginsEntangled old member statement holder reply new → IsLentBehind reply old.lent new.lent
  begins_entangled member statement (Some holder) h = lent_by _ (events.Blocked holder) h.0 h.1 refl
  begins_entangled member statement None h = posts member statement h

  begins_commit : (member : Member) (ready : Bool)
      → BeginsCommit (preparing old member) member.group ready reply new → IsLentBehind reply old.lent new.lent
  begins_commit member true h = lent_by _ (events.Committed _) h.0 h.1 refl
  begins_commit member false h = lent_by _ events.Prepared h.0 h.1 refl

  begins_next : (member : Member) (next : Next) → BeginsNext old member next reply new
      → IsLentBehind reply old.lent new.lent
  begins_next member (Ordinary statement) h =
      begins_ordinary member statement (blocker old member (statement_uses statement)) h
  begins_next member (Asks statement) h =
      begins_entangled member statement (blocker old member (entangled_uses statement)) h
  begins_next member Commits h = begins_commit member (is_ready (preparing old member) member.group) h
  begins_next member RollsBack h =
      lent_by _ (events.RolledBack _) h.0 h.1 (sym (left_with (group_members old member.group) old.lent))

  begins_unless : (member : Member) (busy : Bool) → BeginsUnless busy old member reply new
      → IsLentBehind reply old.lent new.lent
  begins_unless member true h = lent_by _ events.NotNow h.0 h.1 refl
  begins_unless member false h = begins_next member (next_of old member) h

  absent : (prepared : Bool) → reply ≡ (if prepared then events.NotNow else events.Absent) → new ≡ old
      → IsLentBehind reply old.lent new.lent
  absent true e same = lent_by _ events.NotNow e same refl
  absent false e same = lent_by _ events.Absent e same refl

  begins_member : (tx : ℕ) (member : Option Member) → BeginsMember old tx member reply new
      → IsLentBehind reply old.lent new.lent
  begins_member tx (Some member) h = begins_unless member (member.posted || is_lent old tx) h
  begins_member tx None h = absent (is_prepared old tx) h.0 h.1

  pub begins_lent : (tx : ℕ) → Begins old tx reply new → IsLentBehind reply old.lent new.lent
  begins_lent tx h = begins_member tx (active_member old tx) h

  pub picks_lent : Picks old reply new → IsLentBehind reply old.lent new.lent
  picks_lent (inl h) = lent_by _ (events.Lent _) h.replies h.is refl
  picks_lent (inr h) = lent_by _ events.Nothing h.1.0 h.1.1 refl

  pub breaks_lent : BreaksIfAny old reply new → IsLentBehind reply old.lent new.lent
  breaks_lent (inl h) =
      lent_by _ (events.Broken _ _) h.replies h.is (sym (left_with (group_members old h.victim.group) old.lent))
  breaks_lent (inr h) = lent_by _ events.NoCycle h.1.0 h.1.1 refl

  ends_while : (running : Bool) → EndsWhileRunning old running reply new → IsLentBehind reply old.lent new.lent
  ends_while false h = lent_by _ events.NotNow h.0 h.1 refl
  ends_while true (inl h) = lent_by _ (events.Ended _) h.1 h.2 refl
  ends_while true (inr h) = lent_by _ (events.Busy _) h.2.0 h.2.1 refl

  pub ends_lent : Ends old reply new → IsLentBehind reply old.lent new.lent
  ends_lent h = ends_while old.running h

  starts_with : (running : Bool) (dormant : List Dormant) → StartsWith old running dormant reply new
      → IsLentBehind reply old.lent new.lent
  starts_with true dormant h = lent_by _ events.NotNow h.0 h.1 refl
  starts_with false [] h = lent_by _ events.Absent h.0 h.1 refl
  starts_with false (first ∷ more) h = lent_by _ (events.Started _) h.0 h.1 refl

  pub starts_lent : Starts old reply new → IsLentBehind reply old.lent new.lent
  starts_lent h = starts_with old.running old.dormant h

  submits_form : (script : Script) (form : Result (List (Statement Known)) F)
      → SubmitsForm old script form reply new → new.lent ≡ old.lent
  submits_form script (Ok form) h = ap (λ (s : State). s.lent) h.1
  submits_form script (Err fault) h = ap (λ (s : State). s.lent) h.1

  submits_unless : (full : Bool) (forms : Forms F) (script : Script) → SubmitsUnless full forms old script reply new
      → new.lent ≡ old.lent
  submits_unless true forms script h = ap (λ (s : State). s.lent) h.1
  submits_unless false forms script h = submits_form script (forms.resolve old.opening script) h

  pub submits_lent : (forms : Forms F) (script : Script) → Submits forms old script reply new → new.lent ≡ old.lent
  submits_lent forms script h = submits_unless (nat_le MOST_SCRIPTS (length old.submitted)) forms script h

-- ---- results

-- it is known which jobs are left where the one at an index is taken
left_without : (s : State) (job : Job) (left : List Job) (index : ℕ) → LentStandOnce s
    → slice_get s.lent index ≡ Some job → IsTaken job s.lent left → left ≡ remove s.lent index
left_without s job left index once at taken =
    taken_alike s job left (remove s.lent index) once taken
    (taken_at s.lent (remove s.lent index) index job at
    (ap (λ n. take index s.lent ++ drop n s.lent) (sym (add-one index))))

module _ {F : Type 0} (old new : State) (done : Done) (reply : Reply F) (index : ℕ)
    (at : slice_get old.lent index ≡ Some done.job) (once : LentStandOnce old) where
  left_after : (s : State) (is : Reply F) → reply ≡ is → new ≡ s → IsLeftBehind is index old.lent s.lent
      → IsLeftBehind reply index old.lent new.lent
  left_after s is e same h =
      subst (λ (r : Reply F). IsLeftBehind r index old.lent new.lent) (sym e)
      (subst (λ (x : State). IsLeftBehind is index old.lent x.lent) (sym same) h)

  finishes_by : (left : List Job) → left ≡ remove old.lent index → (member : Member) (statement : Statement Value)
      (outcome : Outcome) → FinishesBy (record old { lent = left }) member statement outcome reply new
      → IsLeftBehind reply index old.lent new.lent
  finishes_by left taken member statement (Fault failure) h =
      let s : State = record old { lent = left } in
      left_after _ (events.Failed failure _) h.0 h.1
      (sym (left_with (group_members s member.group) left)
      ∙ ap (λ (jobs : List Job). jobs_left_by (group_numbers s member.group) jobs) taken)
  finishes_by left taken member statement (Shown rows) h = left_after _ (events.Stepped _) h.0 h.1 taken
  finishes_by left taken member statement (Changed count removed added) h =
      left_after _ (events.Stepped _) h.0 h.1 taken
  finishes_by left taken member statement (Bound value) h = left_after _ (events.Stepped _) h.0 h.1 taken
  finishes_by left taken member statement (Choice groundings) h = absurd h

  pub finishes_left : Finishes old done reply new → IsLeftBehind reply index old.lent new.lent
  finishes_left (inl h) =
      let f = h.2 in
      finishes_by f.left (left_without old done.job f.left index once at f.taken) f.member h.0.statement
      done.outcome f.steps
  finishes_left (inr h) = left_after _ (events.Stale done) h.1.0 h.1.1 refl

  answers_by : (left : List Job) → left ≡ remove old.lent index → (asked : List Posted)
      (groundings : Option (List Valuation)) → AnswersBy (record old { lent = left }) asked groundings reply new
      → IsLeftBehind reply index old.lent new.lent
  answers_by left taken asked (Some groundings) h = left_after _ events.Answered h.0 h.1 taken
  answers_by left taken asked None h = left_after _ events.NoChoice h.0 h.1 taken

  pub joins_left : JoinsOrIsStale old done reply new → IsLeftBehind reply index old.lent new.lent
  joins_left (inl h) =
      let out = h.outstanding in
      answers_by out.left (left_without old done.job out.left index once at out.taken) out.asked h.groundings
      h.answers
  joins_left (inr h) = left_after _ (events.Stale done) h.1.0 h.1.1 refl

-- the same of both
pub comes_left : (old new : State) (done : Done) (reply : Reply FormFault) (index : ℕ)
    → slice_get old.lent index ≡ Some done.job → LentStandOnce old → (single : Bool)
    → Step resolved_forms old (coming_as single done) reply new → IsLeftBehind reply index old.lent new.lent
comes_left old new done reply index at once true step = finishes_left old new done reply index at once step
comes_left old new done reply index at once false step = joins_left old new done reply index at once step

-- scripts and journal stay
pub comes_none : (old new : State) (done : Done) (reply : Reply FormFault) (single : Bool)
    → Step resolved_forms old (coming_as single done) reply new → Keeps old new
comes_none old new done reply true step = finishes_none old new reply done step
comes_none old new done reply false step = joins_none old new reply done step

-- ---- results of jobs that aren't lent

-- such a result is stale
stale : (s : State) (done : Done) → (Contains s.lent done.job → ⊥) → (single : Bool)
    → Step resolved_forms s (coming_as single done) (events.Stale done) s
stale s done none true =
    inr ((λ (out : IsOutstandingSingle s done). none (taken_from done.job s.lent out.1 out.3)), (refl, refl))
stale s done none false =
    inr ((λ (out : IsOutstandingJoint s done). none (taken_from done.job s.lent out.left out.taken)), (refl, refl))

pub takes_none : (desk : DeskState) (done : Done) → (Contains desk.core.lent done.job → ⊥) → TakesIn desk done desk
takes_none desk done none =
    record {
      reply = events.Stale done;
      step = stale desk.core done none (is_single done.job.work);
      count = refl;
      left = stays_left desk.left false refl;
    }

-- ---- what a core replies

-- a reply that lends no job
pub lent_unless : (reply : Given) (before after : List Job) → ((job : Job) → reply ≡ given.Lent job → ⊥)
    → IsLentBehind (reply_seen reply) before after → after ≡ left_in (reply_seen reply) before
lent_unless (given.Submitted tx) before after none h = h
lent_unless (given.Started members) before after none h = h
lent_unless (given.Blocked holder) before after none h = h
lent_unless (given.Lent job) before after none h = absurd (none job refl)
lent_unless (given.HeldBack fault) before after none h = h
lent_unless given.Posted before after none h = h
lent_unless given.Prepared before after none h = h
lent_unless (given.Committed first members) before after none h = h
lent_unless (given.RolledBack group) before after none h = h
lent_unless (given.Stepped answer) before after none h = h
lent_unless (given.Failed failure group) before after none h = h
lent_unless given.Nothing before after none h = h
lent_unless given.Answered before after none h = h
lent_unless given.NoChoice before after none h = h
lent_unless (given.Broken cycle group) before after none h = h
lent_unless given.NoCycle before after none h = h
lent_unless (given.Ended members) before after none h = h
lent_unless given.Recalled before after none h = h
lent_unless given.Absent before after none h = h
lent_unless given.NotNow before after none h = h
lent_unless (given.Stale done) before after none h = h
lent_unless (given.Busy reason) before after none h = h
lent_unless (given.Full script) before after none h = h
lent_unless (given.Faulty script fault) before after none h = h

-- what is left where the run goes on
pub left_all : (ended : Bool) (went : Option (List ℕ)) (before after : List Job) → ended ≡ false → went ≡ None
    → after ≡ left_behind ended went before → after ≡ before
left_all true went before after on none is = cc
left_all false None before after on none is = is
left_all false (Some numbers) before after on none is = cc

pub left_some : (ended : Bool) (went : Option (List ℕ)) (numbers : List ℕ) (before after : List Job) → ended ≡ false
    → went ≡ Some numbers → after ≡ left_behind ended went before → after ≡ jobs_left_by numbers before
left_some true went numbers before after on some is = cc
left_some false None numbers before after on some is = cc
left_some false (Some own) numbers before after on some is =
    let same : own ≡ numbers = cc in
    is ∙ ap (λ (n : List ℕ). jobs_left_by n before) same
