-- Fates come where members leave the run, and nowhere else.
use Rattle.std.proofs.Common.{◌≡◌, inl, inr, ◌||◌, ◌∙◌, ℕ, Bool, true, false, List, [], ◌∷◌, Option, Some, None}
use Rattle.std.proofs.Common.{Result, Ok, Err, ap, length, nat_le, refl, subst, sym}
use Rattle.std.specs.Prelude.{if◌then◌else◌}
use Rattle.ent_value.specs.declared.value.Value.{Value}
use Rattle.ent_lists.specs.Elements.{clash}
use Rattle.ent_tree.specs.declared.limits.TheConstants.{MOST_SCRIPTS}
use Rattle.ent_tree.specs.declared.script.Script.{Script}
use Rattle.ent_semantics.specs.declared.entangled.Entangled.{Entangled}
use Rattle.ent_semantics.specs.declared.operand.Known.{Known}
use Rattle.ent_semantics.specs.declared.statement.Statement.{Statement}
use Rattle.ent_semantics.specs.Entangled.{Valuation}
use Rattle.ent_semantics.specs.Pool.{Posted}
use Rattle.ent_protocol.specs.Begin.{Begins, BeginsMember, BeginsUnless, BeginsNext, BeginsOrdinary, BeginsEntangled}
use Rattle.ent_protocol.specs.Begin.{BeginsCommit, Posts, single_job}
use Rattle.ent_protocol.specs.Commit.{is_ready, preparing}
use Rattle.ent_protocol.specs.Event.{Event, Reply}
use Rattle.ent_protocol.specs.Event as events
use Rattle.ent_protocol.specs.Finish.{Finishes, FinishesBy}
use Rattle.ent_protocol.specs.Job.{Done, Job, Outcome, Shown, Changed, Bound, Choice, Fault}
use Rattle.ent_protocol.specs.Member.{Next, Ordinary, Asks, Commits, RollsBack, active_member, is_lent, is_prepared}
use Rattle.ent_protocol.specs.Member.{next_of}
use Rattle.ent_protocol.specs.Play.{is_idle}
use Rattle.ent_protocol.specs.PoolEvents.{AnswersBy, JoinsOrIsStale, Picks}
use Rattle.ent_protocol.specs.Run.{BreaksIfAny, Ends, EndsWhileRunning, Forms, Recalls, Starts, StartsWith, Submits}
use Rattle.ent_protocol.specs.Run.{SubmitsForm, SubmitsUnless}
use Rattle.ent_protocol.specs.State.{State, Member, Dormant}
use Rattle.ent_protocol.specs.Step.{Step}
use Rattle.ent_protocol.specs.Uses.{blocker, entangled_uses, statement_uses}
use Rattle.ent_members.proofs.Lists.{or_no}
use Rattle.ent_desk.specs.Advance.{is_leaving}

-- where a reply doesn't tell that members left, no fate came
abbrev pub KeepsFates : {F : Type 0} → State → Reply F → State → Type 0
KeepsFates old reply new = is_leaving reply ≡ false → new.fates ≡ old.fates

-- ---- what each event makes of the fates

module _ {F : Type 0} (old new : State) (reply : Reply F) where
  kept : (s : State) → new ≡ s → s.fates ≡ old.fates → KeepsFates old reply new
  kept s same h = λ stays. ap (λ (x : State). x.fates) same ∙ h

  gone : (is : Reply F) → reply ≡ is → is_leaving is ≡ true → KeepsFates old reply new
  gone is e leaves = λ stays. clash (is_leaving reply) (ap (λ (r : Reply F). is_leaving r) e ∙ leaves) stays

  begins_ordinary : (member : Member) (statement : Statement Value) (holder : Option ℕ)
      → BeginsOrdinary old member statement holder reply new → KeepsFates old reply new
  begins_ordinary member statement (Some holder) h = kept old h.1 refl
  begins_ordinary member statement None h = kept _ h.1 refl

  posts : (member : Member) (statement : Entangled Value) → Posts old member statement reply new
      → KeepsFates old reply new
  posts member statement (inl h) = kept _ h.2 refl
  posts member statement (inr h) = kept old h.2.1 refl

  begins_entangled : (member : Member) (statement : Entangled Value) (holder : Option ℕ)
      → BeginsEntangled old member statement holder reply new → KeepsFates old reply new
  begins_entangled member statement (Some holder) h = kept old h.1 refl
  begins_entangled member statement None h = posts member statement h

  begins_commit : (member : Member) (ready : Bool)
      → BeginsCommit (preparing old member) member.group ready reply new → KeepsFates old reply new
  begins_commit member true h = gone (events.Committed _) h.0 refl
  begins_commit member false h = kept _ h.1 refl

  begins_next : (member : Member) (next : Next) → BeginsNext old member next reply new → KeepsFates old reply new
  begins_next member (Ordinary statement) h =
      begins_ordinary member statement (blocker old member (statement_uses statement)) h
  begins_next member (Asks statement) h =
      begins_entangled member statement (blocker old member (entangled_uses statement)) h
  begins_next member Commits h = begins_commit member (is_ready (preparing old member) member.group) h
  begins_next member RollsBack h = gone (events.RolledBack _) h.0 refl

  begins_unless : (member : Member) (busy : Bool) → BeginsUnless busy old member reply new
      → KeepsFates old reply new
  begins_unless member true h = kept old h.1 refl
  begins_unless member false h = begins_next member (next_of old member) h

  begins_member : (tx : ℕ) (member : Option Member) → BeginsMember old tx member reply new
      → KeepsFates old reply new
  begins_member tx (Some member) h = begins_unless member (member.posted || is_lent old tx) h
  begins_member tx None h = kept old h.1 refl

  finishes_by : (left : List Job) (member : Member) (statement : Statement Value) (outcome : Outcome)
      → FinishesBy (record old { lent = left }) member statement outcome reply new → KeepsFates old reply new
  finishes_by left member statement (Fault failure) h = gone (events.Failed failure _) h.0 refl
  finishes_by left member statement (Shown rows) h = kept _ h.1 refl
  finishes_by left member statement (Changed count removed added) h = kept _ h.1 refl
  finishes_by left member statement (Bound value) h = kept _ h.1 refl
  finishes_by left member statement (Choice groundings) h = absurd h

  finishes : (done : Done) → Finishes old done reply new → KeepsFates old reply new
  finishes done (inl h) = let f = h.2 in finishes_by f.left f.member h.0.statement done.outcome f.steps
  finishes done (inr h) = kept old h.1.1 refl

  picks : Picks old reply new → KeepsFates old reply new
  picks (inl h) = kept _ h.is refl
  picks (inr h) = kept old h.1.1 refl

  answers_by : (left : List Job) (asked : List Posted) (groundings : Option (List Valuation))
      → AnswersBy (record old { lent = left }) asked groundings reply new → KeepsFates old reply new
  answers_by left asked (Some groundings) h = kept _ h.1 refl
  answers_by left asked None h = kept _ h.1 refl

  joins : (done : Done) → JoinsOrIsStale old done reply new → KeepsFates old reply new
  joins done (inl h) = answers_by h.outstanding.left h.outstanding.asked h.groundings h.answers
  joins done (inr h) = kept old h.1.1 refl

  breaks : BreaksIfAny old reply new → KeepsFates old reply new
  breaks (inl h) = gone (events.Broken _ _) h.replies refl
  breaks (inr h) = kept old h.1.1 refl

  ends_while : (running : Bool) → EndsWhileRunning old running reply new → KeepsFates old reply new
  ends_while false h = kept old h.1 refl
  ends_while true (inl h) = gone (events.Ended _) h.1 refl
  ends_while true (inr h) = kept old h.2.1 refl

  starts_with : (running : Bool) (dormant : List Dormant) → StartsWith old running dormant reply new
      → KeepsFates old reply new
  starts_with true dormant h = kept old h.1 refl
  starts_with false [] h = kept old h.1 refl
  starts_with false (first ∷ more) h = kept _ h.1 refl

  submits_form : (script : Script) (form : Result (List (Statement Known)) F)
      → SubmitsForm old script form reply new → KeepsFates old reply new
  submits_form script (Ok form) h = kept _ h.1 refl
  submits_form script (Err fault) h = kept old h.1 refl

  submits_unless : (full : Bool) (forms : Forms F) (script : Script) → SubmitsUnless full forms old script reply new
      → KeepsFates old reply new
  submits_unless true forms script h = kept old h.1 refl
  submits_unless false forms script h = submits_form script (forms.resolve old.opening script) h

-- no event but those after which members have left gives a fate
pub fates_kept : {F : Type 0} (forms : Forms F) (old : State) (event : Event) (reply : Reply F) (new : State)
    → Step forms old event reply new → KeepsFates old reply new
fates_kept forms old (events.Submit script) reply new h =
    submits_unless old new reply (nat_le MOST_SCRIPTS (length old.submitted)) forms script h
fates_kept forms old events.StartRun reply new h = starts_with old new reply old.running old.dormant h
fates_kept forms old (events.Begin tx) reply new h = begins_member old new reply tx (active_member old tx) h
fates_kept forms old (events.Finish done) reply new h = finishes old new reply done h
fates_kept forms old events.Pick reply new h = picks old new reply h
fates_kept forms old (events.JoinAnswer done) reply new h = joins old new reply done h
fates_kept forms old events.BreakCycle reply new h = breaks old new reply h
fates_kept forms old events.EndRun reply new h = ends_while old new reply old.running h
fates_kept forms old events.Recall reply new h = kept old new reply _ h.1 refl

-- ---- what a desk says of it

-- what a desk says behind an event
pub none_left : (before after leaves : Bool) → after ≡ (before || leaves) → after ≡ false
    → (before ≡ false) × (leaves ≡ false)
none_left before after leaves is stays = or_no before leaves (sym is ∙ stays)

pub stays_left : (before leaves : Bool) → leaves ≡ false → before ≡ (before || leaves)
stays_left true leaves stays = refl
stays_left false leaves stays = sym stays

module _ {F : Type 0} where
  -- nobody leaves by a reply that refuses, or says that there is nothing to do
  pub idle_stays : (reply : Reply F) → is_idle reply ≡ true → is_leaving reply ≡ false
  idle_stays (events.Submitted tx) e = refl
  idle_stays (events.Started members) e = refl
  idle_stays (events.Blocked holder) e = refl
  idle_stays (events.Lent job) e = refl
  idle_stays (events.HeldBack fault) e = refl
  idle_stays events.Posted e = refl
  idle_stays events.Prepared e = refl
  idle_stays (events.Committed entries) e = clash false e refl
  idle_stays (events.RolledBack group) e = clash false e refl
  idle_stays (events.Stepped answer) e = refl
  idle_stays (events.Failed failure group) e = clash false e refl
  idle_stays events.Nothing e = refl
  idle_stays events.Answered e = refl
  idle_stays events.NoChoice e = refl
  idle_stays (events.Broken cycle group) e = clash false e refl
  idle_stays events.NoCycle e = refl
  idle_stays (events.Ended members) e = clash false e refl
  idle_stays events.Recalled e = refl
  idle_stays events.Absent e = refl
  idle_stays events.NotNow e = refl
  idle_stays (events.Stale done) e = refl
  idle_stays (events.Busy reason) e = refl
  idle_stays (events.Full script) e = refl
  idle_stays (events.Faulty script fault) e = refl

  -- nobody leaves by a pick, nor by the start of a run
  pub picks_stay : (old new : State) (reply : Reply F) → Picks old reply new → is_leaving reply ≡ false
  picks_stay old new reply (inl h) = ap (λ (r : Reply F). is_leaving r) h.replies
  picks_stay old new reply (inr h) = ap (λ (r : Reply F). is_leaving r) h.1.0

  starts_stay_with : (old new : State) (reply : Reply F) (running : Bool) (dormant : List Dormant)
      → StartsWith old running dormant reply new → is_leaving reply ≡ false
  starts_stay_with old new reply true dormant h = ap (λ (r : Reply F). is_leaving r) h.0
  starts_stay_with old new reply false [] h = ap (λ (r : Reply F). is_leaving r) h.0
  starts_stay_with old new reply false (first ∷ more) h = ap (λ (r : Reply F). is_leaving r) h.0

  pub starts_stay : (old new : State) (reply : Reply F) → Starts old reply new → is_leaving reply ≡ false
  starts_stay old new reply h = starts_stay_with old new reply old.running old.dormant h
