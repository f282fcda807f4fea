-- What events add to the scripts and the journal.
use Rattle.std.proofs.Common.{◌≡◌, ◌⊎◌, inl, inr, ◌+◌, ◌<◌, ◌||◌, ℕ, suc, Bool, true, false, List, [], ◌∷◌}
use Rattle.std.proofs.Common.{length, refl, ap, ◌∙◌, arith, Option, Some, None, Result, Ok, Err, nat_le}
use Rattle.std.proofs.Common.{length-append}
use Rattle.std.proofs.lemmas.Grind.{common_steps}
use Rattle.ent_value.specs.declared.value.Value.{Value}
use Rattle.ent_tree.specs.declared.limits.TheConstants.{MOST_SCRIPTS}
use Rattle.ent_tree.specs.declared.script.Script.{Script}
use Rattle.ent_semantics.specs.declared.entangled.Entangled.{Entangled}
use Rattle.ent_semantics.specs.declared.operand.Known.{Known}
use Rattle.ent_semantics.specs.declared.statement.Statement.{Statement}
use Rattle.ent_semantics.specs.Entangled.{Valuation}
use Rattle.ent_semantics.specs.Pool.{Posted}
use Rattle.ent_protocol.specs.Begin.{Begins, BeginsMember, BeginsUnless, BeginsNext, BeginsOrdinary, BeginsEntangled}
use Rattle.ent_protocol.specs.Begin.{BeginsCommit, Posts, lending, posting}
use Rattle.ent_protocol.specs.Commit.{committing, is_ready, preparing}
use Rattle.ent_protocol.specs.Event.{Reply}
use Rattle.ent_protocol.specs.Event as events
use Rattle.ent_protocol.specs.Finish.{Finishes, FinishesBy}
use Rattle.ent_protocol.specs.Job.{Done, Job, Outcome, Shown, Changed, Bound, Choice, Fault}
use Rattle.ent_protocol.specs.Member.{Next, Ordinary, Asks, Commits, RollsBack, active_member, is_lent, next_of}
use Rattle.ent_protocol.specs.PoolEvents.{Picks, JoinsOrIsStale, AnswersBy}
use Rattle.ent_protocol.specs.Rollback.{Asked, rolled_back}
use Rattle.ent_protocol.specs.Run.{Forms, Starts, StartsWith, BreaksIfAny, Ends, EndsWhileRunning, starting}
use Rattle.ent_protocol.specs.Run.{Recalls, SubmitsForm, SubmitsUnless}
use Rattle.ent_protocol.specs.State.{State, Member, Dormant}
use Rattle.ent_protocol.specs.Step.{Step}
use Rattle.ent_protocol.specs.Uses.{blocker, entangled_uses, statement_uses}
use Rattle.ent_form.specs.declared.fault.FormFault.{FormFault}
use Rattle.ent_core.specs.Passed.{resolved_forms}
use Rattle.ent_core.specs.Reply.{reply_seen}
use Rattle.ent_core.specs.declared.reply.Reply.{Reply as Given}
use Rattle.ent_core.specs.declared.reply.Reply.TheVariants as given

-- so many scripts and entries more
pub record Adds (scripts entries : ℕ) (old new : State) : Type 0 where
  pub submitted : length new.submitted ≡ length old.submitted + scripts
  pub journal : length new.journal ≡ length old.journal + entries

-- scripts and journal stay
pub record Keeps (old new : State) : Type 0 where
  pub submitted : new.submitted ≡ old.submitted
  pub journal : new.journal ≡ old.journal

-- those of a state that is the same in both
same : (old s new : State) → new ≡ s → s.submitted ≡ old.submitted → s.journal ≡ old.journal → Keeps old new
same old s new is submitted journal =
    record {
      submitted = ap (λ (x : State). x.submitted) is ∙ submitted;
      journal = ap (λ (x : State). x.journal) is ∙ journal;
    }

pub adds_none : (old new : State) → Keeps old new → Adds 0 0 old new
adds_none old new keeps =
    let one = ap length keeps.submitted in
    let two = ap length keeps.journal in
    record { submitted = omega (arith, one); journal = omega (arith, two) }

-- ---- what a begin adds

-- the member of a number comes to its COMMIT, and its group commits
pub record GroupCommits (old : State) (tx : ℕ) (new : State) : Type 0 where
  pub member : Member
  pub there : active_member old tx ≡ Some member
  pub waiting : (member.posted || is_lent old tx) ≡ false
  pub at_commit : next_of old member ≡ Commits
  pub ready : is_ready (preparing old member) member.group ≡ true
  pub is : new ≡ committing (preparing old member) member.group

-- nothing is added, or a group commits
abbrev pub Begun : State → ℕ → State → Type 0
Begun old tx new = Keeps old new ⊎ GroupCommits old tx new

module _ {F : Type 0} (old new : State) (reply : Reply F) where
  begins_ordinary : (member : Member) (statement : Statement Value) (holder : Option ℕ)
      → BeginsOrdinary old member statement holder reply new → Keeps old new
  begins_ordinary member statement (Some holder) h = same old old new h.1 refl refl
  begins_ordinary member statement None h = same old (lending old member statement) new h.1 refl refl

  posts : (member : Member) (statement : Entangled Value) → Posts old member statement reply new → Keeps old new
  posts member statement (inl h) = same old (posting old member statement) new h.2 refl refl
  posts member statement (inr h) = same old old new h.2.1 refl refl

  begins_entangled : (member : Member) (statement : Entangled Value) (holder : Option ℕ)
      → BeginsEntangled old member statement holder reply new → Keeps old new
  begins_entangled member statement (Some holder) h = same old old new h.1 refl refl
  begins_entangled member statement None h = posts member statement h

  module _ (tx : ℕ) (member : Member) (there : active_member old tx ≡ Some member)
      (waiting : (member.posted || is_lent old tx) ≡ false) where
    begins_commit : next_of old member ≡ Commits → (ready : Bool)
        → is_ready (preparing old member) member.group ≡ ready
        → BeginsCommit (preparing old member) member.group ready reply new → Begun old tx new
    begins_commit next true is h =
        inr (record {
          member = member;
          there = there;
          waiting = waiting;
          at_commit = next;
          ready = is;
          is = h.1;
        })
    begins_commit next false is h = inl (same old (preparing old member) new h.1 refl refl)

    begins_next : (next : Next) → next_of old member ≡ next → BeginsNext old member next reply new → Begun old tx new
    begins_next (Ordinary statement) is h =
        inl (begins_ordinary member statement (blocker old member (statement_uses statement)) h)
    begins_next (Asks statement) is h =
        inl (begins_entangled member statement (blocker old member (entangled_uses statement)) h)
    begins_next Commits is h = begins_commit is (is_ready (preparing old member) member.group) refl h
    begins_next RollsBack is h =
        inl (same old (rolled_back member.group (Asked member.tx) old) new h.1 refl refl)

  begins_unless : (tx : ℕ) (member : Member) → active_member old tx ≡ Some member → (busy : Bool)
      → (member.posted || is_lent old tx) ≡ busy → BeginsUnless busy old member reply new → Begun old tx new
  begins_unless tx member there true is h = inl (same old old new h.1 refl refl)
  begins_unless tx member there false is h = begins_next tx member there is (next_of old member) refl h

  begins_member : (tx : ℕ) (member : Option Member) → active_member old tx ≡ member
      → BeginsMember old tx member reply new → Begun old tx new
  begins_member tx (Some member) there h =
      begins_unless tx member there (member.posted || is_lent old tx) refl h
  begins_member tx None there h = inl (same old old new h.1 refl refl)

  pub begun : (tx : ℕ) → Begins old tx reply new → Begun old tx new
  begun tx h = begins_member tx (active_member old tx) refl h

-- ---- what other events add: nothing

module _ {F : Type 0} (old new : State) (reply : Reply F) where
  starts_with : (running : Bool) (dormant : List Dormant) → StartsWith old running dormant reply new → Keeps old new
  starts_with true dormant h = same old old new h.1 refl refl
  starts_with false [] h = same old old new h.1 refl refl
  starts_with false (first ∷ more) h = same old (starting old) new h.1 refl refl

  pub starts_none : Starts old reply new → Keeps old new
  starts_none h = starts_with old.running old.dormant h

  finishes_by : (left : List Job) (member : Member) (statement : Statement Value) (outcome : Outcome)
      → FinishesBy (record old { lent = left }) member statement outcome reply new → Keeps old new
  finishes_by left member statement (Fault failure) h = same old _ new h.1 refl refl
  finishes_by left member statement (Shown rows) h = same old _ new h.1 refl refl
  finishes_by left member statement (Changed count removed added) h = same old _ new h.1 refl refl
  finishes_by left member statement (Bound value) h = same old _ new h.1 refl refl
  finishes_by left member statement (Choice groundings) h = absurd h

  pub finishes_none : (done : Done) → Finishes old done reply new → Keeps old new
  finishes_none done (inl h) =
      let f = h.2 in finishes_by f.left f.member h.0.statement done.outcome f.steps
  finishes_none done (inr h) = same old old new h.1.1 refl refl

  pub picks_none : Picks old reply new → Keeps old new
  picks_none (inl h) = same old _ new h.is refl refl
  picks_none (inr h) = same old old new h.1.1 refl refl

  answers_by : (left : List Job) (asked : List Posted) (groundings : Option (List Valuation))
      → AnswersBy (record old { lent = left }) asked groundings reply new → Keeps old new
  answers_by left asked (Some groundings) h = same old _ new h.1 refl refl
  answers_by left asked None h = same old _ new h.1 refl refl

  pub joins_none : (done : Done) → JoinsOrIsStale old done reply new → Keeps old new
  joins_none done (inl h) = answers_by h.outstanding.left h.outstanding.asked h.groundings h.answers
  joins_none done (inr h) = same old old new h.1.1 refl refl

  pub breaks_none : BreaksIfAny old reply new → Keeps old new
  breaks_none (inl h) = same old _ new h.is refl refl
  breaks_none (inr h) = same old old new h.1.1 refl refl

  ends_while : (running : Bool) → EndsWhileRunning old running reply new → Keeps old new
  ends_while false h = same old old new h.1 refl refl
  ends_while true (inl h) = same old _ new h.2 refl refl
  ends_while true (inr h) = same old old new h.2.1 refl refl

  pub ends_none : Ends old reply new → Keeps old new
  ends_none h = ends_while old.running h

  pub recalls_none : Recalls old reply new → Keeps old new
  recalls_none h = same old _ new h.1 refl refl

-- ---- a script that is taken

submits_form : {F : Type 0} (old new : State) (script : Script) (tx : ℕ) (form : Result (List (Statement Known)) F)
    → SubmitsForm old script form (events.Submitted tx) new → Adds 1 0 old new
submits_form old new script tx (Ok form) h =
    let one = ap (λ (x : State). length x.submitted) h.1 in
    let two = ap (λ (x : State). length x.journal) h.1 in
    let more = length-append old.submitted (record { script = script; form = form } ∷ []) in
    record { submitted = omega (arith, one, more); journal = omega (arith, two) }
submits_form old new script tx (Err fault) h = let told = h.0 in cc

pub submits_one : {F : Type 0} (forms : Forms F) (old new : State) (script : Script) (tx : ℕ)
    → Step forms old (events.Submit script) (events.Submitted tx) new → Adds 1 0 old new
submits_one forms old new script tx step = by (nat_le MOST_SCRIPTS (length old.submitted)) step
  where
    by : (full : Bool) → SubmitsUnless full forms old script (events.Submitted tx) new → Adds 1 0 old new
    by true h = let told = h.0 in cc
    by false h = submits_form old new script tx (forms.resolve old.opening script) h

-- ---- what a submit is told

submitted_seen : (reply : Given) (n : ℕ) → reply_seen reply ≡ events.Submitted n → reply ≡ given.Submitted n
submitted_seen (given.Submitted tx) n e = cc
submitted_seen (given.Started members) n e = cc
submitted_seen (given.Blocked holder) n e = cc
submitted_seen (given.Lent job) n e = cc
submitted_seen (given.HeldBack fault) n e = cc
submitted_seen given.Posted n e = cc
submitted_seen given.Prepared n e = cc
submitted_seen (given.Committed first members) n e = cc
submitted_seen (given.RolledBack group) n e = cc
submitted_seen (given.Stepped answer) n e = cc
submitted_seen (given.Failed failure group) n e = cc
submitted_seen given.Nothing n e = cc
submitted_seen given.Answered n e = cc
submitted_seen given.NoChoice n e = cc
submitted_seen (given.Broken cycle group) n e = cc
submitted_seen given.NoCycle n e = cc
submitted_seen (given.Ended members) n e = cc
submitted_seen given.Recalled n e = cc
submitted_seen given.Absent n e = cc
submitted_seen given.NotNow n e = cc
submitted_seen (given.Stale done) n e = cc
submitted_seen (given.Busy reason) n e = cc
submitted_seen (given.Full script) n e = cc
submitted_seen (given.Faulty script fault) n e = cc

faulty_seen : (reply : Given) (script : Script) (fault : FormFault) → reply_seen reply ≡ events.Faulty script fault
    → reply ≡ given.Faulty script fault
faulty_seen (given.Submitted tx) script fault e = cc
faulty_seen (given.Started members) script fault e = cc
faulty_seen (given.Blocked holder) script fault e = cc
faulty_seen (given.Lent job) script fault e = cc
faulty_seen (given.HeldBack why) script fault e = cc
faulty_seen given.Posted script fault e = cc
faulty_seen given.Prepared script fault e = cc
faulty_seen (given.Committed first members) script fault e = cc
faulty_seen (given.RolledBack group) script fault e = cc
faulty_seen (given.Stepped answer) script fault e = cc
faulty_seen (given.Failed failure group) script fault e = cc
faulty_seen given.Nothing script fault e = cc
faulty_seen given.Answered script fault e = cc
faulty_seen given.NoChoice script fault e = cc
faulty_seen (given.Broken cycle group) script fault e = cc
faulty_seen given.NoCycle script fault e = cc
faulty_seen (given.Ended members) script fault e = cc
faulty_seen given.Recalled script fault e = cc
faulty_seen given.Absent script fault e = cc
faulty_seen given.NotNow script fault e = cc
faulty_seen (given.Stale done) script fault e = cc
faulty_seen (given.Busy reason) script fault e = cc
faulty_seen (given.Full own) script fault e = cc
faulty_seen (given.Faulty own found) script fault e = cc

neither_told : (old new : State) (script : Script) (reply : Given) (form : Result (List (Statement Known)) FormFault)
    → ((tx : ℕ) → reply ≡ given.Submitted tx → ⊥)
    → ((own : Script) (fault : FormFault) → reply ≡ given.Faulty own fault → ⊥)
    → SubmitsForm old script form (reply_seen reply) new → ⊥
neither_told old new script reply (Ok form) not_submitted not_faulty h =
    not_submitted (suc (length old.submitted)) (submitted_seen reply (suc (length old.submitted)) h.0)
neither_told old new script reply (Err fault) not_submitted not_faulty h =
    not_faulty script fault (faulty_seen reply script fault h.0)

-- a submit that isn't beyond the most scripts has no other reply
pub submits_only : (old new : State) (script : Script) (reply : Given) → length old.submitted < MOST_SCRIPTS
    → ((tx : ℕ) → reply ≡ given.Submitted tx → ⊥)
    → ((own : Script) (fault : FormFault) → reply ≡ given.Faulty own fault → ⊥)
    → Step resolved_forms old (events.Submit script) (reply_seen reply) new → ⊥
submits_only old new script reply room not_submitted not_faulty step =
    by (nat_le MOST_SCRIPTS (length old.submitted)) refl step
  where
    by : (full : Bool) → nat_le MOST_SCRIPTS (length old.submitted) ≡ full
        → SubmitsUnless full resolved_forms old script (reply_seen reply) new → ⊥
    by true is h = absurd (grind (arith, common_steps))
    by false is h =
        neither_told old new script reply (resolved_forms.resolve old.opening script) not_submitted not_faulty h
