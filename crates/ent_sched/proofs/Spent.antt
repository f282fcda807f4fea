-- Events use up tries.
use Rattle.std.proofs.Common.{◌≡◌, ◌<◌, ◌≤◌, ◌∙◌, inl, inr, ℕ, zero, suc, Bool, true, false, List, [], ◌∷◌}
use Rattle.std.proofs.Common.{◌++◌, length, refl, sym, ap, subst, arith, length-append, Result, Ok, Err}
use Rattle.std.specs.List.{AllByRecursion}
use Rattle.ent_tree.specs.declared.script.Script.{Script}
use Rattle.ent_semantics.specs.declared.operand.Known.{Known}
use Rattle.ent_semantics.specs.declared.statement.Statement.{Statement}
use Rattle.ent_protocol.specs.Event.{Event, Reply}
use Rattle.ent_protocol.specs.Event as events
use Rattle.ent_protocol.specs.Reached.{IsReached, LeadsTo}
use Rattle.ent_protocol.specs.Run.{EndsWhileRunning, Forms, SubmitsForm, SubmitsUnless}
use Rattle.ent_protocol.specs.State.{State}
use Rattle.ent_protocol.specs.Step.{Step}
use Rattle.ent_protocol_laws.specs.Attempts.{AsksForRun}
use Rattle.ent_protocol_laws.specs.Standing.{GoesOn}
use Rattle.ent_protocol_laws.specs.Replies.{adds_script}
use Rattle.ent_protocol_laws.specs.Tries.{tries_left}
use Rattle.ent_sched.specs.Tries.{UsesTries}
use Rattle.ent_sched.proofs.Staying.{clash, goes_within, stays_on}

-- what is known of events and their tries
pub record Laws {F : Type 0} (forms : Forms F) : Type 0 where
  pub goes_on : (s : State) (event : Event) (reply : Reply F) (new : State) → Step forms s event reply new
      → GoesOn s new
  pub keeps : (s : State) (event : Event) (reply : Reply F) (new : State) → Step forms s event reply new
      → adds_script event reply ≡ false → new.submitted ≡ s.submitted
  pub reached : (n : ℕ) (first last : State) → IsReached forms first → LeadsTo forms n first last
      → IsReached forms last
  pub kept : (s : State) (event : Event) (reply : Reply F) (new : State) → IsReached forms s
      → AllByRecursion AsksForRun s.submitted → Step forms s event reply new → adds_script event reply ≡ false
      → tries_left new ≤ tries_left s
  pub ended : (s : State) (members : List ℕ) (new : State) → Step forms s events.EndRun (events.Ended members) new
      → tries_left new < tries_left s

-- ---- lists of scripts

longer : {A : Type 0} (xs more all : List A) → all ≡ xs ++ more → length xs ≤ length all
longer xs more all is =
    let e = ap length is in
    let long = length-append xs more in
    omega (arith, e, long)

module _ {F : Type 0} (forms : Forms F) (laws : Laws forms) where
  grows : (n : ℕ) (first last : State) → LeadsTo forms n first last
      → length first.submitted ≤ length last.submitted
  grows zero first last leads =
      subst (λ (x : State). length first.submitted ≤ length x.submitted) (sym leads) (omega arith)
  grows (suc n) first last leads =
      let before = grows n first leads.0 leads.3 in
      let goes_on = laws.goes_on leads.0 leads.1 leads.2 last leads.4 in
      let behind = longer leads.0.submitted goes_on.more last.submitted goes_on.behind in
      omega (arith, before, behind)

  submits_form : (s : State) (script : Script) (form : Result (List (Statement Known)) F) (reply : Reply F)
      (new : State) → SubmitsForm s script form reply new → adds_script (events.Submit script) reply ≡ true
      → length new.submitted ≡ suc (length s.submitted)
  submits_form s script (Ok form) reply new step adds =
      let one = record { script = script; form = form } ∷ [] in
      let e = ap (λ (x : State). length x.submitted) step.1 in
      let long = length-append s.submitted one in
      omega (arith, e, long)
  submits_form s script (Err fault) reply new step adds =
      clash (sym (ap (adds_script (events.Submit script)) step.0) ∙ adds) refl

  submits : (full : Bool) (s : State) (script : Script) (reply : Reply F)
      (new : State) → SubmitsUnless full forms s script reply new → adds_script (events.Submit script) reply ≡ true
      → length new.submitted ≡ suc (length s.submitted)
  submits true s script reply new step adds =
      clash (sym (ap (adds_script (events.Submit script)) step.0) ∙ adds) refl
  submits false s script reply new step adds =
      submits_form s script (forms.resolve s.opening script) reply new step adds

  one_added : (s : State) (event : Event) (reply : Reply F) (new : State) → Step forms s event reply new
      → adds_script event reply ≡ true → length new.submitted ≡ suc (length s.submitted)
  one_added s (events.Submit script) reply new step adds = submits _ s script reply new step adds
  one_added s events.StartRun reply new step adds = clash adds refl
  one_added s (events.Begin tx) reply new step adds = clash adds refl
  one_added s (events.Finish done) reply new step adds = clash adds refl
  one_added s events.Pick reply new step adds = clash adds refl
  one_added s (events.JoinAnswer done) reply new step adds = clash adds refl
  one_added s events.BreakCycle reply new step adds = clash adds refl
  one_added s events.EndRun reply new step adds = clash adds refl
  one_added s events.Recall reply new step adds = clash adds refl

  -- an event behind which there are no more scripts adds none
  none_added : (s : State) (event : Event) (reply : Reply F) (new : State) → Step forms s event reply new
      → length new.submitted ≡ length s.submitted → adds_script event reply ≡ false
  none_added s event reply new step same = by (adds_script event reply) refl
    where
      by : (b : Bool) → adds_script event reply ≡ b → b ≡ false
      by false e = refl
      by true e = absurd (let more = one_added s event reply new step e in omega (arith, more, same))

  -- ---- one event

  ends : (s : State) (running : Bool) (reply : Reply F) (new : State) → s.running ≡ true → new.running ≡ false
      → running ≡ true → EndsWhileRunning s running reply new → Step forms s events.EndRun reply new
      → tries_left new < tries_left s
  ends s false reply new on off is how step = clash is refl
  ends s true reply new on off is (inl how) step =
      laws.ended s _ new (subst (λ (r : Reply F). Step forms s events.EndRun r new) how.1 step)
  ends s true reply new on off is (inr how) step =
      clash (ap (λ (x : State). x.running) how.2.1 ∙ on) off

  used : (s : State) (event : Event) (reply : Reply F) (new : State) → Step forms s event reply new
      → s.running ≡ true → new.running ≡ false → (within : Bool) → goes_within event ≡ within
      → tries_left new < tries_left s
  used s event reply new step on off true within = clash (stays_on s forms event reply new step within on) off
  used s events.EndRun reply new step on off false within = ends s s.running reply new on off on step step
  used s (events.Submit script) reply new step on off false within = clash refl within
  used s events.StartRun reply new step on off false within = clash refl within
  used s (events.Begin tx) reply new step on off false within = clash refl within
  used s (events.Finish done) reply new step on off false within = clash refl within
  used s events.Pick reply new step on off false within = clash refl within
  used s (events.JoinAnswer done) reply new step on off false within = clash refl within
  used s events.BreakCycle reply new step on off false within = clash refl within
  used s events.Recall reply new step on off false within = clash refl within

  one_used : (s : State) (event : Event) (reply : Reply F) (new : State) → IsReached forms s
      → AllByRecursion AsksForRun s.submitted → Step forms s event reply new → adds_script event reply ≡ false
      → UsesTries s new
  one_used s event reply new reached asks step none =
      record {
        kept = laws.kept s event reply new reached asks step none;
        used = λ on off. used s event reply new step on off (goes_within event) refl;
      }

  -- ---- events one after the other

  chained : (first middle last : State) → UsesTries first middle → UsesTries middle last → UsesTries first last
  chained first middle last before behind =
      record {
        kept = let a = before.kept in let b = behind.kept in omega (arith, a, b);
        used = λ on off. by middle.running refl on off;
      }
    where
      by : (b : Bool) → middle.running ≡ b → first.running ≡ true → last.running ≡ false
          → tries_left last < tries_left first
      by true is on off = let a = before.kept in let b = behind.used is off in omega (arith, a, b)
      by false is on off = let a = before.used on is in let b = behind.kept in omega (arith, a, b)

  pub all_used : (n : ℕ) (first last : State) → IsReached forms first → AllByRecursion AsksForRun first.submitted
      → LeadsTo forms n first last → length last.submitted ≡ length first.submitted
      → UsesTries first last × (last.submitted ≡ first.submitted)
  all_used zero first last reached asks leads same =
      let itself : UsesTries first first = record { kept = omega arith; used = λ on off. clash on off } in
      (subst (UsesTries first) (sym leads) itself, ap (λ (x : State). x.submitted) leads)
  all_used (suc n) first last reached asks leads same =
      let middle = leads.0 in
      let goes_on = laws.goes_on middle leads.1 leads.2 last leads.4 in
      let low = grows n first middle leads.3 in
      let high = longer middle.submitted goes_on.more last.submitted goes_on.behind in
      let same_first : length middle.submitted ≡ length first.submitted = omega (arith, low, high, same) in
      let same_last : length last.submitted ≡ length middle.submitted = omega (arith, low, high, same) in
      let before = all_used n first middle reached asks leads.3 same_first in
      let none = none_added middle leads.1 leads.2 last leads.4 same_last in
      let there = laws.reached n first middle reached leads.3 in
      let asks_there = subst (AllByRecursion AsksForRun) (sym before.1) asks in
      let behind = one_used middle leads.1 leads.2 last there asks_there leads.4 none in
      (chained first middle last before.0 behind, laws.keeps middle leads.1 leads.2 last leads.4 none ∙ before.1)
