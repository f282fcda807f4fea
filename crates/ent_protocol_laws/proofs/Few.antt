-- No more scripts are submitted than there may be.
use Rattle.std.proofs.Common.{◌≡◌, ◌≤◌, ℕ, zero, suc, Bool, true, false, List, [], ◌∷◌, length, refl, sym, subst}
use Rattle.std.proofs.Common.{arith, true≢false}
use Rattle.std.specs.Prelude.{Result, Ok, Err, nat_le}
use Rattle.std.proofs.lemmas.Bool.Decides.{nat_tests}
use Rattle.std.proofs.lemmas.List.{length-append}
use Rattle.ent_tree.specs.declared.limits.TheConstants.{MOST_SCRIPTS}
use Rattle.ent_tree.specs.declared.script.Script.{Script}
use Rattle.ent_value.specs.declared.value.Value.{Value}
use Rattle.ent_semantics.specs.declared.operand.Known.{Known}
use Rattle.ent_semantics.specs.declared.statement.Statement.{Statement}
use Rattle.ent_protocol.specs.Event.{Event, Reply}
use Rattle.ent_protocol.specs.Event as events
use Rattle.ent_protocol.specs.Finish.{finished}
use Rattle.ent_protocol.specs.Job.{Job, Outcome, Shown, Changed, Bound, Choice, Fault}
use Rattle.ent_protocol.specs.Reached.{IsReached, LeadsTo, opened}
use Rattle.ent_protocol.specs.Run.{Forms, SubmitsForm, SubmitsUnless, submitting}
use Rattle.ent_protocol.specs.State.{State, Member, Submitted}
use Rattle.ent_protocol.specs.Step.{Step}
use Rattle.ent_protocol_laws.specs.Replies.{adds_script}
use Rattle.ent_protocol_laws.proofs.Leaves.{Leaves, left_behind}

abbrev AreFew : List Submitted → Type 0
AreFew submitted = length submitted ≤ MOST_SCRIPTS

-- ---- events that add no script

abbrev Stay : State → Bool → Bool → List Job → State → Type 0
Stay s added rolled jobs new = added ≡ false → new.submitted ≡ s.submitted

pub finishes : (s : State) (m : Member) (c : Statement Value) (outcome : Outcome)
    → (finished s m c outcome).submitted ≡ s.submitted
finishes s m c (Changed count removed added) = refl
finishes s m c (Bound value) = refl
finishes s m c (Shown rows) = refl
finishes s m c (Choice groundings) = refl
finishes s m c (Fault failure) = refl

leaves_scripts : (s : State) → Leaves s (Stay s)
leaves_scripts s =
    record {
      same = λ none. refl;
      submits = λ script form none. absurd (true≢false none);
      starts = λ first more off asleep none. refl;
      lends = λ m c at none. refl;
      posts = λ m c at none. refl;
      prepares = λ m at none. refl;
      commits = λ m at ready none. refl;
      rolls_back = λ group cause none. refl;
      fails = λ left group cause back none. refl;
      finishes = λ left m c outcome back at none. finishes (record s { lent = left }) m c outcome;
      picks = λ asked none. refl;
      joins = λ left asked groundings back none. refl;
      tries = λ left asked back none. refl;
      ends = λ on none. refl;
      recalls = λ none. refl;
    }

module _ {F : Type 0} (forms : Forms F) where
  other : (s : State) (event : Event) (reply : Reply F) (new : State) → Step forms s event reply new
      → adds_script event reply ≡ false → AreFew s.submitted → AreFew new.submitted
  other s event reply new step none few =
      subst AreFew (sym (left_behind s (Stay s) (leaves_scripts s) forms event reply new step none)) few

  -- ---- a script is added, where there may be one more

  as_is : (s new : State) → new ≡ s → AreFew s.submitted → AreFew new.submitted
  as_is s new same few = subst (λ (x : State). AreFew x.submitted) (sym same) few

  one_more : (s : State) (script : Script) (form : List (Statement Known))
      → nat_le MOST_SCRIPTS (length s.submitted) ≡ false → AreFew (submitting s script form).submitted
  one_more s script form room =
      let own : Submitted = record { script = script; form = form } in
      let below : suc (length s.submitted) ≤ MOST_SCRIPTS = grind (arith, nat_tests) in
      omega (arith, below, length-append s.submitted (own ∷ []))

  submits_form : (s : State) (script : Script) (form : Result (List (Statement Known)) F) (reply : Reply F)
      (new : State) → nat_le MOST_SCRIPTS (length s.submitted) ≡ false → SubmitsForm s script form reply new
      → AreFew s.submitted → AreFew new.submitted
  submits_form s script (Ok form) reply new room step few =
      as_is (submitting s script form) new step.1 (one_more s script form room)
  submits_form s script (Err fault) reply new room step few = as_is s new step.1 few

  submits : (s : State) (full : Bool) (script : Script) (reply : Reply F) (new : State)
      → nat_le MOST_SCRIPTS (length s.submitted) ≡ full → SubmitsUnless full forms s script reply new
      → AreFew s.submitted → AreFew new.submitted
  submits s true script reply new is step few = as_is s new step.1 few
  submits s false script reply new is step few =
      submits_form s script (forms.resolve s.opening script) reply new is step few

  -- ---- all of them

  stepped : (s : State) (event : Event) (reply : Reply F) (new : State) → Step forms s event reply new
      → AreFew s.submitted → AreFew new.submitted
  stepped s (events.Submit script) reply new step few = submits s _ script reply new refl step few
  stepped s events.StartRun reply new step few = other s events.StartRun reply new step refl few
  stepped s (events.Begin tx) reply new step few = other s (events.Begin tx) reply new step refl few
  stepped s (events.Finish done) reply new step few = other s (events.Finish done) reply new step refl few
  stepped s events.Pick reply new step few = other s events.Pick reply new step refl few
  stepped s (events.JoinAnswer done) reply new step few = other s (events.JoinAnswer done) reply new step refl few
  stepped s events.BreakCycle reply new step few = other s events.BreakCycle reply new step refl few
  stepped s events.EndRun reply new step few = other s events.EndRun reply new step refl few
  stepped s events.Recall reply new step few = other s events.Recall reply new step refl few

  led_on : (n : ℕ) (first last : State) → LeadsTo forms n first last → AreFew first.submitted
      → AreFew last.submitted
  led_on zero first last leads few = as_is first last leads few
  led_on (suc n) first last leads few =
      stepped leads.0 leads.1 leads.2 last leads.4 (led_on n first leads.0 leads.3 few)

  pub reached_few : (s : State) → IsReached forms s → length s.submitted ≤ MOST_SCRIPTS
  reached_few s r = led_on r.0 (opened s.opening) s r.1 (omega arith)
