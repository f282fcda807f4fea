-- What is submitted, and what is made, goes on one by one.
use Rattle.std.proofs.Common.{◌≡◌, ◌<◌, suc, Bool, true, false, List, [], ◌∷◌, ◌++◌, map, length, refl}
use Rattle.std.proofs.Common.{sym, ap, subst, ◌∙◌, arith, Some, None, Result, Ok, Err, nat_le}
use Rattle.std.specs.Result.{result_err}
use Rattle.std.proofs.lemmas.Bool.{leb-true}
use Rattle.std.proofs.lemmas.List.{length-append, length-map, map-append}
use Rattle.ent_tree.specs.declared.declaration.Opening.{Opening}
use Rattle.ent_tree.specs.declared.limits.TheConstants.{MOST_SCRIPTS}
use Rattle.ent_tree.specs.declared.script.Script.{Script}
use Rattle.ent_semantics.specs.declared.operand.Known.{Known}
use Rattle.ent_semantics.specs.declared.statement.Statement.{Statement}
use Rattle.ent_form.specs.OpeningFault.{Check, ◌before◌, first_of}
use Rattle.ent_form.specs.InputFault.{scripts_fault}
use Rattle.ent_form.specs.declared.fault.FormFault.{FormFault}
use Rattle.ent_protocol.specs.Event.{Event, Reply, Submit, Submitted}
use Rattle.ent_protocol.specs.Play.{Plays, IsPlayed}
use Rattle.ent_protocol.specs.Reached.{IsGatheredState, opened, scripts_of}
use Rattle.ent_protocol.specs.Run.{SubmitsForm, SubmitsUnless}
use Rattle.ent_protocol.specs.State.{State}
use Rattle.ent_protocol.specs.State.{Submitted as OneSubmitted}
use Rattle.ent_protocol.specs.Step.{Step}
use Rattle.ent_headline.specs.Resolved.{resolved_forms}
use Rattle.ent_core.specs.Play.{AreMade, AreSubmitted, fault_in}

-- ---- faults of a list of scripts

pub fault_behind : {A : Type 0} (check : A → Check) (xs ys : List A) → first_of check xs ≡ None
    → first_of check (xs ++ ys) ≡ first_of check ys
fault_behind check [] ys clean = refl
fault_behind check (x ∷ xs) ys clean = by (check x) clean (fault_behind check xs ys)
  where
    by : (first : Check) → first before first_of check xs ≡ None
        → (first_of check xs ≡ None → first_of check (xs ++ ys) ≡ first_of check ys)
        → first before first_of check (xs ++ ys) ≡ first_of check ys
    by None clean rest = rest clean
    by (Some fault) clean rest = cc

-- ---- scripts

-- what a script that was not refused for a fault leaves
record Taken (opening : Opening) (script : Script) (s : State) (reply : Reply FormFault) (new : State) : Type 0 where
  pub form : List (Statement Known)
  pub resolves : resolved_forms.resolve s.opening script ≡ Ok form
  pub number : reply ≡ Submitted (suc (length s.submitted))
  pub opening_is : new.opening ≡ s.opening
  pub submitted_is : new.submitted ≡ s.submitted ++ record { script = script; form = form } ∷ []

taken_form : (opening : Opening) (script : Script) (s : State) (reply : Reply FormFault) (new : State)
    (form : Result (List (Statement Known)) FormFault) → resolved_forms.resolve s.opening script ≡ form
    → SubmitsForm s script form reply new → fault_in reply ≡ None → Taken opening script s reply new
taken_form opening script s reply new (Ok form) is step none =
    record {
      form = form;
      resolves = is;
      number = step.0;
      opening_is = ap (λ (x : State). x.opening) step.1;
      submitted_is = ap (λ (x : State). x.submitted) step.1;
    }
taken_form opening script s reply new (Err fault) is step none =
    absurd (bad (sym (ap fault_in step.0) ∙ none))
  where
    bad : Some fault ≡ None → ⊥
    bad e = cc

taken : (opening : Opening) (script : Script) (s : State) (reply : Reply FormFault) (new : State)
    → length s.submitted < MOST_SCRIPTS → Step resolved_forms s (Submit script) reply new → fault_in reply ≡ None
    → Taken opening script s reply new
taken opening script s reply new room step none = by (nat_le MOST_SCRIPTS (length s.submitted)) refl step
  where
    by : (full : Bool) → nat_le MOST_SCRIPTS (length s.submitted) ≡ full
        → SubmitsUnless full resolved_forms s script reply new → Taken opening script s reply new
    by true is step =
        let many = leb-true MOST_SCRIPTS (length s.submitted) is in
        absurd (omega (arith, room, many))
    by false is step =
        taken_form opening script s reply new (resolved_forms.resolve s.opening script) refl step none

-- as many were submitted as there are scripts
pub as_many_submitted : (opening : Opening) (scripts : List Script) (s : State) → AreSubmitted opening scripts s
    → length s.submitted ≡ length scripts
as_many_submitted opening scripts s h = sym (length-map s.submitted (λ own. own.script)) ∙ ap length h.of_scripts

pub none_submitted : (s : State) → s ≡ opened s.opening → AreSubmitted s.opening [] s
none_submitted s fresh = record { gathered = fresh; of_opening = refl; of_scripts = ap scripts_of fresh }

module _ (opening : Opening) (scripts : List Script) (script : Script) (s new : State) (reply : Reply FormFault)
    (h : AreSubmitted opening scripts s) (room : length scripts < MOST_SCRIPTS)
    (step : Step resolved_forms s (Submit script) reply new) (none : fault_in reply ≡ None) where
  of_it : Taken opening script s reply new
  of_it =
      let e = as_many_submitted opening scripts s h in
      taken opening script s reply new (omega (arith, e, room)) step none

  pub one_submitted : AreSubmitted opening (scripts ++ script ∷ []) new
  one_submitted =
      record {
        gathered = subst (λ n. IsGatheredState resolved_forms n new) (sym longer)
            (s, script, h.gathered, subst (λ r. Step resolved_forms s (Submit script) r new) number step);
        of_opening = of_it.opening_is ∙ h.of_opening;
        of_scripts =
            ap (λ (all : List OneSubmitted). map (λ own. own.script) all) of_it.submitted_is
            ∙ map-append (λ (own : OneSubmitted). own.script) s.submitted
            (record { script = script; form = of_it.form } ∷ [])
            ∙ ap (λ all. all ++ script ∷ []) h.of_scripts;
      }
    where
      longer : length (scripts ++ script ∷ []) ≡ suc (length scripts)
      longer = let e = length-append scripts (script ∷ []) in omega (arith, e)

      number : reply ≡ Submitted (suc (length scripts))
      number = of_it.number ∙ ap (λ n. Submitted (suc n)) (as_many_submitted opening scripts s h)

  pub one_clean : scripts_fault opening scripts ≡ None → scripts_fault opening (scripts ++ script ∷ []) ≡ None
  one_clean clean =
      fault_behind (λ script. result_err (resolved_forms.resolve opening script)) scripts (script ∷ []) clean
      ∙ ap (λ r. result_err r before None) (ap (λ at. resolved_forms.resolve at script) (sym h.of_opening)
      ∙ of_it.resolves)

-- a script that is refused for a fault has the first one
refused_for : (script : Script) (s new : State) (reply : Reply FormFault) (fault : FormFault)
    → Step resolved_forms s (Submit script) reply new → fault_in reply ≡ Some fault
    → result_err (resolved_forms.resolve s.opening script) ≡ Some fault
refused_for script s new reply fault step told = by (nat_le MOST_SCRIPTS (length s.submitted)) step
  where
    bad : None ≡ Some fault → ⊥
    bad e = cc

    by_form : (form : Result (List (Statement Known)) FormFault) → SubmitsForm s script form reply new
        → result_err form ≡ Some fault
    by_form (Ok form) step = absurd (bad (sym (ap fault_in step.0) ∙ told))
    by_form (Err other) step = sym (ap fault_in step.0) ∙ told

    by : (full : Bool) → SubmitsUnless full resolved_forms s script reply new
        → result_err (resolved_forms.resolve s.opening script) ≡ Some fault
    by true step = absurd (bad (sym (ap fault_in step.0) ∙ told))
    by false step = by_form (resolved_forms.resolve s.opening script) step

pub first_fault : (opening : Opening) (scripts : List Script) (script : Script) (more : List Script) (s new : State)
    (reply : Reply FormFault) (fault : FormFault) → AreSubmitted opening scripts s
    → scripts_fault opening scripts ≡ None → Step resolved_forms s (Submit script) reply new
    → fault_in reply ≡ Some fault → scripts_fault opening (scripts ++ script ∷ more) ≡ Some fault
first_fault opening scripts script more s new reply fault h clean step told =
    fault_behind (λ script. result_err (resolved_forms.resolve opening script)) scripts (script ∷ more) clean
    ∙ ap (λ first. first before scripts_fault opening more)
    (ap (λ at. result_err (resolved_forms.resolve at script)) (sym h.of_opening)
    ∙ refused_for script s new reply fault step told)

-- ---- events

plays_on : (first mid last : State) (steps : List (Event × Reply FormFault)) (event : Event) (reply : Reply FormFault)
    → Plays resolved_forms first steps mid → Step resolved_forms mid event reply last
    → Plays resolved_forms first (steps ++ (event, reply) ∷ []) last
plays_on first mid last [] event reply plays step =
    (last, subst (λ s. Step resolved_forms s event reply last) plays step, refl)
plays_on first mid last (one ∷ more) event reply plays step =
    (plays.0, plays.1, plays_on plays.0 mid last more event reply plays.2 step)

pub none_made : (s : State) → AreMade s [] [] s
none_made s = record { steps = []; events_are = refl; replies_are = refl; plays = refl }

pub one_made : (first mid last : State) (events : List Event) (replied : List (Reply FormFault)) (event : Event)
    (reply : Reply FormFault) → AreMade first events replied mid → Step resolved_forms mid event reply last
    → AreMade first (events ++ event ∷ []) (replied ++ reply ∷ []) last
one_made first mid last events replied event reply h step =
    let one : List (Event × Reply FormFault) = (event, reply) ∷ [] in
    record {
      steps = h.steps ++ one;
      events_are =
          map-append (λ (step : Event × Reply FormFault). step.0) h.steps one
          ∙ ap (λ all. all ++ event ∷ []) h.events_are;
      replies_are =
          map-append (λ (step : Event × Reply FormFault). step.1) h.steps one
          ∙ ap (λ all. all ++ reply ∷ []) h.replies_are;
      plays = plays_on first mid last h.steps event reply h.plays step;
    }

-- ---- a play

pub played : (opening : Opening) (scripts : List Script) (events : List Event) (replied : List (Reply FormFault))
    (first last : State) → AreSubmitted opening scripts first → AreMade first events replied last
    → IsPlayed resolved_forms opening scripts events replied last
played opening scripts events replied first last h made =
    record {
      first = first;
      gathered = h.gathered;
      of_opening = h.of_opening;
      of_scripts = h.of_scripts;
      steps = made.steps;
      events_are = made.events_are;
      replies_are = made.replies_are;
      plays = made.plays;
    }
