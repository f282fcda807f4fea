-- Plays of inputs: scripts are submitted to an opening's own state, and then come events, each with its reply.
use Rattle.std.specs.Prelude.{◌≡◌, List, length, map, Some, None}
use Rattle.ent_tree.specs.declared.declaration.Opening.{Opening}
use Rattle.ent_tree.specs.declared.script.Script.{Script}
use Rattle.ent_form.specs.OpeningFault.{Check}
use Rattle.ent_form.specs.declared.fault.FormFault.{FormFault}
use Rattle.ent_protocol.specs.Event.{Event, Reply}
use Rattle.ent_protocol.specs.Event as replies
use Rattle.ent_protocol.specs.Play.{Plays}
use Rattle.ent_protocol.specs.Reached.{IsGatheredState, scripts_of}
use Rattle.ent_protocol.specs.State.{State}
use Rattle.ent_headline.specs.Resolved.{resolved_forms}

-- the fault of form for which a script is refused
abbrev pub fault_in : Reply FormFault → Check
fault_in (replies.Faulty script fault) = Some fault
fault_in other = None

-- scripts were submitted to an opening's own state, all of them accepted
pub record AreSubmitted (opening : Opening) (scripts : List Script) (s : State) : Type 0 where
  pub gathered : IsGatheredState resolved_forms (length scripts) s
  pub of_opening : s.opening ≡ opening
  pub of_scripts : scripts_of s ≡ scripts

-- events lead from one state to another, each with its reply
pub record AreMade (first : State) (events : List Event) (replied : List (Reply FormFault)) (last : State)
    : Type 0 where
  pub steps : List (Event × Reply FormFault)
  pub events_are : map (λ step. step.0) steps ≡ events
  pub replies_are : map (λ step. step.1) steps ≡ replied
  pub plays : Plays resolved_forms first steps last
