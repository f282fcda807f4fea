-- Events one after the other, with their replies; plays of inputs; and replies that leave the state as it was.
use Rattle.std.specs.Prelude.{◌≡◌, Bool, true, false, List, [], ◌∷◌, map, length}
use Rattle.ent_tree.specs.declared.declaration.Opening.{Opening}
use Rattle.ent_tree.specs.declared.script.Script.{Script}
use Rattle.ent_protocol.specs.Event.{Event, Reply}
use Rattle.ent_protocol.specs.Event as replies
use Rattle.ent_protocol.specs.Reached.{IsGatheredState, scripts_of}
use Rattle.ent_protocol.specs.Run.{Forms}
use Rattle.ent_protocol.specs.State.{State}
use Rattle.ent_protocol.specs.Step.{Step}

-- from a state these events lead, with these replies, to a state
abbrev pub Plays : {F : Type 0} → Forms F → State → List (Event × Reply F) → State → Type 0
Plays forms s [] last = last ≡ s
Plays {F} forms s (step ∷ more) last =
    (next : State) × Step forms s step.0 step.1 next × Plays forms next more last

-- A play of an input: its scripts are submitted to the opening's own state, all of them accepted, and then come these
-- events, each with its reply.
pub record IsPlayed {F : Type 0} (forms : Forms F) (opening : Opening) (scripts : List Script) (events : List Event)
    (replied : List (Reply F)) (last : State) : Type 0 where
  pub first : State
  pub gathered : IsGatheredState forms (length scripts) first
  pub of_opening : first.opening ≡ opening
  pub of_scripts : scripts_of first ≡ scripts
  pub steps : List (Event × Reply F)
  pub events_are : map (λ step. step.0) steps ≡ events
  pub replies_are : map (λ step. step.1) steps ≡ replied
  pub plays : Plays forms first steps last

-- a refusal, or that there is nothing to do
abbrev pub is_idle : {F : Type 0} → Reply F → Bool
is_idle (replies.Blocked holder) = true
is_idle (replies.HeldBack fault) = true
is_idle replies.Nothing = true
is_idle replies.NoCycle = true
is_idle replies.Absent = true
is_idle replies.NotNow = true
is_idle (replies.Stale done) = true
is_idle (replies.Busy reason) = true
is_idle (replies.Full script) = true
is_idle (replies.Faulty script fault) = true
is_idle other = false
