-- Plays of resolved scripts lead to states that are reached over an opening without a fault.
use Rattle.std.proofs.Common.{◌≡◌, ℕ, List, [], ◌∷◌, None, refl, sym, ap, subst, ◌∙◌}
use Rattle.ent_form.specs.OpeningFault.{opening_fault}
use Rattle.ent_form.specs.declared.fault.FormFault.{FormFault}
use Rattle.ent_protocol.specs.Event.{Event, Reply}
use Rattle.ent_protocol.specs.Play.{Plays}
use Rattle.ent_protocol.specs.Reached.{LeadsTo, opened}
use Rattle.ent_protocol.specs.State.{State}
use Rattle.ent_protocol.specs.Step.{Step}
use Rattle.ent_headline.specs.Resolved.{resolved_forms}
use Rattle.ent_examples.specs.Partners.{partners_opening}
use Rattle.ent_examples.specs.WrittenScripts.{LeadTo}

-- each event keeps the opening
abbrev pub EachKeeps : Type 0
EachKeeps = (s : State) (event : Event) (reply : Reply FormFault) (new : State)
    → Step resolved_forms s event reply new → new.opening ≡ s.opening

kept : EachKeeps → (events : List (Event × Reply FormFault)) (first last : State)
    → Plays resolved_forms first events last → last.opening ≡ first.opening
kept keeps [] first last h = ap (λ (s : State). s.opening) h
kept keeps (step ∷ more) first last h = kept keeps more h.0 last h.2 ∙ keeps first step.0 step.1 h.0 h.1

faultless : opening_fault partners_opening ≡ None
faultless = refl

pub led : EachKeeps → (events : List (Event × Reply FormFault)) (last : State)
    → Plays resolved_forms (opened partners_opening) events last
    → ((n : ℕ) × LeadsTo resolved_forms n (opened partners_opening) last) → LeadTo events last
led keeps events last plays leads =
    let same : last.opening ≡ partners_opening = kept keeps events (opened partners_opening) last plays in
    record {
      plays = plays;
      faultless = ap opening_fault same ∙ faultless;
      reached = (leads.0, subst (λ opening. LeadsTo resolved_forms leads.0 (opened opening) last) (sym same) leads.1);
    }
