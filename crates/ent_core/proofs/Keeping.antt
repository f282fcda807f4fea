-- A step leads from a state that is kept to one that is kept.
use Rattle.std.proofs.Common.{◌≡◌, suc, sym, subst, ap, ◌∙◌, refl, Result, Ok, Err, Option, Some, None}
use Rattle.std.specs.Prelude.{IfOk, OnErr}
use Rattle.ent_tree.specs.declared.declaration.Opening.{Opening}
use Rattle.ent_form.specs.declared.fault.FormFault.{FormFault}
use Rattle.ent_form.specs.OpeningFault.{opening_fault, unless}
use Rattle.ent_protocol.specs.Event.{Event, Reply}
use Rattle.ent_protocol.specs.Reached.{LeadsTo, opened}
use Rattle.ent_protocol.specs.Run.{Forms}
use Rattle.ent_protocol.specs.State.{State}
use Rattle.ent_protocol.specs.Step.{Step}
use Rattle.ent_core.specs.Kept.{IsKeptState}
use Rattle.ent_headline.specs.Resolved.{resolved_forms}
use Rattle.ent_protocol_laws.specs.Standing.{GoesOn}

-- what the law of steps says
abbrev pub StepsGoOn : Type 0
StepsGoOn =
    (forms : Forms FormFault) (s : State) (event : Event) (reply : Reply FormFault) (new : State)
    → Step forms s event reply new → GoesOn s new

pub kept_next : StepsGoOn → (s new : State) (event : Event) (reply : Reply FormFault) → IsKeptState s
    → Step resolved_forms s event reply new → IsKeptState new
kept_next law s new event reply kept step =
    let same = (law resolved_forms s event reply new step).opening in
    let P : Opening → Type 0 = λ opening. LeadsTo resolved_forms (suc kept.reached.0) (opened opening) new in
    record {
      reached = (suc kept.reached.0, subst P (sym same) (s, event, reply, kept.reached.1, step));
      formed = ap opening_fault same ∙ kept.formed;
    }

-- what a call left that made a step, or changed nothing
pub kept_after : {R E : Type 0} → StepsGoOn → (seen : R → Reply FormFault) (s new : State) (event : Event) (result :
    Result R E)
    → IsKeptState s → IfOk result (λ reply. Step resolved_forms s event (seen reply) new) → OnErr result (new ≡ s)
    → IsKeptState new
kept_after law seen s new event (Ok reply) kept ok err = kept_next law s new event (seen reply) kept ok
kept_after law seen s new event (Err e) kept ok err = subst IsKeptState (sym err) kept

-- an opening's own state
unfaulted : (opening : Opening) (check : Option FormFault) (s : State) → unless check (opened opening) ≡ Ok s
    → (check ≡ None) × (s ≡ opened opening)
unfaulted opening None s e = (refl, let same : opened opening ≡ s = cc in sym same)
unfaulted opening (Some fault) s e = absurd cc

pub kept_opened : (opening : Opening) (s : State) → unless (opening_fault opening) (opened opening) ≡ Ok s
    → IsKeptState s
kept_opened opening s e =
    let h = unfaulted opening (opening_fault opening) s e in
    let first : IsKeptState (opened opening) = record { reached = (0, refl); formed = h.0 } in
    subst IsKeptState (sym h.1) first
