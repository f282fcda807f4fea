-- A core that has room takes a script without a fault of form.
use Rattle.std.proofs.Common.{◌≡◌, ◌+◌, ◌≤◌, Bool, true, false, List, length, Result, Ok, Err, nat_le, refl, ap, arith}
use Rattle.std.proofs.lemmas.Grind.{common_steps}
use Rattle.ent_semantics.specs.declared.operand.Known.{Known}
use Rattle.ent_semantics.specs.declared.statement.Statement.{Statement}
use Rattle.ent_form.specs.Catalogue.{schemas_of}
use Rattle.ent_form.specs.Form.{script_in}
use Rattle.ent_form.specs.declared.fault.FormFault.{FormFault}
use Rattle.ent_form.specs.declared.script.Plain.{Plain}
use Rattle.ent_epoch.specs.Passed.{resolved_forms}
use Rattle.ent_protocol.specs.Event.{Faulty, Full, Submit}
use Rattle.ent_protocol.specs.Run.{SubmitsForm, SubmitsUnless}
use Rattle.ent_protocol.specs.State.{State}
use Rattle.ent_protocol.specs.Step.{Step}
use Rattle.ent_tree.specs.declared.limits.TheConstants.{MOST_SCRIPTS}
use Rattle.ent_tree.specs.declared.script.Script.{Script}
use Rattle.ent_epoch.specs.declared.epoch.NotSubmitted.{NotSubmitted}
use Rattle.ent_epoch.specs.declared.epoch.NotSubmitted.TheVariants as refusals
use Rattle.ent_value.specs.Refusal.{◌>>=◌}

module _ (s : State) (script : Script) where
  not_full : (form : Result (List (Statement Known)) FormFault) → SubmitsForm s script form (Full script) s → ⊥
  not_full (Ok form) step = absurd (let e = step.0 in cc)
  not_full (Err fault) step = absurd (let e = step.0 in cc)

  by_limit : (full : Bool) → nat_le MOST_SCRIPTS (length s.submitted) ≡ full → length s.submitted + 1 ≤ MOST_SCRIPTS
      → SubmitsUnless full resolved_forms s script (Full script) s → ⊥
  by_limit true is room step = absurd (grind (arith, common_steps))
  by_limit false is room step = not_full (resolved_forms.resolve s.opening script) step

  pub full_never : length s.submitted + 1 ≤ MOST_SCRIPTS → Step resolved_forms s (Submit script) (Full script) s → ⊥
  full_never room step = by_limit (nat_le MOST_SCRIPTS (length s.submitted)) refl room step

  module _ (fault : FormFault) where
    not_faulty : (form : Result (List (Statement Known)) FormFault) (own : List (Statement Known)) → form ≡ Ok own
        → SubmitsForm s script form (Faulty script fault) s → ⊥
    not_faulty (Ok form) own is step = absurd (let e = step.0 in cc)
    not_faulty (Err other) own is step = absurd cc

    by_form : (full : Bool) (own : List (Statement Known)) → resolved_forms.resolve s.opening script ≡ Ok own
        → SubmitsUnless full resolved_forms s script (Faulty script fault) s → ⊥
    by_form true own is step = absurd (let e = step.0 in cc)
    by_form false own is step = not_faulty (resolved_forms.resolve s.opening script) own is step

    pub faulty_never : (plain : Plain) → script_in (schemas_of s.opening.tables) script ≡ Ok plain
        → Step resolved_forms s (Submit script) (Faulty script fault) s → ⊥
    faulty_never plain is step =
        by_form (nat_le MOST_SCRIPTS (length s.submitted)) plain.statements
        (ap (λ (r : Result Plain FormFault). r >>= λ p. Ok p.statements) is) step

pub never : (s : State) (script : Script) → length s.submitted + 1 ≤ MOST_SCRIPTS → (plain : Plain)
    → script_in (schemas_of s.opening.tables) script ≡ Ok plain → (refused : NotSubmitted)
    → (refused ≡ refusals.Full → Step resolved_forms s (Submit script) (Full script) s)
    → ((fault : FormFault) → refused ≡ refusals.Faulty fault → Step resolved_forms s (Submit script)
    (Faulty script fault) s)
    → ⊥
never s script room plain is refusals.Full full faulty = full_never s script room (full refl)
never s script room plain is (refusals.Faulty fault) full faulty = faulty_never s script fault plain is
    (faulty fault refl)
