use Rattle.std.proofs.Common.{◌≡◌, ◌∙◌, sym, ap, Option, Some, None, Ok}
use Rattle.ent_admission.specs.Admission.{Admission, fresh}
use Rattle.ent_form.specs.Catalogue.{schemas_of}
use Rattle.ent_form.specs.OpeningFault.{opening_fault, unless}
use Rattle.ent_form.specs.declared.fault.FormFault.{FormFault}
use Rattle.ent_room.proofs.room.Room.open.Goals as goal

without_fault : {X : Type 0} (fault : Option FormFault) (made given : X) → unless fault made ≡ Ok given → given ≡ made
without_fault None made given e = cc
without_fault (Some f) made given e = absurd cc

pub invariant_of-result : goal.invariant_of-result
invariant_of-result c =
    let opening = c.args.opening in
    let fault = opening_fault opening in
    let limits = c.args.limits in
    let first = fresh c.args.number opening c.args.next c.args.next_group limits.most_waiters limits.most_ended in (
      without_fault fault (schemas_of opening.tables) c.in_ok-preparing.preparing (c.in_ok-preparing.ensures)
          ∙ sym (ap (λ (a : Admission). schemas_of a.epoch.core.opening.tables)
          (without_fault fault first c.in_ok-open.field-0 (c.in_ok-open.ensures))),
      tt,
    )
