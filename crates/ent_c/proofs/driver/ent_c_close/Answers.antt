use Rattle.std.proofs.Common.{◌∙◌, Some, ap, inl, inr, refl, sym}
use Rattle.ent_driver.specs.Drives.{Closes, IsNotClosed}
use Rattle.ent_driver.specs.declared.fault.DriverFault.TheVariants.{Vacant}
use Rattle.ent_c.proofs.Behind.{behind_both, behind_none, behind_some}
use Rattle.ent_c.proofs.Statuses.{of_byte}
use Rattle.ent_c.proofs.driver.ent_c_close.Goals as goal

pub returns-in-Ok : goal.returns-in-Ok
returns-in-Ok c =
    let held = c.in-Some.ensures.taken ∙ ap Some (sym c.deref_mut.ensures.value) in
    inl (behind_both Closes held c.put.ensures c.in-Ok.ensures.ok, refl)

pub returns-in-Err : goal.returns-in-Err
returns-in-Err c =
    let held = c.in-Some.ensures.taken ∙ ap Some (sym c.deref_mut.ensures.value) in
    inr (
      c.in-Err.fault,
      behind_some (λ old. IsNotClosed old c.in-Err.fault) held c.in-Err.ensures.refused,
      c.put.ensures ∙ ap Some c.in-Err.ensures.err ∙ sym held,
      of_byte c.status.result c.status.type_inv c.status.ensures,
    )

pub returns-in_default : goal.returns-in_default
returns-in_default c =
    let null = c.in_default.ensures.taken in
    inr (Vacant, behind_none (λ old. IsNotClosed old Vacant) null refl, c.take.ensures.left ∙ sym null, refl)
