use Rattle.std.proofs.Common.{◌∙◌, Some, ap, inl, inr, refl, sym}
use Rattle.ent_driver.specs.Drives.{Stands, StandsNowhere}
use Rattle.ent_driver.specs.declared.fault.DriverFault.TheVariants.{Vacant}
use Rattle.ent_c.proofs.Behind.{behind_none, behind_some}
use Rattle.ent_c.proofs.Statuses.{of_byte}
use Rattle.ent_c.proofs.driver.ent_c_standing.Goals as goal

pub returns-in-Ok-clause-same : goal.returns-in-Ok-clause-same
returns-in-Ok-clause-same c = c.put.ensures ∙ sym c.in-Some.ensures.taken

pub returns-in-Err-clause-same : goal.returns-in-Err-clause-same
returns-in-Err-clause-same c = c.put.ensures ∙ sym c.in-Some.ensures.taken

pub returns-in_default-clause-same : goal.returns-in_default-clause-same
returns-in_default-clause-same c = c.take.ensures.left ∙ sym c.in_default.ensures.taken

pub returns-in-Ok-clause-position : goal.returns-in-Ok-clause-position
returns-in-Ok-clause-position c =
    let held = c.in-Some.ensures.taken ∙ ap Some (sym c.deref.ensures) in
    inl (
      c.in-Ok.standing,
      behind_some (λ driver. Stands driver c.args.tx c.in-Ok.standing) held c.in-Ok.ensures.ok,
      c.of.ensures,
      refl,
    )

pub returns-in-Err-clause-position : goal.returns-in-Err-clause-position
returns-in-Err-clause-position c =
    let held = c.in-Some.ensures.taken ∙ ap Some (sym c.deref.ensures) in
    inr (
      c.in-Err.fault,
      behind_some (λ driver. StandsNowhere driver c.args.tx c.in-Err.fault) held c.in-Err.ensures.refused,
      refl,
      of_byte c.status.result c.status.type_inv c.status.ensures,
    )

pub returns-in_default-clause-position : goal.returns-in_default-clause-position
returns-in_default-clause-position c =
    inr (
      Vacant,
      behind_none (λ driver. StandsNowhere driver c.args.tx Vacant) c.in_default.ensures.taken refl,
      refl,
      refl,
    )
