use Rattle.std.proofs.Common.{◌≡◌, ◌∙◌, Some, ap, inl, inr, refl, sym}
use Rattle.ent_driver.specs.Drives.{Runs, StopsRun}
use Rattle.ent_driver.specs.declared.fault.DriverFault.TheVariants.{Vacant}
use Rattle.ent_c.specs.Drivers.{behind}
use Rattle.ent_c.proofs.Behind.{behind_both}
use Rattle.ent_c.proofs.Statuses.{of_byte}
use Rattle.ent_c.proofs.driver.ent_c_run.Goals as goal

pub returns-in-Ok : goal.returns-in-Ok
returns-in-Ok c =
    let held = c.in-Some.ensures.taken ∙ ap Some (sym c.deref_mut.ensures.value) in
    inl (behind_both Runs held c.put.ensures c.in-Ok.ensures.ok, refl)

pub returns-in-Err : goal.returns-in-Err
returns-in-Err c =
    let held = c.in-Some.ensures.taken ∙ ap Some (sym c.deref_mut.ensures.value) in
    inr (
      c.in-Err.fault,
      behind_both (λ old new. StopsRun old new c.in-Err.fault) held c.put.ensures c.in-Err.ensures.stopped,
      behind_both (λ old new. c.in-Err.fault ≡ Vacant → new ≡ old) held c.put.ensures c.in-Err.ensures.vacant,
      of_byte c.status.result c.status.type_inv c.status.ensures,
    )

pub returns-in_default : goal.returns-in_default
returns-in_default c =
    let null = c.in_default.ensures.taken in
    let same : c.take.new.self.held ≡ c.args.handle.now.held = c.take.ensures.left ∙ sym null in
    let stops : StopsRun (behind c.args.handle.now.held) (behind c.take.new.self.held) Vacant = rw null refl in
    inr (Vacant, stops, (λ vacant. ap behind same), refl)
