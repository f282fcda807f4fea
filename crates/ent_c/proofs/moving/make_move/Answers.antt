use Rattle.std.proofs.Common.{◌∙◌, Some, ap, inl, inr, refl, sym}
use Rattle.ent_driver.specs.Passed.{reply_seen}
use Rattle.ent_driver.specs.Moves.{IsNotMade, Moves}
use Rattle.ent_driver.specs.declared.fault.DriverFault.TheVariants.{Vacant}
use Rattle.ent_c.specs.Drivers.{behind}
use Rattle.ent_c.proofs.Behind.{behind_both, behind_none}
use Rattle.ent_c.proofs.Statuses.{of_byte}
use Rattle.ent_c.proofs.moving.make_move.Goals as goal

pub returns-in-Ok : goal.returns-in-Ok
returns-in-Ok c =
    let held = c.in-Some.ensures.taken ∙ ap Some (sym c.deref_mut.ensures.value) in
    let reply = reply_seen c.in-Ok.told in
    inl (
      reply,
      behind_both (λ old new. Moves c.args.asked old reply new) held c.put.ensures c.in-Ok.ensures.ok,
      c.number_of.ensures,
      refl,
    )

pub returns-in-Err : goal.returns-in-Err
returns-in-Err c =
    let held = c.in-Some.ensures.taken ∙ ap Some (sym c.deref_mut.ensures.value) in
    inr (
      c.in-Err.fault,
      behind_both (λ old new. IsNotMade c.args.asked old new c.in-Err.fault) held c.put.ensures
          c.in-Err.ensures.stopped,
      refl,
      of_byte c.status.result c.status.type_inv c.status.ensures,
    )

pub returns-in_default : goal.returns-in_default
returns-in_default c =
    let null = c.in_default.ensures.taken in
    inr (
      Vacant,
      behind_none (λ old. IsNotMade c.args.asked old (behind c.take.new.self.held) Vacant) null refl,
      refl,
      refl,
    )
