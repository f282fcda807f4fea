use Rattle.std.proofs.Common.{inl, inr, pos, refl, subst, sym, to_z, w32}
use Rattle.ent_c.specs.Drivers.{Held, OpensDriver}
use Rattle.ent_c.proofs.Statuses.{of_byte}
use Rattle.ent_c.proofs.driver.ent_c_open.Goals as goal

pub returns-in-Some : goal.returns-in-Some
returns-in-Some c =
    subst (λ (old : Held). OpensDriver c.args.input.now old c.put.new.self.held c.text.result (pos 2))
    (sym c.in-Some.ensures.taken) (c.put.ensures, c.text.ensures, refl)

pub returns-in-Ok : goal.returns-in-Ok
returns-in-Ok c =
    subst (λ (old : Held). OpensDriver c.args.input.now old c.put-in-Ok.new.self.held c.text-in-Ok.result (pos 0))
    (sym c.in_default.ensures.taken)
    (inl (c.in-Ok.driver.value, c.in-Ok.ensures.opened, c.put-in-Ok.ensures, c.text-in-Ok.ensures, refl))

pub returns-in-Err : goal.returns-in-Err
returns-in-Err c =
    let status = of_byte c.status_of.result c.status_of.type_inv c.status_of.ensures in
    subst (λ (old : Held).
    OpensDriver c.args.input.now old c.take.new.self.held c.fault.result (to_z w32 c.status_of.result))
    (sym c.in_default.ensures.taken)
    (inr (c.in-Err.fault, c.in-Err.ensures.refused, c.take.ensures.left, c.fault.ensures, status))
