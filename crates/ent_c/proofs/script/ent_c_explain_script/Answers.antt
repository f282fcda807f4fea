use Rattle.std.proofs.Common.{◌≡◌, inr, refl, subst, sym}
use Rattle.ent_driver.specs.Drives.{OfOpen}
use Rattle.ent_driver.specs.declared.driver.Driver.{Driver}
use Rattle.ent_driver.specs.declared.fault.DriverFault.TheVariants.{Memory, Vacant}
use Rattle.ent_c.specs.Drivers.{behind}
use Rattle.ent_c.specs.Explaining.{ExplainsScript}
use Rattle.ent_c.proofs.Behind.{behind_none}
use Rattle.ent_c.proofs.Statuses.{of_signed}
use Rattle.ent_c.proofs.script.ent_c_explain_script.Goals as goal

pub returns-in_default-clause-text : goal.returns-in_default-clause-text
returns-in_default-clause-text c =
    let none = behind c.args.handle.now.held in
    let nowhere = behind_none (λ (driver : Driver). OfOpen driver Vacant (λ s. Vacant ≡ Memory))
    c.in_default.ensures.taken refl in
    subst
    (ExplainsScript c.args.script.now none c.args.buffer.now c.hand_out_said.new.buffer c.hand_out_said.new.told)
    (sym (of_signed c.hand_out_said.result c.hand_out_said.type_inv))
    (inr (inr (Vacant, nowhere, c.hand_out_said.ensures.refused)))
