use Rattle.std.proofs.Common.{[], ◌∙◌, Some, ap, inr, of_z, refl, sym, to_z, w32}
use Rattle.ent_driver.specs.Drives.{Answers, IsUnanswered}
use Rattle.ent_driver.specs.declared.driver.Driver.{Driver}
use Rattle.ent_driver.specs.declared.fault.DriverFault.TheVariants.{Vacant}
use Rattle.ent_c.specs.Drivers.{HandsOutOr, behind}
use Rattle.ent_c.proofs.Behind.{behind_none, behind_some}
use Rattle.ent_c.proofs.Texts.{declined, handed_out}
use Rattle.ent_c.proofs.driver.ent_c_answers.Goals as goal

pub returns-clause-same : goal.returns-clause-same
returns-clause-same c = c.put.ensures ∙ sym c.in-Some.ensures.taken

pub returns-clause-text : goal.returns-clause-text
returns-clause-text c =
    let held = c.in-Some.ensures.taken ∙ ap Some (sym c.deref.ensures) in
    let driver = c.deref.result.now in
    let buffer = c.hand_out-2.new.buffer in
    let told = c.hand_out-2.new.told in
    let status = c.hand_out-2.result in
    let handed = λ (driver : Driver).
    HandsOutOr (Answers driver c.args.tx) (IsUnanswered driver c.args.tx) []
    c.args.buffer.now buffer told (to_z w32 (of_z w32 status)) in
    behind_some handed held (
    handed_out c.answers-text.result (λ text. text.items)
    (Answers driver c.args.tx) (IsUnanswered driver c.args.tx) []
    c.args.buffer.now buffer told status c.hand_out-2.type_inv
    c.answers-text.ensures.ok c.answers-text.ensures.refused
    c.hand_out-2.ensures.handed c.hand_out-2.ensures.refused
    )

pub returns-in_default-clause-same : goal.returns-in_default-clause-same
returns-in_default-clause-same c = c.take.ensures.left ∙ sym c.in_default.ensures.taken

pub returns-in_default-clause-text : goal.returns-in_default-clause-text
returns-in_default-clause-text c =
    let none = behind c.args.handle.now.held in
    let refused = behind_none (λ driver. IsUnanswered driver c.args.tx Vacant) c.in_default.ensures.taken (inr refl) in
    declined (Answers none c.args.tx) (IsUnanswered none c.args.tx) Vacant []
    c.args.buffer.now c.hand_out.new.buffer c.hand_out.new.told c.hand_out.result c.hand_out.type_inv
    refused c.hand_out.ensures.refused
