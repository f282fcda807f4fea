use Rattle.std.proofs.Common.{◌≡◌, ◌∙◌, ap, subst, Option, IfSome}
use Rattle.ent_semantics.specs.Serial.{numbered}
use Rattle.ent_protocol.specs.Member.{next_in}
use Rattle.ent_protocol.specs.State.{Submitted}
use Rattle.ent_protocol.specs.Uses.{statement_uses}
use Rattle.ent_protocol.specs.Waits.{next_uses}
use Rattle.ent_members.proofs.AtPlace.{uses_there}
use Rattle.ent_members.proofs.form.next_form.Goals as goal

pub returns-in-Some-clause-uses : goal.returns-in-Some-clause-uses
returns-in-Some-clause-uses c =
    let member = c.args.member.now in
    let P : Option Submitted → Type 0 = λ script.
    IfSome c.element.result (λ form. next_uses (next_in script member) ≡ statement_uses form.now) in
    subst P (c.in-Some.ensures ∙ ap (numbered c.args.submitted.now) c.tx.ensures)
    (uses_there c.uses_are_kept_by_closing.ensures c.in-Some.own.now member c.element.result
    (c.element.ensures ∙ (λ i. numbered (c.form.ensures i) (c.place.ensures i))))
