use Rattle.std.proofs.Common.{◌≡◌, ◌∙◌, Some, None, subst, sym}
use Rattle.ent_core.specs.Finish.{IsReplyTo}
use Rattle.ent_core.specs.declared.finish.Carried.{Carried}
use Rattle.ent_core.specs.declared.finish.Carried.TheVariants as carried
use Rattle.ent_core.proofs.Finishing.{replied_to}
use Rattle.ent_core.proofs.finish.reply_to.Goals as goal

pub returns-in-Failed : goal.returns-in-Failed
returns-in-Failed c = λ reply is.
    sym (subst (λ (how : Carried). IsReplyTo c.args.done.outcome how reply) c.in-Failed.is is)

pub returns-in-Some : goal.returns-in-Some
returns-in-Some c = λ reply is.
    replied_to c.args.done.outcome c.in-Some.answer reply (sym c.into_answer.ensures ∙ c.in-Some.is)
    (subst (λ (how : Carried). IsReplyTo c.args.done.outcome how reply) c.in-Stepped.is is)

pub returns-in-None : goal.returns-in-None
returns-in-None c = λ reply is.
    let stepped : IsReplyTo c.args.done.outcome carried.Stepped reply =
    subst (λ (how : Carried). IsReplyTo c.args.done.outcome how reply) c.in-Stepped.is is in
    let none : None ≡ Some stepped.0 = sym c.in-None.is ∙ c.into_answer.ensures ∙ stepped.1 in
    absurd cc
