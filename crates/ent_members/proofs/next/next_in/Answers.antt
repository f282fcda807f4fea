use Rattle.std.proofs.Common.{◌≡◌, ◌∙◌, List, IfOk, ap, subst, sym}
use Rattle.ent_value.specs.declared.value.Value.{Value}
use Rattle.ent_semantics.specs.Database.{Name, nothing_bound, with_values}
use Rattle.ent_semantics.specs.Serial.{numbered}
use Rattle.ent_semantics.specs.Closing.{closed}
use Rattle.ent_protocol.specs.Member.{Next, statement_next}
use Rattle.ent_members.specs.Next.{next_seen}
use Rattle.ent_members.proofs.AtPlace.{at_statement}
use Rattle.ent_members.proofs.next.next_in.Goals as goal

pub returns-in-Some-clause-next : goal.returns-in-Some-clause-next
returns-in-Some-clause-next c =
    let form = c.in-Some.form.now in
    let there = c.in-Some.ensures ∙ (λ i. numbered (c.form.ensures i) (c.place.ensures i)) in
    subst (λ (meant : Next). IfOk c.form_next.result (λ next. next_seen next ≡ meant))
    (ap (λ (bound : List (Name × Value)). statement_next (closed (with_values nothing_bound bound) form))
    c.environment.ensures
    ∙ sym (at_statement c.args.own.now c.args.member.now form (sym there))) c.form_next.ensures
