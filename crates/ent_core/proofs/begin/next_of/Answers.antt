use Rattle.std.proofs.Common.{◌≡◌, ◌∙◌, List, ap, subst}
use Rattle.std.specs.Prelude.{IfOk}
use Rattle.ent_members.specs.Next.{next_seen}
use Rattle.ent_protocol.specs.Member.{Next, next_in, next_of}
use Rattle.ent_protocol.specs.State.{State, Submitted}
use Rattle.ent_semantics.specs.Serial.{numbered}
use Rattle.ent_core.proofs.begin.next_of.Goals as goal

pub returns-clause-next : goal.returns-clause-next
returns-clause-next c =
    let member = c.args.member.now in
    let next = ap (λ (scripts : List Submitted). next_in (numbered scripts member.tx) member) c.as_slice.ensures.value
    ∙ ap (λ (x : State). next_of x member) c.store.view_is in
    subst (λ (n : Next). IfOk c.next_of.result (λ own. next_seen own ≡ n)) next c.next_of.ensures.next

pub returns-clause-rolls_back : goal.returns-clause-rolls_back
returns-clause-rolls_back c = λ rolls.
    let member = c.args.member.now in
    let next = ap (λ (scripts : List Submitted). next_in (numbered scripts member.tx) member) c.as_slice.ensures.value
    ∙ ap (λ (x : State). next_of x member) c.store.view_is in
    c.next_of.ensures.rolls_back (next ∙ rolls)
