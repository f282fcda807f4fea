use Rattle.std.proofs.Common.{◌+◌, ◌-◌, ◌%◌, ◌<◌, ℕ, length, sym, subst, ◌∙◌}
use Rattle.ent_run.specs.Places.{IsAt}
use Rattle.ent_run.proofs.InOrder.{at_own}
use Rattle.ent_run.proofs.member_list.MemberList.place_counted.Goals as goal

pub returns-then-tx : goal.returns-then-tx
returns-then-tx c =
    let members = c.args.self.now in
    let own = c.at.result.now in
    let place = (c.args.tx + (18446744073709551616 - c.tx.result)) % 18446744073709551616 in
    subst (λ (n : ℕ). IsAt members n place) (sym c.tx-then-place-len.ensures ∙ c.if-tx.true)
    (at_own members place own c.requires (subst (λ (n : ℕ). place < n) c.len.ensures c.if-place-len.true)
    (λ d. c.at.ensures d))
