use Rattle.std.proofs.Common.{ℕ, List, map, rules, sym, ap, subst, ◌∙◌}
use Rattle.std.specs.Prelude.{filter}
use Rattle.std.proofs.lemmas.Fn.{always_returns_same}
use Rattle.std.proofs.lemmas.Map.Lookups.{exact_unsigned}
use Rattle.ent_protocol.specs.Member.{is_tx}
use Rattle.ent_protocol.specs.State.{Member, first_of}
use Rattle.ent_members.specs.Order.{IsAscending, tx_of}
use Rattle.ent_run.specs.Places.{IsAt}
use Rattle.ent_run.specs.UnderKeys.{member_under}
use Rattle.ent_run.proofs.InOrder.{found_under, nowhere_under}
use Rattle.ent_run.proofs.member_list.MemberList.place_searched.Goals as goal

pub returns-in-Ok-clause-some : goal.returns-in-Ok-clause-some
returns-in-Ok-clause-some c =
    let live = c.self.inside.live.now in
    let keys = c.self.inside.keys.now in
    let here = c.in-Ok.ensures.position (λ (key : ℕ). (member_under live key).tx)
    (always_returns_same _ _ _ (λ a r f called. search rules)) in
    subst (λ (ms : List Member). IsAt ms c.args.tx c.in-Ok.at) c.self.view_is
    (found_under (member_under live) keys c.in-Ok.at c.args.tx
    (subst (λ (ms : List Member). IsAscending (map tx_of ms)) (sym c.self.view_is) c.requires) c.in-Ok.ensures.bound
    (λ d. exact_unsigned _ _ (here d)))

pub returns-in-Err-clause-none : goal.returns-in-Err-clause-none
returns-in-Err-clause-none c = λ none.
    let live = c.self.inside.live.now in
    let keys = c.self.inside.keys.now in
    ap (λ (ms : List Member). first_of (filter (is_tx c.args.tx) ms)) (sym c.self.view_is)
    ∙ nowhere_under (member_under live) keys c.args.tx c.in-Err.field-0
    (subst (λ (ms : List Member). IsAscending (map tx_of ms)) (sym c.self.view_is) c.requires)
    (c.in-Err.ensures.position (λ (key : ℕ). (member_under live key).tx)
    (always_returns_same _ _ _ (λ a r f called. search rules)))
