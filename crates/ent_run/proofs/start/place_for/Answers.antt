use Rattle.std.proofs.Common.{◌≡◌, ◌+◌, ◌<◌, ◌≤◌, ◌∷◌, ℕ, suc, Bool, true, false, List, arith, drop, nat_lt, ap}
use Rattle.std.proofs.Common.{if◌then◌else◌, sym, subst, ◌∙◌}
use Rattle.std.proofs.lemmas.Bool.Decides.{nat_tests}
use Rattle.std.proofs.lemmas.List.{drop_more}
use Rattle.ent_protocol.specs.State.{Member}
use Rattle.ent_members.specs.Order.{place_in, tx_of}
use Rattle.ent_run.proofs.start.place_for.Goals as goal
use Rattle.ent_run.proofs.start.place_for.Goals.{After-tx}

-- what is left begins with the member at the place
whole : (c : After-tx) → drop c.loop-place.place c.args.members.now
    ≡ c.at.result.now ∷ drop (c.loop-place.place + 1) c.args.members.now
whole c =
    let members = c.args.members.now in
    let place = c.loop-place.place in
    drop_more members place c.at.result.now
    (subst (λ (n : ℕ). place < n) c.len-place-end.ensures c.loop-place-test.true)
    ∙ ap (λ (m : Member). m ∷ drop (place + 1) members) (sym (c.at.ensures c.at.result.now))

left : (c : After-tx) (b : Bool) → nat_lt c.args.tx c.at.result.now.tx ≡ b
    → place_in tx_of (drop c.loop-place.place c.args.members.now) c.args.tx
    ≡ (if b then 0 else suc (place_in tx_of (drop (c.loop-place.place + 1) c.args.members.now) c.args.tx))
left c b is =
    ap (λ (ms : List Member). place_in tx_of ms c.args.tx) (whole c)
    ∙ ap (λ (t : Bool). if t then 0
    else suc (place_in tx_of (drop (c.loop-place.place + 1) c.args.members.now) c.args.tx)) is

less : (n m : ℕ) → n < m → nat_lt n m ≡ true
less n m lt = grind (arith, nat_tests, lt)

not_less : (n m : ℕ) → m ≤ n → nat_lt n m ≡ false
not_less n m le = grind (arith, nat_tests, le)

pub returns-then-tx : goal.returns-then-tx
returns-then-tx c =
    let w = (goal.at.returns-then-tx c).After-tx in
    omega (
      arith,
      c.loop-place.invariant,
      left w true (less c.args.tx c.at.result.now.tx (subst (λ (n : ℕ). c.args.tx < n) c.tx.ensures c.if-tx.true)),
    )

pub loop-place-preserved : goal.loop-place-preserved
loop-place-preserved c =
    let w = (goal.at.loop-place-preserved c).After-tx in
    omega (
      arith,
      c.loop-place.invariant,
      left w false (not_less c.args.tx c.at.result.now.tx (omega (arith, c.tx.ensures, c.if-tx.false))),
    )
