use Rattle.std.proofs.Common.{◌≡◌, get_or, refl, subst}
use Rattle.std.specs.Prelude.{All, Contains}
use Rattle.std.proofs.lemmas.List.{take_all}
use Rattle.std.proofs.lemmas.List.Elements.{All-more, All-contains, Contains-get_or}
use Rattle.ent_group.proofs.waits.place_awaited.Goals.{then-from-waiter+in_default, else-from-waiter}
use Rattle.ent_group.proofs.waits.place_awaited.Goals as goal

pub loop-from-preserved : goal.loop-from-preserved
loop-from-preserved c =
    let pairs = c.args.pairs.now in
    let i = c.loop-from.from-index in
    let p = get_or pairs i (0, 0) in
    let here : p.0 ≡ c.args.waiter → ¬ Contains c.args.reached.now p.1 = elim c.if-from-waiter.branch [
      | then-from-waiter+in_default w ↦ λ _. w.in_default.ensures.none refl
      | else-from-waiter w ↦ λ same. absurd (w.if-from-waiter.false same)
    ] in
    All-more (λ p. p.0 ≡ c.args.waiter → ¬ Contains c.args.reached.now p.1) pairs i (0, 0) c.loop-from-test.true
    c.loop-from.invariant here

pub returns-clause-none : goal.returns-clause-none
returns-clause-none c = λ _ k d within there.
    let pairs = c.args.pairs.now in
    let reached = c.args.reached.now in
    let all = subst (All (λ p. p.0 ≡ c.args.waiter → ¬ Contains reached p.1))
    (take_all c.loop-from.from-index pairs c.loop-from-test.false) c.loop-from.invariant in
    All-contains (λ p. p.0 ≡ c.args.waiter → ¬ Contains reached p.1) pairs (c.args.waiter, get_or reached k d) all there
    refl (Contains-get_or reached k d within)
