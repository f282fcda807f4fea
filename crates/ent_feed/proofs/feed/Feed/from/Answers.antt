use Rattle.std.proofs.Common.{◌≡◌, ◌-◌, length, take, drop, length-drop, ap, subst, ◌∙◌, arith}
use Rattle.std.proofs.lemmas.List.{take_all}
use Rattle.ent_feed.specs.Feed.{Feed}
use Rattle.ent_feed.specs.Group.{AreNumbered}
use Rattle.ent_feed.proofs.Numbers.{from_dropped}
use Rattle.ent_feed.proofs.feed.Feed.from.Goals as goal

pub returns-clause-groups : goal.returns-clause-groups
returns-clause-groups c =
    let feed = c.args.self.now in
    let skipped = c.skipped-skipped.result in
    let all : c.deref.result.now ≡ feed.groups = c.deref.ensures.value ∙ ap (λ (f : Feed). f.groups) c.self.view_is in
    let numbered : AreNumbered feed.first feed.groups feed.next =
    subst (λ (f : Feed). AreNumbered f.first f.groups f.next) c.self.view_is c.self.invariant in
    (λ i. take (length (all i) - skipped) (drop skipped (all i)))
    ∙ take_all (length feed.groups - skipped) (drop skipped feed.groups)
    (omega (arith, length-drop skipped feed.groups))
    ∙ ap (λ n. drop n feed.groups) c.skipped-skipped.ensures
    ∙ from_dropped c.args.number feed.first feed.next feed.groups numbered
