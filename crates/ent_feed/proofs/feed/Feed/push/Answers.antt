use Rattle.std.proofs.Common.{◌≡◌, ◌+◌, ◌∷◌, [], ◌++◌, List, sym, ap, subst, ◌∙◌}
use Rattle.ent_feed.specs.declared.group.Group.{Group}
use Rattle.ent_feed.specs.Feed.{Feed}
use Rattle.ent_feed.specs.Group.{AreNumbered}
use Rattle.ent_feed.proofs.Numbers.{numbered_more}
use Rattle.ent_feed.proofs.feed.Feed.push.Goals as goal

pub invariant_of-self-2 : goal.invariant_of-self-2
invariant_of-self-2 c =
    let feed = c.self.inside in
    let is : c.args.group.number ≡ feed.next = c.requires ∙ sym (ap (λ (f : Feed). f.next) c.self.view_is) in
    let numbered = numbered_more feed.first feed.next feed.groups.items c.args.group c.self.invariant is in
    let next : c.in-Some.next ≡ feed.next + 1 = c.in-Some.ensures.1 in
    subst (λ (groups : List Group). AreNumbered feed.first groups c.in-Some.next) (sym c.in_ok-push.ensures.items)
    (subst (λ n. AreNumbered feed.first (feed.groups.items ++ c.args.group ∷ []) n) (sym next) numbered)
