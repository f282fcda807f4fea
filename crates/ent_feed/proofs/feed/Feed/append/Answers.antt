use Rattle.std.proofs.Common.{◌+◌, List, length, sym, ap, subst, arith}
use Rattle.ent_feed.specs.declared.group.Group.{Group}
use Rattle.ent_feed.specs.Feed.{Feed}
use Rattle.ent_feed.specs.Group.{AreNumbered}
use Rattle.ent_feed.proofs.Numbers.{numbered_joined}
use Rattle.ent_feed.proofs.feed.Feed.append.Goals as goal

pub invariant_of-self-2 : goal.invariant_of-self-2
invariant_of-self-2 c =
    let feed = c.self.inside in
    let groups = c.args.groups.items in
    let next = feed.next + c.len-count.result in
    let same = ap (λ (f : Feed). f.next) c.self.view_is in
    let behind : AreNumbered feed.next groups next =
    subst (λ n. AreNumbered feed.next groups n) (omega (arith, c.args.groups.ok.0))
    (subst (λ n. AreNumbered n groups (n + length groups)) (sym same) c.requires.numbered) in
    subst (λ (all : List Group). AreNumbered feed.first all next) (sym c.in_ok-append.ensures.items)
    (numbered_joined feed.first feed.next next feed.groups.items groups c.self.invariant behind)
