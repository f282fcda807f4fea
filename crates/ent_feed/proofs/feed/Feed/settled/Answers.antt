use Rattle.std.proofs.Common.{◌≡◌, ◌+◌, ◌-◌, length, min, ap, ◌∙◌, arith}
use Rattle.ent_feed.specs.Feed.{Feed}
use Rattle.ent_feed.proofs.Numbers.{numbered_length}
use Rattle.ent_feed.proofs.feed.Feed.settled.Goals as goal

pub returns-then-next-number : goal.returns-then-next-number
returns-then-next-number c =
    let feed = c.self.inside in
    let few = numbered_length feed.first feed.next feed.groups.items c.self.invariant in
    let is : c.len.result ≡ min (c.args.number + 1 - feed.first) (length feed.groups.items) =
    omega (arith, feed.groups.ok.0, few) in
    is ∙ ap (λ (f : Feed). min (c.args.number + 1 - f.first) (length f.groups)) c.self.view_is
