use Rattle.std.proofs.Common.{◌≡◌, ◌+◌, ◌-◌, length, min, sym, ap, ◌∙◌, arith}
use Rattle.ent_feed.specs.Feed.{Feed, behind}
use Rattle.ent_feed.proofs.Numbers.{left_behind, left_numbered, numbered_length}
use Rattle.ent_feed.proofs.feed.Feed.settled_through.Goals as goal

pub overflow_add-self : goal.overflow_add-self
overflow_add-self c =
    let feed = c.self.inside in
    let same = ap (λ (f : Feed). length f.groups) c.self.view_is in
    omega (arith, numbered_length feed.first feed.next feed.groups.items c.self.invariant)

pub invariant_of-self : goal.invariant_of-self
invariant_of-self c =
    let feed = c.self.inside in
    let groups = feed.groups.items in
    let is : c.settled-settled.result ≡ min (c.args.number + 1 - feed.first) (length groups) =
    c.settled-settled.ensures
    ∙ ap (λ (f : Feed). min (c.args.number + 1 - f.first) (length f.groups)) (sym c.self.view_is) in
    let rest : (c.len.result - c.settled-settled.result) + c.settled-settled.result ≡ length groups =
    omega (arith, feed.groups.ok.0) in
    left_numbered c.args.number feed.first feed.next c.settled-settled.result _ groups _ _ c.self.invariant is rest
    c.rotate_left.ensures.items c.truncate.ensures.items

pub returns-clause-groups : goal.returns-clause-groups
returns-clause-groups c =
    let feed = c.self.inside in
    let groups = feed.groups.items in
    let is : c.settled-settled.result ≡ min (c.args.number + 1 - feed.first) (length groups) =
    c.settled-settled.ensures
    ∙ ap (λ (f : Feed). min (c.args.number + 1 - f.first) (length f.groups)) (sym c.self.view_is) in
    let rest : (c.len.result - c.settled-settled.result) + c.settled-settled.result ≡ length groups =
    omega (arith, feed.groups.ok.0) in
    left_behind c.args.number feed.first feed.next c.settled-settled.result _ groups _ _ c.self.invariant is rest
    c.rotate_left.ensures.items c.truncate.ensures.items
    ∙ ap (λ (f : Feed). behind c.args.number f.groups) c.self.view_is
