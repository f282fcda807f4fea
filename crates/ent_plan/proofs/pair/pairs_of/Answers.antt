use Rattle.std.proofs.Common.{sym, subst, map, take}
use Rattle.ent_plan.specs.Pairs.{ArePairs, seen, seen_pair}
use Rattle.ent_plan.proofs.Pairing.{post_more, seen_more, seen_there}
use Rattle.ent_plan.proofs.pair.pairs_of.Goals as goal

pub returns-then-not-branch : goal.returns-then-not-branch
returns-then-not-branch c =
    let puts = rw c.if-not-branch.true at c.in_ok-push_pairs.ensures in (
      seen c.post-item.result,
      seen_there c.args.posts.now c.loop-post.post-index c.post-item.result c.loop-post-test.true c.post-item.is,
      puts.met,
    )

pub loop-post-preserved : goal.loop-post-preserved
loop-post-preserved c =
    let puts = rw c.if-not-branch.false at c.in_ok-push_pairs.ensures in
    let heads = map seen c.args.heads.now in
    let new = map seen_pair c.push_pairs.new.pairs.items in
    subst (λ posts. ArePairs posts heads new)
    (sym (seen_more c.args.posts.now c.loop-post.post-index c.post-item.result c.loop-post-test.true c.post-item.is))
    (post_more (map seen (take c.loop-post.post-index c.args.posts.now)) heads (seen c.post-item.result)
    (map seen_pair c.loop-post.pairs.items) new c.loop-post.invariant puts)
