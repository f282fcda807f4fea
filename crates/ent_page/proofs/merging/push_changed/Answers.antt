use Rattle.std.proofs.Common.{arith}
use Rattle.ent_page.proofs.Changes.{sorted_parts, key_step}
use Rattle.ent_page.proofs.merging.push_changed.Goals as goal

pub push_unless-requires-clause-removed : goal.push_unless-requires-clause-removed
push_unless-requires-clause-removed c =
    (sorted_parts c.key-key.result.now c.loop-index.removed.now c.split_below-in-loop-index.result.0.now
    c.split_below-in-loop-index.result.1.now c.loop-index.invariant.removed_sorted
    c.split_below-in-loop-index.ensures).1

pub push_unless-requires-clause-added : goal.push_unless-requires-clause-added
push_unless-requires-clause-added c =
    (sorted_parts c.key-key.result.now c.loop-index.added.now c.split_below.result.0.now c.split_below.result.1.now
    c.loop-index.invariant.added_sorted c.split_below.ensures).1

pub loop-index-preserved : goal.loop-index-preserved
loop-index-preserved c =
    key_step c.args.page.now c.args.removed.now c.args.added.now c.args.out.now c.loop-index.out c.loop-index.index
    c.key-key.result.now
    c.loop-index.removed.now c.split_below-in-loop-index.result.0.now c.split_below-in-loop-index.result.1.now
    c.loop-index.added.now c.split_below.result.0.now c.split_below.result.1.now c.push_all.new.out
    c.push_unless.new.out
    (omega arith)
    c.key-key.ensures c.requires.page c.loop-index.invariant c.split_below-in-loop-index.ensures
    c.split_below.ensures c.in_ok-push_all.ensures c.in_ok-push_unless.ensures
