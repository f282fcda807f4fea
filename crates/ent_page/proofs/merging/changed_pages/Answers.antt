use Rattle.std.proofs.Common.{◌+◌, arith, drop, []}
use Rattle.std.specs.Arc.{arc_value}
use Rattle.std.specs.List.{flat_map}
use Rattle.std.proofs.lemmas.Result.{IfOk-weaker}
use Rattle.ent_page.proofs.Sorted.{sorted_front}
use Rattle.ent_page.proofs.Changes.{ordered_from, split_sorted, page_step, ends, nothing_left, all_of_it}
use Rattle.ent_page.proofs.merging.changed_pages.Goals as goal

pub push_page-requires-clause-page : goal.push_page-requires-clause-page
push_page-requires-clause-page c =
    sorted_front (arc_value c.index-pages-at.result) (flat_map arc_value (drop (c.loop-at.at + 1) c.args.pages.now))
    (ordered_from arc_value c.args.pages.now c.loop-at.at c.index-pages-at.result
    (omega arith) c.index-pages-at.is c.requires.pages)

pub push_page-requires-clause-removed : goal.push_page-requires-clause-removed
push_page-requires-clause-removed c =
    (split_sorted (flat_map arc_value (drop (c.loop-at.at + 1) c.args.pages.now))
    c.loop-at.removed.now c.before_page.result.0.now c.before_page.result.1.now c.loop-at.invariant.removed_sorted
    c.before_page.ensures).0

pub push_page-requires-clause-added : goal.push_page-requires-clause-added
push_page-requires-clause-added c =
    (split_sorted (flat_map arc_value (drop (c.loop-at.at + 1) c.args.pages.now))
    c.loop-at.added.now c.before_page-in-loop-at.result.0.now c.before_page-in-loop-at.result.1.now
    c.loop-at.invariant.added_sorted c.before_page-in-loop-at.ensures).0

pub loop-at-preserved : goal.loop-at-preserved
loop-at-preserved c =
    page_step arc_value c.args.pages.now c.loop-at.at c.index-pages-at.result
    (omega arith) c.index-pages-at.is c.requires.pages c.args.removed.now c.args.added.now [] c.loop-at.out
    c.loop-at.removed.now c.before_page.result.0.now c.before_page.result.1.now c.loop-at.added.now
    c.before_page-in-loop-at.result.0.now c.before_page-in-loop-at.result.1.now c.push_page.new.out
    c.loop-at.invariant c.before_page.ensures c.before_page-in-loop-at.ensures c.in_ok-push_page.ensures

pub returns-clause-keys : goal.returns-clause-keys
returns-clause-keys c =
    IfOk-weaker c.finish.result _ _
    (λ pages. all_of_it (flat_map arc_value c.args.pages.now) c.args.removed.now c.args.added.now c.push_all.new.out
    (flat_map arc_value pages.items)
    (ends (flat_map arc_value c.args.pages.now)
    c.args.removed.now c.args.added.now [] c.loop-at.out c.loop-at.removed.now c.loop-at.added.now
    c.push_all.new.out
    (rw (nothing_left arc_value c.args.pages.now c.loop-at.at (omega arith)) at c.loop-at.invariant)
    c.in_ok-push_all.ensures))
    c.finish.ensures.keys
