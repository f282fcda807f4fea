use Rattle.std.proofs.Common.{◌≡◌, ◌+◌, length, arith, rules, min, ap, subst, sym, ◌<◌}
use Rattle.std.specs.BTreeMap.{get}
use Rattle.std.specs.List.{AllByRecursion}
use Rattle.std.specs.Ordering.{nat_cmp}
use Rattle.ent_history.specs.Account.{accounts_from}
use Rattle.ent_check.specs.Order.{accounts_at}
use Rattle.ent_check.proofs.Commits.{below_pushed, ordered_all, ordered_more}
use Rattle.ent_check.proofs.order.commit_order.Goals as goal

pub loop-before-init : goal.loop-before-init
loop-before-init c =
    let scripts = c.args.scripts.now in
    let told = c.args.transactions.now in
    record {
      counted = c.commit_count-count.ensures;
      numbered = c.in_ok-indices.ensures.numbered;
      low = c.in_ok-indices.ensures.within;
      ordered = ap (accounts_at (accounts_from 1 scripts told)) c.new-order.ensures.items;
      below = subst (AllByRecursion (λ index. index < min (length scripts) (length told)))
          (sym c.new-order.ensures.items) tt;
    }

pub loop-before-preserved : goal.loop-before-preserved
loop-before-preserved c =
    let scripts = c.args.scripts.now in
    let told = c.args.transactions.now in
    let i = c.loop-before.before in
    let indices = c.in_ok-indices.indices in
    let so_far = c.loop-before.invariant in
    record {
      counted = so_far.counted;
      numbered = so_far.numbered;
      low = so_far.low;
      ordered = ordered_more (accounts_from 1 scripts told) i indices c.loop-before.order.items
          c.push_index.new.order.items so_far.numbered c.in_ok-push_index.ensures so_far.ordered;
      below = below_pushed (min (length scripts) (length told)) c.loop-before.order.items c.push_index.new.order.items
          (get nat_cmp indices (i + 1)) c.in_ok-push_index.ensures (so_far.low (i + 1)) so_far.below;
    }

pub returns : goal.returns
returns c =
    let all = accounts_from 1 c.args.scripts.now c.args.transactions.now in
    let over : c.loop-before.before ≡ c.commit_count-count.result = grind (arith, rules) in
    record {
      in_order = ordered_all all c.commit_count-count.result c.loop-before.before c.loop-before.order.items
          c.loop-before.invariant.counted over c.loop-before.invariant.ordered;
      within = c.loop-before.invariant.below;
    }
