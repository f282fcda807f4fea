use Rattle.std.proofs.Common.{◌<◌, ◌≤◌, length, arith, rules, min}
use Rattle.ent_history.specs.Account.{accounts_from, commit_number}
use Rattle.ent_check.proofs.Commits.{all_entered, below_begun, below_more, entered_begun, one_entered}
use Rattle.ent_check.proofs.order.by_number.Goals as goal

pub loop-index-init : goal.loop-index-init
loop-index-init c =
    let scripts = c.args.scripts.now in
    let told = c.args.transactions.now in
    record {
      entered = entered_begun (accounts_from 1 scripts told) c.new-indices.result c.new-indices.ensures.empty;
      below = below_begun (min (length scripts) (length told)) c.new-indices.result c.new-indices.ensures.empty;
    }

pub loop-index-preserved : goal.loop-index-preserved
loop-index-preserved c =
    let scripts = c.args.scripts.now in
    let told = c.args.transactions.now in
    let i = c.loop-index.index in
    let t = c.index-transactions-index.result in
    let low : i < length scripts = grind (arith, rules) in
    let low_told : i < length told = grind (arith, rules) in
    let within : i < min (length scripts) (length told) = grind (arith, rules) in
    record {
      entered = one_entered scripts told i t low low_told c.index-transactions-index.is c.requires c.loop-index.indices
          c.enter.new.indices c.in_ok-enter.ensures c.loop-index.invariant.entered;
      below = below_more (min (length scripts) (length told)) i (commit_number t.fate) c.loop-index.indices
          c.enter.new.indices within c.in_ok-enter.ensures c.loop-index.invariant.below;
    }

pub returns : goal.returns
returns c =
    let scripts = c.args.scripts.now in
    let told = c.args.transactions.now in
    let over : min (length scripts) (length told) ≤ c.loop-index.index = grind (arith, rules) in
    record {
      numbered = all_entered scripts told c.loop-index.index c.loop-index.indices over c.loop-index.invariant.entered;
      within = c.loop-index.invariant.below;
    }
