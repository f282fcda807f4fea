use Rattle.std.proofs.Common.{◌≡◌, ◌<◌, ◌≤◌, ◌+◌, length, sym, ap, subst, ◌∙◌, arith, rules, is_some, min}
use Rattle.ent_history.specs.Account.{commit_number}
use Rattle.ent_check.proofs.Numbers.{CountedBefore, counted_all, counted_off, counted_on}
use Rattle.ent_check.proofs.journal.commit_count.Goals as goal
use Rattle.ent_check.proofs.journal.commit_count.Goals.{then-committed, else-committed}

pub loop-index-preserved : goal.loop-index-preserved
loop-index-preserved c =
    let scripts = c.args.scripts.now in
    let told = c.args.transactions.now in
    let i = c.loop-index.index in
    let low : i < length scripts = grind (arith, rules) in
    let low_told : i < length told = grind (arith, rules) in
    let own : is_some (commit_number c.index-transactions-index.result.fate) ≡ c.is_some-committed.result =
    ap is_some (sym c.commit_number.ensures) ∙ sym c.is_some-committed.ensures in
    elim c.if-committed.branch [
      | then-committed w ↦
          record {
            within = grind (arith, rules);
            so_far = subst (λ n. CountedBefore scripts told i n (i + 1)) (sym w.count-is)
                (counted_on scripts told i c.loop-index.count c.index-transactions-index.result low low_told
                c.index-transactions-index.is (own ∙ w.if-committed.true) c.loop-index.invariant.so_far);
          }
      | else-committed w ↦
          record {
            within = grind (arith, rules);
            so_far = subst (λ n. CountedBefore scripts told i n (i + 1)) (sym w.count-is)
                (counted_off scripts told i c.loop-index.count c.index-transactions-index.result low low_told
                c.index-transactions-index.is (own ∙ w.if-committed.false) c.loop-index.invariant.so_far);
          }
    ]

pub returns : goal.returns
returns c =
    let scripts = c.args.scripts.now in
    let told = c.args.transactions.now in
    let over : min (length scripts) (length told) ≤ c.loop-index.index = grind (arith, rules) in
    counted_all scripts told c.loop-index.index c.loop-index.count over
    c.loop-index.invariant.so_far
