use Rattle.std.proofs.Common.{◌∙◌, ◌-◌, ◌+◌, ℕ, List, ap, arith, drop}
use Rattle.indexmap.specs.IndexMap.{move_index}
use Rattle.ent_members.specs.TransactionOrder.{first_behind}
use Rattle.ent_members.proofs.Behind.{each_behind, reordered_again}
use Rattle.ent_members.proofs.order.+put_each_behind.Goals as goal

pub returns-clause-entries : goal.returns-clause-entries
returns-clause-entries t c =
    let entries = c.args.order.now.entries in
    let start = c.args.start in
    let count = c.args.count in
    c.put_each_behind.ensures.entries
    ∙ ap (λ (es : List (ℕ × ℕ)). first_behind (count - 1) (drop start es)) (c.move_index.ensures.entries
    ∙ ap (λ (n : ℕ). move_index entries (start + count - 1) (n - 1)) c.len-last.ensures.len)
    ∙ each_behind entries (0, 0) start count (omega (arith, c.if-count-eq0.false)) c.requires

pub returns-clause-reordered : goal.returns-clause-reordered
returns-clause-reordered t c =
    reordered_again c.args.order.now c.move_index.new.self c.put_each_behind.new.order c.move_index.ensures.reordered
    c.put_each_behind.ensures.reordered
