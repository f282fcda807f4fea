use Rattle.std.proofs.Common.{◌∙◌, ◌-◌, ℕ, ap, drop}
use Rattle.ent_members.specs.TransactionOrder.{part_reversed}
use Rattle.ent_members.proofs.Behind.{reordered_again, reversed_behind}
use Rattle.ent_members.proofs.order.put_behind.Goals as goal

pub returns-clause-entries : goal.returns-clause-entries
returns-clause-entries c =
    let entries = c.args.order.now.entries in
    let start = c.args.start in
    ap (drop start)
    (c.reverse_part-2.ensures.entries
    ∙ ap (part_reversed start (c.len-end.result - c.args.count)) c.reverse_part.ensures.entries
    ∙ ap (λ (n : ℕ). part_reversed start (n - c.args.count) (part_reversed start n entries)) c.len-end.ensures.len)
    ∙ reversed_behind entries start c.args.count c.requires

pub returns-clause-reordered : goal.returns-clause-reordered
returns-clause-reordered c =
    reordered_again c.args.order.now c.reverse_part.new.order c.reverse_part-2.new.order
    c.reverse_part.ensures.reordered c.reverse_part-2.ensures.reordered
