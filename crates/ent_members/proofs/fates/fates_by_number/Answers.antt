use Rattle.std.proofs.Common.{rules, reverse, ap, arith, ◌∙◌}
use Rattle.std.proofs.lemmas.List.{take_all}
use Rattle.std.proofs.lemmas.List.Sorted.{answers_always}
use Rattle.ent_members.proofs.TransactionByNumber.{number, sorted_backwards}
use Rattle.ent_members.proofs.fates.fates_by_number.Goals as goal

pub returns : goal.returns
returns c =
    sorted_backwards c.args.fates.now _ _
    (c.reverse.ensures.items
    ∙ ap reverse (c.loop-fated.invariant ∙ take_all c.loop-fated.fated-index c.args.fates.now (omega arith)))
    (c.in_ok-sort_by_key.ensures.sorted number (answers_always _ _ _ (λ f a r g h. search rules)))
    (c.in_ok-sort_by_key.ensures.stable number (answers_always _ _ _ (λ f a r g h. search rules)))
