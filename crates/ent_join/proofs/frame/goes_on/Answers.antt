use Rattle.std.proofs.Common.{◌<◌, ◌∙◌, sym, subst, arith}
use Rattle.std.specs.List.{AllByRecursion}
use Rattle.ent_lists.proofs.Options.{none_there}
use Rattle.ent_match.specs.Links.{IsMarked}
use Rattle.ent_join.proofs.Read.{index_refuses, index_unread}
use Rattle.ent_join.proofs.frame.goes_on.Goals as goal

pub returns-then-is_none-clause-passes : goal.returns-then-is_none-clause-passes
returns-then-is_none-clause-passes c =
    sym (index_unread c.args.values.now c.args.index.now c.in-Some.last (omega arith)
    (sym c.column_of.ensures.column ∙ none_there c.column_of.result c.if-is_none.ensures) c.requires.begun)

pub returns-clause-refused : goal.returns-clause-refused
returns-clause-refused c = λ _.
    index_refuses c.args.values.now c.args.index.now c.mark_classes.new.marks (omega arith)
    (sym c.goes_on.ensures ∙ c.if-goes_on.false)
    (subst (λ n. AllByRecursion (λ class. class < n → IsMarked c.mark_classes.new.marks class) c.args.index.now.classes)
    (sym c.mark_classes.auto.marks) c.mark_classes.ensures.marked)
