use Rattle.std.proofs.Common.{◌-◌, ◌<◌, length, take, drop, ◌∙◌, sym, subst, arith}
use Rattle.std.specs.List.{AllByRecursion}
use Rattle.ent_match.specs.Links.{IsMarked}
use Rattle.ent_join.specs.Index.{candidates_in}
use Rattle.ent_join.specs.Reason.{IsFollowedFor}
use Rattle.ent_join.proofs.Read.{index_followed}
use Rattle.ent_join.proofs.Walked.{first_and_others}
use Rattle.ent_join.proofs.frame.+candidates_after.Goals as goal

pub returns-in-Some-clause-followed : goal.returns-in-Some-clause-followed
returns-in-Some-clause-followed t c =
    let indexes = c.args.indexes.now in
    let beginning = c.args.beginning.now in
    let index = c.index-item.result in
    let others = take (length indexes - 1) (drop 1 indexes) in
    let marks = c.mark_classes.new.marks in
    subst (λ all. IsFollowedFor (candidates_in all) beginning marks)
    (sym (first_and_others indexes index (omega arith) c.index-item.is))
    (index_followed beginning index others marks c.in-Some.column (omega arith)
    (sym c.column_of.ensures.column ∙ c.in-Some.is)
    (subst (λ n. AllByRecursion (λ class. class < n → IsMarked marks class) index.classes)
    (sym c.mark_classes.auto.marks) c.mark_classes.ensures.marked))
