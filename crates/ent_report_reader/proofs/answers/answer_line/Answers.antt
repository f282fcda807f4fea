use Rattle.std.proofs.Common.{◌≡◌, subst, sym}
use Rattle.ent_tree.specs.declared.script.Statement.{Statement}
use Rattle.ent_tree.specs.declared.script.Statement.TheVariants as statements
use Rattle.ent_semantics.specs.declared.answer.Answer.TheVariants as answers
use Rattle.ent_history.specs.Answers.{IsOfSort}
use Rattle.ent_report_reader.proofs.answers.answer_line.Goals as goal

pub returns-in-Set : goal.returns-in-Set
returns-in-Set c =
    let is = c.in-Set.is in
    let set : c.args.statement.now ≡ statements.Set c.in-Set.field-0 = cc in
    c.value_answer.ensures c.args.statement.now
    (λ value. subst (λ (s : Statement). IsOfSort s (answers.Value value)) (sym set) tt)
