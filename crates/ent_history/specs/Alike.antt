-- Answers, facts and rows that are the same.
use Rattle.std.specs.Prelude.{Bool, false, ◌==◌, ◌&&◌, List}
use Rattle.std.specs.Cmp.Lexicographic.{pointwise}
use Rattle.std.specs.Ordering.{eq_by_cmp}
use Rattle.ent_value.specs.Value.{value_cmp, row_cmp}
use Rattle.ent_value.specs.declared.value.Value.{Value}
use Rattle.ent_semantics.specs.declared.answer.Answer.{Answer}
use Rattle.ent_semantics.specs.declared.answer.Answer.TheVariants as answers
use Rattle.ent_semantics.specs.declared.answer.Fact.{Fact}
use Rattle.ent_semantics.specs.Database.{same_name}

abbrev pub same_row : List Value → List Value → Bool
same_row = eq_by_cmp row_cmp

abbrev pub same_rows : List (List Value) → List (List Value) → Bool
same_rows = pointwise same_row

abbrev pub same_fact : Fact → Fact → Bool
same_fact first second = same_name first.relation second.relation && same_row first.values second.values

abbrev pub same_answer : Answer → Answer → Bool
same_answer (answers.Count first) (answers.Count second) = first == second
same_answer (answers.Value first) (answers.Value second) = eq_by_cmp value_cmp first second
same_answer (answers.Rows first) (answers.Rows second) = same_rows first second
same_answer (answers.Heads first) (answers.Heads second) = pointwise same_fact first second
same_answer first second = false
