-- The texts of answers and fates.
use Rattle.std.proofs.Common.{ℕ, ◌+◌, List, [], ◌∷◌, ◌++◌, length, refl}
use Rattle.std.specs.Prelude.{codes}
use Rattle.std.specs.List.{AllByRecursion}
use Rattle.std.specs.Fmt.{decimal}
use Rattle.std.specs.Str.{IsUtf8}
use Rattle.std.proofs.lemmas.Str.{IsUtf8-nil}
use Rattle.ent_value.specs.Print.{row_text, value_text}
use Rattle.ent_tree.specs.declared.script.Statement.{Statement}
use Rattle.ent_semantics.specs.declared.answer.Answer.{Answer}
use Rattle.ent_semantics.specs.declared.answer.Answer.TheVariants as answers
use Rattle.ent_semantics.specs.declared.answer.Fact.{Fact}
use Rattle.ent_semantics.specs.Failure.{failure_name}
use Rattle.ent_semantics.specs.declared.answer.Failure.{Failure}
use Rattle.ent_semantics.specs.declared.answer.Failure.TheVariants as failures
use Rattle.ent_semantics.specs.declared.book.Fate.{Fate}
use Rattle.ent_semantics.specs.declared.book.Fate.TheVariants as fates
use Rattle.ent_book.specs.Report.{after_text, answer_text, answers_text, fact_text, facts_text, fate_text}
use Rattle.ent_book.specs.Report.{line, rows_text}
use Rattle.ent_history.specs.Answers.{IsFact}
use Rattle.ent_report_laws.specs.Tellable.{AreAnswersTo, IsAnswerTold}
use Rattle.ent_program_laws.specs.Characters.{IsAnswerOfCharacters, IsRowOfCharacters}
use Rattle.ent_program_laws.proofs.Names.{name_text}
use Rattle.ent_program_laws.proofs.Texts.{joined, number_text, of_ascii}
use Rattle.ent_program_laws.proofs.CharacterValues.{line_is_text, row_is_text, rows_are_text, value_is_text}

-- ---- fates

after_is_text : (runs : ℕ) → IsUtf8 (after_text runs)
after_is_text runs = joined (codes " after ") (decimal runs) (of_ascii (codes " after ") refl) (number_text runs)

failure_is_text : (failure : Failure) → IsUtf8 (failure_name failure)
failure_is_text failures.Overflow = of_ascii (codes "F1") refl
failure_is_text failures.TableFull = of_ascii (codes "F2") refl

pub fate_is_text : (fate : Fate) → IsUtf8 (fate_text fate)
fate_is_text (fates.Committed number runs) =
    joined (codes "committed ") (decimal number ++ after_text runs) (of_ascii (codes "committed ") refl)
    (joined (decimal number) (after_text runs) (number_text number) (after_is_text runs))
fate_is_text (fates.GaveUp runs) =
    joined (codes "gave up") (after_text runs) (of_ascii (codes "gave up") refl) (after_is_text runs)
fate_is_text (fates.RolledBack runs) =
    joined (codes "rolled back") (after_text runs) (of_ascii (codes "rolled back") refl) (after_is_text runs)
fate_is_text (fates.Failed failure runs) =
    joined (codes "failed ") (failure_name failure ++ after_text runs) (of_ascii (codes "failed ") refl)
    (joined (failure_name failure) (after_text runs) (failure_is_text failure) (after_is_text runs))

-- ---- answers

facts_are_text : (facts : List Fact) → AllByRecursion IsFact facts
    → AllByRecursion (λ fact. IsRowOfCharacters fact.values) facts → IsUtf8 (facts_text facts)
facts_are_text [] told each = IsUtf8-nil
facts_are_text (fact ∷ facts) told each =
    joined (fact_text fact) (facts_text facts)
    (joined (codes " ") (fact.relation ++ row_text fact.values) (of_ascii (codes " ") refl)
    (joined fact.relation (row_text fact.values) (name_text fact.relation told.0.0)
    (row_is_text fact.values each.0)))
    (facts_are_text facts told.1 each.1)

answer_is_text : (answer : Answer) → IsAnswerTold answer → IsAnswerOfCharacters answer → IsUtf8 (answer_text answer)
answer_is_text (answers.Count count) told is =
    line_is_text (codes "count " ++ decimal count)
    (joined (codes "count ") (decimal count) (of_ascii (codes "count ") refl) (number_text count))
answer_is_text (answers.Value value) told is =
    line_is_text (codes "set " ++ value_text value)
    (joined (codes "set ") (value_text value) (of_ascii (codes "set ") refl) (value_is_text value is))
answer_is_text (answers.Rows rows) told is =
    joined (line (codes "rows " ++ decimal (length rows))) (rows_text rows)
    (line_is_text (codes "rows " ++ decimal (length rows))
    (joined (codes "rows ") (decimal (length rows)) (of_ascii (codes "rows ") refl) (number_text (length rows))))
    (rows_are_text rows is)
answer_is_text (answers.Heads facts) told is =
    line_is_text (codes "answer" ++ facts_text facts)
    (joined (codes "answer") (facts_text facts) (of_ascii (codes "answer") refl) (facts_are_text facts told.1 is))

pub answers_are_text : (place : ℕ) (statements : List Statement) (told : List Answer) → AreAnswersTo statements told
    → AllByRecursion IsAnswerOfCharacters told → IsUtf8 (answers_text place told)
answers_are_text place statements [] are each = IsUtf8-nil
answers_are_text place [] (answer ∷ told) are each = absurd are
answers_are_text place (statement ∷ statements) (answer ∷ told) are each =
    joined (decimal place ++ (codes " " ++ answer_text answer)) (answers_text (place + 1) told)
    (joined (decimal place) (codes " " ++ answer_text answer) (number_text place)
    (joined (codes " ") (answer_text answer) (of_ascii (codes " ") refl) (answer_is_text answer are.1 each.0)))
    (answers_are_text (place + 1) statements told are.2 each.1)
