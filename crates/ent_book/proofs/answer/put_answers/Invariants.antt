use Rattle.std.proofs.Common.{◌≡◌, ◌+◌, ◌++◌, drop}
use Rattle.ent_book.specs.Report.{answers_text}
use Rattle.ent_book.proofs.answer.put_answers.Given as goal

-- what is out, and the text of what is left
abbrev pub invariant-loop-answer : goal.invariant-loop-answer
invariant-loop-answer l = record {
  place : l.place ≡ l.answer-index + 1;
  whole :
      l.out.items ++ answers_text l.place (drop l.answer-index l.answers)
      ≡ l.fn.out.items ++ answers_text 1 l.answers;
}
