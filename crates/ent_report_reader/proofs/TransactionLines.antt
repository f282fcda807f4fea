-- The lines of transactions and of rows of answers.
use Rattle.std.proofs.Common.{◌≡◌, ℕ, ◌+◌, ◌≤◌, List, [], ◌∷◌, ◌++◌, length, ap, ◌∙◌, arith}
use Rattle.ent_value.specs.Print.{row_text}
use Rattle.ent_value.specs.declared.value.Value.{Value}
use Rattle.ent_tree.specs.declared.limits.TheConstants.{MOST_SCRIPTS}
use Rattle.ent_semantics.specs.declared.book.Fate.{Fate}
use Rattle.ent_book.specs.Report.{line}
use Rattle.ent_history.specs.declared.history.Told.{Told}
use Rattle.ent_history.specs.Fates.{transaction_text}
use Rattle.ent_history.specs.Draft.{Draft, Due, AnswerRows, on_last, rows_due}
use Rattle.ent_history.specs.Answers.{AnswerRowStands, TxStands, with_answer_row}
use Rattle.ent_report_reader.specs.Due.{AnswerTakes, TxIsNext}
use Rattle.ent_report_reader.specs.Reading.{IsRowLine, IsTxLine}
use Rattle.ent_report_reader.proofs.Steps.{same_line}

abbrev pub next_number : Draft → ℕ
next_number draft = length draft.told.transactions + 1

pub other_number : (number other : ℕ) (fate own : Fate) → ◌≡◌ {A = ℕ × Fate} (number, fate) (other, own)
    → number ≡ other
other_number number other fate own e = ap (λ (x : ℕ × Fate). x.0) e

pub tx_has : (old : Draft) (text : List ℕ) → length old.told.scripts ≤ MOST_SCRIPTS → (next : Draft)
    → (stands : TxStands old (line text) next) → IsTxLine text (next_number old, stands.fate)
tx_has old text few next stands = (
  same_line text (transaction_text (next_number old) stands.fate) stands.text_is,
  omega (arith, few, stands.of_script),
  stands.is_fate,
)

pub tx_is_next : (old : Draft) (text : List ℕ) (next : Draft) → TxStands old (line text) next → TxIsNext old
tx_is_next old text next stands = record {
  free = stands.free;
  nothing_below = stands.nothing_below;
  answered = stands.answered;
  of_script = stands.of_script;
}

pub tx_stands : (old : Draft) (text : List ℕ) (number : ℕ) (fate : Fate) → TxIsNext old
    → IsTxLine text (number, fate) → number ≡ next_number old → (transactions : List Told)
    → transactions ≡ old.told.transactions ++ record { fate = fate; answers = [] } ∷ []
    → TxStands old (line text) (record { told = record old.told { transactions = transactions }; due = old.due })
tx_stands old text number fate due is numbered transactions grown = record {
  fate = fate;
  free = due.free;
  nothing_below = due.nothing_below;
  answered = due.answered;
  of_script = due.of_script;
  text_is = ap line (is.0 ∙ ap (λ n. transaction_text n fate) numbered);
  is_fate = is.2;
  next_is = λ i. record { told = record old.told { transactions = grown i }; due = due.free i };
}

-- ---- rows of answers

pub answer_row_has : (old : Draft) (text : List ℕ) (next : Draft) → (stands : AnswerRowStands old (line text) next)
    → IsRowLine text stands.row
answer_row_has old text next stands = (same_line text (row_text stands.row) stands.text_is, stands.is_row)

pub answer_row_takes : (old : Draft) (text : List ℕ) (next : Draft) → (stands : AnswerRowStands old (line text) next)
    → AnswerTakes old.told.transactions stands.row
answer_row_takes old text next stands = record {
  last = stands.last;
  answer = stands.answer;
  last_is = stands.last_is;
  answer_is = stands.answer_is;
  ascends = stands.ascends;
}

pub answer_row_stands : (old : Draft) (text : List ℕ) (more : ℕ) (row : List Value) → old.due ≡ AnswerRows more
    → IsRowLine text row → AnswerTakes old.told.transactions row → (transactions : List Told)
    → transactions ≡ on_last (with_answer_row row) old.told.transactions → (due : Due) → due ≡ rows_due AnswerRows more
    → AnswerRowStands old (line text) (record { told = record old.told { transactions = transactions }; due = due })
answer_row_stands old text more row is_due is takes transactions grown due rows = record {
  more = more;
  last = takes.last;
  answer = takes.answer;
  row = row;
  due = is_due;
  last_is = takes.last_is;
  answer_is = takes.answer_is;
  text_is = ap line is.0;
  is_row = is.1;
  ascends = takes.ascends;
  next_is = λ i. record { told = record old.told { transactions = grown i }; due = rows i };
}
