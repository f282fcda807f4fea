-- The transactions of a history have no more lines than their text has bytes.
use Rattle.std.proofs.Common.{◌≡◌, ℕ, ◌+◌, ◌≤◌, List, [], ◌∷◌, ◌++◌, length, refl, ap}
use Rattle.std.proofs.Common.{arith, codes, flat_map, sum_by, inl, inr}
use Rattle.std.specs.Fmt.{decimal}
use Rattle.std.proofs.lemmas.List.{length-append}
use Rattle.std.proofs.lemmas.List.Sums.{sum_by-cons}
use Rattle.ent_value.specs.Print.{row_text}
use Rattle.ent_value.specs.declared.value.Value.{Value}
use Rattle.ent_semantics.specs.declared.answer.Answer.{Answer}
use Rattle.ent_semantics.specs.declared.answer.Answer.TheVariants as answers
use Rattle.ent_book.specs.Report.{line, row_line, rows_text, answer_text, answers_text, fate_text}
use Rattle.ent_history.specs.declared.history.Told.{Told}
use Rattle.ent_history.specs.Text.{tx_text, told_text, transactions_text}
use Rattle.ent_lists.specs.Elements.{In}
use Rattle.ent_report_laws.proofs.Begun.{placed_answer}

-- ---- how many lines each thing has

abbrev pub answer_lines : Answer → ℕ
answer_lines (answers.Rows rows) = 1 + length rows
answer_lines other = 1

-- a transaction, and the answers under it
abbrev pub told_lines : Told → ℕ
told_lines told = 1 + sum_by answer_lines told.answers

-- ---- sums

some_line : (text : List ℕ) → 1 ≤ length (line text)
some_line text = omega (arith, length-append text (10 ∷ []))

module _ {X : Type 0} (text : X → List ℕ) (some : (x : X) → 1 ≤ length (text x)) where
  many_fit : (xs : List X) → length xs ≤ length (flat_map text xs)
  many_fit [] = omega arith
  many_fit (x ∷ xs) =
      let rest : length xs ≤ length (flat_map text xs) = many_fit xs in
      let first : 1 ≤ length (text x) = some x in
      omega (arith, length-append (text x) (flat_map text xs))

module _ {X : Type 0} (count : X → ℕ) (text : ℕ → List X → List ℕ) (one : ℕ → X → List ℕ)
    (more : (number : ℕ) (x : X) (xs : List X) → text number (x ∷ xs) ≡ one number x ++ text (number + 1) xs)
    (fits : (number : ℕ) (x : X) → count x ≤ length (one number x)) where
  numbered_fit : (number : ℕ) (xs : List X) → sum_by count xs ≤ length (text number xs)
  numbered_fit number [] = omega arith
  numbered_fit number (x ∷ xs) =
      let rest : sum_by count xs ≤ length (text (number + 1) xs) = numbered_fit (number + 1) xs in
      let first : count x ≤ length (one number x) = fits number x in
      omega
      (arith, sum_by-cons count x xs, ap length (more number x xs), length-append (one number x) (text (number + 1) xs))

pub part_fits : {X : Type 0} (count : X → ℕ) (xs : List X) (x : X) → In x xs → count x ≤ sum_by count xs
part_fits count [] x at = absurd at
part_fits count (y ∷ ys) x (inl same) = omega (arith, sum_by-cons count y ys, ap count same)
part_fits count (y ∷ ys) x (inr at) =
    let rest : count x ≤ sum_by count ys = part_fits count ys x at in
    omega (arith, sum_by-cons count y ys)

-- ---- transactions

rows_fit : (rows : List (List Value)) → length rows ≤ length (rows_text rows)
rows_fit rows = many_fit row_line (λ row. some_line (row_text row)) rows

headed_rows_fit : (head : List ℕ) (rows : List (List Value)) → 1 ≤ length head
    → 1 + length rows ≤ length (head ++ rows_text rows)
headed_rows_fit head rows some =
    let rest : length rows ≤ length (rows_text rows) = rows_fit rows in
    omega (arith, length-append head (rows_text rows))

answer_fits : (place : ℕ) (answer : Answer) → answer_lines answer ≤ length (placed_answer place answer)
answer_fits place (answers.Rows rows) =
    let rest : 1 + length rows ≤ length (line (codes "rows " ++ decimal (length rows)) ++ rows_text rows) =
    headed_rows_fit (line (codes "rows " ++ decimal (length rows))) rows
    (some_line (codes "rows " ++ decimal (length rows))) in
    omega (arith, length-append (decimal place) (codes " " ++ answer_text (answers.Rows rows)))
answer_fits place (answers.Count count) =
    omega (arith, length-append (decimal place) (codes " " ++ answer_text (answers.Count count)))
answer_fits place (answers.Value value) =
    omega (arith, length-append (decimal place) (codes " " ++ answer_text (answers.Value value)))
answer_fits place (answers.Heads facts) =
    omega (arith, length-append (decimal place) (codes " " ++ answer_text (answers.Heads facts)))

told_fits : (number : ℕ) (told : Told) → told_lines told ≤ length (told_text number told)
told_fits number told =
    let rest : sum_by answer_lines told.answers ≤ length (answers_text 1 told.answers) =
    numbered_fit answer_lines answers_text placed_answer (λ n x xs. refl) answer_fits 1 told.answers in
    let first : 1 ≤ length (tx_text number told) =
    some_line (codes "tx " ++ (decimal number ++ (codes " " ++ fate_text told.fate))) in
    omega (arith, length-append (tx_text number told) (answers_text 1 told.answers))

pub transactions_fit : (told : List Told) → sum_by told_lines told ≤ length (transactions_text 1 told)
transactions_fit told = numbered_fit told_lines transactions_text told_text (λ n x xs. refl) told_fits 1 told
