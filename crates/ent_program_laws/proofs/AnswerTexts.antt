-- What the line of an answer says.
use Rattle.std.proofs.Common.{◌≡◌, ℕ, true, false, eqb, eq-eqb, List, [], ◌∷◌, ◌++◌, refl, ap, sym, ◌∙◌, arith}
use Rattle.std.proofs.Common.{append_assoc}
use Rattle.std.specs.Prelude.{codes, slice_index}
use Rattle.std.specs.Fmt.{decimal}
use Rattle.ent_value.specs.Print.{value_text}
use Rattle.ent_value.specs.declared.value.Value.{Value}
use Rattle.ent_semantics.specs.declared.answer.Answer.{Answer}
use Rattle.ent_semantics.specs.declared.answer.Answer.TheVariants as answers
use Rattle.ent_semantics.specs.declared.answer.Fact.{Fact}
use Rattle.ent_book.specs.Report.{answer_text, facts_text, line}
use Rattle.ent_history.specs.Heads.{heads_at, heads_line}
use Rattle.ent_history.specs.Parts.{IsNumber, IsValue}
use Rattle.ent_history.specs.Answers.{HasSoMany, IsAnswer, answer_line_text}
use Rattle.ent_history.proofs.BreaksOff.{same_behind, same_line}
use Rattle.ent_report_reader.proofs.OneLine.{facts_in_line}
use Rattle.ent_program_laws.proofs.Fronts.{number_once, once, unlined, value_once}
use Rattle.ent_program_laws.proofs.Known.{Known}

-- what stands behind the place
abbrev pub answer_tail : Answer → ℕ → List ℕ
answer_tail (answers.Rows rows) count = line (codes " rows " ++ decimal count)
answer_tail other count = codes " " ++ answer_text other

answer_parts : (place : ℕ) (answer : Answer) (count : ℕ)
    → answer_line_text place answer count ≡ decimal place ++ answer_tail answer count
answer_parts place (answers.Rows rows) count =
    append_assoc (decimal place) (codes " rows " ++ decimal count) (10 ∷ [])
answer_parts place (answers.Count n) count = refl
answer_parts place (answers.Value value) count = refl
answer_parts place (answers.Heads facts) count = refl

-- a line begins with the place
pub begins_with_place : (place : ℕ) (answer : Answer) (count : ℕ)
    → (rest : List ℕ) × (answer_line_text place answer count ≡ decimal place ++ rest)
begins_with_place place answer count = (answer_tail answer count, answer_parts place answer count)

-- ---- the sort of the answer

-- the letter behind the space
abbrev letter : List ℕ → ℕ
letter text = slice_index text 1

no_letter : (a b : ℕ) → eqb a b ≡ false → a ≡ b → ⊥
no_letter a b other e = let same : eqb a b ≡ true = eq-eqb a b e in let no : true ≡ false = sym same ∙ other in cc

-- ---- each sort

heads_once : Known → (one other : List Fact) (x y : List ℕ) → IsAnswer (answers.Heads one)
    → IsAnswer (answers.Heads other)
    → answer_tail (answers.Heads one) 0 ++ x ≡ answer_tail (answers.Heads other) 0 ++ y → one ≡ other
heads_once known one other x y h k e =
    let lines = same_behind (codes " answer") (line (facts_text one) ++ x) (line (facts_text other) ++ y) e in
    let facts = (same_line (facts_text one) (facts_text other) x y (facts_in_line one h.1) (facts_in_line other k.1)
    lines).0 in
    let both = once heads_at (heads_line 1 one) (heads_line 1 other) (1, one) (1, other)
    (known.heads 1 one (omega arith) h.0 h.1)
    (known.heads 1 other (omega arith) k.0 k.1)
    (ap (λ (text : List ℕ). decimal 1 ++ (codes " answer" ++ text)) facts) in
    ap (λ (x : ℕ × List Fact). x.1) both

counts_once : (word : List ℕ) (one other : ℕ) (x y : List ℕ) → IsNumber one → IsNumber other
    → word ++ (line (decimal one) ++ x) ≡ word ++ (line (decimal other) ++ y) → one ≡ other
counts_once word one other x y h k e =
    number_once one other x y h k
    (unlined (decimal one) (decimal other) x y
    (same_behind word (line (decimal one) ++ x) (line (decimal other) ++ y) e))

values_once : (word : List ℕ) (one other : Value) (x y : List ℕ) → IsValue one → IsValue other
    → word ++ (line (value_text one) ++ x) ≡ word ++ (line (value_text other) ++ y) → one ≡ other
values_once word one other x y h k e =
    (value_once one other (10 ∷ x) (10 ∷ y) h k refl refl
    (unlined (value_text one) (value_text other) x y
    (same_behind word (line (value_text one) ++ x) (line (value_text other) ++ y) e))).value

pub record AnswerOnce (one other : Answer) (count number : ℕ) : Type 0 where
  pub answer : one ≡ other
  pub counted : count ≡ number

tail_once : Known → (one other : Answer) (count number : ℕ) (x y : List ℕ) → IsAnswer one → IsAnswer other
    → HasSoMany one count → HasSoMany other number
    → answer_tail one count ++ x ≡ answer_tail other number ++ y → AnswerOnce one other count number
tail_once known (answers.Count n) (answers.Count m) count number x y h k p q e =
    record { answer = ap answers.Count (counts_once (codes " count ") n m x y h k e); counted = p ∙ sym q }
tail_once known (answers.Value v) (answers.Value w) count number x y h k p q e =
    record { answer = ap answers.Value (values_once (codes " set ") v w x y h k e); counted = p ∙ sym q }
tail_once known (answers.Rows r) (answers.Rows s) count number x y h k p q e =
    record { answer = ap answers.Rows (h ∙ sym k); counted = counts_once (codes " rows ") count number x y p q e }
tail_once known (answers.Heads f) (answers.Heads g) count number x y h k p q e =
    record { answer = ap answers.Heads (heads_once known f g x y h k e); counted = p ∙ sym q }
tail_once known (answers.Count a) (answers.Value b) count number x y h k p q e =
    absurd (no_letter 99 115 refl (ap letter e))
tail_once known (answers.Count a) (answers.Rows b) count number x y h k p q e =
    absurd (no_letter 99 114 refl (ap letter e))
tail_once known (answers.Count a) (answers.Heads b) count number x y h k p q e =
    absurd (no_letter 99 97 refl (ap letter e))
tail_once known (answers.Value a) (answers.Count b) count number x y h k p q e =
    absurd (no_letter 115 99 refl (ap letter e))
tail_once known (answers.Value a) (answers.Rows b) count number x y h k p q e =
    absurd (no_letter 115 114 refl (ap letter e))
tail_once known (answers.Value a) (answers.Heads b) count number x y h k p q e =
    absurd (no_letter 115 97 refl (ap letter e))
tail_once known (answers.Rows a) (answers.Count b) count number x y h k p q e =
    absurd (no_letter 114 99 refl (ap letter e))
tail_once known (answers.Rows a) (answers.Value b) count number x y h k p q e =
    absurd (no_letter 114 115 refl (ap letter e))
tail_once known (answers.Rows a) (answers.Heads b) count number x y h k p q e =
    absurd (no_letter 114 97 refl (ap letter e))
tail_once known (answers.Heads a) (answers.Count b) count number x y h k p q e =
    absurd (no_letter 97 99 refl (ap letter e))
tail_once known (answers.Heads a) (answers.Value b) count number x y h k p q e =
    absurd (no_letter 97 115 refl (ap letter e))
tail_once known (answers.Heads a) (answers.Rows b) count number x y h k p q e =
    absurd (no_letter 97 114 refl (ap letter e))

-- ---- the line

regrouped : (place : ℕ) (answer : Answer) (count : ℕ) (behind : List ℕ)
    → answer_line_text place answer count ++ behind ≡ decimal place ++ (answer_tail answer count ++ behind)
regrouped place answer count behind =
    ap (λ (t : List ℕ). t ++ behind) (answer_parts place answer count)
    ∙ append_assoc (decimal place) (answer_tail answer count) behind

pub answer_once : Known → (place : ℕ) (one other : Answer) (count number : ℕ) (x y : List ℕ) → IsAnswer one
    → IsAnswer other → HasSoMany one count → HasSoMany other number
    → answer_line_text place one count ++ x ≡ answer_line_text place other number ++ y
    → AnswerOnce one other count number
answer_once known place one other count number x y h k p q e =
    tail_once known one other count number x y h k p q
    (same_behind (decimal place) (answer_tail one count ++ x) (answer_tail other number ++ y)
    (sym (regrouped place one count x) ∙ e ∙ regrouped place other number y))
