-- The lines of answers.
use Rattle.std.proofs.Common.{◌≡◌, ℕ, ◌+◌, List, [], ◌∷◌, ◌++◌, Ok, refl, ap, sym, subst, ◌∙◌, append_assoc, arith, ◌<◌}
use Rattle.std.proofs.Common.{Some}
use Rattle.std.specs.Prelude.{codes}
use Rattle.std.specs.Fmt.{decimal}
use Rattle.ent_value.specs.Print.{value_text}
use Rattle.ent_value.specs.declared.refusal.Refusal.{Refusal}
use Rattle.ent_value.specs.declared.refusal.Refusal.TheVariants.{Memory, Fault}
use Rattle.ent_value.specs.declared.value.Value.{Value}
use Rattle.ent_value.specs.declared.value.Value.TheVariants.{Text}
use Rattle.ent_tree.specs.declared.script.Statement.{Statement}
use Rattle.ent_tree.specs.declared.script.Statement.TheVariants as statements
use Rattle.ent_semantics.specs.declared.answer.Answer.{Answer}
use Rattle.ent_semantics.specs.declared.answer.Answer.TheVariants as answers
use Rattle.ent_book.specs.Report.{line}
use Rattle.ent_text.specs.declared.line_fault.LineFault.{LineFault}
use Rattle.std.proofs.lemmas.Option.{same_Some}
use Rattle.ent_tree.specs.declared.limits.TheConstants.{MOST_STATEMENTS}
use Rattle.ent_semantics.specs.declared.answer.Fact.{Fact}
use Rattle.ent_book.specs.Report.{facts_text}
use Rattle.ent_history.specs.Heads.{heads_line}
use Rattle.ent_history.specs.declared.history.Told.{Told}
use Rattle.ent_history.specs.Draft.{Draft, Due, AnswerRows, answer_due, on_last, rows_due}
use Rattle.ent_history.specs.Answers.{AnswerStands, answers_so_far, with_answer}
use Rattle.ent_report_reader.specs.Due.{AnswersAreNext}
use Rattle.ent_history.specs.Counts.{placed_line, set_line}
use Rattle.ent_history.specs.Parts.{IsNumber}
use Rattle.ent_history.specs.Answers.{HasSoMany, IsAnswer, IsOfSort, answer_line_text}
use Rattle.ent_report_reader.specs.Reading.{IsAnswerLine, IsHeadsLine, IsPlacedLine, IsSetLine, Reads}
use Rattle.ent_report_reader.proofs.Steps.{refusing, same_line}

-- ---- the texts

pub count_text : (place n count : ℕ) → line (placed_line (codes " count ") place n)
    ≡ answer_line_text place (answers.Count n) count
count_text place n count = append_assoc (decimal place) (codes " count " ++ decimal n) (10 ∷ [])

pub value_text_is : (place count : ℕ) (value : Value) → line (set_line place value)
    ≡ answer_line_text place (answers.Value value) count
value_text_is place count value = append_assoc (decimal place) (codes " set " ++ value_text value) (10 ∷ [])

-- ---- what is of a sort

count_of : (statement : Statement) (answer : Answer) → IsOfSort statement (answers.Count 0) → IsOfSort statement answer
    → (n : ℕ) × (answer ≡ answers.Count n)
count_of (statements.Insert s) (answers.Count n) h k = (n, refl)
count_of (statements.Insert s) (answers.Value v) h k = absurd k
count_of (statements.Insert s) (answers.Rows r) h k = absurd k
count_of (statements.Insert s) (answers.Heads f) h k = absurd k
count_of (statements.Delete s) (answers.Count n) h k = (n, refl)
count_of (statements.Delete s) (answers.Value v) h k = absurd k
count_of (statements.Delete s) (answers.Rows r) h k = absurd k
count_of (statements.Delete s) (answers.Heads f) h k = absurd k
count_of (statements.Update s) (answers.Count n) h k = (n, refl)
count_of (statements.Update s) (answers.Value v) h k = absurd k
count_of (statements.Update s) (answers.Rows r) h k = absurd k
count_of (statements.Update s) (answers.Heads f) h k = absurd k
count_of (statements.Select s) answer h k = absurd h
count_of (statements.Entangled s) answer h k = absurd h
count_of (statements.Set s) answer h k = absurd h

of_count : (statement : Statement) (n : ℕ) → IsOfSort statement (answers.Count 0) → IsOfSort statement (answers.Count n)
of_count (statements.Insert s) n h = tt
of_count (statements.Delete s) n h = tt
of_count (statements.Update s) n h = tt
of_count (statements.Select s) n h = absurd h
of_count (statements.Entangled s) n h = absurd h
of_count (statements.Set s) n h = absurd h

value_of : (statement : Statement) (answer : Answer) (value : Value) → IsOfSort statement (answers.Value value)
    → IsOfSort statement answer → (v : Value) × (answer ≡ answers.Value v)
value_of (statements.Set s) (answers.Value v) value h k = (v, refl)
value_of (statements.Set s) (answers.Count n) value h k = absurd k
value_of (statements.Set s) (answers.Rows r) value h k = absurd k
value_of (statements.Set s) (answers.Heads f) value h k = absurd k
value_of (statements.Insert s) answer value h k = absurd h
value_of (statements.Delete s) answer value h k = absurd h
value_of (statements.Update s) answer value h k = absurd h
value_of (statements.Select s) answer value h k = absurd h
value_of (statements.Entangled s) answer value h k = absurd h

rows_of : (statement : Statement) (answer : Answer) → IsOfSort statement (answers.Rows []) → IsOfSort statement answer
    → IsAnswer answer → answer ≡ answers.Rows []
rows_of (statements.Select s) (answers.Rows r) h k shape = ap answers.Rows shape
rows_of (statements.Select s) (answers.Count n) h k shape = absurd k
rows_of (statements.Select s) (answers.Value v) h k shape = absurd k
rows_of (statements.Select s) (answers.Heads f) h k shape = absurd k
rows_of (statements.Set s) answer h k shape = absurd h
rows_of (statements.Insert s) answer h k shape = absurd h
rows_of (statements.Delete s) answer h k shape = absurd h
rows_of (statements.Update s) answer h k shape = absurd h
rows_of (statements.Entangled s) answer h k shape = absurd h

-- ---- counts

-- what the line of a count says
record Counted (text : List ℕ) (x : ℕ × Answer × ℕ) : Type 0 where
  n : ℕ
  is : IsPlacedLine (codes " count ") text (x.0, n)
  same : x ≡ (x.0, answers.Count n, 0)

counted_by : (text : List ℕ) (place count n : ℕ) (answer : Answer) → answer ≡ answers.Count n
    → line text ≡ answer_line_text place answer count → IsNumber place → IsAnswer answer → HasSoMany answer count
    → Counted text (place, answer, count)
counted_by text place count n answer e text_is number shape so_many =
    let is : line text ≡ answer_line_text place (answers.Count n) count =
    text_is ∙ ap (λ a. answer_line_text place a count) e in
    let none : count ≡ 0 = subst (λ a. HasSoMany a count) e so_many in record {
      n = n;
      is = (
        same_line text (placed_line (codes " count ") place n) (is ∙ sym (count_text place n count)),
        number,
        subst IsAnswer e shape,
      );
      same = λ i. (place, e i, none i);
    }

counted : (statement : Statement) (text : List ℕ) (x : ℕ × Answer × ℕ) → IsOfSort statement (answers.Count 0)
    → IsAnswerLine statement text x → Counted text x
counted statement text x sort is =
    let n = count_of statement x.1 sort is.sort in
    counted_by text x.0 x.2 n.0 x.1 n.1 is.text_is is.place is.shape is.so_many

pub count_read : (statement : Statement) (text : List ℕ) (place n : ℕ) → IsOfSort statement (answers.Count 0)
    → Reads (IsPlacedLine (codes " count ") text) (Ok (place, n))
    → Reads (IsAnswerLine statement text) (Ok (place, answers.Count n, 0))
count_read statement text place n sort read = (
  record {
    text_is = ap line read.0.0 ∙ count_text place n 0;
    place = read.0.1;
    sort = of_count statement n sort;
    shape = read.0.2;
    so_many = refl;
  },
  λ y is.
      let c = counted statement text y sort is in
      let e = read.1 (y.0, c.n) c.is in
      c.same ∙ ap (λ (z : ℕ × ℕ). let r : ℕ × Answer × ℕ = (z.0, answers.Count z.1, 0) in r) e,
)

pub count_refused : (statement : Statement) (text : List ℕ) (refusal : Refusal LineFault)
    → IsOfSort statement (answers.Count 0)
    → Reads (IsPlacedLine (codes " count ") text) (refusing refusal)
    → Reads (IsAnswerLine statement text) (refusing refusal)
count_refused statement text Memory sort read = tt
count_refused statement text (Fault fault) sort read =
    λ y is. let c = counted statement text y sort is in read (y.0, c.n) c.is

-- ---- values

record Bound (text : List ℕ) (x : ℕ × Answer × ℕ) : Type 0 where
  value : Value
  is : IsSetLine text (x.0, value)
  same : x ≡ (x.0, answers.Value value, 0)

bound_by : (text : List ℕ) (place count : ℕ) (value : Value) (answer : Answer) → answer ≡ answers.Value value
    → line text ≡ answer_line_text place answer count → IsNumber place → IsAnswer answer → HasSoMany answer count
    → Bound text (place, answer, count)
bound_by text place count value answer e text_is number shape so_many =
    let is : line text ≡ answer_line_text place (answers.Value value) count =
    text_is ∙ ap (λ a. answer_line_text place a count) e in
    let none : count ≡ 0 = subst (λ a. HasSoMany a count) e so_many in record {
      value = value;
      is = (
        same_line text (set_line place value) (is ∙ sym (value_text_is place count value)),
        number,
        subst IsAnswer e shape,
      );
      same = λ i. (place, e i, none i);
    }

bound : (statement : Statement) (text : List ℕ) (x : ℕ × Answer × ℕ)
    → ((value : Value) → IsOfSort statement (answers.Value value))
    → IsAnswerLine statement text x → Bound text x
bound statement text x sort is =
    let v = value_of statement x.1 (Text []) (sort (Text [])) is.sort in
    bound_by text x.0 x.2 v.0 x.1 v.1 is.text_is is.place is.shape is.so_many

pub value_read : (statement : Statement) (text : List ℕ) (place : ℕ) (value : Value)
    → ((value : Value) → IsOfSort statement (answers.Value value))
    → Reads (IsSetLine text) (Ok (place, value))
    → Reads (IsAnswerLine statement text) (Ok (place, answers.Value value, 0))
value_read statement text place value sort read = (
  record {
    text_is = ap line read.0.0 ∙ value_text_is place 0 value;
    place = read.0.1;
    sort = sort value;
    shape = read.0.2;
    so_many = refl;
  },
  λ y is.
      let c = bound statement text y sort is in
      let e = read.1 (y.0, c.value) c.is in
      c.same ∙ ap (λ (z : ℕ × Value). let r : ℕ × Answer × ℕ = (z.0, answers.Value z.1, 0) in r) e,
)

pub value_refused : (statement : Statement) (text : List ℕ) (refusal : Refusal LineFault)
    → ((value : Value) → IsOfSort statement (answers.Value value))
    → Reads (IsSetLine text) (refusing refusal)
    → Reads (IsAnswerLine statement text) (refusing refusal)
value_refused statement text Memory sort read = tt
value_refused statement text (Fault fault) sort read =
    λ y is. let c = bound statement text y sort is in read (y.0, c.value) c.is

-- ---- rows

record Listed (text : List ℕ) (x : ℕ × Answer × ℕ) : Type 0 where
  is : IsPlacedLine (codes " rows ") text (x.0, x.2)
  same : x ≡ (x.0, answers.Rows [], x.2)

listed_by : (text : List ℕ) (place count : ℕ) (answer : Answer) → answer ≡ answers.Rows []
    → line text ≡ answer_line_text place answer count → IsNumber place → HasSoMany answer count
    → Listed text (place, answer, count)
listed_by text place count answer e text_is number so_many =
    let is : line text ≡ answer_line_text place (answers.Rows []) count =
    text_is ∙ ap (λ a. answer_line_text place a count) e in record {
      is = (
        same_line text (placed_line (codes " rows ") place count) is,
        number,
        subst (λ a. HasSoMany a count) e so_many,
      );
      same = λ i. (place, e i, count);
    }

listed : (statement : Statement) (text : List ℕ) (x : ℕ × Answer × ℕ) → IsOfSort statement (answers.Rows [])
    → IsAnswerLine statement text x → Listed text x
listed statement text x sort is =
    listed_by text x.0 x.2 x.1 (rows_of statement x.1 sort is.sort is.shape) is.text_is is.place is.so_many

pub rows_read : (statement : Statement) (text : List ℕ) (place count : ℕ) → IsOfSort statement (answers.Rows [])
    → Reads (IsPlacedLine (codes " rows ") text) (Ok (place, count))
    → Reads (IsAnswerLine statement text) (Ok (place, answers.Rows [], count))
rows_read statement text place count sort read = (
  record {
    text_is = ap line read.0.0;
    place = read.0.1;
    sort = sort;
    shape = refl;
    so_many = read.0.2;
  },
  λ y is.
      let c = listed statement text y sort is in
      let e = read.1 (y.0, y.2) c.is in
      c.same ∙ ap (λ (z : ℕ × ℕ). let r : ℕ × Answer × ℕ = (z.0, answers.Rows [], z.1) in r) e,
)

pub rows_refused : (statement : Statement) (text : List ℕ) (refusal : Refusal LineFault)
    → IsOfSort statement (answers.Rows [])
    → Reads (IsPlacedLine (codes " rows ") text) (refusing refusal)
    → Reads (IsAnswerLine statement text) (refusing refusal)
rows_refused statement text Memory sort read = tt
rows_refused statement text (Fault fault) sort read =
    λ y is. let c = listed statement text y sort is in read (y.0, y.2) c.is

-- ---- heads

heads_of : (statement : Statement) (answer : Answer) → IsOfSort statement (answers.Heads []) → IsOfSort statement answer
    → (facts : List Fact) × (answer ≡ answers.Heads facts)
heads_of (statements.Entangled s) (answers.Heads f) h k = (f, refl)
heads_of (statements.Entangled s) (answers.Count n) h k = absurd k
heads_of (statements.Entangled s) (answers.Value v) h k = absurd k
heads_of (statements.Entangled s) (answers.Rows r) h k = absurd k
heads_of (statements.Set s) answer h k = absurd h
heads_of (statements.Insert s) answer h k = absurd h
heads_of (statements.Delete s) answer h k = absurd h
heads_of (statements.Update s) answer h k = absurd h
heads_of (statements.Select s) answer h k = absurd h

of_heads : (statement : Statement) (facts : List Fact) → IsOfSort statement (answers.Heads [])
    → IsOfSort statement (answers.Heads facts)
of_heads (statements.Entangled s) facts h = tt
of_heads (statements.Set s) facts h = absurd h
of_heads (statements.Insert s) facts h = absurd h
of_heads (statements.Delete s) facts h = absurd h
of_heads (statements.Update s) facts h = absurd h
of_heads (statements.Select s) facts h = absurd h

heads_text : (place count : ℕ) (facts : List Fact) → line (heads_line place facts)
    ≡ answer_line_text place (answers.Heads facts) count
heads_text place count facts = append_assoc (decimal place) (codes " answer" ++ facts_text facts) (10 ∷ [])

record Headed (text : List ℕ) (x : ℕ × Answer × ℕ) : Type 0 where
  facts : List Fact
  is : IsHeadsLine text (x.0, facts)
  same : x ≡ (x.0, answers.Heads facts, 0)

headed_by : (text : List ℕ) (place count : ℕ) (facts : List Fact) (answer : Answer) → answer ≡ answers.Heads facts
    → line text ≡ answer_line_text place answer count → IsNumber place → IsAnswer answer → HasSoMany answer count
    → Headed text (place, answer, count)
headed_by text place count facts answer e text_is number shape so_many =
    let is : line text ≡ answer_line_text place (answers.Heads facts) count =
    text_is ∙ ap (λ a. answer_line_text place a count) e in
    let none : count ≡ 0 = subst (λ a. HasSoMany a count) e so_many in
    let are = subst IsAnswer e shape in record {
      facts = facts;
      is = (same_line text (heads_line place facts) (is ∙ sym (heads_text place count facts)), number, are.0, are.1);
      same = λ i. (place, e i, none i);
    }

headed : (statement : Statement) (text : List ℕ) (x : ℕ × Answer × ℕ) → IsOfSort statement (answers.Heads [])
    → IsAnswerLine statement text x → Headed text x
headed statement text x sort is =
    let f = heads_of statement x.1 sort is.sort in
    headed_by text x.0 x.2 f.0 x.1 f.1 is.text_is is.place is.shape is.so_many

pub heads_read : (statement : Statement) (text : List ℕ) (place : ℕ) (facts : List Fact)
    → IsOfSort statement (answers.Heads [])
    → Reads (IsHeadsLine text) (Ok (place, facts))
    → Reads (IsAnswerLine statement text) (Ok (place, answers.Heads facts, 0))
heads_read statement text place facts sort read = (
  record {
    text_is = ap line read.0.0 ∙ heads_text place 0 facts;
    place = read.0.1;
    sort = of_heads statement facts sort;
    shape = (read.0.2, read.0.3);
    so_many = refl;
  },
  λ y is.
      let c = headed statement text y sort is in
      let e = read.1 (y.0, c.facts) c.is in
      c.same ∙ ap (λ (z : ℕ × List Fact). let r : ℕ × Answer × ℕ = (z.0, answers.Heads z.1, 0) in r) e,
)

pub heads_refused : (statement : Statement) (text : List ℕ) (refusal : Refusal LineFault)
    → IsOfSort statement (answers.Heads [])
    → Reads (IsHeadsLine text) (refusing refusal)
    → Reads (IsAnswerLine statement text) (refusing refusal)
heads_refused statement text Memory sort read = tt
heads_refused statement text (Fault fault) sort read =
    λ y is. let c = headed statement text y sort is in read (y.0, c.facts) c.is

-- ---- the step

abbrev pub next_place : Draft → ℕ
next_place draft = answers_so_far draft.told.transactions + 1

pub answer_is_next : (old : Draft) (text : List ℕ) (next : Draft) → AnswerStands old (line text) next
    → AnswersAreNext old
answer_is_next old text next stands = record { free = stands.free; nothing_below = stands.nothing_below }

pub answer_has : (old : Draft) (text : List ℕ) (statement : Statement)
    → answer_due old.told.scripts old.told.transactions ≡ Some statement
    → answers_so_far old.told.transactions < MOST_STATEMENTS → (next : Draft)
    → (stands : AnswerStands old (line text) next)
    → IsAnswerLine statement text (answers_so_far old.told.transactions + 1, stands.answer, stands.count)
answer_has old text statement due few next stands = record {
  text_is = stands.text_is;
  place = omega (arith, few);
  sort = subst (λ s. IsOfSort s stands.answer) (same_Some stands.statement statement (sym stands.due ∙ due))
      stands.sort;
  shape = stands.shape;
  so_many = stands.so_many;
}

pub other_place : (place other : ℕ) (x y : Answer × ℕ)
    → ◌≡◌ {A = ℕ × Answer × ℕ} (place, x.0, x.1) (other, y.0, y.1) → place ≡ other
other_place place other x y e = ap (λ (x : ℕ × Answer × ℕ). x.0) e

pub answer_stands : (old : Draft) (text : List ℕ) (statement : Statement) (place count : ℕ) (answer : Answer)
    → AnswersAreNext old → answer_due old.told.scripts old.told.transactions ≡ Some statement
    → IsAnswerLine statement text (place, answer, count) → place ≡ answers_so_far old.told.transactions + 1
    → (transactions : List Told) → transactions ≡ on_last (with_answer answer) old.told.transactions
    → (due : Due) → due ≡ rows_due AnswerRows count
    → AnswerStands old (line text) (record { told = record old.told { transactions = transactions }; due = due })
answer_stands old text statement place count answer is_next is_due is placed transactions grown due rows = record {
  statement = statement;
  answer = answer;
  count = count;
  free = is_next.free;
  nothing_below = is_next.nothing_below;
  due = is_due;
  text_is = is.text_is ∙ ap (λ n. answer_line_text n answer count) placed;
  sort = is.sort;
  shape = is.shape;
  so_many = is.so_many;
  next_is = λ i. record { told = record old.told { transactions = grown i }; due = rows i };
}
