-- The transactions that a text tells can be told.
use Rattle.std.proofs.Common.{◌≡◌, ◌≤◌, ◌<◌, ◌+◌, ℕ, zero, suc, Bool, true, false, cond, List, [], ◌∷◌, ◌++◌, length}
use Rattle.std.proofs.Common.{refl}
use Rattle.std.proofs.Common.{sym, ap, subst, ◌∙◌, arith, Some, None, slice_get}
use Rattle.std.proofs.lemmas.Option.{same_Some}
use Rattle.std.specs.List.{AllByRecursion}
use Rattle.ent_value.specs.Order.{rows_total}
use Rattle.ent_value.specs.declared.value.Value.{Value}
use Rattle.ent_tree.specs.declared.script.Script.{Script as Scripted}
use Rattle.ent_tree.specs.declared.script.Statement.{Statement}
use Rattle.ent_tree.specs.declared.script.Statement.TheVariants as statements
use Rattle.ent_semantics.specs.declared.answer.Answer.{Answer as Given}
use Rattle.ent_semantics.specs.declared.answer.Answer.TheVariants as answers
use Rattle.ent_semantics.specs.declared.book.Fate.{Fate}
use Rattle.ent_history.specs.declared.history.History.{History}
use Rattle.ent_history.specs.declared.history.Told.{Told}
use Rattle.ent_history.specs.Told.{has_committed}
use Rattle.ent_history.specs.Answers.{HasSoMany, IsAnswer, IsFate, IsOfSort, rows_of, with_answer}
use Rattle.ent_history.specs.Answers.{with_answer_row}
use Rattle.ent_history.specs.Answers.{with_row}
use Rattle.ent_history.specs.Draft.{Draft, Due, Heading as Headed, Free, OpeningRows, AnswerRows, Members}
use Rattle.ent_history.specs.Draft.{TableRows, Ended, answer_due, blank, last_of, members_due, on_last, rows_due}
use Rattle.ent_history.specs.Draft.{unanswered}
use Rattle.ent_history.specs.Parts.{Ascends, IsNumber, IsRow}
use Rattle.ent_history.specs.Stands.{Stands, Heading, Opening, OpeningRow, Script, Tx, Answer, AnswerRow, Joint}
use Rattle.ent_history.specs.Stands.{Member, Table, TableRow, End, AllStand, Tells}
use Rattle.ent_lists.specs.Elements.{Pairs, all_joined, pairs_behind, pairs_index}
use Rattle.ent_lists.proofs.Lists.{got_none}
use Rattle.ent_report_laws.specs.Tellable.{AreAnswersTo, AreTransactionsOf, IsAnswerTold, IsTransactionTold}
use Rattle.ent_report_laws.proofs.Begun.{told_of}
use Rattle.ent_report_laws.proofs.Kept.{IsSound}
use Rattle.ent_report_laws.proofs.Lists.{all_before, longer}
use Rattle.ent_report_laws.proofs.Shown.{IsBelow}

-- how many rows of an answer are due
abbrev left : Due → ℕ
left Headed = 0
left Free = 0
left (OpeningRows more) = 0
left (AnswerRows more) = suc more
left (Members tx place more) = 0
left (TableRows more) = 0
left Ended = 0

answer_rows_left : (count : ℕ) → left (rows_due AnswerRows count) ≡ count
answer_rows_left zero = refl
answer_rows_left (suc more) = refl

no_opening_rows_left : (count : ℕ) → left (rows_due OpeningRows count) ≡ 0
no_opening_rows_left zero = refl
no_opening_rows_left (suc more) = refl

no_table_rows_left : (count : ℕ) → left (rows_due TableRows count) ≡ 0
no_table_rows_left zero = refl
no_table_rows_left (suc more) = refl

no_members_left : (places : List (ℕ × ℕ)) → left (members_due places) ≡ 0
no_members_left [] = refl
no_members_left (place ∷ more) = refl

-- ---- answers so far, of the last of which so many rows are due

abbrev IsAnswerSoFar : Given → ℕ → Type 0
IsAnswerSoFar (answers.Count count) more = IsAnswerTold (answers.Count count)
IsAnswerSoFar (answers.Value value) more = IsAnswerTold (answers.Value value)
IsAnswerSoFar (answers.Rows rows) more = IsNumber (length rows + more) × AllByRecursion IsRow rows × Pairs IsBelow rows
IsAnswerSoFar (answers.Heads facts) more = IsAnswerTold (answers.Heads facts)

abbrev AnswersSoFar : List Statement → List Given → ℕ → Type 0
AnswersSoFar statements [] more = Unit {0}
AnswersSoFar [] (answer ∷ others) more = ⊥
AnswersSoFar (statement ∷ statements) (answer ∷ []) more = IsOfSort statement answer × IsAnswerSoFar answer more
AnswersSoFar (statement ∷ statements) (answer ∷ next ∷ others) more =
    IsOfSort statement answer × IsAnswerTold answer × AnswersSoFar statements (next ∷ others) more

no_answers : (statements : List Statement) (more : ℕ) → AnswersSoFar statements [] more
no_answers [] more = tt
no_answers (statement ∷ statements) more = tt

whole_answer : (answer : Given) → IsAnswerSoFar answer 0 → IsAnswerTold answer
whole_answer (answers.Count count) fit = fit
whole_answer (answers.Value value) fit = fit
whole_answer (answers.Rows rows) fit = (omega (arith, fit.0), fit.1, pairs_index IsBelow rows fit.2)
whole_answer (answers.Heads facts) fit = fit

whole_answers : (statements : List Statement) (given : List Given) → AnswersSoFar statements given 0
    → length statements ≤ length given → AreAnswersTo statements given
whole_answers [] [] fit enough = tt
whole_answers [] (answer ∷ given) fit enough = absurd fit
whole_answers (statement ∷ statements) [] fit enough = absurd (omega (arith, enough))
whole_answers (statement ∷ statements) (answer ∷ []) fit enough =
    (fit.0, whole_answer answer fit.1, whole_answers statements [] (no_answers statements 0) (omega (arith, enough)))
whole_answers (statement ∷ statements) (answer ∷ next ∷ given) fit enough =
    (fit.0, fit.1, whole_answers statements (next ∷ given) fit.2 (omega (arith, enough)))

new_answer : (answer : Given) (count : ℕ) → IsAnswer answer → HasSoMany answer count → IsAnswerSoFar answer count
new_answer (answers.Count number) count shape so_many = shape
new_answer (answers.Value value) count shape so_many = shape
new_answer (answers.Rows rows) count shape so_many =
    subst
    (λ (rows : List (List Value)). IsNumber (length rows + count) × AllByRecursion IsRow rows × Pairs IsBelow rows)
    (sym shape) (omega (arith, so_many), tt, tt)
new_answer (answers.Heads facts) count shape so_many = shape

answer_more : (statements : List Statement) (given : List Given) (answer : Given) (statement : Statement) (count : ℕ)
    → AnswersSoFar statements given 0 → slice_get statements (length given) ≡ Some statement
    → IsOfSort statement answer → IsAnswerSoFar answer count → AnswersSoFar statements (given ++ answer ∷ []) count
answer_more [] given answer statement count fit e sort is = cc (e)
answer_more (first ∷ statements) [] answer statement count fit e sort is =
    (subst (λ (s : Statement). IsOfSort s answer) (sym (same_Some first statement e)) sort, is)
answer_more (first ∷ statements) (one ∷ []) answer statement count fit e sort is = (
  fit.0,
  whole_answer one fit.1,
  answer_more statements [] answer statement count (no_answers statements 0) e sort is,
)
answer_more (first ∷ statements) (one ∷ next ∷ given) answer statement count fit e sort is =
    (fit.0, fit.1, answer_more statements (next ∷ given) answer statement count fit.2 e sort is)

sort_kept : (statement : Statement) (rows others : List (List Value)) → IsOfSort statement (answers.Rows rows)
    → IsOfSort statement (answers.Rows others)
sort_kept (statements.Select select) rows others sort = sort
sort_kept (statements.Entangled entangled) rows others sort = sort
sort_kept (statements.Insert insert) rows others sort = sort
sort_kept (statements.Delete delete) rows others sort = sort
sort_kept (statements.Update update) rows others sort = sort
sort_kept (statements.Set set) rows others sort = sort

row_behind : (statement : Statement) (answer : Given) (row : List Value) (more : ℕ) → IsOfSort statement answer
    → IsAnswerSoFar answer (suc more) → IsRow row → Ascends (rows_of answer) row
    → IsOfSort statement (with_row row answer) × IsAnswerSoFar (with_row row answer) more
row_behind statement (answers.Count count) row more sort fit is ascends = (sort, fit)
row_behind statement (answers.Value value) row more sort fit is ascends = (sort, fit)
row_behind statement (answers.Heads facts) row more sort fit is ascends = (sort, fit)
row_behind statement (answers.Rows rows) row more sort fit is ascends = (
  sort_kept statement rows (rows ++ row ∷ []) sort,
  (
    omega (arith, fit.0, longer rows row),
    all_joined IsRow rows (row ∷ []) fit.1 (is, tt),
    pairs_behind IsBelow rows row fit.2
        (all_before IsBelow (λ a b c. rows_total.trans a b c) rows row fit.2 ascends),
  ),
)

same_answer : (a b : Given) → Some a ≡ Some b → a ≡ b
same_answer a b e = cc

row_more : (statements : List Statement) (given : List Given) (answer : Given) (row : List Value) (more : ℕ)
    → AnswersSoFar statements given (suc more) → last_of given ≡ Some answer → IsRow row → Ascends (rows_of answer) row
    → AnswersSoFar statements (on_last (with_row row) given) more
row_more statements [] answer row more fit e is ascends = cc
row_more [] (one ∷ given) answer row more fit e is ascends = absurd fit
row_more (statement ∷ statements) (one ∷ []) answer row more fit e is ascends =
    row_behind statement one row more fit.0 fit.1 is
    (subst (λ (a : Given). Ascends (rows_of a) row) (sym (same_answer one answer e)) ascends)
row_more (statement ∷ statements) (one ∷ next ∷ []) answer row more fit e is ascends =
    (fit.0, fit.1, row_more statements (next ∷ []) answer row more fit.2 e is ascends)
row_more (statement ∷ statements) (one ∷ next ∷ other ∷ given) answer row more fit e is ascends =
    (fit.0, fit.1, row_more statements (next ∷ other ∷ given) answer row more fit.2 e is ascends)

-- ---- transactions so far

record IsPartly (script : Scripted) (told : Told) (more : ℕ) : Type 0 where
  fate : IsFate told.fate
  committed : has_committed told.fate ≡ true → AnswersSoFar script.statements told.answers more
  otherwise : has_committed told.fate ≡ false → told.answers ≡ []

abbrev AreToldSoFar : List Scripted → List Told → ℕ → Type 0
AreToldSoFar scripts [] more = Unit {0}
AreToldSoFar [] (told ∷ others) more = ⊥
AreToldSoFar (script ∷ scripts) (told ∷ []) more = IsPartly script told more
AreToldSoFar (script ∷ scripts) (told ∷ next ∷ others) more =
    IsTransactionTold script told × AreToldSoFar scripts (next ∷ others) more

none_told : (scripts : List Scripted) (more : ℕ) → AreToldSoFar scripts [] more
none_told [] more = tt
none_told (script ∷ scripts) more = tt

whole_told : (script : Scripted) (told : Told) → IsPartly script told 0 → unanswered script told ≡ None
    → IsTransactionTold script told
whole_told script told fit due = record {
  fate = fit.fate;
  committed = λ e. whole_answers script.statements told.answers (fit.committed e)
      (got_none script.statements (length told.answers)
      (ap (λ (b : Bool). cond b (slice_get script.statements (length told.answers)) None) (sym e) ∙ due));
  otherwise = fit.otherwise;
}

tx_more : (scripts : List Scripted) (told : List Told) (fate : Fate) → AreToldSoFar scripts told 0
    → answer_due scripts told ≡ None → length told < length scripts → IsFate fate
    → AreToldSoFar scripts (told ++ told_of fate [] ∷ []) 0
tx_more [] told fate so due few is = absurd (omega (arith, few))
tx_more (script ∷ scripts) [] fate so due few is =
    record { fate = is; committed = λ e. no_answers script.statements 0; otherwise = λ e. refl }
tx_more (script ∷ []) (told ∷ []) fate so due few is = absurd (omega (arith, few))
tx_more (script ∷ other ∷ scripts) (told ∷ []) fate so due few is = (
  whole_told script told so due,
  record { fate = is; committed = λ e. no_answers other.statements 0; otherwise = λ e. refl },
)
tx_more (script ∷ scripts) (told ∷ next ∷ others) fate so due few is =
    (so.0, tx_more scripts (next ∷ others) fate so.1 due (omega (arith, few)) is)

answer_partly : (script : Scripted) (told : Told) (answer : Given) (statement : Statement) (count : ℕ)
    → IsPartly script told 0 → unanswered script told ≡ Some statement → IsOfSort statement answer
    → IsAnswerSoFar answer count → IsPartly script (with_answer answer told) count
answer_partly script told answer statement count fit due sort is = by (has_committed told.fate) refl
  where
    by : (b : Bool) → has_committed told.fate ≡ b → IsPartly script (with_answer answer told) count
    by true e = record {
      fate = fit.fate;
      committed = λ c. answer_more script.statements told.answers answer statement count (fit.committed e)
          (ap (λ (b : Bool). cond b (slice_get script.statements (length told.answers)) None) (sym e) ∙ due) sort is;
      otherwise = λ c. cc;
    }
    by false e = impossible
        (ap (λ (b : Bool). cond b (slice_get script.statements (length told.answers)) None) (sym e) ∙ due)
      where
        impossible : None ≡ Some statement → IsPartly script (with_answer answer told) count
        impossible e = cc (e)

answer_told : (scripts : List Scripted) (told : List Told) (answer : Given) (statement : Statement) (count : ℕ)
    → AreToldSoFar scripts told 0 → answer_due scripts told ≡ Some statement → IsOfSort statement answer
    → IsAnswerSoFar answer count → AreToldSoFar scripts (on_last (with_answer answer) told) count
answer_told [] told answer statement count so due sort is = cc
answer_told (script ∷ scripts) [] answer statement count so due sort is = cc
answer_told (script ∷ scripts) (told ∷ []) answer statement count so due sort is =
    answer_partly script told answer statement count so due sort is
answer_told (script ∷ scripts) (told ∷ next ∷ []) answer statement count so due sort is =
    (so.0, answer_told scripts (next ∷ []) answer statement count so.1 due sort is)
answer_told (script ∷ scripts) (told ∷ next ∷ other ∷ others) answer statement count so due sort is =
    (so.0, answer_told scripts (next ∷ other ∷ others) answer statement count so.1 due sort is)

row_partly : (script : Scripted) (told : Told) (answer : Given) (row : List Value) (more : ℕ)
    → IsPartly script told (suc more) → last_of told.answers ≡ Some answer → IsRow row → Ascends (rows_of answer) row
    → IsPartly script (with_answer_row row told) more
row_partly script told answer row more fit e is ascends = record {
  fate = fit.fate;
  committed = λ c. row_more script.statements told.answers answer row more (fit.committed c) e is ascends;
  otherwise = λ c. ap (on_last (with_row row)) (fit.otherwise c);
}

row_told : (scripts : List Scripted) (told : List Told) (last : Told) (answer : Given) (row : List Value) (more : ℕ)
    → AreToldSoFar scripts told (suc more) → last_of told ≡ Some last → last_of last.answers ≡ Some answer → IsRow row
    → Ascends (rows_of answer) row → AreToldSoFar scripts (on_last (with_answer_row row) told) more
row_told scripts [] last answer row more so e found is ascends = cc
row_told [] (told ∷ others) last answer row more so e found is ascends = absurd so
row_told (script ∷ scripts) (told ∷ []) last answer row more so e found is ascends =
    row_partly script told answer row more so
    (subst (λ (t : Told). last_of t.answers ≡ Some answer) (sym (same_Some told last e)) found) is ascends
row_told (script ∷ scripts) (told ∷ next ∷ []) last answer row more so e found is ascends =
    (so.0, row_told scripts (next ∷ []) last answer row more so.1 e found is ascends)
row_told (script ∷ scripts) (told ∷ next ∷ other ∷ others) last answer row more so e found is ascends =
    (so.0, row_told scripts (next ∷ other ∷ others) last answer row more so.1 e found is ascends)

-- ---- all lines

abbrev ToldSoFar : Draft → Type 0
ToldSoFar draft = AreToldSoFar draft.told.scripts draft.told.transactions (left draft.due)

module _ (draft : Draft) (piece : List ℕ) (next : Draft) (so : ToldSoFar draft) where
  told_at : (more : ℕ) → left draft.due ≡ more → AreToldSoFar draft.told.scripts draft.told.transactions more
  told_at more e = subst (AreToldSoFar draft.told.scripts draft.told.transactions) e so

  still : (other : ℕ) → left draft.due ≡ 0 → other ≡ 0 → AreToldSoFar draft.told.scripts draft.told.transactions other
  still other e none = told_at other (e ∙ sym none)

  told_kept : Stands draft piece next → ToldSoFar next
  told_kept (Heading s) = subst ToldSoFar (sym s.next_is) (still 0 (ap left s.due) refl)
  told_kept (Opening s) = subst ToldSoFar (sym s.next_is) (still _ (ap left s.free) (no_opening_rows_left s.count))
  told_kept (OpeningRow s) = subst ToldSoFar (sym s.next_is) (still _ (ap left s.due) (no_opening_rows_left s.more))
  told_kept (Script s) =
      subst ToldSoFar (sym s.next_is)
      (subst (λ (told : List Told). AreToldSoFar (draft.told.scripts ++ s.script ∷ []) told 0)
      (sym s.is_next.nothing_below.transactions) (none_told (draft.told.scripts ++ s.script ∷ []) 0))
  told_kept (Tx s) =
      subst ToldSoFar (sym s.next_is)
      (tx_more draft.told.scripts draft.told.transactions s.fate (told_at 0 (ap left s.free)) s.answered s.of_script
      s.is_fate)
  told_kept (Answer s) =
      subst ToldSoFar (sym s.next_is)
      (subst (AreToldSoFar draft.told.scripts (on_last (with_answer s.answer) draft.told.transactions))
      (sym (answer_rows_left s.count))
      (answer_told draft.told.scripts draft.told.transactions s.answer s.statement s.count
      (told_at 0 (ap left s.free)) s.due s.sort (new_answer s.answer s.count s.shape s.so_many)))
  told_kept (AnswerRow s) =
      subst ToldSoFar (sym s.next_is)
      (subst (AreToldSoFar draft.told.scripts (on_last (with_answer_row s.row) draft.told.transactions))
      (sym (answer_rows_left s.more))
      (row_told draft.told.scripts draft.told.transactions s.last s.answer s.row s.more
      (told_at (suc s.more) (ap left s.due)) s.last_is s.answer_is s.is_row s.ascends))
  told_kept (Joint s) = subst ToldSoFar (sym s.next_is) (still _ (ap left s.free) (no_members_left s.places))
  told_kept (Member s) = subst ToldSoFar (sym s.next_is) (still _ (ap left s.due) (no_members_left s.more))
  told_kept (Table s) = subst ToldSoFar (sym s.next_is) (still _ (ap left s.free) (no_table_rows_left s.count))
  told_kept (TableRow s) = subst ToldSoFar (sym s.next_is) (still _ (ap left s.due) (no_table_rows_left s.more))
  told_kept (End s) = subst ToldSoFar (sym s.next_is) (still 0 (ap left s.free) refl)

all_told : (pieces : List (List ℕ)) (draft next : Draft) → ToldSoFar draft → AllStand draft pieces next
    → ToldSoFar next
all_told [] draft next so e = subst ToldSoFar e so
all_told (piece ∷ pieces) draft next so stand =
    all_told pieces stand.0 next (told_kept draft piece stand.0 so stand.1) stand.2

none_due : (scripts : List Scripted) → answer_due scripts [] ≡ None
none_due [] = refl
none_due (script ∷ scripts) = refl

finish : (scripts : List Scripted) (told : List Told) → AreToldSoFar scripts told 0 → answer_due scripts told ≡ None
    → length told ≡ length scripts → AreTransactionsOf scripts told
finish [] [] so due same = tt
finish [] (told ∷ others) so due same = absurd so
finish (script ∷ scripts) [] so due same = absurd (omega (arith, same))
finish (script ∷ scripts) (told ∷ []) so due same =
    (whole_told script told so due, finish scripts [] (none_told scripts 0) (none_due scripts) (omega (arith, same)))
finish (script ∷ scripts) (told ∷ next ∷ others) so due same =
    (so.0, finish scripts (next ∷ others) so.1 due (omega (arith, same)))

pub transactions_are_told : (text : List ℕ) (history : History) → IsSound (record { told = history; due = Ended })
    → Tells text history → AreTransactionsOf history.scripts history.transactions
transactions_are_told text history so tells =
    let all = so.ended refl in
    finish history.scripts history.transactions
    (all_told tells.0 blank (record { told = history; due = Ended }) tt tells.2) all.transactions.answered
    all.transactions.each
