-- The transactions of a history that can be told stand.
use Rattle.std.proofs.Common.{◌≡◌, ◌≤◌, ◌<◌, ◌+◌, ℕ, zero, suc, Bool, true, false, cond, List, [], ◌∷◌, ◌++◌, length}
use Rattle.std.proofs.Common.{refl}
use Rattle.std.proofs.Common.{sym, ap, ◌∙◌, arith, Some, None, slice_get}
use Rattle.std.specs.List.{AllByRecursion}
use Rattle.std.proofs.lemmas.List.{append-nil, append_assoc, length-append}
use Rattle.ent_value.specs.declared.value.Value.{Value}
use Rattle.ent_tree.specs.declared.script.Script.{Script}
use Rattle.ent_tree.specs.declared.script.Statement.{Statement}
use Rattle.ent_tree.specs.declared.script.Statement.TheVariants as statements
use Rattle.ent_semantics.specs.declared.answer.Answer.{Answer}
use Rattle.ent_semantics.specs.declared.answer.Answer.TheVariants as answers
use Rattle.ent_semantics.specs.declared.book.Fate.{Fate}
use Rattle.ent_book.specs.Report.{row_line, rows_text, answers_text}
use Rattle.ent_history.specs.declared.history.History.{History}
use Rattle.ent_history.specs.declared.history.Told.{Told}
use Rattle.ent_history.specs.Text.{told_text, transactions_text, tx_text}
use Rattle.ent_history.specs.Told.{has_committed}
use Rattle.ent_history.specs.Answers.{AnswerRowStands, AnswerStands, HasSoMany, IsAnswer, IsOfSort, TxStands}
use Rattle.ent_history.specs.Answers.{answer_line_text, answers_so_far, with_answer, with_answer_row, with_row}
use Rattle.ent_history.specs.Draft.{AnswerRows, Draft, Free, NothingBelowTransactions, answer_due, last_of}
use Rattle.ent_history.specs.Draft.{on_last}
use Rattle.ent_history.specs.Draft.{rows_due, unanswered}
use Rattle.ent_history.specs.Parts.{IsRow}
use Rattle.ent_history.specs.Stands as stands
use Rattle.ent_history.proofs.Lists.{last_of-push}
use Rattle.ent_lists.specs.Elements.{Pairs, index_pairs}
use Rattle.ent_report_laws.specs.Tellable.{AreAnswersTo, AreTransactionsOf, IsAnswerTold, IsTransactionTold}
use Rattle.ent_report_laws.proofs.Begun.{placed_answer, rows_head, rows_placed, told_of}
use Rattle.ent_report_laws.proofs.Lists.{changed, longer}
use Rattle.ent_report_laws.proofs.Reaching.{Leads, behind_it, by_text, first_piece, stay, to_draft}
use Rattle.ent_report_laws.proofs.Shown.{IsBelow}
use Rattle.ent_report_laws.proofs.Steps.{so_far_last}
use Rattle.ent_report_laws.proofs.ToOpening.{ascends_behind, shifted_pairs}

abbrev pub with_transactions : History → List Told → History
with_transactions told transactions = record told { transactions = transactions }

-- a report of which nothing is due
abbrev pub at_free : History → Draft
at_free told = record { told = told; due = Free }

-- the sort of rows doesn't hang on which they are
of_rows : (statement : Statement) (rows : List (List Value)) → IsOfSort statement (answers.Rows rows)
    → IsOfSort statement (answers.Rows [])
of_rows (statements.Select select) rows sort = sort
of_rows (statements.Entangled entangled) rows sort = sort
of_rows (statements.Insert insert) rows sort = sort
of_rows (statements.Delete delete) rows sort = sort
of_rows (statements.Update update) rows sort = sort
of_rows (statements.Set set) rows sort = sort

-- ---- the rows of an answer

module _ (front : List Told) (fate : Fate) (given : List Answer) where
  abbrev ending : Answer → List Told
  ending answer = front ++ told_of fate (given ++ answer ∷ []) ∷ []

  answer_rows_lead : (told : History) (done rest : List (List Value))
      → told.transactions ≡ ending (answers.Rows done) → AllByRecursion IsRow rest → Pairs IsBelow (done ++ rest)
      → Leads (record { told = told; due = rows_due AnswerRows (length rest) }) (rows_text rest)
      (at_free (with_transactions told (ending (answers.Rows (done ++ rest)))))
  answer_rows_lead told done [] e fit pairs =
      stay (at_free told) (at_free (with_transactions told (ending (answers.Rows (done ++ [])))))
      (λ i. at_free (with_transactions told
      ((e ∙ ap (λ (rows : List (List Value)). ending (answers.Rows rows)) (sym (append-nil done))) i)))
  answer_rows_lead told done (row ∷ more) e fit pairs =
      first_piece (record { told = told; due = AnswerRows (length more) }) between
      (at_free (with_transactions told (ending (answers.Rows (done ++ row ∷ more))))) (row_line row) (rows_text more)
      (stands.AnswerRow stand)
      (to_draft between (at_free (with_transactions told (ending (answers.Rows ((done ++ row ∷ []) ++ more)))))
      (at_free (with_transactions told (ending (answers.Rows (done ++ row ∷ more))))) (rows_text more)
      (λ i. at_free (with_transactions told (ending (answers.Rows (append_assoc done (row ∷ []) more i)))))
      (answer_rows_lead next (done ++ row ∷ []) more now fit.1 (shifted_pairs done row more pairs)))
    where
      next : History
      next = with_transactions told (on_last (with_answer_row row) told.transactions)

      between : Draft
      between = record { told = next; due = rows_due AnswerRows (length more) }

      now : next.transactions ≡ ending (answers.Rows (done ++ row ∷ []))
      now =
          ap (on_last (with_answer_row row)) e
          ∙ changed (with_answer_row row) front (told_of fate (given ++ answers.Rows done ∷ []))
          ∙ ap (λ (all : List Answer). front ++ told_of fate all ∷ [])
          (changed (with_row row) given (answers.Rows done))

      stand : AnswerRowStands (record { told = told; due = AnswerRows (length more) }) (row_line row) between
      stand = record {
        more = length more;
        last = told_of fate (given ++ answers.Rows done ∷ []);
        answer = answers.Rows done;
        row = row;
        due = refl;
        last_is = ap last_of e ∙ last_of-push front (told_of fate (given ++ answers.Rows done ∷ []));
        answer_is = last_of-push given (answers.Rows done);
        text_is = refl;
        is_row = fit.0;
        ascends = ascends_behind done done row more refl pairs;
        next_is = refl;
      }

  -- ---- an answer

  module _ (told : History) (statement : Statement) (e : told.transactions ≡ front ++ told_of fate given ∷ [])
      (due : answer_due told.scripts told.transactions ≡ Some statement) (below : NothingBelowTransactions told) where
    abbrev answered : Answer → History
    answered answer = with_transactions told (on_last (with_answer answer) told.transactions)

    now_answered : (answer : Answer) → on_last (with_answer answer) told.transactions ≡ ending answer
    now_answered answer = ap (on_last (with_answer answer)) e ∙ changed (with_answer answer) front (told_of fate given)

    place_is : answers_so_far told.transactions ≡ length given
    place_is = ap answers_so_far e ∙ so_far_last front (told_of fate given)

    answer_stands : (answer : Answer) (count : ℕ) → IsOfSort statement answer → IsAnswer answer → HasSoMany answer count
        → AnswerStands (at_free told) (answer_line_text (length given + 1) answer count)
        (record { told = answered answer; due = rows_due AnswerRows count })
    answer_stands answer count sort shape so_many = record {
      statement = statement;
      answer = answer;
      count = count;
      free = refl;
      nothing_below = record { joint_answers = below.joint_answers; tables = below.tables };
      due = due;
      text_is = ap (λ (n : ℕ). answer_line_text (n + 1) answer count) (sym place_is);
      sort = sort;
      shape = shape;
      so_many = so_many;
      next_is = refl;
    }

    -- an answer that no line follows
    one_line : (answer : Answer) → AnswerStands (at_free told) (placed_answer (length given + 1) answer)
        (record { told = answered answer; due = rows_due AnswerRows 0 })
        → Leads (at_free told) (placed_answer (length given + 1) answer)
        (at_free (with_transactions told (ending answer)))
    one_line answer stand =
        by_text (at_free told) (at_free (with_transactions told (ending answer)))
        (placed_answer (length given + 1) answer ++ []) (placed_answer (length given + 1) answer)
        (append-nil (placed_answer (length given + 1) answer))
        (first_piece (at_free told) (at_free (answered answer)) (at_free (with_transactions told (ending answer)))
        (placed_answer (length given + 1) answer) [] (stands.Answer stand)
        (stay (at_free (answered answer)) (at_free (with_transactions told (ending answer)))
        (λ i. at_free (with_transactions told (now_answered answer i)))))

    answer_lead : (answer : Answer) → IsOfSort statement answer → IsAnswerTold answer
        → Leads (at_free told) (placed_answer (length given + 1) answer)
        (at_free (with_transactions told (ending answer)))
    answer_lead (answers.Rows rows) sort fit =
        by_text (at_free told) (at_free (with_transactions told (ending (answers.Rows rows))))
        (rows_head (length given + 1) (length rows) ++ rows_text rows)
        (placed_answer (length given + 1) (answers.Rows rows)) (rows_placed (length given + 1) rows)
        (first_piece (at_free told)
        (record { told = answered (answers.Rows []); due = rows_due AnswerRows (length rows) })
        (at_free (with_transactions told (ending (answers.Rows rows)))) (rows_head (length given + 1) (length rows))
        (rows_text rows)
        (stands.Answer (answer_stands (answers.Rows []) (length rows) (of_rows statement rows sort) refl fit.0))
        (answer_rows_lead (answered (answers.Rows [])) [] rows (now_answered (answers.Rows [])) fit.1
        (index_pairs IsBelow rows fit.2)))
    answer_lead (answers.Count count) sort fit =
        one_line (answers.Count count) (answer_stands (answers.Count count) 0 sort fit refl)
    answer_lead (answers.Value value) sort fit =
        one_line (answers.Value value) (answer_stands (answers.Value value) 0 sort fit refl)
    answer_lead (answers.Heads facts) sort fit =
        one_line (answers.Heads facts) (answer_stands (answers.Heads facts) 0 sort fit refl)

-- ---- which statement is due

due_of_last : (before : List Script) (script : Script) (others : List Script) (front : List Told) (told : Told)
    → length before ≡ length front
    → answer_due (before ++ script ∷ others) (front ++ told ∷ []) ≡ unanswered script told
due_of_last [] script others [] told e = refl
due_of_last [] script others (first ∷ front) told e = absurd (omega (arith, e))
due_of_last (one ∷ before) script others [] told e = absurd (omega (arith, e))
due_of_last (one ∷ before) script others (first ∷ []) told e =
    due_of_last before script others [] told (omega (arith, e))
due_of_last (one ∷ before) script others (first ∷ second ∷ front) told e =
    due_of_last before script others (second ∷ front) told (omega (arith, e))

pub get_behind : {X : Type 0} (before : List X) (x : X) (more : List X) (n : ℕ) → length before ≡ n
    → slice_get (before ++ x ∷ more) n ≡ Some x
get_behind [] x more zero e = refl
get_behind [] x more (suc n) e = absurd (omega (arith, e))
get_behind (y ∷ before) x more zero e = absurd (omega (arith, e))
get_behind (y ∷ before) x more (suc n) e = get_behind before x more n (omega (arith, e))

get_past : {X : Type 0} (xs : List X) (n : ℕ) → length xs ≤ n → slice_get xs n ≡ None
get_past [] n low = refl
get_past (x ∷ xs) zero low = absurd (omega (arith, low))
get_past (x ∷ xs) (suc n) low = get_past xs n (omega (arith, low))

-- as many answers as statements
as_many : (statements : List Statement) (given : List Answer) → AreAnswersTo statements given
    → length given ≡ length statements
as_many [] [] fit = refl
as_many [] (answer ∷ given) fit = absurd fit
as_many (statement ∷ statements) [] fit = absurd fit
as_many (statement ∷ statements) (answer ∷ given) fit = ap (λ n. suc n) (as_many statements given fit.2)

none_due : (script : Script) (told : Told) → IsTransactionTold script told → unanswered script told ≡ None
none_due script told fit = by (has_committed told.fate) refl
  where
    by : (b : Bool) → has_committed told.fate ≡ b → unanswered script told ≡ None
    by true e =
        ap (λ (b : Bool). cond b (slice_get script.statements (length told.answers)) None) e
        ∙ get_past script.statements (length told.answers)
        (omega (arith, as_many script.statements told.answers (fit.committed e)))
    by false e = ap (λ (b : Bool). cond b (slice_get script.statements (length told.answers)) None) e

pub none_due_behind : (done : List Script) (told : List Told) (more : List Script) → AreTransactionsOf done told
    → answer_due (done ++ more) told ≡ None
none_due_behind [] [] [] fit = refl
none_due_behind [] [] (script ∷ more) fit = refl
none_due_behind [] (one ∷ told) more fit = absurd fit
none_due_behind (script ∷ done) [] more fit = absurd fit
none_due_behind (script ∷ done) (one ∷ []) more fit = none_due script one fit.0
none_due_behind (script ∷ done) (one ∷ next ∷ told) more fit = none_due_behind done (next ∷ told) more fit.1

-- ---- all answers of a transaction

module _ (before others : List Script) (script : Script) (front : List Told) (fate : Fate)
    (same : length before ≡ length front) (committed : has_committed fate ≡ true) where
  answers_lead : (told : History) (place : ℕ) (given : List Answer) (first rest : List Statement) (more : List Answer)
      → told.scripts ≡ before ++ script ∷ others → told.transactions ≡ front ++ told_of fate given ∷ []
      → NothingBelowTransactions told → script.statements ≡ first ++ rest → length first ≡ length given
      → place ≡ length given + 1 → AreAnswersTo rest more
      → Leads (at_free told) (answers_text place more)
      (at_free (with_transactions told (front ++ told_of fate (given ++ more) ∷ [])))
  answers_lead told place given first [] [] scripts e below parts many at fit =
      stay (at_free told) (at_free (with_transactions told (front ++ told_of fate (given ++ []) ∷ [])))
      (λ i. at_free (with_transactions told
      ((e ∙ ap (λ (all : List Answer). front ++ told_of fate all ∷ []) (sym (append-nil given))) i)))
  answers_lead told place given first [] (answer ∷ more) scripts e below parts many at fit = absurd fit
  answers_lead told place given first (statement ∷ rest) [] scripts e below parts many at fit = absurd fit
  answers_lead told place given first (statement ∷ rest) (answer ∷ more) scripts e below parts many at fit =
      behind_it (at_free told) (at_free next)
      (at_free (with_transactions told (front ++ told_of fate (given ++ answer ∷ more) ∷ [])))
      (placed_answer place answer) (answers_text (place + 1) more)
      (by_text (at_free told) (at_free next) (placed_answer (length given + 1) answer) (placed_answer place answer)
      (ap (λ (n : ℕ). placed_answer n answer) (sym at))
      (answer_lead front fate given told statement e due below answer fit.0 fit.1))
      (to_draft (at_free next)
      (at_free (with_transactions told (front ++ told_of fate ((given ++ answer ∷ []) ++ more) ∷ [])))
      (at_free (with_transactions told (front ++ told_of fate (given ++ answer ∷ more) ∷ [])))
      (answers_text (place + 1) more)
      (λ i. at_free (with_transactions told (front ++ told_of fate (append_assoc given (answer ∷ []) more i) ∷ [])))
      (answers_lead next (place + 1) (given ++ answer ∷ []) (first ++ statement ∷ []) rest more scripts refl
      (record { joint_answers = below.joint_answers; tables = below.tables })
      (parts ∙ sym (append_assoc first (statement ∷ []) rest))
      (omega (arith, many, longer first statement, longer given answer)) (omega (arith, at, longer given answer))
      fit.2))
    where
      next : History
      next = with_transactions told (front ++ told_of fate (given ++ answer ∷ []) ∷ [])

      due : answer_due told.scripts told.transactions ≡ Some statement
      due =
          (λ i. answer_due (scripts i) (e i))
          ∙ due_of_last before script others front (told_of fate given) same
          ∙ ap (λ (b : Bool). cond b (slice_get script.statements (length given)) None) committed
          ∙ ap (λ (ss : List Statement). slice_get ss (length given)) parts
          ∙ get_behind first statement rest (length given) many

-- ---- a transaction

tx_lead : (told : History) (number : ℕ) (before others : List Script) (script : Script) (own : Told)
    → told.scripts ≡ before ++ script ∷ others → AreTransactionsOf before told.transactions
    → length before ≡ length told.transactions → NothingBelowTransactions told → number ≡ length told.transactions + 1
    → IsTransactionTold script own
    → Leads (at_free told) (told_text number own) (at_free (with_transactions told (told.transactions ++ own ∷ [])))
tx_lead told number before others script own scripts done same below at fit =
    first_piece (at_free told) (at_free next) (at_free (with_transactions told (told.transactions ++ own ∷ [])))
    (tx_text number own) (answers_text 1 own.answers) (stands.Tx stand) (by (has_committed own.fate) refl)
  where
    next : History
    next = with_transactions told (told.transactions ++ told_of own.fate [] ∷ [])

    room : length told.transactions < length told.scripts
    room = omega (arith, same, ap length scripts, length-append before (script ∷ others))

    stand : TxStands (at_free told) (tx_text number own) (at_free next)
    stand = record {
      fate = own.fate;
      free = refl;
      nothing_below = record { joint_answers = below.joint_answers; tables = below.tables };
      answered =
          ap (λ (ss : List Script). answer_due ss told.transactions) scripts
          ∙ none_due_behind before told.transactions (script ∷ others) done;
      of_script = room;
      text_is = ap (λ (n : ℕ). tx_text n own) at;
      is_fate = fit.fate;
      next_is = refl;
    }

    by : (b : Bool) → has_committed own.fate ≡ b → Leads (at_free next) (answers_text 1 own.answers)
        (at_free (with_transactions told (told.transactions ++ own ∷ [])))
    by true e =
        answers_lead before others script told.transactions own.fate same e next 1 [] [] script.statements own.answers
        scripts refl (record { joint_answers = below.joint_answers; tables = below.tables }) refl refl (omega arith)
        (fit.committed e)
    by false e =
        by_text (at_free next) (at_free (with_transactions told (told.transactions ++ own ∷ []))) []
        (answers_text 1 own.answers) (ap (answers_text 1) (sym (fit.otherwise e)))
        (stay (at_free next) (at_free (with_transactions told (told.transactions ++ own ∷ [])))
        (λ i. at_free (with_transactions told
        (told.transactions ++ told_of own.fate (sym (fit.otherwise e) i) ∷ []))))

-- ---- all transactions

told_behind : (done : List Script) (told : List Told) (script : Script) (own : Told) → AreTransactionsOf done told
    → IsTransactionTold script own → AreTransactionsOf (done ++ script ∷ []) (told ++ own ∷ [])
told_behind [] [] script own fit is = (is, tt)
told_behind [] (one ∷ told) script own fit is = absurd fit
told_behind (first ∷ done) [] script own fit is = absurd fit
told_behind (first ∷ done) (one ∷ told) script own fit is = (fit.0, told_behind done told script own fit.1 is)

pub all_transactions_lead : (told : History) (number : ℕ) (done rest : List Script) (more : List Told)
    → told.scripts ≡ done ++ rest → AreTransactionsOf done told.transactions
    → length done ≡ length told.transactions → NothingBelowTransactions told → number ≡ length told.transactions + 1
    → AreTransactionsOf rest more
    → Leads (at_free told) (transactions_text number more)
    (at_free (with_transactions told (told.transactions ++ more)))
all_transactions_lead told number done [] [] scripts so same below at fit =
    stay (at_free told) (at_free (with_transactions told (told.transactions ++ [])))
    (λ i. at_free (with_transactions told (sym (append-nil told.transactions) i)))
all_transactions_lead told number done [] (own ∷ more) scripts so same below at fit = absurd fit
all_transactions_lead told number done (script ∷ rest) [] scripts so same below at fit = absurd fit
all_transactions_lead told number done (script ∷ rest) (own ∷ more) scripts so same below at fit =
    behind_it (at_free told) (at_free next) (at_free (with_transactions told (told.transactions ++ own ∷ more)))
    (told_text number own) (transactions_text (number + 1) more)
    (tx_lead told number done rest script own scripts so same below at fit.0)
    (to_draft (at_free next) (at_free (with_transactions told ((told.transactions ++ own ∷ []) ++ more)))
    (at_free (with_transactions told (told.transactions ++ own ∷ more))) (transactions_text (number + 1) more)
    (λ i. at_free (with_transactions told (append_assoc told.transactions (own ∷ []) more i)))
    (all_transactions_lead next (number + 1) (done ++ script ∷ []) rest more
    (scripts ∙ sym (append_assoc done (script ∷ []) rest))
    (told_behind done told.transactions script own so fit.0)
    (omega (arith, same, longer done script, longer told.transactions own))
    (record { joint_answers = below.joint_answers; tables = below.tables })
    (omega (arith, at, longer told.transactions own)) fit.1))
  where
    next : History
    next = with_transactions told (told.transactions ++ own ∷ [])
