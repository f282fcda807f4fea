-- One piece that stands in front of a text is the only one, and the report then tells the same.
use Rattle.std.proofs.Common.{◌≡◌, ◌+◌, ◌≤◌, ℕ, List, [], ◌∷◌, ◌++◌, length, ap, sym, ◌∙◌, subst, arith, append_assoc}
use Rattle.std.specs.Prelude.{codes}
use Rattle.std.specs.Fmt.{decimal}
use Rattle.std.specs.List.{AllByRecursion}
use Rattle.std.proofs.lemmas.Option.{same_Some}
use Rattle.ent_value.specs.Print.{row_text}
use Rattle.ent_value.specs.declared.limits.TheConstants.{MOST_ROWS}
use Rattle.ent_value.specs.declared.value.Value.{Value}
use Rattle.ent_tree.specs.declared.declaration.Create.{Create}
use Rattle.ent_tree.specs.declared.script.Script.{Script}
use Rattle.ent_semantics.specs.Database.{Name}
use Rattle.ent_semantics.specs.declared.answer.Answer.{Answer}
use Rattle.ent_semantics.specs.declared.book.Fate.{Fate}
use Rattle.ent_book.specs.Report.{row_line}
use Rattle.ent_book.specs.Report2.{bindings_text, numbered_script_text}
use Rattle.ent_history.specs.Text.{told_member_text}
use Rattle.ent_history.specs.Fates.{transaction_text}
use Rattle.ent_history.specs.JointLines.{joint_text}
use Rattle.ent_history.specs.Openings.{opening_text}
use Rattle.ent_history.specs.Parts.{IsNumber, IsRow, IsValue}
use Rattle.ent_history.specs.Draft.{AnswerRows, Draft, Due, Free, Members, OpeningRows, TableRows, members_due}
use Rattle.ent_history.specs.Draft.{on_last, rows_due}
use Rattle.ent_history.specs.Opening.{HeadingStands, OpeningRowStands, OpeningStands}
use Rattle.ent_history.specs.Opening.{with_opening_row, with_opening_table}
use Rattle.ent_history.specs.Scripts.{ScriptStands}
use Rattle.ent_history.specs.Answers.{AnswerRowStands, AnswerStands, TxStands, answer_line_text, answers_so_far}
use Rattle.ent_history.specs.Answers.{with_answer}
use Rattle.ent_history.specs.Answers.{with_answer_row}
use Rattle.ent_history.specs.Joints.{BindsRight, JointStands, MemberStands, member_binds, member_told, with_member}
use Rattle.ent_history.specs.Tables.{EndStands, TableRowStands, TableStands, table_line_text, with_table_row}
use Rattle.ent_history.specs.Stands.{Stands}
use Rattle.ent_history.proofs.BreaksOff.{same_behind}
use Rattle.ent_report_reader.proofs.OneLine.{joint_in_line, opening_in_line, tx_in_line}
use Rattle.ent_program_laws.proofs.AnswerTexts.{answer_once}
use Rattle.ent_program_laws.proofs.Bindings.{binds_once}
use Rattle.ent_program_laws.proofs.Fronts.{behind_both, line_is, line_once, number_once, row_once, said, unlined}
use Rattle.ent_program_laws.proofs.Known.{Known}
use Rattle.ent_program_laws.proofs.Lines.{fate_once, opening_once, places_once}
use Rattle.ent_program_laws.proofs.Scripts.{script_once}
use Rattle.ent_program_laws.proofs.Sorts.{ATableRow, ATable, AJoint, AMember, AScript, ATx, AnAnswer, AnAnswerRow}
use Rattle.ent_program_laws.proofs.Sorts.{AnOpening, AnOpeningRow, Sort, StandsAs, TheEnd, TheHeading, sort_at}
use Rattle.ent_program_laws.proofs.Sorts.{sorted}

-- the piece is the same, and so is what the report then tells
pub record Same (one other : List ℕ) (next after : Draft) : Type 0 where
  pub piece : one ≡ other
  pub draft : next ≡ after

-- what is due of rows behind the next one
abbrev rows_left : Due → ℕ
rows_left (OpeningRows more) = more
rows_left (AnswerRows more) = more
rows_left (TableRows more) = more
rows_left other = 0

same_left : (draft : Draft) (one other : Due) → draft.due ≡ one → draft.due ≡ other → rows_left one ≡ rows_left other
same_left draft one other h k = ap rows_left (sym h ∙ k)

row_said : (one other : List Value) (text own x y : List ℕ) → text ≡ row_line one → own ≡ row_line other
    → IsRow one → IsRow other → text ++ x ≡ own ++ y → one ≡ other
row_said one other text own x y h k is are e =
    row_once one other (10 ∷ x) (10 ∷ y) is are
    (unlined (row_text one) (row_text other) x y (said text own x y (row_line one) (row_line other) h k e))

-- ---- the opening

heading_same : (draft : Draft) (one other : List ℕ) (next after : Draft) → HeadingStands draft one next
    → HeadingStands draft other after → Same one other next after
heading_same draft one other next after s o =
    record { piece = s.text_is ∙ sym o.text_is; draft = s.next_is ∙ sym o.next_is }

abbrev opened : Draft → Create × ℕ → Draft
opened draft x = with_opening_table draft x.0 x.1

opening_same : Known → (draft : Draft) (one other x y : List ℕ) (next after : Draft) → OpeningStands draft one next
    → OpeningStands draft other after → one ++ x ≡ other ++ y → Same one other next after
opening_same known draft one other x y next after s o e =
    let mine = opening_text s.create s.count in
    let theirs = opening_text o.create o.count in
    let lines = line_once one other x y mine theirs s.text_is o.text_is
    (opening_in_line s.create s.count s.declaration) (opening_in_line o.create o.count o.declaration) e in
    let same = opening_once known s.create o.create s.count o.count s.declaration o.declaration
    (omega (arith, s.few_rows)) (omega (arith, o.few_rows)) lines in
    record {
      piece = line_is one other mine theirs s.text_is o.text_is lines;
      draft = s.next_is ∙ ap (opened draft) same ∙ sym o.next_is;
    }

opening_row_same : (draft : Draft) (one other x y : List ℕ) (next after : Draft) → OpeningRowStands draft one next
    → OpeningRowStands draft other after → one ++ x ≡ other ++ y → Same one other next after
opening_row_same draft one other x y next after s o e =
    let row = row_said s.row o.row one other x y s.text_is o.text_is s.is_row o.is_row e in
    let more = same_left draft (OpeningRows s.more) (OpeningRows o.more) s.due o.due in
    let create = same_Some s.create o.create (sym s.last ∙ o.last) in
    record {
      piece = line_is one other (row_text s.row) (row_text o.row) s.text_is o.text_is (ap row_text row);
      draft = s.next_is ∙ (λ i. with_opening_row draft (create i) (row i) (more i)) ∙ sym o.next_is;
    }

-- ---- scripts

abbrev with_script : Draft → Script → Draft
with_script draft script =
    record { told = record draft.told { scripts = draft.told.scripts ++ script ∷ [] }; due = Free }

script_same : Known → (draft : Draft) (one other x y : List ℕ) (next after : Draft) → ScriptStands draft one next
    → ScriptStands draft other after → one ++ x ≡ other ++ y → Same one other next after
script_same known draft one other x y next after s o e =
    let number = length draft.told.scripts + 1 in
    let same = script_once known.scripts draft.told number s.script o.script x y s.is_script o.is_script
    (said one other x y (numbered_script_text number s.script) (numbered_script_text number o.script)
    s.text_is o.text_is e) in
    record {
      piece = s.text_is ∙ ap (numbered_script_text number) same ∙ sym o.text_is;
      draft = s.next_is ∙ ap (with_script draft) same ∙ sym o.next_is;
    }

-- ---- transactions

abbrev with_tx : Draft → Fate → Draft
with_tx draft fate = record {
  told = record draft.told {
    transactions = draft.told.transactions ++ record { fate = fate; answers = [] } ∷ [];
  };
  due = Free;
}

tx_same : Known → (draft : Draft) (one other x y : List ℕ) (next after : Draft) → TxStands draft one next
    → TxStands draft other after → one ++ x ≡ other ++ y → Same one other next after
tx_same known draft one other x y next after s o e =
    let number = length draft.told.transactions + 1 in
    let mine = transaction_text number s.fate in
    let theirs = transaction_text number o.fate in
    let lines = line_once one other x y mine theirs s.text_is o.text_is (tx_in_line number s.fate)
    (tx_in_line number o.fate) e in
    let fate = fate_once known number s.fate o.fate s.is_fate o.is_fate lines in
    record {
      piece = line_is one other mine theirs s.text_is o.text_is lines;
      draft = s.next_is ∙ ap (with_tx draft) fate ∙ sym o.next_is;
    }

abbrev with_told_answer : Draft → Answer → ℕ → Draft
with_told_answer draft answer count = record {
  told = record draft.told { transactions = on_last (with_answer answer) draft.told.transactions };
  due = rows_due AnswerRows count;
}

answer_same : Known → (draft : Draft) (one other x y : List ℕ) (next after : Draft) → AnswerStands draft one next
    → AnswerStands draft other after → one ++ x ≡ other ++ y → Same one other next after
answer_same known draft one other x y next after s o e =
    let place = answers_so_far draft.told.transactions + 1 in
    let mine = answer_line_text place s.answer s.count in
    let theirs = answer_line_text place o.answer o.count in
    let same = answer_once known place s.answer o.answer s.count o.count x y s.shape o.shape s.so_many o.so_many
    (said one other x y mine theirs s.text_is o.text_is e) in
    record {
      piece = s.text_is ∙ (λ i. answer_line_text place (same.answer i) (same.counted i)) ∙ sym o.text_is;
      draft = s.next_is ∙ (λ i. with_told_answer draft (same.answer i) (same.counted i)) ∙ sym o.next_is;
    }

abbrev with_told_row : Draft → ℕ → List Value → Draft
with_told_row draft more row = record {
  told = record draft.told { transactions = on_last (with_answer_row row) draft.told.transactions };
  due = rows_due AnswerRows more;
}

answer_row_same : (draft : Draft) (one other x y : List ℕ) (next after : Draft) → AnswerRowStands draft one next
    → AnswerRowStands draft other after → one ++ x ≡ other ++ y → Same one other next after
answer_row_same draft one other x y next after s o e =
    let row = row_said s.row o.row one other x y s.text_is o.text_is s.is_row o.is_row e in
    let more = same_left draft (AnswerRows s.more) (AnswerRows o.more) s.due o.due in
    record {
      piece = line_is one other (row_text s.row) (row_text o.row) s.text_is o.text_is (ap row_text row);
      draft = s.next_is ∙ (λ i. with_told_row draft (more i) (row i)) ∙ sym o.next_is;
    }

-- ---- joint answers

abbrev with_joint : Draft → List (ℕ × ℕ) → Draft
with_joint draft places = record {
  told = record draft.told { joint_answers = draft.told.joint_answers ++ record { members = [] } ∷ [] };
  due = members_due places;
}

joint_same : Known → (draft : Draft) (one other x y : List ℕ) (next after : Draft) → JointStands draft one next
    → JointStands draft other after → one ++ x ≡ other ++ y → Same one other next after
joint_same known draft one other x y next after s o e =
    let number = length draft.told.joint_answers + 1 in
    let mine = joint_text number s.places in
    let theirs = joint_text number o.places in
    let lines = line_once one other x y mine theirs s.text_is o.text_is (joint_in_line number s.places)
    (joint_in_line number o.places) e in
    let places = places_once known number s.places o.places s.some o.some s.rise o.rise lines in
    record {
      piece = line_is one other mine theirs s.text_is o.text_is lines;
      draft = s.next_is ∙ ap (with_joint draft) places ∙ sym o.next_is;
    }

abbrev with_told_member : Draft → ℕ → ℕ → List (ℕ × ℕ) → List Name → List Value → Draft
with_told_member draft tx place more variables values = record {
  told = record draft.told {
    joint_answers = on_last (with_member (member_told tx place variables values)) draft.told.joint_answers;
  };
  due = members_due more;
}

-- the member at this place stands
record MemberAt (draft : Draft) (text : List ℕ) (next : Draft) (at : ℕ × ℕ × List (ℕ × ℕ)) : Type 0 where
  variables : List Name
  values : List Value
  text_is : text ≡ told_member_text (member_told at.0 at.1 variables values)
  paired : length variables ≡ length values
  are_values : AllByRecursion IsValue values
  binds : BindsRight (member_binds draft.told at.0 at.1) variables values
  next_is : next ≡ with_told_member draft at.0 at.1 at.2 variables values

member_at : (draft : Draft) (text : List ℕ) (next : Draft) → (s : MemberStands draft text next)
    → MemberAt draft text next (s.tx, s.place, s.more)
member_at draft text next s = record {
  variables = s.variables;
  values = s.values;
  text_is = s.text_is;
  paired = s.paired;
  are_values = s.are_values;
  binds = s.binds;
  next_is = s.next_is;
}

abbrev member_due : Due → ℕ × ℕ × List (ℕ × ℕ)
member_due (Members tx place more) = (tx, place, more)
member_due other = (0, 0, [])

member_regrouped : (tx place : ℕ) (variables : List Name) (values : List Value) (behind : List ℕ)
    → told_member_text (member_told tx place variables values) ++ behind
    ≡ (decimal tx ++ (codes "." ++ decimal place)) ++ (bindings_text variables values ++ (10 ∷ behind))
member_regrouped tx place variables values behind =
    let front = decimal tx ++ (codes "." ++ decimal place) in
    let bindings = bindings_text variables values in
    append_assoc (front ++ bindings) (10 ∷ []) behind ∙ append_assoc front bindings (10 ∷ behind)

member_at_same : (draft : Draft) (one other x y : List ℕ) (next after : Draft) (at : ℕ × ℕ × List (ℕ × ℕ))
    → MemberAt draft one next at → MemberAt draft other after at → one ++ x ≡ other ++ y → Same one other next after
member_at_same draft one other x y next after at s o e =
    let mine = told_member_text (member_told at.0 at.1 s.variables s.values) in
    let theirs = told_member_text (member_told at.0 at.1 o.variables o.values) in
    let bindings = same_behind (decimal at.0 ++ (codes "." ++ decimal at.1))
    (bindings_text s.variables s.values ++ (10 ∷ x)) (bindings_text o.variables o.values ++ (10 ∷ y))
    (sym (member_regrouped at.0 at.1 s.variables s.values x) ∙ said one other x y mine theirs s.text_is o.text_is e
    ∙ member_regrouped at.0 at.1 o.variables o.values y) in
    let same = binds_once (member_binds draft.told at.0 at.1) s.variables o.variables s.values o.values x y
    s.binds o.binds s.paired o.paired s.are_values o.are_values bindings in
    record {
      piece = s.text_is
          ∙ (λ i. told_member_text (member_told at.0 at.1 (same.variables i) (same.values_are i)))
          ∙ sym o.text_is;
      draft = s.next_is
          ∙ (λ i. with_told_member draft at.0 at.1 at.2 (same.variables i) (same.values_are i))
          ∙ sym o.next_is;
    }

member_same : (draft : Draft) (one other x y : List ℕ) (next after : Draft) → MemberStands draft one next
    → MemberStands draft other after → one ++ x ≡ other ++ y → Same one other next after
member_same draft one other x y next after s o e =
    let at = ap member_due (sym o.due ∙ s.due) in
    member_at_same draft one other x y next after (s.tx, s.place, s.more) (member_at draft one next s)
    (subst (MemberAt draft other after) at (member_at draft other after o)) e

-- ---- tables

abbrev with_table : Draft → Create → ℕ → Draft
with_table draft create count = record {
  told = record draft.told {
    tables = draft.told.tables ++ record { name = create.name.name; rows = [] } ∷ [];
  };
  due = rows_due TableRows count;
}

table_regrouped : (name : Name) (count : ℕ) (behind : List ℕ) → table_line_text name count ++ behind
    ≡ codes "table " ++ (name ++ (codes " " ++ (decimal count ++ (10 ∷ behind))))
table_regrouped name count behind =
    let counted = codes " " ++ decimal count in
    ap (λ (r : List ℕ). codes "table " ++ r)
    (append_assoc (name ++ counted) (10 ∷ []) behind ∙ append_assoc name counted (10 ∷ behind))

few_rows : (count : ℕ) → count ≤ MOST_ROWS → IsNumber count
few_rows count few = omega (arith, few)

table_same : (draft : Draft) (one other x y : List ℕ) (next after : Draft) → TableStands draft one next
    → TableStands draft other after → one ++ x ≡ other ++ y → Same one other next after
table_same draft one other x y next after s o e =
    let create = same_Some s.create o.create (sym s.of_opening ∙ o.of_opening) in
    let name = s.create.name.name in
    let own = o.text_is ∙ ap (λ (c : Create). table_line_text c.name.name o.count) (sym create) in
    let behind = behind_both (codes "table ") name (codes " " ++ (decimal s.count ++ (10 ∷ x)))
    (codes " " ++ (decimal o.count ++ (10 ∷ y)))
    (sym (table_regrouped name s.count x)
    ∙ said one other x y (table_line_text name s.count) (table_line_text name o.count) s.text_is own e
    ∙ table_regrouped name o.count y) in
    let count = number_once s.count o.count x y (few_rows s.count s.few) (few_rows o.count o.few)
    (same_behind (codes " ") (decimal s.count ++ (10 ∷ x)) (decimal o.count ++ (10 ∷ y)) behind) in
    record {
      piece = s.text_is ∙ ap (table_line_text name) count ∙ sym own;
      draft = s.next_is ∙ (λ i. with_table draft (create i) (count i)) ∙ sym o.next_is;
    }

abbrev with_shown_row : Draft → ℕ → List Value → Draft
with_shown_row draft more row = record {
  told = record draft.told { tables = on_last (with_table_row row) draft.told.tables };
  due = rows_due TableRows more;
}

table_row_same : (draft : Draft) (one other x y : List ℕ) (next after : Draft) → TableRowStands draft one next
    → TableRowStands draft other after → one ++ x ≡ other ++ y → Same one other next after
table_row_same draft one other x y next after s o e =
    let row = row_said s.row o.row one other x y s.text_is o.text_is s.is_row o.is_row e in
    let more = same_left draft (TableRows s.more) (TableRows o.more) s.due o.due in
    record {
      piece = line_is one other (row_text s.row) (row_text o.row) s.text_is o.text_is (ap row_text row);
      draft = s.next_is ∙ (λ i. with_shown_row draft (more i) (row i)) ∙ sym o.next_is;
    }

end_same : (draft : Draft) (one other : List ℕ) (next after : Draft) → EndStands draft one next
    → EndStands draft other after → Same one other next after
end_same draft one other next after s o =
    record { piece = s.text_is ∙ sym o.text_is; draft = s.next_is ∙ sym o.next_is }

-- ---- all sorts

of_sort : Known → (sort : Sort) (draft : Draft) (one other x y : List ℕ) (next after : Draft)
    → StandsAs sort draft one next → StandsAs sort draft other after → one ++ x ≡ other ++ y
    → Same one other next after
of_sort known TheHeading draft one other x y next after s o e = heading_same draft one other next after s o
of_sort known AnOpening draft one other x y next after s o e = opening_same known draft one other x y next after s o e
of_sort known AnOpeningRow draft one other x y next after s o e = opening_row_same draft one other x y next after s o e
of_sort known AScript draft one other x y next after s o e = script_same known draft one other x y next after s o e
of_sort known ATx draft one other x y next after s o e = tx_same known draft one other x y next after s o e
of_sort known AnAnswer draft one other x y next after s o e = answer_same known draft one other x y next after s o e
of_sort known AnAnswerRow draft one other x y next after s o e = answer_row_same draft one other x y next after s o e
of_sort known AJoint draft one other x y next after s o e = joint_same known draft one other x y next after s o e
of_sort known AMember draft one other x y next after s o e = member_same draft one other x y next after s o e
of_sort known ATable draft one other x y next after s o e = table_same draft one other x y next after s o e
of_sort known ATableRow draft one other x y next after s o e = table_row_same draft one other x y next after s o e
of_sort known TheEnd draft one other x y next after s o e = end_same draft one other next after s o

-- Of two pieces that stand below the same lines, in front of the same text, both are one.
pub one_step : Known → (draft : Draft) (one other x y : List ℕ) (next after : Draft) → Stands draft one next
    → Stands draft other after → one ++ x ≡ other ++ y → Same one other next after
one_step known draft one other x y next after s o e =
    of_sort known (sort_at draft.due (one ++ x)) draft one other x y next after (sorted draft one x next s)
    (subst (λ (text : List ℕ). StandsAs (sort_at draft.due text) draft other after) (sym e)
    (sorted draft other y after o)) e
