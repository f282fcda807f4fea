-- Each line that stands adds its text to that of what is told so far.
use Rattle.std.proofs.Common.{◌≡◌, ℕ, ◌+◌, zero, suc, List, [], ◌∷◌, ◌++◌, map, length, refl, sym, ap, subst, ◌∙◌}
use Rattle.std.proofs.Common.{Some}
use Rattle.std.proofs.Common.{codes, flat_map, inl}
use Rattle.std.proofs.lemmas.List.{append-nil, append_assoc, map-append}
use Rattle.ent_value.specs.declared.value.Value.{Value}
use Rattle.ent_tree.specs.declared.declaration.Create.{Create}
use Rattle.ent_tree.specs.declared.declaration.Opening.{Opening}
use Rattle.ent_tree.specs.declared.script.Script.{Script}
use Rattle.ent_tree.specs.declared.script.Statement.{Statement}
use Rattle.ent_semantics.specs.declared.answer.Answer.{Answer}
use Rattle.ent_semantics.specs.declared.answer.Answer.TheVariants as answers
use Rattle.ent_semantics.specs.declared.book.Fate.{Fate}
use Rattle.ent_semantics.specs.Names.{names_turned}
use Rattle.ent_book.specs.Report.{line, rows_text}
use Rattle.ent_book.specs.Report2.{scripts_text, numbered_script_text}
use Rattle.ent_history.specs.declared.history.History.{History}
use Rattle.ent_history.specs.declared.history.Told.{Told}
use Rattle.ent_history.specs.declared.history.ToldMember.{ToldMember}
use Rattle.ent_history.specs.Text.{history_text}
use Rattle.ent_history.specs.Answers.{TxStands, AnswerStands, AnswerRowStands, IsAnswer, HasSoMany}
use Rattle.ent_history.specs.Answers.{answers_so_far}
use Rattle.ent_history.specs.Answers.{answer_line_text, with_answer, with_answer_row}
use Rattle.ent_history.specs.Answers.{with_row as with_answered_row}
use Rattle.ent_history.specs.Draft.{Draft, Due, Heading, Free, OpeningRows, AnswerRows, Members, TableRows, Ended}
use Rattle.ent_history.specs.Draft.{NothingBelowTransactions, answer_due, blank, last_of}
use Rattle.ent_history.specs.Draft.{members_due, on_last, rows_due}
use Rattle.ent_history.specs.Joints.{JointStands, MemberStands, member_told, with_member}
use Rattle.ent_history.specs.Opening.{HeadingStands, OpeningStands, OpeningRowStands}
use Rattle.ent_history.specs.Scripts.{ScriptStands}
use Rattle.ent_history.specs.Tables.{TableStands, TableRowStands, EndStands, table_line_text, with_table_row}
use Rattle.ent_lists.specs.Elements.{In, Pairs, pairs_across}
use Rattle.ent_semantics.specs.Database.{Name, rows_named}
use Rattle.ent_history.specs.Text.{opened_text, opening_text, told_member_text, transactions_text, tx_text}
use Rattle.ent_report_laws.proofs.Begun.{begun_text, ended_text, blank_text, only_opening, to_scripts, to_transactions}
use Rattle.ent_report_laws.proofs.Begun.{to_joints, grows, uncounted, opened_line, above_opened, OpeningWaits}
use Rattle.ent_report_laws.proofs.Begun.{opening_settled, told_of, to_answers, transactions_behind, at_answers}
use Rattle.ent_report_laws.proofs.Begun.{placed_answer, one_answer_more, rows_head, AnswerWaits, answers_settled}
use Rattle.ent_report_laws.proofs.Begun.{place_of}
use Rattle.ent_report_laws.proofs.Begun.{places_line, to_joint, JointWaits, joints_settled, to_table, TableWaits}
use Rattle.ent_report_laws.proofs.Begun.{tables_settled}
use Rattle.ent_report_laws.proofs.Lists.{assoc3, assoc4, flat_behind, flat_same, behind, changed, last_is}
use Rattle.ent_report_laws.proofs.Opened.{Before, IsOpened, none_under, other_name, under_itself, under_other}
use Rattle.ent_report_laws.proofs.Opened.{with_row}

-- the text of what is told so far, with what is due
abbrev pub IsSoFar : History → Due → List ℕ → Type 0
IsSoFar told Heading text = (told ≡ blank.told) × (text ≡ [])
IsSoFar told Free text = text ≡ begun_text told
IsSoFar told (OpeningRows more) text = OpeningWaits told (suc more) text
IsSoFar told (AnswerRows more) text = AnswerWaits told (suc more) text
IsSoFar told (Members tx place more) text = JointWaits told ((tx, place) ∷ more) text
IsSoFar told (TableRows more) text = TableWaits told (suc more) text
IsSoFar told Ended text = text ≡ history_text told

abbrev pub IsTextOf : Draft → List ℕ → Type 0
IsTextOf draft text = IsSoFar draft.told draft.due text

opening_next : (told : History) (count : ℕ) (text : List ℕ) → OpeningWaits told count text
    → IsSoFar told (rows_due OpeningRows count) text
opening_next told zero text waits = opening_settled told text waits
opening_next told (suc more) text waits = waits

answers_next : (told : History) (count : ℕ) (text : List ℕ) → AnswerWaits told count text
    → IsSoFar told (rows_due AnswerRows count) text
answers_next told zero text waits = answers_settled told text waits
answers_next told (suc more) text waits = waits

tables_next : (told : History) (count : ℕ) (text : List ℕ) → TableWaits told count text
    → IsSoFar told (rows_due TableRows count) text
tables_next told zero text waits = tables_settled told text waits
tables_next told (suc more) text waits = waits

members_next : (told : History) (places : List (ℕ × ℕ)) (text : List ℕ) → JointWaits told places text
    → IsSoFar told (members_due places) text
members_next told [] text waits = joints_settled told text waits
members_next told (place ∷ more) text waits = waits

module _ (draft : Draft) (text piece : List ℕ) (next : Draft) (so : IsTextOf draft text) where
  -- with this due
  at : (due : Due) → draft.due ≡ due → IsSoFar draft.told due text
  at due e = subst (λ (d : Due). IsSoFar draft.told d text) e so

  to : (made : Draft) → next ≡ made → IsTextOf made (text ++ piece) → IsTextOf next (text ++ piece)
  to made e is = subst (λ (d : Draft). IsTextOf d (text ++ piece)) (sym e) is

  pub heading_text : HeadingStands draft piece next → IsTextOf next (text ++ piece)
  heading_text s =
      let begun = at Heading s.due in
      to _ s.next_is (ap (λ t. t ++ piece) begun.1 ∙ s.text_is ∙ blank_text ∙ ap begun_text (sym begun.0))

  pub opening_text_more : IsOpened draft.told.opening → OpeningStands draft piece next → IsTextOf next (text ++ piece)
  opening_text_more opened s =
      to _ s.next_is (opening_next told s.count (text ++ piece) (record {
        front = draft.told.opening.tables;
        create = s.create;
        tables_are = refl;
        no_scripts = s.no_scripts;
        nothing_below = record {
          transactions = s.nothing_below.transactions;
          joint_answers = s.nothing_below.joint_answers;
          tables = s.nothing_below.tables;
        };
        text_is =
            ap (λ t. t ++ piece) (at Free s.free ∙ only_opening draft.told s.no_scripts s.nothing_below)
            ∙ ap (λ p. above_opened draft.told.opening draft.told.opening.tables ++ p) s.text_is
            ∙ uncounted (above_opened draft.told.opening draft.told.opening.tables) (opened_line s.create)
            (rows_named draft.told.opening s.create.name.name) s.count
            (none_under draft.told.opening s.create opened s.ascends);
      }))
    where
      told : History
      told = record draft.told {
        opening = record draft.told.opening { tables = draft.told.opening.tables ++ s.create ∷ [] };
      }

  pub script_text_more : ScriptStands draft piece next → IsTextOf next (text ++ piece)
  script_text_more s =
      to _ s.next_is
      (ap (λ t. t ++ piece) (at Free s.is_next.free ∙ to_scripts draft.told s.is_next.nothing_below)
      ∙ ap (λ p. (line (codes "report 2") ++ (opening_text opening ++ scripts_text 1 scripts)) ++ p) s.text_is
      ∙ assoc3 (line (codes "report 2")) (opening_text opening) (scripts_text 1 scripts)
      (numbered_script_text (length scripts + 1) s.script)
      ∙ ap (λ rest. line (codes "report 2") ++ (opening_text opening ++ rest))
      (sym (behind scripts_text numbered_script_text (λ n. refl) (λ n x xs. refl) 1 scripts s.script
      (length scripts + 1) refl))
      ∙ sym (to_scripts told (record {
        transactions = s.is_next.nothing_below.transactions;
        joint_answers = s.is_next.nothing_below.joint_answers;
        tables = s.is_next.nothing_below.tables;
      })))
    where
      opening : Opening
      opening = draft.told.opening

      scripts : List Script
      scripts = draft.told.scripts

      told : History
      told = record draft.told { scripts = scripts ++ s.script ∷ [] }

  pub tx_text_more : TxStands draft piece next → IsTextOf next (text ++ piece)
  tx_text_more s =
      to _ s.next_is
      (ap (λ t. t ++ piece) (at Free s.free ∙ to_transactions draft.told s.nothing_below)
      ∙ ap (λ p. (line (codes "report 2")
      ++ (opening_text opening ++ (scripts_text 1 scripts ++ transactions_text 1 transactions))) ++ p) s.text_is
      ∙ assoc4 (line (codes "report 2")) (opening_text opening) (scripts_text 1 scripts)
      (transactions_text 1 transactions) (tx_text (length transactions + 1) (told_of s.fate []))
      ∙ ap (λ rest. line (codes "report 2") ++ (opening_text opening ++ (scripts_text 1 scripts ++ rest)))
      (ap (λ rest. transactions_text 1 transactions ++ rest)
      (sym (append-nil (tx_text (length transactions + 1) (told_of s.fate []))))
      ∙ sym (transactions_behind transactions (told_of s.fate [])))
      ∙ sym (to_transactions told (record {
        joint_answers = s.nothing_below.joint_answers;
        tables = s.nothing_below.tables;
      })))
    where
      opening : Opening
      opening = draft.told.opening

      scripts : List Script
      scripts = draft.told.scripts

      transactions : List Told
      transactions = draft.told.transactions

      told : History
      told = record draft.told { transactions = transactions ++ told_of s.fate [] ∷ [] }

  pub joint_text_more : JointStands draft piece next → IsTextOf next (text ++ piece)
  joint_text_more s =
      to _ s.next_is (members_next told s.places (text ++ piece) (record {
        front = draft.told.joint_answers;
        members = [];
        joints_are = refl;
        no_tables = s.no_tables;
        text_is =
            ap (λ t. t ++ piece) (at Free s.free ∙ to_joints draft.told s.no_tables)
            ∙ ap
            (λ p. to_joint draft.told.opening draft.told.scripts draft.told.transactions draft.told.joint_answers ++ p)
            (s.text_is ∙ sym (append-nil (places_line (length draft.told.joint_answers + 1) s.places)));
      }))
    where
      told : History
      told = record draft.told { joint_answers = draft.told.joint_answers ++ record { members = [] } ∷ [] }

  pub table_text_more : TableStands draft piece next → IsTextOf next (text ++ piece)
  table_text_more s =
      to _ s.next_is (tables_next told s.count (text ++ piece) (record {
        front = draft.told.tables;
        name = s.create.name.name;
        rows = [];
        tables_are = refl;
        text_is =
            ap (λ t. t ++ piece) (at Free s.free)
            ∙ ap (λ p. above ++ p) s.text_is
            ∙ uncounted above (table_line_text s.create.name.name) [] s.count refl;
      }))
    where
      above : List ℕ
      above = to_table draft.told.opening draft.told.scripts draft.told.transactions draft.told.joint_answers
          draft.told.tables

      told : History
      told = record draft.told { tables = draft.told.tables ++ record { name = s.create.name.name; rows = [] } ∷ [] }

  pub end_text_more : EndStands draft piece next → IsTextOf next (text ++ piece)
  end_text_more s =
      to _ s.next_is
      (ap (λ t. t ++ piece) (at Free s.free) ∙ ap (λ p. begun_text draft.told ++ p) s.text_is ∙ ended_text draft.told)

  -- ---- rows and members

  pub opening_row_text_more : IsOpened draft.told.opening → OpeningRowStands draft piece next
      → IsTextOf next (text ++ piece)
  opening_row_text_more opened s = to _ s.next_is (opening_next told s.more (text ++ piece) waits)
    where
      opening : Opening
      opening = draft.told.opening

      name : Name
      name = s.create.name.name

      told : History
      told = record draft.told { opening = with_row opening name s.row }

      was : OpeningWaits draft.told (suc s.more) text
      was = at (OpeningRows s.more) s.due

      same : was.create ≡ s.create
      same = last_is was.front was.create s.create (ap last_of (sym was.tables_are) ∙ s.last)

      tables_are : opening.tables ≡ was.front ++ s.create ∷ []
      tables_are = was.tables_are ∙ ap (λ (c : Create). was.front ++ c ∷ []) same

      text_is : text ≡ above_opened opening was.front
          ++ (opened_line s.create (length (rows_named opening name) + suc s.more)
          ++ rows_text (rows_named opening name))
      text_is = was.text_is ∙ ap
          (λ (c : Create). above_opened opening was.front
          ++ (opened_line c (length (rows_named opening c.name.name) + suc s.more)
          ++ rows_text (rows_named opening c.name.name)))
          same

      others : (create : Create) → In create was.front
          → opened_text opening create ≡ opened_text (with_row opening name s.row) create
      others create there = ap
          (λ (rows : List (List Value)). opened_line create (length rows) ++ rows_text rows)
          (sym (under_other opening name create.name.name s.row
          (names_turned name create.name.name
          ∙ other_name create s.create
          (pairs_across Before was.front (s.create ∷ []) create s.create
          (subst (λ ts. Pairs Before ts) tables_are opened.apart)
          there (inl refl)))))

      waits : OpeningWaits told s.more (text ++ piece)
      waits = record {
        front = was.front;
        create = s.create;
        tables_are = tables_are;
        no_scripts = was.no_scripts;
        nothing_below = record {
          transactions = was.nothing_below.transactions;
          joint_answers = was.nothing_below.joint_answers;
          tables = was.nothing_below.tables;
        };
        text_is =
            ap (λ p. text ++ p) s.text_is
            ∙ grows (above_opened opening was.front) (opened_line s.create) (rows_named opening name)
            (rows_named (with_row opening name s.row) name) s.row s.more text (under_itself opening name s.row) text_is
            ∙ ap
            (λ front. (line (codes "report 2") ++ front)
            ++ (opened_line s.create (length (rows_named (with_row opening name s.row) name) + s.more)
            ++ rows_text (rows_named (with_row opening name s.row) name)))
            (flat_same (opened_text opening) (opened_text (with_row opening name s.row)) was.front others);
      }

  pub answer_row_text_more : AnswerRowStands draft piece next → IsTextOf next (text ++ piece)
  answer_row_text_more s = to _ s.next_is (answers_next told s.more (text ++ piece) waits)
    where
      told : History
      told = record draft.told { transactions = on_last (with_answer_row s.row) draft.told.transactions }

      was : AnswerWaits draft.told (suc s.more) text
      was = at (AnswerRows s.more) s.due

      waits : AnswerWaits told s.more (text ++ piece)
      waits = record {
        front = was.front;
        fate = was.fate;
        given = was.given;
        rows = was.rows ++ s.row ∷ [];
        transactions_are =
            ap (on_last (with_answer_row s.row)) was.transactions_are
            ∙ changed (with_answer_row s.row) was.front (told_of was.fate (was.given ++ answers.Rows was.rows ∷ []))
            ∙ ap (λ (given : List Answer). was.front ++ told_of was.fate given ∷ [])
            (changed (with_answered_row s.row) was.given (answers.Rows was.rows));
        nothing_below = record {
          joint_answers = was.nothing_below.joint_answers;
          tables = was.nothing_below.tables;
        };
        text_is =
            ap (λ p. text ++ p) s.text_is
            ∙ grows (to_answers draft.told.opening draft.told.scripts was.front was.fate was.given)
            (rows_head (length was.given + 1)) was.rows (was.rows ++ s.row ∷ []) s.row s.more text refl was.text_is;
      }

  pub table_row_text_more : TableRowStands draft piece next → IsTextOf next (text ++ piece)
  table_row_text_more s = to _ s.next_is (tables_next told s.more (text ++ piece) waits)
    where
      told : History
      told = record draft.told { tables = on_last (with_table_row s.row) draft.told.tables }

      was : TableWaits draft.told (suc s.more) text
      was = at (TableRows s.more) s.due

      waits : TableWaits told s.more (text ++ piece)
      waits = record {
        front = was.front;
        name = was.name;
        rows = was.rows ++ s.row ∷ [];
        tables_are =
            ap (on_last (with_table_row s.row)) was.tables_are
            ∙ changed (with_table_row s.row) was.front (record { name = was.name; rows = was.rows });
        text_is =
            ap (λ p. text ++ p) s.text_is
            ∙ grows
            (to_table draft.told.opening draft.told.scripts draft.told.transactions draft.told.joint_answers was.front)
            (table_line_text was.name) was.rows (was.rows ++ s.row ∷ []) s.row s.more text refl was.text_is;
      }

  pub member_text_more : MemberStands draft piece next → IsTextOf next (text ++ piece)
  member_text_more s = to _ s.next_is (members_next told s.more (text ++ piece) waits)
    where
      member : ToldMember
      member = member_told s.tx s.place s.variables s.values

      told : History
      told = record draft.told { joint_answers = on_last (with_member member) draft.told.joint_answers }

      was : JointWaits draft.told ((s.tx, s.place) ∷ s.more) text
      was = at (Members s.tx s.place s.more) s.due

      number : ℕ
      number = length was.front + 1

      above : List ℕ
      above = to_joint draft.told.opening draft.told.scripts draft.told.transactions was.front

      places : List (ℕ × ℕ)
      places = map place_of was.members ++ (s.tx, s.place) ∷ s.more

      same_places : places ≡ map place_of (was.members ++ member ∷ []) ++ s.more
      same_places =
          sym (append_assoc (map place_of was.members) ((s.tx, s.place) ∷ []) s.more)
          ∙ ap (λ (ps : List (ℕ × ℕ)). ps ++ s.more) (sym (map-append place_of was.members (member ∷ [])))

      waits : JointWaits told s.more (text ++ piece)
      waits = record {
        front = was.front;
        members = was.members ++ member ∷ [];
        joints_are =
            ap (on_last (with_member member)) was.joints_are
            ∙ changed (with_member member) was.front (record { members = was.members });
        no_tables = was.no_tables;
        text_is =
            ap (λ p. text ++ p) s.text_is
            ∙ ap (λ t. t ++ told_member_text member) was.text_is
            ∙ assoc3 above (places_line number places) (flat_map told_member_text was.members)
            (told_member_text member)
            ∙ ap (λ t. above ++ (places_line number places ++ t))
            (sym (flat_behind told_member_text was.members member))
            ∙ ap (λ (ps : List (ℕ × ℕ)). above
            ++ (places_line number ps ++ flat_map told_member_text (was.members ++ member ∷ []))) same_places;
      }

-- ---- answers

-- the transaction whose statement is due is the last
due_ends : (scripts : List Script) (told : List Told) (statement : Statement)
    → answer_due scripts told ≡ Some statement → (last : Told) × (front : List Told) × (told ≡ front ++ last ∷ [])
due_ends [] told statement e = cc (e)
due_ends (script ∷ scripts) [] statement e = cc (e)
due_ends (script ∷ scripts) (told ∷ []) statement e = (told, [], refl)
due_ends (script ∷ scripts) (told ∷ next ∷ more) statement e =
    let rest = due_ends scripts (next ∷ more) statement e in
    (rest.0, told ∷ rest.1, ap (λ ts. told ∷ ts) rest.2)

pub so_far_last : (front : List Told) (last : Told) → answers_so_far (front ++ last ∷ []) ≡ length last.answers
so_far_last [] last = refl
so_far_last (told ∷ []) last = refl
so_far_last (told ∷ next ∷ front) last = so_far_last (next ∷ front) last

module _ (told : History) (front : List Told) (fate : Fate) (given : List Answer) (text : List ℕ) (answer : Answer)
    (is : text ≡ to_answers told.opening told.scripts front fate given)
    (now : told.transactions ≡ front ++ told_of fate (given ++ answer ∷ []) ∷ [])
    (below : NothingBelowTransactions told) where
  -- an answer that no line follows
  alone : (count : ℕ) → count ≡ 0
      → IsSoFar told (rows_due AnswerRows count) (text ++ placed_answer (length given + 1) answer)
  alone count none =
      subst (λ (n : ℕ). IsSoFar told (rows_due AnswerRows n) (text ++ placed_answer (length given + 1) answer))
      (sym none)
      (ap (λ t. t ++ placed_answer (length given + 1) answer) is
      ∙ one_answer_more told.opening told.scripts front fate given answer
      ∙ sym (at_answers told front fate (given ++ answer ∷ []) now below))

answered : (told : History) (front : List Told) (fate : Fate) (given : List Answer) (text : List ℕ) (answer : Answer)
    (count : ℕ) → text ≡ to_answers told.opening told.scripts front fate given
    → told.transactions ≡ front ++ told_of fate (given ++ answer ∷ []) ∷ [] → NothingBelowTransactions told
    → IsAnswer answer → HasSoMany answer count
    → IsSoFar told (rows_due AnswerRows count) (text ++ answer_line_text (length given + 1) answer count)
answered told front fate given text (answers.Rows rows) count is now below shape so_many =
    answers_next told count (text ++ rows_head (length given + 1) count) (record {
      front = front;
      fate = fate;
      given = given;
      rows = rows;
      transactions_are = now;
      nothing_below = below;
      text_is =
          ap (λ t. t ++ rows_head (length given + 1) count) is
          ∙ uncounted (to_answers told.opening told.scripts front fate given) (rows_head (length given + 1)) rows count
          shape;
    })
answered told front fate given text (answers.Count number) count is now below shape so_many =
    alone told front fate given text (answers.Count number) is now below count so_many
answered told front fate given text (answers.Value value) count is now below shape so_many =
    alone told front fate given text (answers.Value value) is now below count so_many
answered told front fate given text (answers.Heads facts) count is now below shape so_many =
    alone told front fate given text (answers.Heads facts) is now below count so_many

pub answer_text_more : (draft : Draft) (text piece : List ℕ) (next : Draft) → IsTextOf draft text
    → AnswerStands draft piece next → IsTextOf next (text ++ piece)
answer_text_more draft text piece next so s =
    to draft text piece next so _ s.next_is
    (subst (λ p. IsSoFar told (rows_due AnswerRows s.count) (text ++ p)) (sym text_is)
    (answered told front last.fate last.answers text s.answer s.count
    (at draft text piece next so Free s.free ∙ at_answers draft.told front last.fate last.answers is s.nothing_below)
    (ap (on_last (with_answer s.answer)) is ∙ changed (with_answer s.answer) front last)
    (record { joint_answers = s.nothing_below.joint_answers; tables = s.nothing_below.tables })
    s.shape s.so_many))
  where
    found : (last : Told) × (front : List Told) × (draft.told.transactions ≡ front ++ last ∷ [])
    found = due_ends draft.told.scripts draft.told.transactions s.statement s.due

    last : Told
    last = found.0

    front : List Told
    front = found.1

    is : draft.told.transactions ≡ front ++ last ∷ []
    is = found.2

    told : History
    told = record draft.told { transactions = on_last (with_answer s.answer) draft.told.transactions }

    text_is : piece ≡ answer_line_text (length last.answers + 1) s.answer s.count
    text_is = s.text_is
        ∙ ap (λ (n : ℕ). answer_line_text (n + 1) s.answer s.count) (ap answers_so_far is ∙ so_far_last front last)
