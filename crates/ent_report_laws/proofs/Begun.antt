-- The text of what a report tells so far: that of whole things, and that of a thing of which lines are due.
use Rattle.std.proofs.Common.{◌≡◌, ℕ, ◌+◌, suc, List, [], ◌∷◌, ◌++◌, map, length, refl, sym, ap, ◌∙◌, arith}
use Rattle.std.proofs.Common.{codes, flat_map}
use Rattle.std.specs.Fmt.{decimal}
use Rattle.std.proofs.lemmas.List.{append-nil, append_assoc, length-append}
use Rattle.ent_value.specs.declared.value.Value.{Value}
use Rattle.ent_tree.specs.declared.declaration.Create.{Create}
use Rattle.ent_tree.specs.declared.declaration.Opening.{Opening}
use Rattle.ent_tree.specs.declared.script.Script.{Script}
use Rattle.ent_semantics.specs.declared.answer.Answer.{Answer}
use Rattle.ent_semantics.specs.declared.answer.Answer.TheVariants as answers
use Rattle.ent_semantics.specs.declared.book.Fate.{Fate}
use Rattle.ent_semantics.specs.Database.{Name, rows_named}
use Rattle.ent_book.specs.Report.{line, row_line, rows_text, answer_text, answers_text}
use Rattle.ent_book.specs.Report2.{opening_line, scripts_text}
use Rattle.ent_history.specs.declared.history.History.{History}
use Rattle.ent_history.specs.declared.history.Shown.{Shown}
use Rattle.ent_history.specs.declared.history.Told.{Told}
use Rattle.ent_history.specs.declared.history.ToldJoint.{ToldJoint}
use Rattle.ent_history.specs.declared.history.ToldMember.{ToldMember}
use Rattle.ent_history.specs.Text.{opened_text, opening_text, tx_text, told_text, transactions_text}
use Rattle.ent_history.specs.Text.{joint_text}
use Rattle.ent_history.specs.Text.{joints_text, told_member_text, shown_text, history_text}
use Rattle.ent_history.specs.Answers.{answer_line_text}
use Rattle.ent_history.specs.Draft.{NothingBelowScripts, NothingBelowTransactions, blank}
use Rattle.ent_history.specs.Joints.{place_text}
use Rattle.ent_history.specs.Tables.{table_line_text}
use Rattle.ent_report_laws.proofs.Lists.{assoc3, assoc5, assoc6, flat_behind, behind}

-- the sections in their order
abbrev pub joined : List ℕ → List ℕ → List ℕ → List ℕ → List ℕ → List ℕ
joined opening scripts transactions joints tables =
    line (codes "report 2") ++ (opening ++ (scripts ++ (transactions ++ (joints ++ tables))))

-- what is told, with no line due
abbrev pub begun_text : History → List ℕ
begun_text told =
    joined (opening_text told.opening) (scripts_text 1 told.scripts) (transactions_text 1 told.transactions)
    (joints_text 1 told.joint_answers) (flat_map shown_text told.tables)

pub ended_text : (told : History) → begun_text told ++ line (codes "end") ≡ history_text told
ended_text told =
    assoc6 (line (codes "report 2")) (opening_text told.opening) (scripts_text 1 told.scripts)
    (transactions_text 1 told.transactions) (joints_text 1 told.joint_answers) (flat_map shown_text told.tables)
    (line (codes "end"))

pub blank_text : line (codes "report 2") ≡ begun_text blank.told
blank_text = refl

-- ---- where nothing stands below

pub only_opening : (told : History) → told.scripts ≡ [] → NothingBelowScripts told
    → begun_text told ≡ line (codes "report 2") ++ opening_text told.opening
only_opening told scripts below =
    (λ i. joined (opening_text told.opening) (scripts_text 1 (scripts i)) (transactions_text 1 (below.transactions i))
    (joints_text 1 (below.joint_answers i)) (flat_map shown_text (below.tables i)))
    ∙ ap (λ rest. line (codes "report 2") ++ rest) (append-nil (opening_text told.opening))

pub to_scripts : (told : History) → NothingBelowScripts told
    → begun_text told ≡ line (codes "report 2") ++ (opening_text told.opening ++ scripts_text 1 told.scripts)
to_scripts told below =
    (λ i. joined (opening_text told.opening) (scripts_text 1 told.scripts) (transactions_text 1 (below.transactions i))
    (joints_text 1 (below.joint_answers i)) (flat_map shown_text (below.tables i)))
    ∙ ap (λ rest. line (codes "report 2") ++ (opening_text told.opening ++ rest))
    (append-nil (scripts_text 1 told.scripts))

pub to_transactions : (told : History) → NothingBelowTransactions told → begun_text told
    ≡ line (codes "report 2")
    ++ (opening_text told.opening ++ (scripts_text 1 told.scripts ++ transactions_text 1 told.transactions))
to_transactions told below =
    (λ i. joined (opening_text told.opening) (scripts_text 1 told.scripts) (transactions_text 1 told.transactions)
    (joints_text 1 (below.joint_answers i)) (flat_map shown_text (below.tables i)))
    ∙ ap (λ rest. line (codes "report 2") ++ (opening_text told.opening ++ (scripts_text 1 told.scripts ++ rest)))
    (append-nil (transactions_text 1 told.transactions))

pub to_joints : (told : History) → told.tables ≡ [] → begun_text told
    ≡ line (codes "report 2")
    ++ (opening_text told.opening
    ++ (scripts_text 1 told.scripts ++ (transactions_text 1 told.transactions ++ joints_text 1 told.joint_answers)))
to_joints told tables =
    (λ i. joined (opening_text told.opening) (scripts_text 1 told.scripts) (transactions_text 1 told.transactions)
    (joints_text 1 told.joint_answers) (flat_map shown_text (tables i)))
    ∙ ap (λ rest. line (codes "report 2")
    ++ (opening_text told.opening ++ (scripts_text 1 told.scripts ++ (transactions_text 1 told.transactions ++ rest))))
    (append-nil (joints_text 1 told.joint_answers))

-- ---- rows that are due under a line that counts them

-- one more row
pub grows : (above : List ℕ) (head : ℕ → List ℕ) (rows new : List (List Value)) (row : List Value) (more : ℕ)
    (text : List ℕ) → new ≡ rows ++ row ∷ []
    → text ≡ above ++ (head (length rows + suc more) ++ rows_text rows)
    → text ++ row_line row ≡ above ++ (head (length new + more) ++ rows_text new)
grows above head rows new row more text e is =
    ap (λ t. t ++ row_line row) is
    ∙ assoc3 above (head (length rows + suc more)) (rows_text rows) (row_line row)
    ∙ ap (λ (n : ℕ). above ++ (head n ++ (rows_text rows ++ row_line row))) count
    ∙ ap (λ t. above ++ (head (length (rows ++ row ∷ []) + more) ++ t)) (sym (flat_behind row_line rows row))
    ∙ ap (λ (us : List (List Value)). above ++ (head (length us + more) ++ rows_text us)) (sym e)
  where
    count : length rows + suc more ≡ length (rows ++ row ∷ []) + more
    count = omega (arith, length-append rows (row ∷ []))

-- none is due
pub counted : (above : List ℕ) (head : ℕ → List ℕ) (rows : List (List Value))
    → above ++ (head (length rows + 0) ++ rows_text rows) ≡ above ++ (head (length rows) ++ rows_text rows)
counted above head rows = ap (λ (n : ℕ). above ++ (head n ++ rows_text rows)) same
  where
    same : length rows + 0 ≡ length rows
    same = omega arith

-- no row stands yet
pub uncounted : (above : List ℕ) (head : ℕ → List ℕ) (rows : List (List Value)) (count : ℕ) → rows ≡ []
    → above ++ head count ≡ above ++ (head (length rows + count) ++ rows_text rows)
uncounted above head rows count e =
    ap (λ (n : ℕ). above ++ head n) same
    ∙ ap (λ rest. above ++ rest) (sym (append-nil (head (0 + count))))
    ∙ ap (λ (us : List (List Value)). above ++ (head (length us + count) ++ rows_text us)) (sym e)
  where
    same : count ≡ 0 + count
    same = omega arith

-- ---- the opening

-- the line of a table
abbrev pub opened_line : Create → ℕ → List ℕ
opened_line create count = opening_line create.name.name create.columns count

abbrev pub above_opened : Opening → List Create → List ℕ
above_opened opening front = line (codes "report 2") ++ flat_map (opened_text opening) front

-- so many rows of the last table are due
pub record OpeningWaits (told : History) (due : ℕ) (text : List ℕ) : Type 0 where
  pub front : List Create
  pub create : Create
  pub tables_are : told.opening.tables ≡ front ++ create ∷ []
  pub no_scripts : told.scripts ≡ []
  pub nothing_below : NothingBelowScripts told
  pub text_is : text
      ≡ above_opened told.opening front
      ++ (opened_line create (length (rows_named told.opening create.name.name) + due)
      ++ rows_text (rows_named told.opening create.name.name))

pub opening_settled : (told : History) (text : List ℕ) → OpeningWaits told 0 text → text ≡ begun_text told
opening_settled told text waits =
    waits.text_is
    ∙ counted (above_opened told.opening waits.front) (opened_line waits.create)
    (rows_named told.opening waits.create.name.name)
    ∙ append_assoc (line (codes "report 2")) (flat_map (opened_text told.opening) waits.front)
    (opened_text told.opening waits.create)
    ∙ ap (λ rest. line (codes "report 2") ++ rest)
    (sym (flat_behind (opened_text told.opening) waits.front waits.create)
    ∙ ap (flat_map (opened_text told.opening)) (sym waits.tables_are))
    ∙ sym (only_opening told waits.no_scripts waits.nothing_below)

-- ---- answers

abbrev pub told_of : Fate → List Answer → Told
told_of fate answers = record { fate = fate; answers = answers }

-- the text down to the answers of the transaction behind these
abbrev pub to_answers : Opening → List Script → List Told → Fate → List Answer → List ℕ
to_answers opening scripts front fate given =
    line (codes "report 2")
    ++ (opening_text opening
    ++ (scripts_text 1 scripts
    ++ (transactions_text 1 front ++ (tx_text (length front + 1) (told_of fate []) ++ answers_text 1 given))))

pub transactions_behind : (front : List Told) (told : Told)
    → transactions_text 1 (front ++ told ∷ []) ≡ transactions_text 1 front ++ told_text (length front + 1) told
transactions_behind front told =
    behind transactions_text told_text (λ n. refl) (λ n x xs. refl) 1 front told (length front + 1) refl

pub at_answers : (told : History) (front : List Told) (fate : Fate) (given : List Answer)
    → told.transactions ≡ front ++ told_of fate given ∷ [] → NothingBelowTransactions told
    → begun_text told ≡ to_answers told.opening told.scripts front fate given
at_answers told front fate given e below =
    to_transactions told below
    ∙ ap (λ rest. line (codes "report 2") ++ (opening_text told.opening ++ (scripts_text 1 told.scripts ++ rest)))
    (ap (transactions_text 1) e ∙ transactions_behind front (told_of fate given))

-- an answer with its place
abbrev pub placed_answer : ℕ → Answer → List ℕ
placed_answer place answer = decimal place ++ (codes " " ++ answer_text answer)

pub one_answer_more : (opening : Opening) (scripts : List Script) (front : List Told) (fate : Fate)
    (given : List Answer) (answer : Answer)
    → to_answers opening scripts front fate given ++ placed_answer (length given + 1) answer
    ≡ to_answers opening scripts front fate (given ++ answer ∷ [])
one_answer_more opening scripts front fate given answer =
    assoc6 (line (codes "report 2")) (opening_text opening) (scripts_text 1 scripts) (transactions_text 1 front)
    (tx_text (length front + 1) (told_of fate [])) (answers_text 1 given) (placed_answer (length given + 1) answer)
    ∙ ap
    (λ rest. line (codes "report 2")
    ++ (opening_text opening
    ++ (scripts_text 1 scripts
    ++ (transactions_text 1 front ++ (tx_text (length front + 1) (told_of fate []) ++ rest)))))
    (sym (behind answers_text placed_answer (λ n. refl) (λ n x xs. refl) 1 given answer (length given + 1) refl))

-- the line of an answer of rows
abbrev pub rows_head : ℕ → ℕ → List ℕ
rows_head place count = answer_line_text place (answers.Rows []) count

-- so many rows of the last answer are due
pub record AnswerWaits (told : History) (due : ℕ) (text : List ℕ) : Type 0 where
  pub front : List Told
  pub fate : Fate
  pub given : List Answer
  pub rows : List (List Value)
  pub transactions_are : told.transactions ≡ front ++ told_of fate (given ++ answers.Rows rows ∷ []) ∷ []
  pub nothing_below : NothingBelowTransactions told
  pub text_is : text
      ≡ to_answers told.opening told.scripts front fate given
      ++ (rows_head (length given + 1) (length rows + due) ++ rows_text rows)

moved : (place head count rows : List ℕ)
    → (((place ++ (head ++ count)) ++ 10 ∷ []) ++ rows) ≡ place ++ (((head ++ count) ++ 10 ∷ []) ++ rows)
moved place head count rows = simp append_assoc

pub rows_placed : (place : ℕ) (rows : List (List Value))
    → rows_head place (length rows) ++ rows_text rows ≡ placed_answer place (answers.Rows rows)
rows_placed place rows = moved (decimal place) (codes " rows ") (decimal (length rows)) (rows_text rows)

pub answers_settled : (told : History) (text : List ℕ) → AnswerWaits told 0 text → text ≡ begun_text told
answers_settled told text waits =
    waits.text_is
    ∙ counted (to_answers told.opening told.scripts waits.front waits.fate waits.given)
    (rows_head (length waits.given + 1)) waits.rows
    ∙ ap (λ rest. to_answers told.opening told.scripts waits.front waits.fate waits.given ++ rest)
    (rows_placed (length waits.given + 1) waits.rows)
    ∙ one_answer_more told.opening told.scripts waits.front waits.fate waits.given (answers.Rows waits.rows)
    ∙ sym (at_answers told waits.front waits.fate (waits.given ++ answers.Rows waits.rows ∷ []) waits.transactions_are
    waits.nothing_below)

-- ---- joint answers

abbrev pub place_of : ToldMember → ℕ × ℕ
place_of told = (told.member.tx, told.member.place)

abbrev pub places_line : ℕ → List (ℕ × ℕ) → List ℕ
places_line number places = line (codes "joint " ++ (decimal number ++ flat_map place_text places))

-- the text down to the joint answers behind these
abbrev pub to_joint : Opening → List Script → List Told → List ToldJoint → List ℕ
to_joint opening scripts transactions front =
    line (codes "report 2")
    ++ (opening_text opening
    ++ (scripts_text 1 scripts ++ (transactions_text 1 transactions ++ joints_text 1 front)))

-- the lines of members of these places are due
pub record JointWaits (told : History) (places : List (ℕ × ℕ)) (text : List ℕ) : Type 0 where
  pub front : List ToldJoint
  pub members : List ToldMember
  pub joints_are : told.joint_answers ≡ front ++ record { members = members } ∷ []
  pub no_tables : told.tables ≡ []
  pub text_is : text
      ≡ to_joint told.opening told.scripts told.transactions front
      ++ (places_line (length front + 1) (map place_of members ++ places) ++ flat_map told_member_text members)

abbrev pub whole_joint : ℕ → ToldJoint → List ℕ
whole_joint number joint = joint_text number joint ++ flat_map told_member_text joint.members

pub same_places : (members : List ToldMember)
    → flat_map place_text (map place_of members) ≡ flat_map (λ told. place_text (place_of told)) members
same_places [] = refl
same_places (member ∷ more) = ap (λ rest. place_text (place_of member) ++ rest) (same_places more)

pub joints_settled : (told : History) (text : List ℕ) → JointWaits told [] text → text ≡ begun_text told
joints_settled told text waits =
    waits.text_is
    ∙ ap (λ places. above ++ (places_line number places ++ flat_map told_member_text waits.members))
    (append-nil (map place_of waits.members))
    ∙ ap
    (λ places. above
    ++ (line (codes "joint " ++ (decimal number ++ places)) ++ flat_map told_member_text waits.members))
    (same_places waits.members)
    ∙ assoc5 (line (codes "report 2")) (opening_text told.opening) (scripts_text 1 told.scripts)
    (transactions_text 1 told.transactions) (joints_text 1 waits.front) (whole_joint number joint)
    ∙ ap
    (λ rest. line (codes "report 2")
    ++ (opening_text told.opening
    ++ (scripts_text 1 told.scripts ++ (transactions_text 1 told.transactions ++ rest))))
    (sym (behind joints_text whole_joint (λ n. refl) (λ n x xs. refl) 1 waits.front joint number refl)
    ∙ ap (joints_text 1) (sym waits.joints_are))
    ∙ sym (to_joints told waits.no_tables)
  where
    number : ℕ
    number = length waits.front + 1

    joint : ToldJoint
    joint = record { members = waits.members }

    above : List ℕ
    above = to_joint told.opening told.scripts told.transactions waits.front

-- ---- tables

-- the text down to the tables behind these
abbrev pub to_table : Opening → List Script → List Told → List ToldJoint → List Shown → List ℕ
to_table opening scripts transactions joints front =
    joined (opening_text opening) (scripts_text 1 scripts) (transactions_text 1 transactions) (joints_text 1 joints)
    (flat_map shown_text front)

-- so many rows of the last table are due
pub record TableWaits (told : History) (due : ℕ) (text : List ℕ) : Type 0 where
  pub front : List Shown
  pub name : Name
  pub rows : List (List Value)
  pub tables_are : told.tables ≡ front ++ record { name = name; rows = rows } ∷ []
  pub text_is : text
      ≡ to_table told.opening told.scripts told.transactions told.joint_answers front
      ++ (table_line_text name (length rows + due) ++ rows_text rows)

pub tables_settled : (told : History) (text : List ℕ) → TableWaits told 0 text → text ≡ begun_text told
tables_settled told text waits =
    waits.text_is
    ∙ counted (to_table told.opening told.scripts told.transactions told.joint_answers waits.front)
    (table_line_text waits.name) waits.rows
    ∙ assoc6 (line (codes "report 2")) (opening_text told.opening) (scripts_text 1 told.scripts)
    (transactions_text 1 told.transactions) (joints_text 1 told.joint_answers) (flat_map shown_text waits.front)
    (shown_text shown)
    ∙ ap (joined (opening_text told.opening) (scripts_text 1 told.scripts) (transactions_text 1 told.transactions)
    (joints_text 1 told.joint_answers))
    (sym (flat_behind shown_text waits.front shown) ∙ ap (flat_map shown_text) (sym waits.tables_are))
  where
    shown : Shown
    shown = record { name = waits.name; rows = waits.rows }
