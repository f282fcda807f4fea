-- The report of a book is the text of what it tells.
use Rattle.std.proofs.Common.{◌≡◌, ℕ, ◌+◌, List, [], ◌∷◌, ◌++◌, map, length, refl, sym, ap, ◌∙◌}
use Rattle.std.specs.Prelude.{codes}
use Rattle.std.specs.List.{flat_map, range_with_len}
use Rattle.std.specs.Fmt.{decimal}
use Rattle.std.proofs.lemmas.List.Folds.{flat_map-map}
use Rattle.ent_lists.specs.Sets as set
use Rattle.ent_tree.specs.declared.script.Script.{Script}
use Rattle.ent_semantics.specs.declared.book.Book.{Book}
use Rattle.ent_semantics.specs.declared.book.Entry.{Entry}
use Rattle.ent_semantics.specs.declared.book.Fated.{Fated}
use Rattle.ent_semantics.specs.declared.book.JointAnswer.{JointAnswer}
use Rattle.ent_semantics.specs.Database.{Name, Database}
use Rattle.ent_book.specs.Report as report
use Rattle.ent_book.specs.Report.{line, rows_text, member_text, fate_text, answers_text, fate_answers, names_by_bytes}
use Rattle.ent_book.specs.Report2.{grounded_joints_text, grounding_line, scripts_text, report_2_text}
use Rattle.ent_book.proofs.Ascending.{count_of_ascending}
use Rattle.ent_history.specs.Text.{transactions_text, joints_text, shown_text, told_member_text, history_text}
use Rattle.ent_history.specs.Told.{told_fate, told_member, told_joint, shown_table, told_by}
use Rattle.ent_history.proofs.Opened.{same_opening}

tail_of : {number : ℕ} {tx : ℕ} {numbers others : List ℕ} → tx ∷ numbers ≡ number ∷ others → numbers ≡ others
tail_of e = cc

head_of : {number : ℕ} {tx : ℕ} {numbers others : List ℕ} → tx ∷ numbers ≡ number ∷ others → tx ≡ number
head_of e = cc

same_transactions : (journal : List Entry) (number : ℕ) (fates : List Fated)
    → map (λ fated. fated.tx) fates ≡ range_with_len number (length fates)
    → report.transactions_text journal fates ≡ transactions_text number (map (told_fate journal) fates)
same_transactions journal number [] e = refl
same_transactions journal number (fated ∷ fates) e =
    ap
    (λ tx. (line (codes "tx " ++ (decimal tx ++ (codes " " ++ fate_text fated.fate)))
    ++ answers_text 1 (fate_answers journal fated.fate))
    ++ report.transactions_text journal fates)
    (head_of e)
    ∙ ap
    (λ more. (line (codes "tx " ++ (decimal number ++ (codes " " ++ fate_text fated.fate)))
    ++ answers_text 1 (fate_answers journal fated.fate))
    ++ more)
    (same_transactions journal (number + 1) fates (tail_of e))

same_joints : (scripts : List Script) (number : ℕ) (joints : List JointAnswer)
    → grounded_joints_text scripts number joints ≡ joints_text number (map (told_joint scripts) joints)
same_joints scripts number [] = refl
same_joints scripts number (joint ∷ joints) =
    ap
    (λ places. (line (codes "joint " ++ (decimal number ++ places)) ++ flat_map (grounding_line scripts) joint.members)
    ++ grounded_joints_text scripts (number + 1) joints)
    (sym (flat_map-map (λ told. member_text told.member) (told_member scripts) joint.members))
    ∙ ap
    (λ lines. (line (codes "joint "
    ++ (decimal number ++ flat_map (λ told. member_text told.member) (map (told_member scripts) joint.members)))
    ++ lines)
    ++ grounded_joints_text scripts (number + 1) joints)
    (sym (flat_map-map told_member_text (told_member scripts) joint.members))
    ∙ ap
    (λ more. (line (codes "joint "
    ++ (decimal number ++ flat_map (λ told. member_text told.member) (map (told_member scripts) joint.members)))
    ++ flat_map told_member_text (map (told_member scripts) joint.members))
    ++ more)
    (same_joints scripts (number + 1) joints)

same_tables : (names : List Name) (database : Database)
    → report.tables_text names database ≡ flat_map shown_text (map (shown_table database) names)
same_tables names database =
    (λ i. flat_map
    (λ name. line (codes "table " ++ (name ++ (codes " " ++ decimal (sym (count_of_ascending (database name)) i))))
    ++ rows_text (set.ascending (database name)))
    names)
    ∙ sym (flat_map-map shown_text (shown_table database) names)

pub reported : (book : Book Database)
    → map (λ fated. fated.tx) book.fates ≡ range_with_len 1 (length book.fates)
    → report_2_text book ≡ history_text (told_by book)
reported book numbers = λ i.
    line (codes "report 2")
    ++ (same_opening book.opening i
    ++ (scripts_text 1 book.scripts
    ++ (same_transactions book.journal 1 book.fates numbers i
    ++ (same_joints book.scripts 1 book.joint_answers i
    ++ (same_tables (names_by_bytes book.opening) book.database i
    ++ line (codes "end"))))))
