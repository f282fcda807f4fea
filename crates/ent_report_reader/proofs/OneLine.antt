-- Each thing that stands but a script is one line: no line ends inside it.
use Rattle.std.proofs.Common.{◌≡◌, ◌⊎◌, inl, inr, ℕ, suc, ◌+◌, ◌&&◌, true, List, [], ◌∷◌, ◌++◌, length, Option, Some}
use Rattle.std.proofs.Common.{None, refl, ap, sym, ◌∙◌, subst, append_assoc}
use Rattle.std.specs.Prelude.{codes, negsuc, pos, slice_get}
use Rattle.std.specs.List.{AllByRecursion, list_all, flat_map}
use Rattle.std.specs.Fmt.{decimal}
use Rattle.std.specs.Prelude.{nat_le, slice_index}
use Rattle.std.specs.Char.{is_ascii_alphabetic}
use Rattle.std.proofs.lemmas.Bool.{and_parts}
use Rattle.ent_value.specs.Name.{IsWord, is_word_byte}
use Rattle.ent_value.specs.declared.name.TheConstants.{LONGEST_NAME}
use Rattle.ent_value.specs.Print.{more_text, quoted, row_text, value_text}
use Rattle.ent_value.specs.declared.value.Kind.{Kind}
use Rattle.ent_value.specs.declared.value.Kind.TheVariants as sorts
use Rattle.ent_value.specs.declared.value.Value.{Value}
use Rattle.ent_value.specs.declared.value.Value.TheVariants.{Int, Text}
use Rattle.ent_text.specs.declared.token.TokenKind.TheVariants as kinds
use Rattle.ent_tree.specs.declared.declaration.Column.{Column}
use Rattle.ent_tree.specs.declared.declaration.Create.{Create}
use Rattle.ent_semantics.specs.Database.{Name}
use Rattle.ent_semantics.specs.declared.answer.Answer.{Answer}
use Rattle.ent_semantics.specs.declared.answer.Answer.TheVariants as answers
use Rattle.ent_semantics.specs.declared.answer.Fact.{Fact}
use Rattle.ent_semantics.specs.Failure.{failure_name}
use Rattle.ent_semantics.specs.declared.answer.Failure.{Failure}
use Rattle.ent_semantics.specs.declared.answer.Failure.TheVariants as failures
use Rattle.ent_semantics.specs.declared.book.Fate.{Fate}
use Rattle.ent_semantics.specs.declared.book.Fate.TheVariants as fates
use Rattle.ent_book.specs.Report.{line, after_text, fact_text, facts_text, fate_text}
use Rattle.ent_book.specs.Report2.{bindings_text, column_text, columns_text, kind_text, more_columns_text}
use Rattle.ent_history.specs.Fates.{transaction_text}
use Rattle.ent_history.specs.JointLines.{joint_text}
use Rattle.ent_history.specs.Openings.{opening_text}
use Rattle.ent_history.specs.Parts.{IsName, IsRow, IsValue}
use Rattle.ent_history.specs.Draft.{Draft}
use Rattle.ent_history.specs.Opening.{HeadingStands, IsDeclaration, OpeningRowStands, OpeningStands}
use Rattle.ent_history.specs.Answers.{AnswerRowStands, AnswerStands, IsAnswer, IsFact, TxStands, answer_line_text}
use Rattle.ent_history.specs.Answers.{answers_so_far}
use Rattle.ent_history.specs.Joints.{Binds, BindsRight, JointStands, MemberStands, member_binds, place_text}
use Rattle.ent_history.specs.Tables.{EndStands, TableRowStands, TableStands}
use Rattle.ent_history.specs.Scripts.{ScriptStands}
use Rattle.ent_history.specs.Stands.{Stands}
use Rattle.ent_history.specs.Stands as stands
use Rattle.ent_history.proofs.InLine.{IsInLine, in_line_append, kind_in_line, word_in_line}
use Rattle.ent_report_reader.specs.Members.{BindsWords, MemberHasWords}
use Rattle.ent_report_reader.proofs.InLines.{number_in_line}

-- ---- parts of a line

pub name_in_line : (name : Name) → IsName name → IsInLine name
name_in_line name is = kind_in_line (kinds.Name name) is

word_bytes : (word : List ℕ) → IsWord word → list_all is_word_byte word ≡ true
word_bytes word is =
    let rest = and_parts (nat_le (length word) LONGEST_NAME)
    (is_ascii_alphabetic (slice_index word 0) && list_all is_word_byte word) is in
    (and_parts (is_ascii_alphabetic (slice_index word 0)) (list_all is_word_byte word) rest.1).1

word_is_in_line : (word : List ℕ) → IsWord word → IsInLine word
word_is_in_line word is = word_in_line word (word_bytes word is)

value_in_line : (value : Value) → IsValue value → IsInLine (value_text value)
value_in_line (Int (pos n)) is = number_in_line n
value_in_line (Int (negsuc n)) is = number_in_line (suc n)
value_in_line (Text content) is = kind_in_line (kinds.Literal content) ((quoted content, (refl, is.0)), is.1)

more_in_line : (values : List Value) → AllByRecursion IsValue values → IsInLine (more_text values)
more_in_line [] are = refl
more_in_line (value ∷ values) are =
    in_line_append (codes ", ") (value_text value ++ more_text values) refl
    (in_line_append (value_text value) (more_text values) (value_in_line value are.0) (more_in_line values are.1))

row_in_line : (row : List Value) → AllByRecursion IsValue row → IsInLine (row_text row)
row_in_line [] are = refl
row_in_line (value ∷ values) are =
    in_line_append (value_text value ++ more_text values) (41 ∷ [])
    (in_line_append (value_text value) (more_text values) (value_in_line value are.0) (more_in_line values are.1)) refl

-- ---- one line

abbrev pub IsOneLine : List ℕ → Type 0
IsOneLine text = (front : List ℕ) × IsInLine front × (text ≡ line front)

row_is_line : (text : List ℕ) (row : List Value) → text ≡ line (row_text row) → IsRow row → IsOneLine text
row_is_line text row is are = (row_text row, row_in_line row are.1, is)

-- ---- the opening

pub heading_line : (draft : Draft) (text : List ℕ) (next : Draft) → HeadingStands draft text next → IsOneLine text
heading_line draft text next s = (codes "report 2", refl, s.text_is)

kind_is_in_line : (kind : Kind) → IsInLine (kind_text kind)
kind_is_in_line sorts.Int = refl
kind_is_in_line sorts.Text = refl

abbrev IsColumn : Column → Type 0
IsColumn column = IsName column.name.name × (column.name.place ≡ 0)

column_in_line : (column : Column) → IsColumn column → IsInLine (column_text column)
column_in_line column is =
    in_line_append column.name.name (codes " " ++ kind_text column.kind) (name_in_line column.name.name is.0)
    (in_line_append (codes " ") (kind_text column.kind) refl (kind_is_in_line column.kind))

more_columns_in_line : (columns : List Column) → AllByRecursion IsColumn columns → IsInLine (more_columns_text columns)
more_columns_in_line [] are = refl
more_columns_in_line (column ∷ columns) are =
    in_line_append (codes ", " ++ column_text column) (more_columns_text columns)
    (in_line_append (codes ", ") (column_text column) refl (column_in_line column are.0))
    (more_columns_in_line columns are.1)

columns_in_line : (columns : List Column) → AllByRecursion IsColumn columns → IsInLine (columns_text columns)
columns_in_line [] are = refl
columns_in_line (column ∷ columns) are =
    in_line_append (column_text column) (more_columns_text columns) (column_in_line column are.0)
    (more_columns_in_line columns are.1)

pub opening_in_line : (create : Create) (count : ℕ) → IsDeclaration create → IsInLine (opening_text create count)
opening_in_line create number declared =
    let name = create.name.name in
    let count = codes ") " ++ decimal number in
    let columns = columns_text create.columns ++ count in
    in_line_append (codes "opening ") (name ++ (codes " (" ++ columns)) refl
    (in_line_append name (codes " (" ++ columns) (name_in_line name declared.name)
    (in_line_append (codes " (") columns refl
    (in_line_append (columns_text create.columns) count (columns_in_line create.columns declared.columns)
    (in_line_append (codes ") ") (decimal number) refl (number_in_line number)))))

pub opening_line : (draft : Draft) (text : List ℕ) (next : Draft) → OpeningStands draft text next → IsOneLine text
opening_line draft text next s =
    (opening_text s.create s.count, opening_in_line s.create s.count s.declaration, s.text_is)

pub opening_row_line : (draft : Draft) (text : List ℕ) (next : Draft) → OpeningRowStands draft text next
    → IsOneLine text
opening_row_line draft text next s = row_is_line text s.row s.text_is s.is_row

-- ---- transactions

failure_in_line : (failure : Failure) → IsInLine (failure_name failure)
failure_in_line failures.Overflow = refl
failure_in_line failures.TableFull = refl

after_in_line : (runs : ℕ) → IsInLine (after_text runs)
after_in_line runs = in_line_append (codes " after ") (decimal runs) refl (number_in_line runs)

fate_in_line : (fate : Fate) → IsInLine (fate_text fate)
fate_in_line (fates.Committed number runs) =
    in_line_append (codes "committed ") (decimal number ++ after_text runs) refl
    (in_line_append (decimal number) (after_text runs) (number_in_line number) (after_in_line runs))
fate_in_line (fates.GaveUp runs) = in_line_append (codes "gave up") (after_text runs) refl (after_in_line runs)
fate_in_line (fates.RolledBack runs) = in_line_append (codes "rolled back") (after_text runs) refl (after_in_line runs)
fate_in_line (fates.Failed failure runs) =
    in_line_append (codes "failed ") (failure_name failure ++ after_text runs) refl
    (in_line_append (failure_name failure) (after_text runs) (failure_in_line failure) (after_in_line runs))

pub tx_in_line : (number : ℕ) (fate : Fate) → IsInLine (transaction_text number fate)
tx_in_line number fate =
    let behind = codes " " ++ fate_text fate in
    in_line_append (codes "tx ") (decimal number ++ behind) refl
    (in_line_append (decimal number) behind (number_in_line number)
    (in_line_append (codes " ") (fate_text fate) refl (fate_in_line fate)))

pub tx_line : (draft : Draft) (text : List ℕ) (next : Draft) → TxStands draft text next → IsOneLine text
tx_line draft text next s =
    let number = length draft.told.transactions + 1 in
    (transaction_text number s.fate, tx_in_line number s.fate, s.text_is)

-- ---- answers

pub facts_in_line : (facts : List Fact) → AllByRecursion IsFact facts → IsInLine (facts_text facts)
facts_in_line [] are = refl
facts_in_line (fact ∷ facts) are =
    in_line_append (fact_text fact) (facts_text facts)
    (in_line_append (codes " ") (fact.relation ++ row_text fact.values) refl
    (in_line_append fact.relation (row_text fact.values) (name_in_line fact.relation are.0.0)
    (row_in_line fact.values are.0.1.1)))
    (facts_in_line facts are.1)

behind_place : (place : ℕ) (word rest : List ℕ) → IsInLine word → IsInLine rest
    → IsInLine (decimal place ++ (word ++ rest))
behind_place place word rest one other =
    in_line_append (decimal place) (word ++ rest) (number_in_line place) (in_line_append word rest one other)

-- as the line ends, so does what stands behind the place
ended : (place word rest : List ℕ) → place ++ (word ++ (rest ++ 10 ∷ [])) ≡ line (place ++ (word ++ rest))
ended place word rest =
    ap (λ r. place ++ r) (sym (append_assoc word rest (10 ∷ []))) ∙ sym (append_assoc place (word ++ rest) (10 ∷ []))

answer_is_line : (place : ℕ) (answer : Answer) (count : ℕ) → IsAnswer answer
    → IsOneLine (answer_line_text place answer count)
answer_is_line place (answers.Count n) count is = (
  decimal place ++ (codes " " ++ (codes "count " ++ decimal n)),
  behind_place place (codes " ") (codes "count " ++ decimal n) refl
      (in_line_append (codes "count ") (decimal n) refl (number_in_line n)),
  ended (decimal place) (codes " ") (codes "count " ++ decimal n),
)
answer_is_line place (answers.Value value) count is = (
  decimal place ++ (codes " " ++ (codes "set " ++ value_text value)),
  behind_place place (codes " ") (codes "set " ++ value_text value) refl
      (in_line_append (codes "set ") (value_text value) refl (value_in_line value is)),
  ended (decimal place) (codes " ") (codes "set " ++ value_text value),
)
answer_is_line place (answers.Rows rows) count is = (
  decimal place ++ (codes " rows " ++ decimal count),
  behind_place place (codes " rows ") (decimal count) refl (number_in_line count),
  refl,
)
answer_is_line place (answers.Heads facts) count is = (
  decimal place ++ (codes " " ++ (codes "answer" ++ facts_text facts)),
  behind_place place (codes " ") (codes "answer" ++ facts_text facts) refl
      (in_line_append (codes "answer") (facts_text facts) refl (facts_in_line facts is.1)),
  ended (decimal place) (codes " ") (codes "answer" ++ facts_text facts),
)

pub answer_line : (draft : Draft) (text : List ℕ) (next : Draft) → AnswerStands draft text next → IsOneLine text
answer_line draft text next s =
    let own = answer_is_line (answers_so_far draft.told.transactions + 1) s.answer s.count s.shape in
    (own.0, own.1, s.text_is ∙ own.2)

pub answer_row_line : (draft : Draft) (text : List ℕ) (next : Draft) → AnswerRowStands draft text next → IsOneLine text
answer_row_line draft text next s = row_is_line text s.row s.text_is s.is_row

-- ---- joint answers

places_in_line : (places : List (ℕ × ℕ)) → IsInLine (flat_map place_text places)
places_in_line [] = refl
places_in_line (place ∷ places) =
    in_line_append (place_text place) (flat_map place_text places)
    (in_line_append (codes " ") (decimal place.0 ++ (codes "." ++ decimal place.1)) refl
    (behind_place place.0 (codes ".") (decimal place.1) refl (number_in_line place.1)))
    (places_in_line places)

pub joint_in_line : (number : ℕ) (places : List (ℕ × ℕ)) → IsInLine (joint_text number places)
joint_in_line number places =
    in_line_append (codes "joint ") (decimal number ++ flat_map place_text places) refl
    (in_line_append (decimal number) (flat_map place_text places) (number_in_line number) (places_in_line places))

pub joint_line : (draft : Draft) (text : List ℕ) (next : Draft) → JointStands draft text next → IsOneLine text
joint_line draft text next s =
    let number = length draft.told.joint_answers + 1 in
    (joint_text number s.places, joint_in_line number s.places, s.text_is)

bindings_in_line : (names : List Name) (values : List Value) → AllByRecursion IsInLine names
    → AllByRecursion IsValue values → IsInLine (bindings_text names values)
bindings_in_line [] values are worth = refl
bindings_in_line (name ∷ names) [] are worth = refl
bindings_in_line (name ∷ names) (value ∷ values) are worth =
    in_line_append (codes " " ++ (name ++ (codes "=" ++ value_text value))) (bindings_text names values)
    (in_line_append (codes " ") (name ++ (codes "=" ++ value_text value)) refl
    (in_line_append name (codes "=" ++ value_text value) are.0
    (in_line_append (codes "=") (value_text value) refl (value_in_line value worth.0))))
    (bindings_in_line names values are.1 worth.1)

words_in_line : (names : List Name) → AllByRecursion IsWord names → AllByRecursion IsInLine names
words_in_line [] are = tt
words_in_line (name ∷ names) are = (word_is_in_line name are.0, words_in_line names are.1)

names_in_line : (names : List Name) → AllByRecursion IsName names → AllByRecursion IsInLine names
names_in_line [] are = tt
names_in_line (name ∷ names) are = (name_in_line name are.0, names_in_line names are.1)

bound_in_line : (binds : Option Binds) (names : List Name) (values : List Value) → BindsWords binds
    → BindsRight binds names values → AllByRecursion IsInLine names
bound_in_line (Some binds) names values words right =
    subst (AllByRecursion IsInLine) (sym right.0) (words_in_line binds.0 words)
bound_in_line None names values words right = names_in_line names right

pub member_line : (draft : Draft) (text : List ℕ) (next : Draft) → MemberHasWords draft → MemberStands draft text next
    → IsOneLine text
member_line draft text next words s =
    let names = bound_in_line (member_binds draft.told s.tx s.place) s.variables s.values
    (words s.tx s.place s.more s.due) s.binds in
    let place = decimal s.tx ++ (codes "." ++ decimal s.place) in (
      place ++ bindings_text s.variables s.values,
      in_line_append place (bindings_text s.variables s.values)
          (behind_place s.tx (codes ".") (decimal s.place) refl (number_in_line s.place))
          (bindings_in_line s.variables s.values names s.are_values),
      s.text_is,
    )

-- ---- tables

abbrev pub NextTableIsWord : Draft → Type 0
NextTableIsWord draft =
    (create : Create) → slice_get draft.told.opening.tables (length draft.told.tables) ≡ Some create
    → IsWord create.name.name

pub table_line : (draft : Draft) (text : List ℕ) (next : Draft) → NextTableIsWord draft → TableStands draft text next
    → IsOneLine text
table_line draft text next word s =
    let name = s.create.name.name in
    let count = codes " " ++ decimal s.count in (
      codes "table " ++ (name ++ count),
      in_line_append (codes "table ") (name ++ count) refl
          (in_line_append name count (word_is_in_line name (word s.create s.of_opening))
          (in_line_append (codes " ") (decimal s.count) refl (number_in_line s.count))),
      s.text_is,
    )

pub table_row_line : (draft : Draft) (text : List ℕ) (next : Draft) → TableRowStands draft text next → IsOneLine text
table_row_line draft text next s = row_is_line text s.row s.text_is s.is_row

pub end_line : (draft : Draft) (text : List ℕ) (next : Draft) → EndStands draft text next → IsOneLine text
end_line draft text next s = (codes "end", refl, s.text_is)

-- ---- all of them

pub one_line_or_script : (draft : Draft) (text : List ℕ) (next : Draft) → NextTableIsWord draft → MemberHasWords draft
    → Stands draft text next → IsOneLine text ⊎ ScriptStands draft text next
one_line_or_script draft text next word words (stands.Heading s) = inl (heading_line draft text next s)
one_line_or_script draft text next word words (stands.Opening s) = inl (opening_line draft text next s)
one_line_or_script draft text next word words (stands.OpeningRow s) = inl (opening_row_line draft text next s)
one_line_or_script draft text next word words (stands.Script s) = inr s
one_line_or_script draft text next word words (stands.Tx s) = inl (tx_line draft text next s)
one_line_or_script draft text next word words (stands.Answer s) = inl (answer_line draft text next s)
one_line_or_script draft text next word words (stands.AnswerRow s) = inl (answer_row_line draft text next s)
one_line_or_script draft text next word words (stands.Joint s) = inl (joint_line draft text next s)
one_line_or_script draft text next word words (stands.Member s) = inl (member_line draft text next words s)
one_line_or_script draft text next word words (stands.Table s) = inl (table_line draft text next word s)
one_line_or_script draft text next word words (stands.TableRow s) = inl (table_row_line draft text next s)
one_line_or_script draft text next word words (stands.End s) = inl (end_line draft text next s)
