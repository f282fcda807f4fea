-- The report of a book hangs on no place.
use Rattle.std.proofs.Common.{◌≡◌, ℕ, ◌+◌, Bool, true, false, cond, List, [], ◌∷◌, ◌++◌, map, refl, ap, ◌∙◌}
use Rattle.std.proofs.Common.{Option, Some, None, codes, decimal, nat_cmp}
use Rattle.std.specs.Cmp.Lexicographic.{slice_cmp}
use Rattle.std.specs.Option.{option_map}
use Rattle.ent_lists.specs.Sets as set
use Rattle.ent_tree.specs.Places.{unplaced_script, unplaced_statement}
use Rattle.ent_tree.specs.declared.declaration.Column.{Column}
use Rattle.ent_tree.specs.declared.declaration.Create.{Create}
use Rattle.ent_tree.specs.declared.declaration.Opening.{Opening}
use Rattle.ent_tree.specs.declared.script.Script.{Script}
use Rattle.ent_tree.specs.declared.script.Statement.{Statement}
use Rattle.ent_tree.specs.declared.script.Statement.TheVariants as statements
use Rattle.ent_print.specs.Lexeme.{text_of}
use Rattle.ent_print.specs.Spelling.{script_spelling}
use Rattle.ent_semantics.specs.declared.book.Book.{Book}
use Rattle.ent_semantics.specs.declared.book.JointAnswer.{JointAnswer}
use Rattle.ent_semantics.specs.declared.book.Member.{Member}
use Rattle.ent_semantics.specs.Database.{Name, Rows, Database, same_name}
use Rattle.ent_semantics.specs.Serial.{numbered}
use Rattle.ent_book.specs.Report.{line, rows_text, transactions_text, member_place, joint_line, names_by_bytes}
use Rattle.ent_book.specs.Report.{tables_text}
use Rattle.ent_book.specs.Report2.{column_text, columns_text, declared_columns, opening_text}
use Rattle.ent_book.specs.Report2.{line_count, numbered_script_text, scripts_text, statement_variables}
use Rattle.ent_book.specs.Report2.{script_statement, member_variables, bindings_text, groundings_text}
use Rattle.ent_book.specs.Report2.{grounded_joints_text, report_2_text}
use Rattle.ent_program_laws.specs.Unplaced.{unplaced_book, unplaced_create, unplaced_declared, unplaced_opening}
use Rattle.ent_program_laws.proofs.Books.{table_same}
use Rattle.ent_program_laws.proofs.Entangled.{variables_same}
use Rattle.ent_program_laws.proofs.Through.{map_through, flat_through, numbered_through}

-- ---- the opening

columns_shown : (columns : List Column) → columns_text (map unplaced_declared columns) ≡ columns_text columns
columns_shown [] = refl
columns_shown (column ∷ more) =
    ap (λ (others : List ℕ). column_text column ++ others)
    (flat_through unplaced_declared (λ column. codes ", " ++ column_text column)
    (λ column. codes ", " ++ column_text column) (λ column. refl) more)

one_shown : (create : Create) (b : Bool) (bare others : List Column) → columns_text bare ≡ columns_text others
    → columns_text (cond b (map unplaced_declared create.columns) bare) ≡ columns_text (cond b create.columns others)
one_shown create true bare others same = columns_shown create.columns
one_shown create false bare others same = same

declared_shown : (creates : List Create) (name : Name)
    → columns_text (declared_columns (map unplaced_create creates) name)
    ≡ columns_text (declared_columns creates name)
declared_shown [] name = refl
declared_shown (create ∷ more) name =
    one_shown create (same_name create.name.name name) (declared_columns (map unplaced_create more) name)
    (declared_columns more name) (declared_shown more name)

-- a table at first, its columns being a text
abbrev table_shown : Name → List ℕ → Rows → List ℕ
table_shown name columns rows =
    line (codes "opening " ++ (name ++ (codes " (" ++ (columns ++ (codes ") " ++ decimal (set.len rows))))))
    ++ rows_text (set.ascending rows)

names_same : (opening : Opening) → names_by_bytes (unplaced_opening opening) ≡ names_by_bytes opening
names_same opening =
    ap (λ (names : List Name). set.ascending (set.from_list {R = slice_cmp nat_cmp} names))
    (map_through unplaced_create (λ create. create.name.name) (λ create. create.name.name) (λ create. refl)
    opening.tables)

opening_shown : (opening : Opening) (names : List Name)
    → opening_text (unplaced_opening opening) names ≡ opening_text opening names
opening_shown opening [] = refl
opening_shown opening (name ∷ more) =
    let columns = declared_shown opening.tables name in
    let rows = table_same opening name in
    let rest = opening_shown opening more in
    λ i. table_shown name (columns i) (rows i) ++ rest i

-- ---- the groundings

statement_through : (place : ℕ) (script : Option Script)
    → script_statement place (option_map unplaced_script script)
    ≡ option_map unplaced_statement (script_statement place script)
statement_through place None = refl
statement_through place (Some script) = numbered_through unplaced_statement script.statements place

statement_same : (statement : Option Statement)
    → statement_variables (option_map unplaced_statement statement) ≡ statement_variables statement
statement_same None = refl
statement_same (Some (statements.Select select)) = refl
statement_same (Some (statements.Entangled entangled)) = variables_same entangled
statement_same (Some (statements.Insert insert)) = refl
statement_same (Some (statements.Delete delete)) = refl
statement_same (Some (statements.Update update)) = refl
statement_same (Some (statements.Set set)) = refl

member_same : (scripts : List Script) (member : Member)
    → member_variables (map unplaced_script scripts) member ≡ member_variables scripts member
member_same scripts member =
    ap (λ (script : Option Script). statement_variables (script_statement member.place script))
    (numbered_through unplaced_script scripts member.tx)
    ∙ ap (λ (statement : Option Statement). statement_variables statement)
    (statement_through member.place (numbered scripts member.tx))
    ∙ statement_same (script_statement member.place (numbered scripts member.tx))

groundings_same : (scripts : List Script) (members : List Member)
    → groundings_text (map unplaced_script scripts) members ≡ groundings_text scripts members
groundings_same scripts [] = refl
groundings_same scripts (member ∷ more) =
    let names = member_same scripts member in
    let rest = groundings_same scripts more in
    λ i. line (member_place member ++ bindings_text (names i) member.grounding) ++ rest i

joints_same : (scripts : List Script) (number : ℕ) (joints : List JointAnswer)
    → grounded_joints_text (map unplaced_script scripts) number joints ≡ grounded_joints_text scripts number joints
joints_same scripts number [] = refl
joints_same scripts number (joint ∷ more) =
    let here = groundings_same scripts joint.members in
    let rest = joints_same scripts (number + 1) more in
    λ i. (joint_line number joint ++ here i) ++ rest i

-- ---- the scripts, where their spelling hangs on no place

module _ (spelled : (script : Script) → script_spelling (unplaced_script script) ≡ script_spelling script) where
  script_shown : (number : ℕ) (script : Script)
      → numbered_script_text number (unplaced_script script) ≡ numbered_script_text number script
  unfolding numbered_script_text
  script_shown number script =
      let text = ap text_of (spelled script) in
      λ i. line (codes "script " ++ (decimal number ++ (codes " " ++ decimal (line_count (text i))))) ++ text i

  scripts_shown : (number : ℕ) (scripts : List Script)
      → scripts_text number (map unplaced_script scripts) ≡ scripts_text number scripts
  scripts_shown number [] = refl
  scripts_shown number (script ∷ more) =
      let here = script_shown number script in
      let rest = scripts_shown (number + 1) more in
      λ i. here i ++ rest i

  -- ---- the whole

  pub report_same : (book : Book Database) → report_2_text (unplaced_book book) ≡ report_2_text book
  report_same book =
      let names = names_same book.opening in
      let opening = ap (opening_text (unplaced_opening book.opening)) names
      ∙ opening_shown book.opening (names_by_bytes book.opening) in
      let scripts = scripts_shown 1 book.scripts in
      let joints = joints_same book.scripts 1 book.joint_answers in
      λ i. line (codes "report 2")
      ++ (opening i
      ++ (scripts i
      ++ (transactions_text book.journal book.fates
      ++ (joints i
      ++ (tables_text (names i) book.database
      ++ line (codes "end"))))))
