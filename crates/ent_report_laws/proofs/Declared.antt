-- Scripts and opening rows that resolving lets through keep to declared tables.
use Rattle.std.proofs.Common.{◌≡◌, ℕ, suc, Bool, true, false, cond, ◌||◌, ◌==◌, List, [], ◌∷◌, ◌++◌, length, map, refl}
use Rattle.std.proofs.Common.{sym, ap}
use Rattle.std.proofs.Common.{subst, ◌∙◌, inl, inr, Option, Some, None, Result, Ok, Err, Contains}
use Rattle.ent_lists.specs.Sets as set
use Rattle.ent_value.specs.Refusal.{◌>>=◌}
use Rattle.ent_value.specs.Value.{row_cmp}
use Rattle.ent_tree.specs.declared.declaration.Create.{Create}
use Rattle.ent_tree.specs.declared.declaration.Opening.{Opening}
use Rattle.ent_tree.specs.declared.declaration.OpeningRow.{OpeningRow}
use Rattle.ent_tree.specs.declared.operand.Identifier.{Identifier}
use Rattle.ent_tree.specs.declared.script.Script.{Script}
use Rattle.ent_tree.specs.declared.script.Statement.{Statement}
use Rattle.ent_tree.specs.declared.script.Statement.TheVariants as statements
use Rattle.ent_semantics.specs.declared.operand.Known.{Known}
use Rattle.ent_semantics.specs.declared.statement.Statement.{Statement as Form}
use Rattle.ent_semantics.specs.declared.statement.Statement.TheVariants as forms
use Rattle.ent_semantics.specs.Database.{Name, opening_database, row_of, same_name}
use Rattle.ent_semantics.specs.Names.{equal_names}
use Rattle.ent_semantics.specs.Uses.{changes}
use Rattle.ent_form.specs.Catalogue.{schemas_of, table_from, table_named, table_schema}
use Rattle.ent_form.specs.Form.{statement_in, statements_from, script_in}
use Rattle.ent_form.specs.Kinds.{Bound, none_bound}
use Rattle.ent_form.specs.OpeningFault.{◌before◌, declarations_fault, first_of, opening_fault, opening_row_fault}
use Rattle.ent_form.specs.OpeningFault.{row_fault}
use Rattle.ent_form.specs.OpeningFault.{where_there}
use Rattle.ent_form.specs.Ordinary.{delete_in, image_in, insert_in, row_from, tests_in, update_in}
use Rattle.ent_form.specs.Scope.{table_in, table_scope}
use Rattle.ent_form.specs.Steps.{demand, there}
use Rattle.ent_form.specs.declared.catalogue.TableSchema.{TableSchema}
use Rattle.ent_form.specs.declared.fault.FormFault.{FormFault}
use Rattle.ent_form.specs.declared.fault.FormFault.TheVariants.{Arity, NoTable}
use Rattle.ent_form.specs.declared.script.Plain.{Plain}
use Rattle.ent_history.specs.Formed.{is_declared}
use Rattle.ent_lists.specs.Elements.{In, contains_in, clash, filter_empty, not_so}

bound_first : {A B F : Type 0} (r : Result A F) (f : A → Result B F) (y : B) → (r >>= f) ≡ Ok y
    → (x : A) × (r ≡ Ok x) × (f x ≡ Ok y)
bound_first (Ok x) f y e = (x, refl, e)
bound_first (Err fault) f y e = cc (e)

there_some : {A : Type 0} (o : Option A) (fault : FormFault) (x : A) → there o fault ≡ Ok x → (y : A) × (o ≡ Some y)
there_some (Some y) fault x e = (y, refl)
there_some None fault x e = cc (e)

-- a table that is found is declared
found_declared : (number : ℕ) (creates : List Create) (name : Name) (found : ℕ × TableSchema)
    → table_from number (schemas_of creates) name ≡ Some found → is_declared creates name ≡ true
found_declared number [] name found e = cc (e)
found_declared number (create ∷ more) name found e =
    by (same_name create.name.name name) e (found_declared (suc number) more name found)
  where
    by : (b : Bool)
        → cond b (Some (number, table_schema create)) (table_from (suc number) (schemas_of more) name) ≡ Some found
        → (table_from (suc number) (schemas_of more) name ≡ Some found → is_declared more name ≡ true)
        → (b || is_declared more name) ≡ true
    by true e rest = refl
    by false e rest = rest e

table_declared : (creates : List Create) (table : Identifier) (found : ℕ × TableSchema)
    → table_in (schemas_of creates) table ≡ Ok found → is_declared creates table.name ≡ true
table_declared creates table found e =
    let r = there_some (table_named (schemas_of creates) table.name) (NoTable table.place) found e in
    found_declared 0 creates table.name r.0 r.1

named : (creates : List Create) (table name : Name) → (same_name table name || false) ≡ true
    → is_declared creates table ≡ true → is_declared creates name ≡ true
named creates table name e declared = by (same_name table name) refl e
  where
    by : (b : Bool) → same_name table name ≡ b → (b || false) ≡ true → is_declared creates name ≡ true
    by true is e = subst (λ n. is_declared creates n ≡ true) (equal_names table name is) declared
    by false is e = cc (e)

statement_declared : (creates : List Create) (bound : Bound) (st : Statement) (form : Form Known × Bound)
    → statement_in (schemas_of creates) bound st ≡ Ok form → (name : Name) → changes st name ≡ true
    → is_declared creates name ≡ true
unfolding statement_in insert_in delete_in update_in
statement_declared creates bound (statements.Insert insert) form e name changed =
    let a = bound_first (insert_in (schemas_of creates) bound insert) (λ form. Ok (form, bound)) form e in
    let b = bound_first (table_in (schemas_of creates) insert.table)
    (λ table. demand (length insert.values == length table.1.columns) (Arity insert.place)
    (row_from bound [] table.1.columns insert.values >>= λ values. Ok (forms.Insert table.0 values))) a.0 a.1 in
    named creates insert.table.name name changed (table_declared creates insert.table b.0 b.1)
statement_declared creates bound (statements.Delete delete) form e name changed =
    let a = bound_first (delete_in (schemas_of creates) bound delete) (λ form. Ok (form, bound)) form e in
    let b = bound_first (table_in (schemas_of creates) delete.table)
    (λ table. tests_in (table_scope delete.table.name table) bound delete.tests >>= λ tests.
    Ok (forms.Delete table.0 tests)) a.0 a.1 in
    named creates delete.table.name name changed (table_declared creates delete.table b.0 b.1)
statement_declared creates bound (statements.Update update) form e name changed =
    let a = bound_first (update_in (schemas_of creates) bound update) (λ form. Ok (form, bound)) form e in
    let b = bound_first (table_in (schemas_of creates) update.table)
    (λ table. let scope = table_scope update.table.name table in
    tests_in scope bound update.tests >>= λ tests.
    image_in scope bound table.1.columns update.assignments >>= λ image.
    Ok (forms.Update table.0 image tests)) a.0 a.1 in
    named creates update.table.name name changed (table_declared creates update.table b.0 b.1)
statement_declared creates bound (statements.Select select) form e name changed = cc (changed)
statement_declared creates bound (statements.Entangled entangled) form e name changed = cc (changed)
statement_declared creates bound (statements.Set setting) form e name changed = cc (changed)

statements_declared : (creates : List Create) (bound : Bound) (made : List (Form Known)) (sts : List Statement)
    (forms : List (Form Known)) → statements_from (schemas_of creates) bound made sts ≡ Ok forms → (st : Statement)
    → In st sts → (name : Name) → changes st name ≡ true → is_declared creates name ≡ true
statements_declared creates bound made [] forms e st at name changed = absurd at
statements_declared creates bound made (x ∷ sts) forms e st at name changed =
    let a = bound_first (statement_in (schemas_of creates) bound x)
    (λ form. statements_from (schemas_of creates) form.1 (made ++ form.0 ∷ []) sts) forms e in
    by a.0 a.1 at (statements_declared creates a.0.1 (made ++ a.0.0 ∷ []) sts forms a.2 st)
  where
    by : (form : Form Known × Bound) → statement_in (schemas_of creates) bound x ≡ Ok form → In st (x ∷ sts)
        → (In st sts → (name : Name) → changes st name ≡ true → is_declared creates name ≡ true)
        → is_declared creates name ≡ true
    by form is (inl same) rest =
        statement_declared creates bound x form is name (ap (λ y. changes y name) (sym same) ∙ changed)
    by form is (inr at) rest = rest at name changed

-- a script that resolves changes declared tables alone
pub script_declared : (creates : List Create) (script : Script) (plain : Plain)
    → script_in (schemas_of creates) script ≡ Ok plain → (statement : Statement)
    → Contains script.statements statement → (name : Name) → changes statement name ≡ true
    → is_declared creates name ≡ true
script_declared creates script plain e statement c name changed =
    let a = bound_first (statements_from (schemas_of creates) none_bound [] script.statements)
    (λ made. Ok (record { statements = made; end = script.end })) plain e in
    statements_declared creates none_bound [] script.statements a.0 a.1 statement
    (contains_in script.statements statement c) name changed

-- ---- opening rows

both_before : (a b : Option FormFault) → (a before b) ≡ None → (a ≡ None) × (b ≡ None)
both_before (Some fault) b e = cc (e)
both_before None b e = (refl, e)

each_row : (tables : List TableSchema) (rows : List OpeningRow) → first_of (opening_row_fault tables) rows ≡ None
    → (row : OpeningRow) → In row rows → opening_row_fault tables row ≡ None
each_row tables [] e row at = absurd at
each_row tables (x ∷ xs) e row (inl same) =
    ap (opening_row_fault tables) same
    ∙ (both_before (opening_row_fault tables x) (first_of (opening_row_fault tables) xs) e).0
each_row tables (x ∷ xs) e row (inr at) =
    each_row tables xs (both_before (opening_row_fault tables x) (first_of (opening_row_fault tables) xs) e).1 row at

where_some : (o : Option (ℕ × TableSchema)) (fault : FormFault) (check : (ℕ × TableSchema) → Option FormFault)
    → where_there o fault check ≡ None → (x : ℕ × TableSchema) × (o ≡ Some x)
where_some (Some x) fault check e = (x, refl)
where_some None fault check e = cc (e)

-- opening rows without a fault stand in declared tables
pub rows_declared : (opening : Opening) → opening_fault opening ≡ None → (name : Name)
    → is_declared opening.tables name ≡ false → opening_database opening name ≡ set.empty
rows_declared opening e name undeclared =
    ap (λ rows. set.from_list {R = row_cmp} (map row_of rows))
    (filter_empty (λ (row : OpeningRow). same_name row.table.name name) opening.rows (λ row at.
    not_so (same_name row.table.name name) (λ same.
    clash (is_declared opening.tables name) (declared row at same) undeclared)))
  where
    declared : (row : OpeningRow) → In row opening.rows → same_name row.table.name name ≡ true
        → is_declared opening.tables name ≡ true
    declared row at same =
        let rows = (both_before (declarations_fault [] opening.tables)
        (first_of (opening_row_fault (schemas_of opening.tables)) opening.rows) e).1 in
        let none = each_row (schemas_of opening.tables) opening.rows rows row at in
        let r = where_some (table_named (schemas_of opening.tables) row.table.name) (NoTable row.table.place)
        (λ found. row_fault found.1 row) none in
        subst (λ n. is_declared opening.tables n ≡ true) (equal_names row.table.name name same)
        (found_declared 0 opening.tables row.table.name r.0 r.1)
