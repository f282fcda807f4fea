-- Rows of the kinds of their columns are put in without a fault.
use Rattle.std.proofs.Common.{◌≡◌, ℕ, suc, ◌==◌, Bool, true, false, ◌||◌, List, [], ◌∷◌, ◌++◌, length, map, Some, None}
use Rattle.std.proofs.Common.{refl, sym, ap, subst, ◌∙◌, inl, inr}
use Rattle.std.specs.Prelude.{if◌then◌else◌}
use Rattle.std.specs.List.{AllByRecursion, list_any}
use Rattle.std.proofs.lemmas.List.{length-map}
use Rattle.ent_lists.specs.Sets as set
use Rattle.ent_value.specs.Value.{kind_of, kinds_of}
use Rattle.ent_value.specs.declared.value.Value.{Value}
use Rattle.ent_tree.specs.declared.declaration.Create.{Create}
use Rattle.ent_tree.specs.declared.declaration.Opening.{Opening}
use Rattle.ent_tree.specs.declared.operand.Identifier.{Identifier}
use Rattle.ent_semantics.specs.Database.{Database, Name, same_name}
use Rattle.ent_semantics.specs.Kinds.{RowsHaveKinds}
use Rattle.ent_semantics.specs.Names.{equal_names, name_itself}
use Rattle.ent_form.specs.Catalogue.{schemas_of, table_from, table_schema}
use Rattle.ent_form.specs.OpeningFault.{Check, ◌before◌, declarations_fault, first_of, literals_fault}
use Rattle.ent_form.specs.OpeningFault.{opening_fault, opening_row_fault, row_fault, where_there}
use Rattle.ent_form.specs.declared.catalogue.ColumnSchema.{ColumnSchema}
use Rattle.ent_form.specs.declared.catalogue.TableSchema.{TableSchema}
use Rattle.ent_form.specs.declared.fault.FormFault.TheVariants.{Arity, NoTable, WrongKind}
use Rattle.ent_form.specs.TableKinds.{column_kinds}
use Rattle.ent_form.proofs.ResolvedSteps.{both_nothing}
use Rattle.ent_lists.specs.Elements.{In, all_index, any_in, number_itself}
use Rattle.ent_value.specs.Kinds.{kind_itself, same_kind}
use Rattle.ent_semantics.proofs.EachRow.{to_ascending}
use Rattle.ent_renewal.specs.Renewal.{HoldsTablesOf, IsRenewed}
use Rattle.ent_renewal.specs.Rows.{literal_of, opening_row, opening_rows, table_rows}
use Rattle.ent_renewal.proofs.Again.{same_tables}

-- ---- checks that find nothing

none_joined : {A : Type 0} (check : A → Check) (xs ys : List A) → first_of check xs ≡ None → first_of check ys ≡ None
    → first_of check (xs ++ ys) ≡ None
none_joined check [] ys first rest = rest
none_joined check (x ∷ xs) ys first rest = by (check x) (first_of check xs) first (none_joined check xs ys)
  where
    by : (here later : Check) → (here before later) ≡ None
        → (later ≡ None → first_of check ys ≡ None → first_of check (xs ++ ys) ≡ None)
        → (here before first_of check (xs ++ ys)) ≡ None
    by None later e more = more e rest
    by (Some fault) later e more = cc

none_mapped : {A B : Type 0} (check : A → Check) (f : B → A) (xs : List B)
    → AllByRecursion (λ x. check (f x) ≡ None) xs → first_of check (map f xs) ≡ None
none_mapped check f [] all = refl
none_mapped check f (x ∷ xs) all =
    both_nothing (check (f x)) (first_of check (map f xs)) all.0 (none_mapped check f xs all.1)

-- ---- a row

literals_formed : (columns : List ColumnSchema) (row : List Value)
    → kinds_of row ≡ map (λ column. column.kind) columns
    → literals_fault columns (map literal_of row) ≡ None
literals_formed [] row e = refl
literals_formed (column ∷ columns) [] e = refl
literals_formed (column ∷ columns) (value ∷ row) e =
    let here : kind_of value ≡ column.kind = cc in
    let rest : kinds_of row ≡ map (λ (column : ColumnSchema). column.kind) columns = cc in
    let same : same_kind column.kind (kind_of value) ≡ true =
    ap (same_kind column.kind) here ∙ kind_itself column.kind in
    both_nothing (if same_kind column.kind (kind_of value) then None else Some (WrongKind 0))
    (literals_fault columns (map literal_of row))
    (ap (λ (b : Bool). if b then None else Some (WrongKind 0)) same) (literals_formed columns row rest)

row_formed : (table : TableSchema) (name : Identifier) (row : List Value) → kinds_of row ≡ column_kinds table
    → row_fault table (opening_row name row) ≡ None
row_formed table name row e =
    let long : length (map literal_of row) ≡ length table.columns =
    length-map row literal_of ∙ sym (length-map row kind_of) ∙ ap length e
    ∙ length-map table.columns (λ (column : ColumnSchema). column.kind) in
    both_nothing (if length (map literal_of row) == length table.columns then None else Some (Arity 0))
    (literals_fault table.columns (map literal_of row))
    (ap (λ (b : Bool). if b then None else Some (Arity 0))
    (ap (λ (n : ℕ). n == length table.columns) long ∙ number_itself (length table.columns)))
    (literals_formed table.columns row e)

-- ---- the rows of declared tables

module _ (database : Database) where
  abbrev IsKinded : Create → Type 0
  IsKinded create = RowsHaveKinds (column_kinds (table_schema create)) (database create.name.name)

  -- a table that is found, whose rows have the kinds of its columns
  abbrev IsFound : ℕ → List Create → Name → Type 0
  IsFound n declared name =
      (found : ℕ × TableSchema) × (table_from n (schemas_of declared) name ≡ Some found)
      × RowsHaveKinds (column_kinds found.1) (database name)

  found : (n : ℕ) (declared : List Create) (name : Name) → AllByRecursion IsKinded declared
      → list_any (λ create. same_name create.name.name name) declared ≡ true → IsFound n declared name
  found n [] name all e = cc
  found n (create ∷ more) name all e = by (same_name create.name.name name) refl e (found (suc n) more name all.1)
    where
      by : (b : Bool) → same_name create.name.name name ≡ b
          → (b || list_any (λ create. same_name create.name.name name) more) ≡ true
          → (list_any (λ create. same_name create.name.name name) more ≡ true → IsFound (suc n) more name)
          → (found : ℕ × TableSchema)
          × ((if b then Some (n, table_schema create) else table_from (suc n) (schemas_of more) name) ≡ Some found)
          × RowsHaveKinds (column_kinds found.1) (database name)
      by true same e rest = (
        (n, table_schema create),
        refl,
        subst (λ (n : Name). RowsHaveKinds (column_kinds (table_schema create)) (database n))
            (equal_names create.name.name name same) all.0,
      )
      by false same e rest = rest e

  module _ (declared : List Create) (all : AllByRecursion IsKinded declared) where
    table_formed : (create : Create) → In create declared
        → first_of (opening_row_fault (schemas_of declared)) (table_rows database create) ≡ None
    table_formed create at =
        let name = create.name.name in
        let own = found 0 declared name all
        (any_in (λ (c : Create). same_name c.name.name name) declared create at (name_itself name)) in
        none_mapped (opening_row_fault (schemas_of declared)) (opening_row create.name) (set.ascending (database name))
        (to_ascending
        (λ row. opening_row_fault (schemas_of declared) (opening_row create.name row) ≡ None) (database name)
        (λ row there.
        ap (λ found. where_there found (NoTable create.name.place)
        (λ (found : ℕ × TableSchema). row_fault found.1 (opening_row create.name row))) own.1
        ∙ row_formed own.0.1 create.name row (own.2 row there)))

    rows_formed : (some : List Create) → ((create : Create) → In create some → In create declared)
        → first_of (opening_row_fault (schemas_of declared)) (opening_rows some database) ≡ None
    rows_formed [] among = refl
    rows_formed (create ∷ more) among =
        none_joined (opening_row_fault (schemas_of declared)) (table_rows database create) (opening_rows more database)
        (table_formed create (among create (inl refl))) (rows_formed more (λ other at. among other (inr at)))

-- ---- the opening

pub renewed : (declared : List Create) (database : Database) (opening : Opening)
    → declarations_fault [] declared ≡ None → HoldsTablesOf declared database
    → opening.tables ≡ declared → opening.rows ≡ opening_rows declared database
    → IsRenewed declared database opening
renewed declared database opening once holds tables rows =
    let all = all_index (IsKinded database) declared holds.kinds in
    let made : Opening = record { tables = declared; rows = opening_rows declared database } in
    let same : made ≡ opening = λ i. record { tables = sym tables i; rows = sym rows i } in
    let formed : opening_fault made ≡ None =
    both_nothing (declarations_fault [] declared)
    (first_of (opening_row_fault (schemas_of declared)) (opening_rows declared database)) once
    (rows_formed database declared all declared (λ create at. at)) in
    let is : IsRenewed declared database made =
    record {
      declarations = refl;
      tables = λ i name. same_tables database name declared holds i;
      formed = formed;
    } in
    subst (IsRenewed declared database) same is
