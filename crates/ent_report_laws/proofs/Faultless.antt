-- An opening that a report tells has no fault of form.
use Rattle.std.proofs.Common.{◌≡◌, ◌≢◌, ℕ, suc, Bool, false, cond, ◌==◌, List, [], ◌∷◌, ◌++◌, map, length}
use Rattle.std.proofs.Common.{refl, sym, ap, ◌∙◌, inl, inr, Option, Some, None}
use Rattle.std.specs.List.{AllByRecursion}
use Rattle.std.proofs.lemmas.List.{length-map}
use Rattle.ent_form.proofs.ResolvedSteps.{both_nothing}
use Rattle.ent_value.specs.Value.{kind_of, kinds_of}
use Rattle.ent_value.specs.declared.value.Kind.{Kind}
use Rattle.ent_tree.specs.declared.declaration.Column.{Column}
use Rattle.ent_tree.specs.declared.declaration.Create.{Create}
use Rattle.ent_tree.specs.declared.declaration.Opening.{Opening}
use Rattle.ent_tree.specs.declared.declaration.OpeningRow.{OpeningRow}
use Rattle.ent_tree.specs.declared.operand.Identifier.{Identifier}
use Rattle.ent_tree.specs.declared.operand.Literal.{Literal}
use Rattle.ent_semantics.specs.Names.{equal_names, name_itself}
use Rattle.ent_form.specs.OpeningFault.{◌before◌, declarations_fault, first_of, literals_fault, opening_fault}
use Rattle.ent_form.specs.OpeningFault.{opening_row_fault, refused_where, repeated, row_fault, where_there}
use Rattle.ent_form.specs.declared.catalogue.TableSchema.{TableSchema}
use Rattle.ent_form.specs.declared.fault.FormFault.{FormFault}
use Rattle.ent_form.specs.declared.fault.FormFault.TheVariants.{Arity, NoTable, Repeated, WrongKind}
use Rattle.ent_history.specs.Opening.{IsDeclaration}
use Rattle.ent_lists.specs.Elements.{In, Pairs, any_some, clash, in_either, index_pairs, not_so, number_itself, of_all}
use Rattle.ent_lists.specs.Elements.{pairs_mapped}
use Rattle.ent_value.specs.Kinds.{kind_itself, same_kind}
use Rattle.ent_semantics.specs.Database.{Name, row_of, same_name, is_among}
use Rattle.ent_form.specs.Catalogue.{column_schema, schemas_of, table_from, table_schema}
use Rattle.ent_report_laws.proofs.Opened.{Before, IsOpened, IsRowOf, other_name}

not_refused : (test : Bool) (fault : FormFault) → test ≡ false → refused_where test fault ≡ None
not_refused test fault e = ap (λ (b : Bool). refused_where b fault) e

-- ---- names

-- names that are none of these
abbrev AreOthers : List Name → List Name → Type 0
AreOthers names earlier =
    (name : Name) → In name names → (other : Name) → In other earlier → same_name other name ≡ false

abbrev ArePairwiseOthers : List Name → Type 0
ArePairwiseOthers = Pairs (λ first second. same_name first second ≡ false)

pub not_among : (earlier : List Name) (name : Name) → ((other : Name) → In other earlier → same_name other name ≡ false)
    → is_among earlier name ≡ false
not_among earlier name others =
    not_so (is_among earlier name) (λ is.
    let found = any_some (λ other. same_name other name) earlier is in
    clash (same_name found.0 name) found.2 (others found.0 found.1))

-- those behind the first are others than it and those before
others_behind : (names earlier : List Name) (name : Name) → AreOthers (name ∷ names) earlier
    → ArePairwiseOthers (name ∷ names) → AreOthers names (earlier ++ name ∷ [])
others_behind names earlier name others apart next at other there =
    elim (in_either earlier (name ∷ []) other there) [
      | inl early ↦ others next (inr at) other early
      | inr last ↦ elim last [
        | inl same ↦ ap (λ (n : Name). same_name n next) same
            ∙ of_all (λ n. same_name name n ≡ false) names next apart.0 at
        | inr none ↦ absurd none
      ]
    ]

abbrev identifier_names : List Identifier → List Name
identifier_names = map (λ identifier. identifier.name)

none_repeated : (earlier : List Name) (identifiers : List Identifier)
    → AreOthers (identifier_names identifiers) earlier → ArePairwiseOthers (identifier_names identifiers)
    → repeated earlier identifiers ≡ None
none_repeated earlier [] others apart = refl
none_repeated earlier (identifier ∷ more) others apart =
    both_nothing (refused_where (is_among earlier identifier.name) (Repeated identifier.place))
    (repeated (earlier ++ identifier.name ∷ []) more)
    (not_refused (is_among earlier identifier.name) (Repeated identifier.place)
    (not_among earlier identifier.name (others identifier.name (inl refl))))
    (none_repeated (earlier ++ identifier.name ∷ []) more
    (others_behind (identifier_names more) earlier identifier.name others apart) apart.1)

columns_apart : (create : Create) → IsDeclaration create
    → ArePairwiseOthers (identifier_names (map (λ column. column.name) create.columns))
columns_apart create declaration =
    pairs_mapped (λ identifier. identifier.name)
    (λ (first second : Identifier). same_name first.name second.name ≡ false)
    (λ first second. same_name first second ≡ false) (map (λ column. column.name) create.columns)
    (pairs_mapped (λ column. column.name) (λ (first second : Column). first.name.name ≢ second.name.name)
    (λ (first second : Identifier). same_name first.name second.name ≡ false) create.columns
    (index_pairs (λ (first second : Column). first.name.name ≢ second.name.name) create.columns declaration.distinct)
    (λ first second differ.
    not_so (same_name first.name.name second.name.name) (λ is.
    differ (equal_names first.name.name second.name.name is))))
    (λ first second is. is)

none_declared_again : (earlier : List Name) (tables : List Create)
    → AreOthers (map (λ create. create.name.name) tables) earlier
    → ArePairwiseOthers (map (λ create. create.name.name) tables) → AllByRecursion IsDeclaration tables
    → declarations_fault earlier tables ≡ None
none_declared_again earlier [] others apart declarations = refl
none_declared_again earlier (create ∷ more) others apart declarations =
    both_nothing (refused_where (is_among earlier create.name.name) (Repeated create.name.place))
    (repeated [] (map (λ column. column.name) create.columns)
    before declarations_fault (earlier ++ create.name.name ∷ []) more)
    (not_refused (is_among earlier create.name.name) (Repeated create.name.place)
    (not_among earlier create.name.name (others create.name.name (inl refl))))
    (both_nothing (repeated [] (map (λ column. column.name) create.columns))
    (declarations_fault (earlier ++ create.name.name ∷ []) more)
    (none_repeated [] (map (λ column. column.name) create.columns) (λ name at other there. absurd there)
    (columns_apart create declarations.0))
    (none_declared_again (earlier ++ create.name.name ∷ []) more
    (others_behind (map (λ create. create.name.name) more) earlier create.name.name others apart) apart.1
    declarations.1))

tables_apart : (tables : List Create) → Pairs Before tables
    → ArePairwiseOthers (map (λ create. create.name.name) tables)
tables_apart tables apart =
    pairs_mapped (λ create. create.name.name) Before (λ first second. same_name first second ≡ false) tables apart
    (λ first second is. other_name first second is)

-- ---- rows

find_table : (number : ℕ) (tables : List Create) (create : Create) → In create tables → Pairs Before tables
    → (k : ℕ) × (table_from number (schemas_of tables) create.name.name ≡ Some (k, table_schema create))
find_table number [] create at apart = absurd at
find_table number (table ∷ tables) create (inl same) apart = (
  number,
  ap
      (λ (b : Bool). cond b (Some (number, table_schema table))
      (table_from (suc number) (schemas_of tables) create.name.name))
      (ap (λ (c : Create). same_name table.name.name c.name.name) same ∙ name_itself table.name.name)
      ∙ ap (λ (c : Create). Some (number, table_schema c)) (sym same),
)
find_table number (table ∷ tables) create (inr at) apart =
    let rest = find_table (suc number) tables create at apart.1 in (
      rest.0,
      ap
          (λ (b : Bool). cond b (Some (number, table_schema table))
          (table_from (suc number) (schemas_of tables) create.name.name))
          (other_name table create (of_all (Before table) tables create apart.0 at))
          ∙ rest.1,
    )

first_kind : {kind other : Kind} {kinds others : List Kind} → kind ∷ kinds ≡ other ∷ others → kind ≡ other
first_kind e = cc

later_kinds : {kind other : Kind} {kinds others : List Kind} → kind ∷ kinds ≡ other ∷ others → kinds ≡ others
later_kinds e = cc

none_wrong : (columns : List Column) (literals : List Literal)
    → kinds_of (map (λ literal. literal.value) literals) ≡ map (λ column. column.kind) columns
    → literals_fault (map column_schema columns) literals ≡ None
none_wrong [] literals e = refl
none_wrong (column ∷ columns) [] e = refl
none_wrong (column ∷ columns) (literal ∷ literals) e =
    both_nothing (cond (same_kind column.kind (kind_of literal.value)) None (Some (WrongKind literal.place)))
    (literals_fault (map column_schema columns) literals)
    (ap (λ (b : Bool). cond b None (Some (WrongKind literal.place)))
    (ap (λ (kind : Kind). same_kind column.kind kind) (first_kind e) ∙ kind_itself column.kind))
    (none_wrong columns literals (later_kinds e))

row_faultless : (create : Create) (row : OpeningRow)
    → kinds_of (row_of row) ≡ map (λ column. column.kind) create.columns → row_fault (table_schema create) row ≡ None
row_faultless create row kinds =
    both_nothing (cond (length row.values == length (map column_schema create.columns)) None (Some (Arity row.place)))
    (literals_fault (map column_schema create.columns) row.values)
    (ap (λ (b : Bool). cond b None (Some (Arity row.place)))
    (ap (λ (n : ℕ). n == length (map column_schema create.columns)) counts
    ∙ number_itself (length (map column_schema create.columns))))
    (none_wrong create.columns row.values kinds)
  where
    counts : length row.values ≡ length (map column_schema create.columns)
    counts =
        sym (length-map row.values (λ (literal : Literal). literal.value))
        ∙ sym (length-map (row_of row) kind_of)
        ∙ ap length kinds
        ∙ length-map create.columns (λ (column : Column). column.kind)
        ∙ sym (length-map create.columns column_schema)

opening_row_faultless : (tables : List Create) (row : OpeningRow) → Pairs Before tables → IsRowOf tables row
    → opening_row_fault (schemas_of tables) row ≡ None
opening_row_faultless tables row apart there =
    let found = find_table 0 tables there.0 there.1 apart in
    ap
    (λ (o : Option (ℕ × TableSchema)). where_there o (NoTable row.table.place) (λ found. row_fault found.1 row))
    (ap (table_from 0 (schemas_of tables)) there.2 ∙ found.1)
    ∙ row_faultless there.0 row there.3

rows_faultless : (tables : List Create) (rows : List OpeningRow) → Pairs Before tables
    → AllByRecursion (IsRowOf tables) rows → first_of (opening_row_fault (schemas_of tables)) rows ≡ None
rows_faultless tables [] apart there = refl
rows_faultless tables (row ∷ rows) apart there =
    both_nothing (opening_row_fault (schemas_of tables) row) (first_of (opening_row_fault (schemas_of tables)) rows)
    (opening_row_faultless tables row apart there.0) (rows_faultless tables rows apart there.1)

pub opening_faultless : (opening : Opening) → IsOpened opening → opening_fault opening ≡ None
opening_faultless opening opened =
    both_nothing (declarations_fault [] opening.tables)
    (first_of (opening_row_fault (schemas_of opening.tables)) opening.rows)
    (none_declared_again [] opening.tables (λ name at other there. absurd there)
    (tables_apart opening.tables opened.apart) opened.declarations)
    (rows_faultless opening.tables opening.rows opened.apart opened.rows)
