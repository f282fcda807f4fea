-- The fault that is answered is the first of all.
use Rattle.std.proofs.Common.{◌≡◌, ℕ, suc, Bool, true, false, not, cond, List, [], ◌∷◌, ◌++◌, length, map, Option}
use Rattle.std.proofs.Common.{Some, None}
use Rattle.std.proofs.Common.{Result, Ok, Err, refl, sym, ap, ◌∙◌}
use Rattle.std.specs.Prelude.{is_none, if◌then◌else◌, ◌==◌}
use Rattle.std.specs.List.{filter, flat_map}
use Rattle.std.proofs.lemmas.List.{append-nil, append_assoc}
use Rattle.ent_value.specs.Refusal.{◌>>=◌}
use Rattle.ent_value.specs.Value.{kind_of}
use Rattle.ent_value.specs.declared.value.Kind.{Kind}
use Rattle.ent_value.specs.declared.value.Kind.TheVariants as kinds
use Rattle.ent_value.specs.Kinds.{same_kind}
use Rattle.ent_tree.specs.declared.declaration.Create.{Create}
use Rattle.ent_tree.specs.declared.declaration.Opening.{Opening}
use Rattle.ent_tree.specs.declared.declaration.OpeningRow.{OpeningRow}
use Rattle.ent_tree.specs.declared.operand.ColumnReference.{ColumnReference}
use Rattle.ent_tree.specs.declared.operand.Expression.{Expression}
use Rattle.ent_tree.specs.declared.operand.Expression.TheVariants.{Single, Sum, Difference}
use Rattle.ent_tree.specs.declared.operand.Identifier.{Identifier}
use Rattle.ent_tree.specs.declared.operand.Literal.{Literal}
use Rattle.ent_tree.specs.declared.operand.Operand.{Operand as TreeOperand}
use Rattle.ent_tree.specs.declared.operand.Operand.TheVariants as operands
use Rattle.ent_tree.specs.declared.operand.Test.{Test}
use Rattle.ent_tree.specs.declared.operand.ValueSpecification.{ValueSpecification}
use Rattle.ent_tree.specs.declared.operand.ValueSpecification.TheVariants as specifications
use Rattle.ent_tree.specs.declared.select.Items.{Items}
use Rattle.ent_tree.specs.declared.select.Items.TheVariants as items
use Rattle.ent_tree.specs.declared.select.Select.{Select as TreeSelect}
use Rattle.ent_tree.specs.declared.select.Source.{Source}
use Rattle.ent_tree.specs.declared.statement.Assignment.{Assignment}
use Rattle.ent_tree.specs.declared.statement.Delete.{Delete}
use Rattle.ent_tree.specs.declared.statement.Insert.{Insert}
use Rattle.ent_tree.specs.declared.statement.Set.{Set}
use Rattle.ent_tree.specs.declared.statement.Update.{Update}
use Rattle.ent_semantics.specs.Database.{Name, is_among}
use Rattle.ent_semantics.specs.declared.operand.Known.{Known}
use Rattle.ent_semantics.specs.declared.operand.Known.TheVariants as known
use Rattle.ent_semantics.specs.declared.operand.Operand.{Operand}
use Rattle.ent_semantics.specs.declared.operand.Operand.TheVariants as resolved
use Rattle.ent_semantics.specs.Term.{source_name, refers_to}
use Rattle.ent_form.specs.declared.catalogue.ColumnSchema.{ColumnSchema}
use Rattle.ent_form.specs.declared.catalogue.TableSchema.{TableSchema}
use Rattle.ent_form.specs.declared.fault.FormFault.{FormFault}
use Rattle.ent_form.specs.declared.fault.FormFault.TheVariants.{NoTable, NoColumn, Arity, WrongKind, NoHostVariable}
use Rattle.ent_form.specs.declared.fault.FormFault.TheVariants.{Ambiguous, Repeated}
use Rattle.ent_form.specs.Catalogue.{schemas_of, table_named, column_named}
use Rattle.ent_form.specs.Kinds.{Bound}
use Rattle.ent_form.specs.Lookup.{Lookup, value_in, values_in, operand_place, operand_in, operands_in, kind_in, test_in}
use Rattle.ent_form.specs.Lookup.{expression_place, expression_in}
use Rattle.ent_form.specs.OpeningFault.{◌before◌, refused_where, first_of, repeated, declarations_fault}
use Rattle.ent_form.specs.OpeningFault.{literals_fault, row_fault, opening_row_fault, opening_fault}
use Rattle.ent_form.specs.Ordinary.{tests_from, tests_in, Shown, with_item, items_from, items_in, select_in}
use Rattle.ent_form.specs.Ordinary.{row_from, insert_in, delete_in, Image, own_from, assignment_in, assignments_from}
use Rattle.ent_form.specs.Ordinary.{image_in, update_in, set_in}
use Rattle.ent_form.specs.Scope.{Visible, Scope, no_source, visible, with_source, source_place, sources_from}
use Rattle.ent_form.specs.Scope.{sources_in}
use Rattle.ent_form.specs.Scope.{table_scope, referred_from, only_one, qualifier_in, column_in}
use Rattle.ent_form.specs.Steps.{there, demand}
use Rattle.ent_form.specs.AllFaults.{fault_of, head_of, faults_where, unless_any, kinds_faults, repeated_names}
use Rattle.ent_form.specs.AllFaults.{declarations_faults, literals_faults, row_faults, opening_row_faults}
use Rattle.ent_form.specs.AllFaults.{opening_faults}
use Rattle.ent_form.specs.AllFaults.{Terms, value_kind, value_faults, values, View, columns_meant, only_kind}
use Rattle.ent_form.specs.AllFaults.{meant_faults}
use Rattle.ent_form.specs.AllFaults.{qualifier_faults, reference_faults, operands_over, wanted_faults, test_faults}
use Rattle.ent_form.specs.AllFaults.{expression_faults, expression_kind, columns_there, view_of, sources_faults}
use Rattle.ent_form.specs.AllFaults.{items_faults, select_faults, values_faults, insert_faults, delete_faults}
use Rattle.ent_form.specs.AllFaults.{assignment_faults, assignments_faults, update_faults, set_faults}
use Rattle.ent_form.proofs.FaultSteps.{head_before, head_refused, head_kept, head_first, head_where_there, head_then}
use Rattle.ent_form.proofs.FaultSteps.{head_last, head_unless, head_at, head_there, head_demand, head_new}
use Rattle.ent_form.proofs.FaultSteps.{head_demanded}

-- ---- openings

repeated_head : (earlier : List Name) (identifiers : List Identifier)
    → repeated earlier identifiers ≡ head_of (repeated_names earlier identifiers)
repeated_head earlier [] = refl
repeated_head earlier (identifier ∷ more) =
    let test = is_among earlier identifier.name in
    let fault = Repeated identifier.place in
    head_before (refused_where test fault) (repeated (earlier ++ identifier.name ∷ []) more) (faults_where test fault)
    (repeated_names (earlier ++ identifier.name ∷ []) more) (head_refused test fault)
    (repeated_head (earlier ++ identifier.name ∷ []) more)

declarations_head : (earlier : List Name) (creates : List Create)
    → declarations_fault earlier creates ≡ head_of (declarations_faults earlier creates)
declarations_head earlier [] = refl
declarations_head earlier (create ∷ more) =
    let test = is_among earlier create.name.name in
    let fault = Repeated create.name.place in
    let columns = map (λ column. column.name) create.columns in
    let names = earlier ++ create.name.name ∷ [] in
    head_before (refused_where test fault) (repeated [] columns before declarations_fault names more)
    (faults_where test fault) (repeated_names [] columns ++ declarations_faults names more) (head_refused test fault)
    (head_before (repeated [] columns) (declarations_fault names more) (repeated_names [] columns)
    (declarations_faults names more) (repeated_head [] columns) (declarations_head names more))

literals_head : (columns : List ColumnSchema) (literals : List Literal)
    → literals_fault columns literals ≡ head_of (literals_faults columns literals)
literals_head [] literals = refl
literals_head (column ∷ columns) [] = refl
literals_head (column ∷ columns) (literal ∷ literals) =
    let test = same_kind column.kind (kind_of literal.value) in
    let fault = WrongKind literal.place in
    head_before (if test then None else Some fault) (literals_fault columns literals) (faults_where (not test) fault)
    (literals_faults columns literals) (head_kept test fault) (literals_head columns literals)

row_head : (table : TableSchema) (row : OpeningRow) → row_fault table row ≡ head_of (row_faults table row)
row_head table row =
    let test = length row.values == length table.columns in
    let fault = Arity row.place in
    head_before (if test then None else Some fault) (literals_fault table.columns row.values)
    (faults_where (not test) fault) (literals_faults table.columns row.values) (head_kept test fault)
    (literals_head table.columns row.values)

opening_row_head : (tables : List TableSchema) (row : OpeningRow)
    → opening_row_fault tables row ≡ head_of (opening_row_faults tables row)
opening_row_head tables row =
    head_where_there (table_named tables row.table.name) (NoTable row.table.place) (λ found. row_fault found.1 row)
    (λ found. row_faults found.1 row) (λ found. row_head found.1 row)

pub opening_head : (opening : Opening) → opening_fault opening ≡ head_of (opening_faults opening)
opening_head opening =
    let schemas = schemas_of opening.tables in
    head_before (declarations_fault [] opening.tables) (first_of (opening_row_fault schemas) opening.rows)
    (declarations_faults [] opening.tables) (flat_map (opening_row_faults schemas) opening.rows)
    (declarations_head [] opening.tables)
    (head_first (opening_row_fault schemas) (opening_row_faults schemas) (opening_row_head schemas) opening.rows)

-- ---- terms

pub one_answer : {A : Type 0} (x y : A) → ◌≡◌ {A = Result A FormFault} (Ok x) (Ok y) → x ≡ y
one_answer x y e = cc

pub found_of : {A B : Type 0} (first : Result A FormFault) (next : A → Result B FormFault) (y : B)
    → (first >>= next) ≡ Ok y → (x : A) × (first ≡ Ok x) × (next x ≡ Ok y)
found_of (Ok x) next y e = (x, refl, e)
found_of (Err fault) next y e = cc

pub there_of : {A : Type 0} (found : Option A) (fault : FormFault) (x : A) → there found fault ≡ Ok x → found ≡ Some x
there_of (Some y) fault x e = ap Some (one_answer y x e)
there_of None fault x e = cc

pub demand_of : {A : Type 0} (test : Bool) (fault : FormFault) (more : Result A FormFault) (x : A)
    → demand test fault more ≡ Ok x → more ≡ Ok x
demand_of true fault more x e = e
demand_of false fault more x e = cc

-- a look-up answers the faults of its terms, and their kinds
pub record Agrees {A B : Type 0} (lookup : Lookup A B) (terms : Terms A) : Type 0 where
  pub faults : (term : A) → fault_of (lookup.find term) ≡ head_of (terms.faults term)
  pub kind : (term : A) (found : B × Kind) → lookup.find term ≡ Ok found → terms.kind term ≡ Some found.1
  pub place : (term : A) → lookup.place term ≡ terms.place term

module _ {A B : Type 0} (lookup : Lookup A B) (terms : Terms A) (agrees : Agrees lookup terms) where
  pub wanted_head : (wanted : Kind) (term : A)
      → fault_of (kind_in lookup wanted term) ≡ head_of (wanted_faults terms wanted term)
  wanted_head wanted term =
      head_then (lookup.find term) _ (terms.faults term) _ (agrees.faults term) (λ found is.
      head_demanded (same_kind wanted found.1) (WrongKind (lookup.place term)) found.0
      ∙ (λ i. head_of (kinds_faults (Some wanted) (sym (agrees.kind term found is) i)
      (WrongKind (agrees.place term i)))))

  pub test_head : (test : Test A) → fault_of (test_in lookup test) ≡ head_of (test_faults terms test)
  unfolding test_in
  test_head test =
      head_then (lookup.find test.left) _ (terms.faults test.left) _ (agrees.faults test.left) (λ left l.
      head_then (lookup.find test.right) _ (terms.faults test.right) _ (agrees.faults test.right) (λ right r.
      head_demanded (same_kind left.1 right.1) (WrongKind (lookup.place test.right)) _
      ∙ (λ i. head_of (kinds_faults (sym (agrees.kind test.left left l) i) (sym (agrees.kind test.right right r) i)
      (WrongKind (agrees.place test.right i))))))

  pub expression_head : (expression : Expression A)
      → fault_of (expression_in lookup expression) ≡ head_of (expression_faults terms expression)
  expression_head (Single term) = head_last (lookup.find term) _ (terms.faults term) (agrees.faults term)
  expression_head (Sum left right) =
      head_then (kind_in lookup kinds.Int left) _ (wanted_faults terms kinds.Int left) _ (wanted_head kinds.Int left)
      (λ l _. head_last (kind_in lookup kinds.Int right) _ (wanted_faults terms kinds.Int right)
      (wanted_head kinds.Int right))
  expression_head (Difference left right) =
      head_then (kind_in lookup kinds.Int left) _ (wanted_faults terms kinds.Int left) _ (wanted_head kinds.Int left)
      (λ l _. head_last (kind_in lookup kinds.Int right) _ (wanted_faults terms kinds.Int right)
      (wanted_head kinds.Int right))

  pub expression_known : (expression : Expression A) (found : Expression B × Kind)
      → expression_in lookup expression ≡ Ok found → expression_kind terms expression ≡ Some found.1
  expression_known (Single term) found e =
      let w = found_of (lookup.find term) _ found e in
      agrees.kind term w.0 w.1
      ∙ ap (λ (f : Expression B × Kind). Some f.1) (one_answer (Single w.0.0, w.0.1) found w.2)
  expression_known (Sum left right) found e =
      let l = found_of (kind_in lookup kinds.Int left) _ found e in
      let r = found_of (kind_in lookup kinds.Int right) _ found l.2 in
      ap (λ (f : Expression B × Kind). Some f.1) (one_answer (Sum l.0 r.0, kinds.Int) found r.2)
  expression_known (Difference left right) found e =
      let l = found_of (kind_in lookup kinds.Int left) _ found e in
      let r = found_of (kind_in lookup kinds.Int right) _ found l.2 in
      ap (λ (f : Expression B × Kind). Some f.1) (one_answer (Difference l.0 r.0, kinds.Int) found r.2)

-- ---- values

module _ (bound : Bound) where
  pub value_head : (value : ValueSpecification) → fault_of (value_in bound value) ≡ head_of (value_faults bound value)
  value_head (specifications.Literal literal) = refl
  value_head (specifications.HostVariable variable) =
      head_there (bound variable.name) (NoHostVariable variable.place) _ [] (λ kind _. refl)
      ∙ ap head_of (append-nil (faults_where (is_none (bound variable.name)) (NoHostVariable variable.place)))

  pub value_known : (value : ValueSpecification) (found : Known × Kind) → value_in bound value ≡ Ok found
      → value_kind bound value ≡ Some found.1
  value_known (specifications.Literal literal) found e =
      ap (λ (f : Known × Kind). Some f.1) (one_answer (known.Constant literal.value, kind_of literal.value) found e)
  value_known (specifications.HostVariable variable) found e =
      let w = found_of (there (bound variable.name) (NoHostVariable variable.place)) _ found e in
      there_of (bound variable.name) (NoHostVariable variable.place) w.0 w.1
      ∙ ap (λ (f : Known × Kind). Some f.1) (one_answer (known.HostVariable variable.name, w.0) found w.2)

  pub values_agree : Agrees (values_in bound) (values bound)
  values_agree = record { faults = value_head; kind = value_known; place = λ value. refl }

-- ---- columns

-- what a scope shows
abbrev pub view_in : Scope → View
view_in scope = record { names = scope.names; columns = scope.columns }

alike_from : (columns : List Visible) (reference : ColumnReference) (first : ℕ)
    → map (λ (found : ℕ × Kind). found.1) (referred_from first columns reference)
    ≡ map (λ (column : Visible). column.kind) (filter (λ column. refers_to reference column.column) columns)
alike_from [] reference first = refl
alike_from (column ∷ columns) reference first =
    elim (refers_to reference column.column) as (λ b.
    map (λ (found : ℕ × Kind). found.1) (if b then ((first, column.kind) ∷ referred_from (suc first) columns reference)
    else referred_from (suc first) columns reference)
    ≡ map (λ (column : Visible). column.kind)
    (cond b (column ∷ filter (λ column. refers_to reference column.column) columns)
    (filter (λ column. refers_to reference column.column) columns))) [
      | true ↦ ap (λ kinds. column.kind ∷ kinds) (alike_from columns reference (suc first))
      | false ↦ alike_from columns reference (suc first)
    ]

one_head : (all : List (ℕ × Kind)) (columns : List Visible) (place : ℕ)
    → map (λ (found : ℕ × Kind). found.1) all ≡ map (λ (column : Visible). column.kind) columns
    → fault_of (only_one all place) ≡ head_of (meant_faults columns place)
one_head [] [] place e = refl
one_head [] (column ∷ columns) place e = cc
one_head (found ∷ all) [] place e = cc
one_head (found ∷ []) (column ∷ []) place e = refl
one_head (found ∷ []) (column ∷ other ∷ columns) place e = cc
one_head (found ∷ other ∷ all) (column ∷ []) place e = cc
one_head (found ∷ other ∷ all) (column ∷ second ∷ columns) place e = refl

one_known : (all : List (ℕ × Kind)) (columns : List Visible) (place : ℕ) (out : ℕ × Kind)
    → map (λ (found : ℕ × Kind). found.1) all ≡ map (λ (column : Visible). column.kind) columns
    → only_one all place ≡ Ok out → only_kind columns ≡ Some out.1
one_known [] columns place out e is = cc
one_known (found ∷ other ∷ all) columns place out e is = cc
one_known (found ∷ []) [] place out e is = cc
one_known (found ∷ []) (column ∷ []) place out e is =
    ap (λ (kind : Kind). Some kind) (first_same column.kind found.1 (sym e)) ∙ ap (λ (f : ℕ × Kind). Some f.1)
    (one_answer found out is)
  where
    first_same : (x y : Kind) → x ∷ [] ≡ y ∷ [] → x ≡ y
    first_same x y e = cc
one_known (found ∷ []) (column ∷ other ∷ columns) place out e is = cc

qualified_head : {A : Type 0} (view : View) (qualifier : Option Identifier) (more : Result A FormFault)
    (later : List FormFault)
    → fault_of more ≡ head_of later
    → fault_of (qualifier_in view.names qualifier more) ≡ head_of (unless_any (qualifier_faults view qualifier) later)
qualified_head view None more later e = e
qualified_head view (Some qualifier) more later e =
    elim (is_among view.names qualifier.name) as (λ b. fault_of (demand b (NoTable qualifier.place) more)
    ≡ head_of (unless_any (faults_where (not b) (NoTable qualifier.place)) later)) [
      | true ↦ e
      | false ↦ refl
    ]

pub unqualified : {A : Type 0} (names : List Name) (qualifier : Option Identifier) (more : Result A FormFault) (x : A)
    → qualifier_in names qualifier more ≡ Ok x → more ≡ Ok x
unqualified names (Some qualifier) more x e =
    demand_of (is_among names qualifier.name) (NoTable qualifier.place) more x e
unqualified names None more x e = e

module _ (scope : Scope) (bound : Bound) where
  reference_head : (reference : ColumnReference)
      → fault_of (column_in scope reference) ≡ head_of (reference_faults (view_in scope) reference)
  reference_head reference =
      qualified_head (view_in scope) reference.qualifier _
      (meant_faults (columns_meant (view_in scope) reference) reference.column.place)
      (one_head (referred_from 0 scope.columns reference) (columns_meant (view_in scope) reference)
      reference.column.place (alike_from scope.columns reference 0))

  operand_head : (operand : TreeOperand)
      → fault_of (operand_in scope bound operand) ≡ head_of ((operands_over (view_in scope) bound).faults operand)
  operand_head (operands.Value value) =
      head_last (value_in bound value) _ (value_faults bound value) (value_head bound value)
  operand_head (operands.Column reference) =
      head_last (column_in scope reference) _ (reference_faults (view_in scope) reference) (reference_head reference)

  pub operand_known : (operand : TreeOperand) (found : Operand Known × Kind) → operand_in scope bound operand ≡ Ok found
      → (operands_over (view_in scope) bound).kind operand ≡ Some found.1
  operand_known (operands.Value value) found e =
      let w = found_of (value_in bound value) _ found e in
      value_known bound value w.0 w.1
      ∙ ap (λ (f : Operand Known × Kind). Some f.1) (one_answer (resolved.Known w.0.0, w.0.1) found w.2)
  operand_known (operands.Column reference) found e =
      let w = found_of (column_in scope reference) _ found e in
      one_known (referred_from 0 scope.columns reference) (columns_meant (view_in scope) reference)
      reference.column.place w.0 (alike_from scope.columns reference 0)
      (unqualified scope.names reference.qualifier _ w.0 w.1)
      ∙ ap (λ (f : Operand Known × Kind). Some f.1) (one_answer (resolved.Column w.0.0, w.0.1) found w.2)

  pub operands_agree : Agrees (operands_in scope bound) (operands_over (view_in scope) bound)
  operands_agree = record { faults = operand_head; kind = operand_known; place = λ operand. refl }

  tests_head : (tests : List (Test TreeOperand)) (made : List (Test (Operand Known)))
      → fault_of (tests_from (operands_in scope bound) made tests)
      ≡ head_of (flat_map (test_faults (operands_over (view_in scope) bound)) tests)
  tests_head [] made = refl
  tests_head (test ∷ more) made =
      head_then (test_in (operands_in scope bound) test) _ (test_faults (operands_over (view_in scope) bound) test) _
      (test_head (operands_in scope bound) (operands_over (view_in scope) bound) operands_agree test)
      (λ form _. tests_head more (made ++ form ∷ []))

  pub where_head : (tests : List (Test TreeOperand))
      → fault_of (tests_in scope bound tests)
      ≡ head_of (flat_map (test_faults (operands_over (view_in scope) bound)) tests)
  unfolding tests_in
  where_head tests = tests_head tests []

  listed_head : (listed : List TreeOperand) (shown : Shown)
      → fault_of (items_from (operands_in scope bound) shown listed)
      ≡ head_of (flat_map (operands_over (view_in scope) bound).faults listed)
  listed_head [] shown = refl
  listed_head (item ∷ more) shown =
      head_then (operand_in scope bound item) _ ((operands_over (view_in scope) bound).faults item) _
      (operand_head item) (λ found _. listed_head more (with_item shown found))

  pub items_head : (all : Items)
      → fault_of (items_in scope bound all) ≡ head_of (items_faults (operands_over (view_in scope) bound) all)
  items_head items.All = refl
  items_head (items.Listed listed) = listed_head listed ([], [])

-- ---- sources

sources_head : (tables : List TableSchema) (sources : List Source) (scope : Scope)
    → fault_of (sources_from tables scope sources) ≡ head_of (sources_faults tables scope.names sources)
sources_head tables [] scope = refl
sources_head tables (source ∷ more) scope =
    let name = source_name source in
    head_there (table_named tables source.table.name) (NoTable source.table.place) _ _ (λ table _.
    head_new (is_among scope.names name) (Ambiguous (source_place source)) _
    (sources_faults tables (scope.names ++ name ∷ []) more) (sources_head tables more (with_source scope name table)))

module _ (tables : List TableSchema) where
  abbrev columns_of : Source → List Visible
  columns_of source = columns_there (source_name source) (table_named tables source.table.name)

  sources_seen : (sources : List Source) (scope out : Scope) → sources_from tables scope sources ≡ Ok out
      → (out.names ≡ scope.names ++ map source_name sources)
      × (out.columns ≡ scope.columns ++ flat_map columns_of sources)
  sources_seen [] scope out e =
      let same = one_answer scope out e in (
        ap (λ (s : Scope). s.names) (sym same) ∙ sym (append-nil scope.names),
        ap (λ (s : Scope). s.columns) (sym same) ∙ sym (append-nil scope.columns),
      )
  sources_seen (source ∷ more) scope out e =
      let name = source_name source in
      let w = found_of (there (table_named tables source.table.name) (NoTable source.table.place)) _ out e in
      let here = there_of (table_named tables source.table.name) (NoTable source.table.place) w.0 w.1 in
      let rest = sources_seen more (with_source scope name w.0) out
      (demand_of (not (is_among scope.names name)) (Ambiguous (source_place source)) _ out w.2) in (
        rest.0 ∙ append_assoc scope.names (name ∷ []) (map source_name more),
        rest.1 ∙ append_assoc scope.columns (map (visible name) w.0.1.columns) (flat_map columns_of more)
            ∙ ap (λ (there : Option (ℕ × TableSchema)). scope.columns
            ++ (columns_there name there ++ flat_map columns_of more)) (sym here),
      )

  pub view_seen : (sources : List Source) (scope : Scope) → sources_in tables sources ≡ Ok scope
      → view_in scope ≡ view_of tables sources
  view_seen sources scope e =
      let seen = sources_seen sources no_source scope e in
      λ i. record { names = seen.0 i; columns = seen.1 i }

-- ---- statements

module _ (tables : List TableSchema) (bound : Bound) where
  pub select_head : (select : TreeSelect)
      → fault_of (select_in tables bound select) ≡ head_of (select_faults tables bound select)
  unfolding select_in
  select_head select =
      head_unless (sources_in tables select.sources) _ (sources_faults tables [] select.sources) _
      (sources_head tables select.sources no_source) (λ scope is.
      head_then (tests_in scope bound select.tests) _ _ _ (where_head scope bound select.tests)
      (λ tests _. head_last (items_in scope bound select.items) _ _ (items_head scope bound select.items))
      ∙ ap (λ (view : View). head_of (flat_map (test_faults (operands_over view bound)) select.tests
      ++ items_faults (operands_over view bound) select.items)) (view_seen tables select.sources scope is))

  row_of_head : (columns : List ColumnSchema) (all : List ValueSpecification) (made : List Known)
      → fault_of (row_from bound made columns all) ≡ head_of (values_faults bound columns all)
  row_of_head [] all made = refl
  row_of_head (column ∷ columns) [] made = refl
  row_of_head (column ∷ columns) (value ∷ more) made =
      head_then (kind_in (values_in bound) column.kind value) _ (wanted_faults (values bound) column.kind value) _
      (wanted_head (values_in bound) (values bound) (values_agree bound) column.kind value)
      (λ known _. row_of_head columns more (made ++ known ∷ []))

  pub insert_head : (insert : Insert)
      → fault_of (insert_in tables bound insert) ≡ head_of (insert_faults tables bound insert)
  unfolding insert_in
  insert_head insert =
      head_at (table_named tables insert.table.name) (NoTable insert.table.place) _ _ (λ found _.
      head_demand (length insert.values == length found.1.columns) (Arity insert.place) _
      (values_faults bound found.1.columns insert.values)
      (head_last (row_from bound [] found.1.columns insert.values) _ _
      (row_of_head found.1.columns insert.values [])))

  pub delete_head : (delete : Delete)
      → fault_of (delete_in tables bound delete) ≡ head_of (delete_faults tables bound delete)
  unfolding delete_in
  delete_head delete =
      head_at (table_named tables delete.table.name) (NoTable delete.table.place) _ _ (λ found _.
      head_last (tests_in (table_scope delete.table.name found) bound delete.tests) _ _
      (where_head (table_scope delete.table.name found) bound delete.tests))

  assignment_head : (scope : Scope) (columns : List ColumnSchema) (earlier : List Name) (image : Image)
      → (assignment : Assignment)
      → fault_of (assignment_in scope bound columns earlier image assignment)
      ≡ head_of (assignment_faults (operands_over (view_in scope) bound) columns earlier assignment)
  unfolding assignment_in
  assignment_head scope columns earlier image assignment =
      let terms = operands_over (view_in scope) bound in
      let agrees = operands_agree scope bound in
      let place = expression_place operand_place assignment.expression in
      head_at (column_named columns assignment.column.name) (NoColumn assignment.column.place) _ _ (λ column _.
      head_new (is_among earlier assignment.column.name) (Repeated assignment.column.place) _ _
      (head_then (expression_in (operands_in scope bound) assignment.expression) _
      (expression_faults terms assignment.expression) _
      (expression_head (operands_in scope bound) terms agrees assignment.expression) (λ found is.
      head_demanded (same_kind column.1 found.1) (WrongKind place) _
      ∙ ap (λ (kind : Option Kind). head_of (kinds_faults (Some column.1) kind (WrongKind place)))
      (sym (expression_known (operands_in scope bound) terms agrees assignment.expression found is)))))

  assignments_head : (scope : Scope) (columns : List ColumnSchema) (assignments : List Assignment)
      → (earlier : List Name) (image : Image)
      → fault_of (assignments_from scope bound columns earlier image assignments)
      ≡ head_of (assignments_faults (operands_over (view_in scope) bound) columns earlier assignments)
  assignments_head scope columns [] earlier image = refl
  assignments_head scope columns (assignment ∷ more) earlier image =
      head_then (assignment_in scope bound columns earlier image assignment) _ _ _
      (assignment_head scope columns earlier image assignment)
      (λ image _. assignments_head scope columns more (earlier ++ assignment.column.name ∷ []) image)

  pub update_head : (update : Update)
      → fault_of (update_in tables bound update) ≡ head_of (update_faults tables bound update)
  unfolding update_in image_in
  update_head update =
      head_at (table_named tables update.table.name) (NoTable update.table.place) _ _ (λ found _.
      let scope = table_scope update.table.name found in
      head_then (tests_in scope bound update.tests) _ _ _ (where_head scope bound update.tests) (λ tests _.
      head_last (image_in scope bound found.1.columns update.assignments) _ _
      (assignments_head scope found.1.columns update.assignments [] (own_from 0 found.1.columns))))

pub set_head : (bound : Bound) (set : Set) → fault_of (set_in bound set) ≡ head_of (set_faults bound set)
unfolding set_in
set_head bound set =
    head_last (expression_in (values_in bound) set.expression) _ _
    (expression_head (values_in bound) (values bound) (values_agree bound) set.expression)
