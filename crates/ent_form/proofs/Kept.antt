-- What a statement leaves in tables has the kinds of their columns.
use Rattle.std.proofs.Common.{◌≡◌, ℕ, ◌<◌, Bool, true, false, not, List, [], ◌∷◌, length, map, Option, Some}
use Rattle.std.proofs.Common.{None, Result, Ok, Err, refl, sym, ap, subst, ◌∙◌}
use Rattle.std.specs.Prelude.{◌+ℤ◌, ◌-ℤ◌, is_some, nat_le, slice_get, slice_index_or, slice_set, IfOk, if◌then◌else◌}
use Rattle.std.specs.List.{AllByRecursion, list_all, filter_map, cons_option}
use Rattle.std.specs.Option.{option_map, option_and_then}
use Rattle.std.proofs.lemmas.Option.{get_or_from_slice_get, slice_get-map, same_Some}
use Rattle.ent_lists.specs.Sets as set
use Rattle.ent_value.specs.Value.{kind_of, kinds_of}
use Rattle.ent_value.specs.declared.limits.TheConstants.{MOST_ROWS}
use Rattle.ent_value.specs.declared.value.Kind.{Kind}
use Rattle.ent_value.specs.declared.value.Kind.TheVariants.{Int}
use Rattle.ent_value.specs.declared.value.Value.{Value}
use Rattle.ent_tree.specs.declared.operand.Expression.{Expression}
use Rattle.ent_tree.specs.declared.operand.Expression.TheVariants.{Single, Sum, Difference}
use Rattle.ent_semantics.specs.Closing.{closed, expression_over, operand_over}
use Rattle.ent_semantics.specs.Form.{Tables, known_worth, operand_worth, table_numbered, form_meaning}
use Rattle.ent_semantics.specs.declared.operand.Known.{Known}
use Rattle.ent_semantics.specs.declared.operand.Operand.{Operand}
use Rattle.ent_semantics.specs.declared.operand.Operand.TheVariants as operands
use Rattle.ent_semantics.specs.declared.statement.Statement.{Statement}
use Rattle.ent_semantics.specs.declared.statement.Statement.TheVariants as statements
use Rattle.ent_semantics.specs.declared.answer.Answer.TheVariants as answers
use Rattle.ent_semantics.specs.declared.answer.Failure.{Failure}
use Rattle.ent_semantics.specs.declared.answer.Failure.TheVariants.{TableFull}
use Rattle.ent_semantics.specs.Change.{all_there, matched, unmatched, updated}
use Rattle.ent_semantics.specs.Database.{Rows, Environment, with_value}
use Rattle.ent_semantics.specs.Effect.{Effect, Meaning, changed, or_overflow}
use Rattle.ent_semantics.specs.Entangled.{Valuation}
use Rattle.ent_semantics.specs.Kinds.{RowsHaveKinds}
use Rattle.ent_semantics.specs.Selection.{meets}
use Rattle.ent_semantics.specs.Term.{no_value, number_of, expression_value}
use Rattle.ent_semantics.proofs.NumberKinds.{number_kind}
use Rattle.ent_semantics.proofs.EachRow.{to_ascending, each_inserted, each_all_inserted, each_retained}
use Rattle.ent_semantics.proofs.ItemKinds.{HaveKinds}
use Rattle.ent_form.specs.declared.catalogue.TableSchema.{TableSchema}
use Rattle.ent_semantics.specs.FormKinds.{operand_kind, expression_kind, KeepsKinds, Fits, tables_named}
use Rattle.ent_form.specs.TableKinds.{kinds_numbered, AreDeclared, AreKinded}
use Rattle.ent_form.proofs.Found.{kinded_at, kinded_with}

-- ---- images

one_kind : (x y : Kind) → Some x ≡ Some y → x ≡ y
one_kind x y e = cc

same_heads : {A : Type 0} (x y : A) (xs ys : List A) → x ∷ xs ≡ y ∷ ys → (x ≡ y) × (xs ≡ ys)
same_heads x y xs ys e = (cc, cc)

-- over a row of these kinds an operand's value is of its kind
module _ (worth : Known → Value) (kinds : List Kind) (row : List Value) (have : kinds_of row ≡ kinds) where
  pub operand_value_kind : (operand : Operand Known) (kind : Kind)
      → operand_kind kinds (operand_over worth operand) ≡ Some kind → kind_of (operand_worth worth row operand) ≡ kind
  operand_value_kind (operands.Known k) kind e = one_kind (kind_of (worth k)) kind e
  operand_value_kind (operands.Column number) kind e =
      there (slice_get row number) refl (sym (slice_get-map kind_of row number)
      ∙ ap (λ (kinds : List Kind). slice_get kinds number) have ∙ e)
    where
      there : (at : Option Value) → slice_get row number ≡ at → option_map kind_of at ≡ Some kind
          → kind_of (slice_index_or row number no_value) ≡ kind
      there None is e = cc
      there (Some value) is e =
          ap kind_of (get_or_from_slice_get row number value no_value is) ∙ one_kind (kind_of value) kind e

  expression_value_kind : (expression : Expression (Operand Known)) (kind : Kind) (value : Value)
      → expression_kind (operand_kind kinds) (expression_over (operand_over worth) expression) ≡ Some kind
      → expression_value (operand_worth worth row) expression ≡ Some value → kind_of value ≡ kind
  expression_value_kind (Single term) kind value e is =
      sym (ap kind_of (same_Some (operand_worth worth row term) value is)) ∙ operand_value_kind term kind e
  expression_value_kind (Sum left right) kind value e is =
      number_kind (number_of (operand_worth worth row left) +ℤ number_of (operand_worth worth row right)) value is
      ∙ one_kind Int kind e
  expression_value_kind (Difference left right) kind value e is =
      number_kind (number_of (operand_worth worth row left) -ℤ number_of (operand_worth worth row right)) value is
      ∙ one_kind Int kind e

  image_kinds : (image : List (Expression (Operand Known))) (wanted : List Kind) (values : List Value)
      → map (expression_kind (operand_kind kinds)) (map (expression_over (operand_over worth)) image) ≡ map Some wanted
      → all_there (map (expression_value (operand_worth worth row)) image) ≡ Some values → kinds_of values ≡ wanted
  image_kinds [] [] values e is = sym (ap kinds_of (one_list [] values is))
    where
      one_list : (x y : List Value) → Some x ≡ Some y → x ≡ y
      one_list x y e = cc
  image_kinds [] (kind ∷ wanted) values e is = cc
  image_kinds (expression ∷ image) [] values e is = cc
  image_kinds (expression ∷ image) (kind ∷ wanted) values e is =
      let both = same_heads _ (Some kind) _ (map Some wanted) e in
      parts (expression_value (operand_worth worth row) expression) refl
      (all_there (map (expression_value (operand_worth worth row)) image)) both.0
      (λ others later. image_kinds image wanted others both.1 later) is
    where
      one_list : (x y : List Value) → Some x ≡ Some y → x ≡ y
      one_list x y e = cc

      parts : (first : Option Value) → expression_value (operand_worth worth row) expression ≡ first
          → (more : Option (List Value))
          → expression_kind (operand_kind kinds) (expression_over (operand_over worth) expression) ≡ Some kind
          → ((others : List Value) → more ≡ Some others → kinds_of others ≡ wanted)
          → option_and_then (λ value. option_map (λ values. value ∷ values) more) first ≡ Some values
          → kinds_of values ≡ kind ∷ wanted
      parts None here more e rest is = cc
      parts (Some value) here None e rest is = cc
      parts (Some value) here (Some others) e rest is =
          sym (ap kinds_of (one_list (value ∷ others) values is))
          ∙ (λ i. expression_value_kind expression kind value e here i ∷ rest others refl i)

-- ---- rows of one table

module _ (worth : Known → Value) (kinds : List Kind) (image : List (Expression (Operand Known)))
    (keeps : KeepsKinds kinds (map (expression_over (operand_over worth)) image)) where
  abbrev image_of : List Value → Option (List Value)
  image_of row = all_there (map (expression_value (operand_worth worth row)) image)

  images_kinds : (rows : List (List Value)) → AllByRecursion (HaveKinds kinds) rows
      → AllByRecursion (HaveKinds kinds) (filter_map image_of rows)
  images_kinds [] h = tt
  images_kinds (row ∷ rows) h =
      let rest = images_kinds rows h.1 in
      elim (image_of row) as (λ there. image_of row ≡ there
      → AllByRecursion (HaveKinds kinds) (cons_option there (filter_map image_of rows))) [
        | None ↦ λ _. rest
        | Some values ↦ λ is. (image_kinds worth kinds row h.0 image kinds values keeps is, rest)
      ] refl

  chosen : (enough : Bool) (rows after : Rows) → RowsHaveKinds kinds rows
      → (if enough then Some rows else None) ≡ Some after → RowsHaveKinds kinds after
  chosen true rows after h e = let same : rows ≡ after = cc in subst (RowsHaveKinds kinds) same h
  chosen false rows after h e = cc

  updated_kinds : (matches : List Value → Bool) (rows after : Rows) → RowsHaveKinds kinds rows
      → updated matches image_of rows ≡ Some after → RowsHaveKinds kinds after
  updated_kinds matches rows after h e =
      let old = set.ascending (matched matches rows) in
      let left = unmatched matches rows in
      let images = filter_map image_of old in
      let fit = images_kinds old (to_ascending (HaveKinds kinds) (matched matches rows)
      (each_retained (HaveKinds kinds) rows matches h)) in
      chosen (list_all (λ row. is_some (image_of row)) old) (set.insert_all left images) after
      (each_all_inserted (HaveKinds kinds) left images
      (each_retained (HaveKinds kinds) rows (λ row. not (matches row)) h) fit) e

-- ---- tables

-- what goes on with what is there
pub over_overflow : {A : Type 0} (there : Option A) (more : A → Meaning Tables) (tables : Tables)
    (environment : Environment)
    → (P : Effect Tables → Type 0) → ((x : A) → there ≡ Some x → IfOk (more x tables environment) P)
    → IfOk (or_overflow there more tables environment) P
over_overflow None more tables environment P h = tt
over_overflow (Some x) more tables environment P h = h x refl

module _ (schemas : List TableSchema) (tables : Tables) (environment : Environment) (kinded : AreKinded schemas tables)
  where
    abbrev Keeps : Effect Tables → Type 0
    Keeps effect = AreKinded schemas effect.database

    changed_kept : (number count : ℕ) (rows : Rows) → number < length schemas
        → RowsHaveKinds (kinds_numbered schemas number) rows
        → IfOk (changed (table_numbered number) count rows tables environment) Keeps
    changed_kept number count rows below h =
        elim (nat_le (set.len rows) MOST_ROWS) as (λ b. IfOk (pick b) Keeps) [
          | true ↦ kinded_with schemas tables number rows kinded below h
          | false ↦ tt
        ]
      where
        pick : Bool → Result (Effect Tables) Failure
        pick b =
            let left = slice_set tables number rows in
            if b
            then Ok (record { database = left; environment = environment; answer = answers.Count count })
            else Err TableFull

    -- an ordinary form that fits its tables
    abbrev pub FitsIfOrdinary : Statement Known → Type 0
    FitsIfOrdinary (statements.Entangled entangled) = Unit {0}
    FitsIfOrdinary (statements.Select select) = Unit {0}
    FitsIfOrdinary (statements.Set variable expression) = Unit {0}
    FitsIfOrdinary (statements.Insert table values) =
        kinds_numbered schemas table ≡ kinds_of (map (known_worth environment) values)
    FitsIfOrdinary (statements.Delete table tests) = Unit {0}
    FitsIfOrdinary (statements.Update table image tests) =
        KeepsKinds (kinds_numbered schemas table) (map (expression_over (operand_over (known_worth environment))) image)

    pub tables_kept : (form : Statement Known) (valuation : Valuation) → AreDeclared schemas (tables_named form)
        → FitsIfOrdinary form → IfOk (form_meaning known_worth form valuation tables environment) Keeps
    tables_kept (statements.Select select) valuation below fits = kinded
    tables_kept (statements.Entangled entangled) valuation below fits = kinded
    tables_kept (statements.Insert table values) valuation below fits =
        let rows = slice_index_or tables table set.empty in
        let row = map (known_worth environment) values in
        changed_kept table (if set.contains rows row then 0 else 1) (set.insert rows row) below.0
        (each_inserted (HaveKinds (kinds_numbered schemas table)) rows row
        (kinded_at schemas tables table kinded below.0) (sym fits))
    tables_kept (statements.Delete table tests) valuation below fits =
        let rows = slice_index_or tables table set.empty in
        let matches = meets (operand_worth (known_worth environment)) tests in
        kinded_with schemas tables table (unmatched matches rows) kinded below.0
        (each_retained (HaveKinds (kinds_numbered schemas table)) rows (λ row. not (matches row))
        (kinded_at schemas tables table kinded below.0))
    tables_kept (statements.Update table image tests) valuation below fits =
        let rows = slice_index_or tables table set.empty in
        let matches = meets (operand_worth (known_worth environment)) tests in
        let kinds = kinds_numbered schemas table in
        over_overflow (updated matches (image_of (known_worth environment) kinds image fits) rows)
        (changed (table_numbered table) (set.len (matched matches rows))) tables environment Keeps
        (λ after is. changed_kept table (set.len (matched matches rows)) after below.0
        (updated_kinds (known_worth environment) kinds image fits matches rows after
        (kinded_at schemas tables table kinded below.0) is))
    tables_kept (statements.Set variable expression) valuation below fits =
        over_overflow (expression_value (known_worth environment) expression)
        (λ value database environment. Ok (record {
          database = database;
          environment = with_value environment variable value;
          answer = answers.Value value;
        })) tables environment Keeps (λ value _. kinded)

    same_only : (kinds others : List Kind) (more : List (List Kind)) → kinds ∷ [] ≡ others ∷ more → kinds ≡ others
    same_only kinds others more e = (same_heads kinds others [] more e).0

    pub if_ordinary : (form : Statement Known)
        → Fits (map (kinds_numbered schemas) (tables_named (closed environment form))) (closed environment form)
        → FitsIfOrdinary form
    if_ordinary (statements.Entangled entangled) fits = tt
    if_ordinary (statements.Select select) fits = tt
    if_ordinary (statements.Set variable expression) fits = tt
    if_ordinary (statements.Insert table values) fits = same_only _ _ [] fits
    if_ordinary (statements.Delete table tests) fits = tt
    if_ordinary (statements.Update table image tests) fits =
        subst (λ kinds. KeepsKinds kinds (map (expression_over (operand_over (known_worth environment))) image))
        (sym (same_only _ fits.0 [] fits.1)) fits.2
