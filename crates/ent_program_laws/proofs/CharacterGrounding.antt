-- The values of a grounding have the property.
use Rattle.std.proofs.Common.{◌≡◌, ℤ, Bool, true, false, ◌==◌, List, [], ◌∷◌, ◌++◌, map, length, sym, subst, arith}
use Rattle.std.proofs.Common.{inl, inr}
use Rattle.std.specs.Prelude.{if◌then◌else◌}
use Rattle.std.specs.List.{AllByRecursion, flat_map, list_all}
use Rattle.std.proofs.lemmas.Bool.{eqb-true}
use Rattle.ent_value.specs.declared.value.Value.{Value}
use Rattle.ent_value.specs.declared.value.Value.TheVariants.{Int}
use Rattle.ent_tree.specs.declared.declaration.Create.{Create}
use Rattle.ent_tree.specs.declared.entangled.Condition.{Condition}
use Rattle.ent_tree.specs.declared.entangled.Condition.TheVariants as conditions
use Rattle.ent_tree.specs.declared.entangled.Entangled.{Entangled}
use Rattle.ent_tree.specs.declared.entangled.Term.{Term}
use Rattle.ent_tree.specs.declared.entangled.Term.TheVariants as terms
use Rattle.ent_tree.specs.declared.entangled.Tuple.{Tuple}
use Rattle.ent_tree.specs.declared.script.Statement.{Statement}
use Rattle.ent_tree.specs.declared.script.Statement.TheVariants as statements
use Rattle.ent_tree.specs.declared.select.Select.{Select}
use Rattle.ent_print.specs.Lexeme.{Lexeme, Token}
use Rattle.ent_print.specs.Spelling.{comma_list, condition_spelling, entangled_item_spelling, in_parentheses}
use Rattle.ent_print.specs.Spelling.{relation_spelling, select_spelling, sign, tuple_spelling, where_clause, word}
use Rattle.ent_text.specs.declared.keyword.Keyword.TheVariants as keywords
use Rattle.ent_text.specs.declared.symbol.Symbol.TheVariants as symbols
use Rattle.ent_text.specs.declared.token.TokenKind.TheVariants.{Number}
use Rattle.ent_semantics.specs.Database.{Database, Environment, Name, same_name}
use Rattle.ent_semantics.specs.Entangled.{Valuation, condition_holds, condition_terms, head_terms, is_grounding}
use Rattle.ent_semantics.specs.Entangled.{term_variables, term_worth, variable_value, written_variables}
use Rattle.ent_semantics.specs.Names.{equal_names, name_itself}
use Rattle.ent_form.specs.EntangledFaults.{body_variables, tuple_variables}
use Rattle.ent_form.specs.Catalogue.{schemas_of}
use Rattle.ent_form.specs.Kinds.{Bound, none_bound}
use Rattle.ent_form.specs.ScriptFaults.{bound_after, statement_faults, statements_faults}
use Rattle.ent_form.specs.declared.catalogue.TableSchema.{TableSchema}
use Rattle.ent_history.proofs.RuleLists.{every, none_first, none_second}
use Rattle.ent_lists.specs.Elements.{In, Pairs, all_by, all_first, all_second, and_both, any_some, in_flat, of_all}
use Rattle.ent_lists.specs.Elements.{contains_in, to_all, to_map}
use Rattle.ent_program_laws.specs.Kept.{GroundingsKeep}
use Rattle.ent_program_laws.specs.Values.{BindsValues, HoldsValues, IsWritten, WritesValues}
use Rattle.ent_program_laws.proofs.Ranged.{AreApart, InBody, firsts_apart, written_in_body}
use Rattle.ent_program_laws.proofs.Selected.{select_has}
use Rattle.ent_program_laws.proofs.Written.{separated_are_written}

-- ---- statements without a fault

-- a statement that has no fault of form, whatever is bound before it
abbrev pub IsFaultless : List TableSchema → Statement → Type 0
IsFaultless tables statement = (bound : Bound) × (statement_faults tables bound statement ≡ [])

pub all_faultless : (tables : List TableSchema) (bound : Bound) (all : List Statement)
    → statements_faults tables bound all ≡ [] → AllByRecursion (IsFaultless tables) all
all_faultless tables bound [] e = tt
all_faultless tables bound (statement ∷ more) e =
    let here = statement_faults tables bound statement in
    let later = statements_faults tables (bound_after tables bound statement) more in (
      (bound, none_first here later e),
      all_faultless tables (bound_after tables bound statement) more (none_second here later e),
    )

module _ (P : Value → Type 0) where
  -- ---- the values of names

  this_one : (b : Bool) (value other : Value) → b ≡ true → P (if b then value else other) → P value
  this_one true value other e has = has
  this_one false value other e has = cc (e)

  other_one : (b : Bool) (value other : Value) → b ≡ false → P (if b then value else other) → P other
  other_one true value other e has = cc (e)
  other_one false value other e has = has

  valued : (names : List Name) (valuation : Valuation) → Pairs AreApart names → length valuation ≡ length names
      → AllByRecursion (λ (name : Name). P (variable_value names valuation name)) names → AllByRecursion P valuation
  valued [] [] apart many all = tt
  valued [] (value ∷ valuation) apart many all = absurd (omega (arith, many))
  valued (name ∷ names) [] apart many all = tt
  valued (name ∷ names) (value ∷ valuation) apart many all = (
    this_one (same_name name name) value (variable_value names valuation name) (name_itself name) all.0,
    valued names valuation apart.1 (omega (arith, many))
        (to_all (λ (other : Name). P (variable_value names valuation other)) names (λ other at.
        other_one (same_name name other) value (variable_value names valuation other)
        (of_all (AreApart name) names other apart.0 at)
        (of_all (λ (other : Name). P (variable_value (name ∷ names) (value ∷ valuation) other)) names other all.1 at))),
  )

  -- ---- conditions that are written

  abbrev AreWritten : List Lexeme → Type 0
  AreWritten lexemes = AllByRecursion (IsWritten P) lexemes

  where_are_written : (all : List Condition) → AreWritten (where_clause condition_spelling all)
      → AllByRecursion (λ (condition : Condition). AreWritten (condition_spelling condition)) all
  where_are_written [] writes = tt
  where_are_written (condition ∷ more) writes =
      separated_are_written (IsWritten P) (word keywords.And) condition_spelling (condition ∷ more) writes.1

  conditions_are_written : (entangled : Entangled) → WritesValues P (statements.Entangled entangled)
      → AllByRecursion (λ (condition : Condition). AreWritten (condition_spelling condition)) entangled.conditions
  conditions_are_written entangled writes =
      let choose : List Lexeme = word keywords.Choose ∷ Token (Number 1) ∷ [] in
      let clause = where_clause condition_spelling entangled.conditions in
      let relations = comma_list relation_spelling entangled.relations in
      let behind_items = all_second (IsWritten P) (comma_list entangled_item_spelling entangled.items)
      (word keywords.Into ∷ (relations ++ (clause ++ choose))) writes.1 in
      where_are_written entangled.conditions (all_first (IsWritten P) clause choose
      (all_second (IsWritten P) relations (clause ++ choose) behind_items.1))

  select_is_written : (tuple : Tuple) (select : Select)
      → AreWritten (condition_spelling (conditions.InSelect tuple select)) → AreWritten (select_spelling select)
  select_is_written tuple select writes =
      let behind = all_second (IsWritten P) (tuple_spelling tuple)
      (word keywords.In ∷ in_parentheses (select_spelling select)) writes in
      all_first (IsWritten P) (select_spelling select) (sign symbols.Close ∷ []) behind.1.1

  -- ---- under a grounding

  module _ (numbers : (number : ℤ) → P (Int number)) (declared : List Create) (database : Database)
      (environment : Environment) (holds : HoldsValues P database) (binds : BindsValues P environment)
      (entangled : Entangled) (writes : WritesValues P (statements.Entangled entangled)) (valuation : Valuation)
      (grounds : is_grounding declared database environment entangled valuation ≡ true) where
    abbrev worth : Term → Value
    worth = term_worth environment entangled valuation

    abbrev NameHas : Name → Type 0
    NameHas name = P (variable_value (written_variables entangled) valuation name)

    abbrev holds_here : Condition → Bool
    holds_here condition = condition_holds declared database environment worth condition

    parts : ((length valuation == length (written_variables entangled)) ≡ true)
        × (list_all holds_here entangled.conditions ≡ true)
    parts = and_both (length valuation == length (written_variables entangled)) _ grounds

    term_has : (term : Term) (name : Name) → In name (term_variables term) → P (worth term) → NameHas name
    term_has (terms.Value value) name at has = absurd at
    term_has (terms.Variable variable) name (inl same) has = subst NameHas (sym same) has
    term_has (terms.Variable variable) name (inr at) has = absurd at

    condition_has : (condition : Condition) → In condition entangled.conditions → (name : Name)
        → In name (tuple_variables condition) → NameHas name
    condition_has (conditions.InSelect tuple select) at name there =
        let written = select_is_written tuple select
        (of_all (λ (condition : Condition). AreWritten (condition_spelling condition)) entangled.conditions
        (conditions.InSelect tuple select) (conditions_are_written entangled writes) at) in
        let row = select_has P numbers declared database environment holds binds select written
        (map worth tuple.terms)
        (every holds_here entangled.conditions parts.1 (conditions.InSelect tuple select) at) in
        let term = in_flat term_variables tuple.terms name there in
        term_has term.0 name term.2
        (of_all P (map worth tuple.terms) (worth term.0) row (to_map worth tuple.terms term.0 term.1))
    condition_has (conditions.InAnswer tuple relation) at name there = absurd there
    condition_has (conditions.Test test) at name there = absurd there

    name_has : (name : Name) → InBody (body_variables entangled.conditions) name → NameHas name
    name_has name e =
        let body = body_variables entangled.conditions in
        let found = any_some (λ (other : Name). same_name other name) body e in
        let at = in_flat tuple_variables entangled.conditions found.0 found.1 in
        subst NameHas (equal_names found.0 name found.2) (condition_has at.0 at.1 found.0 at.2)

    pub grounding_has : (tables : List TableSchema) → IsFaultless tables (statements.Entangled entangled)
        → AllByRecursion P valuation
    grounding_has tables faultless =
        let names = written_variables entangled in
        let terms = head_terms entangled ++ flat_map condition_terms entangled.conditions in
        valued names valuation (firsts_apart (flat_map term_variables terms)) (eqb-true _ _ parts.0)
        (all_by (InBody (body_variables entangled.conditions)) NameHas names name_has
        (written_in_body tables faultless.0 entangled faultless.1))

  pub groundings_have : ((number : ℤ) → P (Int number)) → GroundingsKeep P
  groundings_have numbers declared script entangled database environment valuation resolved there writes holds binds
      grounds =
      let tables = schemas_of declared in
      grounding_has numbers declared database environment holds binds entangled writes valuation grounds tables
      (of_all (IsFaultless tables) script.statements (statements.Entangled entangled)
      (all_faultless tables none_bound script.statements resolved)
      (contains_in script.statements (statements.Entangled entangled) there))
