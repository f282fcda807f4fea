-- A script in which values are bound keeps the limits, and each of its lexemes can stand in a text.
use Rattle.std.proofs.Common.{◌≢◌, ℕ, ◌≤◌, List, [], ◌∷◌, ◌++◌, map, length, Bool, true, false, cond, Option, Some}
use Rattle.std.proofs.Common.{None, IfSome, refl, sym, subst, arith, suc}
use Rattle.std.proofs.lemmas.List.{length-map}
use Rattle.std.specs.Prelude.{pos, negsuc, FitsSigned}
use Rattle.std.specs.Int.{w64}
use Rattle.std.specs.List.{All, find, flat_map}
use Rattle.std.specs.Option.{option_map}
use Rattle.ent_value.specs.Print.{quoted}
use Rattle.ent_value.specs.declared.value.Value.{Value}
use Rattle.ent_value.specs.declared.value.Value.TheVariants as values
use Rattle.ent_text.specs.declared.keyword.Keyword.TheVariants as keywords
use Rattle.ent_text.specs.declared.symbol.Symbol.TheVariants as symbols
use Rattle.ent_text.specs.declared.token.TokenKind.TheVariants as kinds
use Rattle.ent_tree.specs.declared.limits.TheConstants.{MOST_PARTS, MOST_STATEMENTS}
use Rattle.ent_tree.specs.declared.operand.Identifier.{Identifier}
use Rattle.ent_tree.specs.declared.operand.ValueSpecification.TheVariants as specifications
use Rattle.ent_tree.specs.declared.operand.Operand.TheVariants as operands
use Rattle.ent_tree.specs.declared.operand.Expression.TheVariants.{Single, Sum, Difference}
use Rattle.ent_tree.specs.declared.select.Items.{Items}
use Rattle.ent_tree.specs.declared.select.Items.TheVariants as items
use Rattle.ent_tree.specs.declared.select.Select.{Select}
use Rattle.ent_tree.specs.declared.entangled.Term.TheVariants as terms
use Rattle.ent_tree.specs.declared.entangled.Condition.{Condition}
use Rattle.ent_tree.specs.declared.entangled.Condition.TheVariants as conditions
use Rattle.ent_tree.specs.declared.script.Statement.{Statement}
use Rattle.ent_tree.specs.declared.script.Statement.TheVariants as statements
use Rattle.ent_tree.specs.declared.script.Script.{Script}
use Rattle.ent_semantics.specs.Database.{Name, same_name}
use Rattle.ent_print.specs.Lexeme.{Lexeme, Token}
use Rattle.ent_print.specs.Reading.{CanBeRead, IsReadable}
use Rattle.ent_print.specs.Spelling.{each_behind, separated, comma_list, in_parentheses, where_clause, sign, word}
use Rattle.ent_print.specs.Spelling.{value_spelling, specification_spelling, operand_spelling, expression_spelling}
use Rattle.ent_print.specs.Spelling.{test_spelling, items_spelling, tests_clause, select_spelling, source_spelling}
use Rattle.ent_print.specs.Spelling.{term_spelling, binding_spelling, entangled_item_spelling, tuple_spelling}
use Rattle.ent_print.specs.Spelling.{condition_spelling, relation_spelling, assignment_spelling, statement_spelling}
use Rattle.ent_print.specs.Spelling.{entangled_spelling, update_spelling, line_spelling, script_spelling}
use Rattle.ent_print.specs.Spelling.{comparison_symbol, end_word}
use Rattle.ent_sql_laws.specs.Fits.{Each, HasParts, ItemsFit, SelectFits, ConditionFits, StatementFits, ScriptFits}
use Rattle.ent_sql_laws.proofs.Keeping.{each_append, each_front, each_back, each_at, each_of}
use Rattle.ent_sql_laws.proofs.KeptOperands.{Printable, number_stands}
use Rattle.ent_bound.specs.Bindable.{IsBindable}
use Rattle.ent_bound.specs.Bound.{bound_script, bound_value, literal_or, value_bound}
use Rattle.ent_bound.specs.Over.{Making, operand_over, expression_over, test_over, items_over, tests_over, select_over}
use Rattle.ent_bound.specs.Over.{term_over, item_over, tuple_over, condition_over, assignment_over, statement_over}
use Rattle.ent_bound.specs.Over.{entangled_over, update_over, script_over}
use Rattle.ent_bound.specs.declared.variable.BoundVariable.{BoundVariable}

-- ---- a bound value can stand in a text

number_fits : (n : ℕ) → FitsSigned w64 (pos n) → n ≤ 9223372036854775807
number_fits n fits = omega (arith, fits)

negative_fits : (n : ℕ) → FitsSigned w64 (negsuc n) → negsuc n ≢ negsuc 9223372036854775807
    → suc n ≤ 9223372036854775807
negative_fits n fits other =
    let apart : n ≢ 9223372036854775807 = λ same. other (λ i. negsuc (same i)) in omega (arith, fits, apart)

value_stands : (value : Value) → IsBindable value → CanBeRead (value_spelling value)
value_stands (values.Int (pos n)) can = number_stands n (number_fits n can.0)
value_stands (values.Int (negsuc n)) can = number_stands (suc n) (negative_fits n can.0 can.1)
value_stands (values.Text text) can = ((quoted text, (refl, can.2)), can.0)

abbrev AreBindable : List BoundVariable → Type 0
AreBindable = Each (λ variable. IsBindable variable.value)

found_is_bindable : (variables : List BoundVariable) (name : Name) → AreBindable variables
    → IfSome (value_bound variables name) IsBindable
found_is_bindable [] name can = tt
found_is_bindable (variable ∷ more) name can =
    (elim (same_name variable.name name) as (λ (same : Bool).
    IfSome (option_map (λ (found : BoundVariable). found.value) (cond same (Some variable)
    (find (λ (other : BoundVariable). same_name other.name name) more))) IsBindable)
    [ true ↦ can.0 | false ↦ found_is_bindable more name can.1 ])

literal_prints : (identifier : Identifier) (found : Option Value) → IfSome found IsBindable
    → Printable specification_spelling (specifications.HostVariable identifier)
    → Printable specification_spelling (literal_or identifier found)
literal_prints identifier (Some value) can prints = (value_stands value can, tt)
literal_prints identifier None can prints = prints

-- what is made of a thing that can be printed can be printed
abbrev Prints : {A : Type 0} → (A → List Lexeme) → (A → A) → Type 0
Prints {A} spelling over = (x : A) → Printable spelling x → Printable spelling (over x)

value_prints : (variables : List BoundVariable) → AreBindable variables
    → Prints specification_spelling (bound_value variables)
value_prints variables can (specifications.Literal literal) prints = prints
value_prints variables can (specifications.HostVariable identifier) prints =
    literal_prints identifier (value_bound variables identifier.name)
    (found_is_bindable variables identifier.name can) prints

-- ---- lexemes side by side

both : (xs ys xs' ys' : List Lexeme) → (Each CanBeRead xs → Each CanBeRead xs')
    → (Each CanBeRead ys → Each CanBeRead ys') → Each CanBeRead (xs ++ ys) → Each CanBeRead (xs' ++ ys')
both xs ys xs' ys' first second can =
    each_append CanBeRead xs' ys' (first (each_front CanBeRead xs ys can)) (second (each_back CanBeRead xs ys can))

brackets_print : (xs xs' : List Lexeme) → (Each CanBeRead xs → Each CanBeRead xs')
    → Each CanBeRead (in_parentheses xs) → Each CanBeRead (in_parentheses xs')
brackets_print xs xs' inner can =
    let close = sign symbols.Close ∷ [] in (can.0, both xs close xs' close inner (λ h. h) can.1)

module _ {A : Type 0} (spelling : A → List Lexeme) (over : A → A) (part : Prints spelling over) where
  behind_prints : (separator : Lexeme) (xs : List A) → Each CanBeRead (each_behind separator spelling xs)
      → Each CanBeRead (each_behind separator spelling (map over xs))
  behind_prints separator [] can = tt
  behind_prints separator (x ∷ xs) can = (
    can.0,
    both (spelling x) (each_behind separator spelling xs) (spelling (over x))
        (each_behind separator spelling (map over xs)) (part x) (behind_prints separator xs) can.1,
  )

  separated_prints : (separator : Lexeme) (xs : List A) → Each CanBeRead (separated separator spelling xs)
      → Each CanBeRead (separated separator spelling (map over xs))
  separated_prints separator [] can = tt
  separated_prints separator (x ∷ xs) can =
      both (spelling x) (each_behind separator spelling xs) (spelling (over x))
      (each_behind separator spelling (map over xs)) (part x) (behind_prints separator xs) can

  commas_print : (xs : List A) → Each CanBeRead (comma_list spelling xs)
      → Each CanBeRead (comma_list spelling (map over xs))
  commas_print = separated_prints (sign symbols.Comma)

  where_prints : (xs : List A) → Each CanBeRead (where_clause spelling xs)
      → Each CanBeRead (where_clause spelling (map over xs))
  where_prints [] can = tt
  where_prints (x ∷ xs) can = (can.0, separated_prints (word keywords.And) (x ∷ xs) can.1)

  expression_prints : Prints (expression_spelling spelling) (expression_over over)
  expression_prints (Single x) can = part x can
  expression_prints (Sum x y) can =
      both (spelling x) (sign symbols.Plus ∷ spelling y) (spelling (over x)) (sign symbols.Plus ∷ spelling (over y))
      (part x) (λ h. (h.0, part y h.1)) can
  expression_prints (Difference x y) can =
      both (spelling x) (sign symbols.Minus ∷ spelling y) (spelling (over x)) (sign symbols.Minus ∷ spelling (over y))
      (part x) (λ h. (h.0, part y h.1)) can

  test_prints : Prints (test_spelling spelling) (test_over over)
  test_prints x can =
      let compares = sign (comparison_symbol x.comparison) in
      both (spelling x.left) (compares ∷ spelling x.right) (spelling (over x.left))
      (compares ∷ spelling (over x.right)) (part x.left) (λ h. (h.0, part x.right h.1)) can

-- ---- a script and its parts, over what is made of values

module _ (making : Making) (value : Prints specification_spelling making) where
  operand_prints : Prints operand_spelling (operand_over making)
  operand_prints (operands.Value x) can = value x can
  operand_prints (operands.Column reference) can = can

  items_print : Prints items_spelling (items_over making)
  items_print items.All can = can
  items_print (items.Listed xs) can = commas_print operand_spelling (operand_over making) operand_prints xs can

  tests_print : Prints tests_clause (tests_over making)
  tests_print xs can =
      where_prints (test_spelling operand_spelling) (test_over (operand_over making))
      (test_prints operand_spelling (operand_over making) operand_prints) xs can

  select_prints : Prints select_spelling (select_over making)
  select_prints x can =
      let sources = comma_list source_spelling x.sources in (
        can.0,
        both (items_spelling x.items) (word keywords.From ∷ (sources ++ tests_clause x.tests))
            (items_spelling (items_over making x.items))
            (word keywords.From ∷ (sources ++ tests_clause (tests_over making x.tests))) (items_print x.items)
            (λ h. (
              h.0,
              both sources (tests_clause x.tests) sources (tests_clause (tests_over making x.tests)) (λ k. k)
                  (tests_print x.tests) h.1,
            )) can.1,
      )

  term_prints : Prints term_spelling (term_over making)
  term_prints (terms.Value x) can = value x can
  term_prints (terms.Variable variable) can = can

  item_prints : Prints entangled_item_spelling (item_over making)
  item_prints x can =
      both (term_spelling x.term) (binding_spelling x.binds) (term_spelling (term_over making x.term))
      (binding_spelling x.binds) (term_prints x.term) (λ h. h) can

  tuple_prints : Prints tuple_spelling (tuple_over making)
  tuple_prints x can =
      brackets_print (comma_list term_spelling x.terms) (comma_list term_spelling (map (term_over making) x.terms))
      (commas_print term_spelling (term_over making) term_prints x.terms) can

  condition_prints : Prints condition_spelling (condition_over making)
  condition_prints (conditions.InSelect x inner) can =
      both (tuple_spelling x) (word keywords.In ∷ in_parentheses (select_spelling inner))
      (tuple_spelling (tuple_over making x))
      (word keywords.In ∷ in_parentheses (select_spelling (select_over making inner))) (tuple_prints x)
      (λ h. (
        h.0,
        brackets_print (select_spelling inner) (select_spelling (select_over making inner))
            (select_prints inner) h.1,
      )) can
  condition_prints (conditions.InAnswer x relation) can =
      both (tuple_spelling x) (word keywords.In ∷ relation_spelling relation) (tuple_spelling (tuple_over making x))
      (word keywords.In ∷ relation_spelling relation) (tuple_prints x) (λ h. h) can
  condition_prints (conditions.Test x) can = test_prints term_spelling (term_over making) term_prints x can

  assignment_prints : Prints assignment_spelling (assignment_over making)
  assignment_prints x can =
      (can.0, (can.1.0, expression_prints operand_spelling (operand_over making) operand_prints x.expression can.1.1))

  entangled_prints : Prints entangled_spelling (entangled_over making)
  entangled_prints x can =
      let choose = word keywords.Choose ∷ Token (kinds.Number 1) ∷ [] in
      let relations = comma_list relation_spelling x.relations in
      let conditions = where_clause condition_spelling x.conditions in
      let those = where_clause condition_spelling (map (condition_over making) x.conditions) in (
        can.0,
        both (comma_list entangled_item_spelling x.items)
            (word keywords.Into ∷ (relations ++ (conditions ++ choose)))
            (comma_list entangled_item_spelling (map (item_over making) x.items))
            (word keywords.Into ∷ (relations ++ (those ++ choose)))
            (commas_print entangled_item_spelling (item_over making) item_prints x.items)
            (λ h. (
              h.0,
              both relations (conditions ++ choose) relations (those ++ choose) (λ k. k)
                  (both conditions choose those choose
                  (where_prints condition_spelling (condition_over making) condition_prints x.conditions) (λ k. k)) h.1,
            )) can.1,
      )

  update_prints : Prints update_spelling (update_over making)
  update_prints x can =
      let assigned = comma_list assignment_spelling (map (assignment_over making) x.assignments) in (
        can.0,
        (
          can.1.0,
          (
            can.1.1.0,
            both (comma_list assignment_spelling x.assignments) (tests_clause x.tests) assigned
                (tests_clause (tests_over making x.tests))
                (commas_print assignment_spelling (assignment_over making) assignment_prints x.assignments)
                (tests_print x.tests) can.1.1.1,
          ),
        ),
      )

  statement_prints : Prints statement_spelling (statement_over making)
  statement_prints (statements.Select x) can = select_prints x can
  statement_prints (statements.Entangled x) can = entangled_prints x can
  statement_prints (statements.Insert x) can = (
    can.0,
    (
      can.1.0,
      (
        can.1.1.0,
        (
          can.1.1.1.0,
          brackets_print (comma_list specification_spelling x.values)
              (comma_list specification_spelling (map making x.values))
              (commas_print specification_spelling making value x.values) can.1.1.1.1,
        ),
      ),
    ),
  )
  statement_prints (statements.Delete x) can = (can.0, (can.1.0, (can.1.1.0, tests_print x.tests can.1.1.1)))
  statement_prints (statements.Update x) can = update_prints x can
  statement_prints (statements.Set x) can =
      (can.0, (can.1.0, (can.1.1.0, expression_prints specification_spelling making value x.expression can.1.1.1)))

  line_prints : Prints line_spelling (statement_over making)
  line_prints x can =
      let end = sign symbols.Semicolon ∷ [] in
      both (statement_spelling x) end (statement_spelling (statement_over making x)) end (statement_prints x) (λ h. h)
      can

  lines_print : (xs : List Statement) → Each CanBeRead (flat_map line_spelling xs)
      → Each CanBeRead (flat_map line_spelling (map (statement_over making) xs))
  lines_print [] can = tt
  lines_print (x ∷ xs) can =
      both (line_spelling x) (flat_map line_spelling xs) (line_spelling (statement_over making x))
      (flat_map line_spelling (map (statement_over making) xs)) (line_prints x) (lines_print xs) can

  script_prints : Prints script_spelling (script_over making)
  script_prints x can =
      let end = word (end_word x.end) ∷ sign symbols.Semicolon ∷ [] in
      let front = can.1.1.1.1.1 in (
        can.0,
        (
          can.1.0,
          (
            can.1.1.0,
            (
              can.1.1.1.0,
              (
                can.1.1.1.1.0,
                (
                  front.0,
                  both (flat_map line_spelling x.statements) end
                      (flat_map line_spelling (map (statement_over making) x.statements)) end (lines_print x.statements)
                      (λ h. h)
                      front.1,
                ),
              ),
            ),
          ),
        ),
      )

-- ---- the limits

module _ (making : Making) where
  parts_fit : {A : Type 0} (over : A → A) (xs : List A) (limit : ℕ) → HasParts xs limit
      → HasParts (map over xs) limit
  parts_fit over xs limit fits =
      subst (λ (count : ℕ). (1 ≤ count) × (count ≤ limit)) (sym (length-map xs over)) fits

  few_fit : {A : Type 0} (over : A → A) (xs : List A) (limit : ℕ) → length xs ≤ limit → length (map over xs) ≤ limit
  few_fit over xs limit fits = subst (λ (count : ℕ). count ≤ limit) (sym (length-map xs over)) fits

  each_over : {A : Type 0} (over : A → A) (fits : A → Type 0) → ((x : A) → fits x → fits (over x)) → (xs : List A)
      → Each fits xs → Each fits (map over xs)
  each_over over fits part [] h = tt
  each_over over fits part (x ∷ xs) h = (part x h.0, each_over over fits part xs h.1)

  items_fit : (x : Items) → ItemsFit x → ItemsFit (items_over making x)
  items_fit items.All fits = fits
  items_fit (items.Listed xs) fits = parts_fit (operand_over making) xs MOST_PARTS fits

  select_fits : (x : Select) → SelectFits x → SelectFits (select_over making x)
  select_fits x fits =
      (items_fit x.items fits.0, fits.1, few_fit (test_over (operand_over making)) x.tests MOST_PARTS fits.2)

  condition_fits : (x : Condition) → ConditionFits x → ConditionFits (condition_over making x)
  condition_fits (conditions.InSelect x inner) fits =
      (parts_fit (term_over making) x.terms MOST_PARTS fits.0, select_fits inner fits.1)
  condition_fits (conditions.InAnswer x relation) fits = parts_fit (term_over making) x.terms MOST_PARTS fits
  condition_fits (conditions.Test x) fits = fits

  statement_fits : (x : Statement) → StatementFits x → StatementFits (statement_over making x)
  statement_fits (statements.Select x) fits = select_fits x fits
  statement_fits (statements.Entangled x) fits = (
    parts_fit (item_over making) x.items MOST_PARTS fits.0,
    fits.1,
    few_fit (condition_over making) x.conditions MOST_PARTS fits.2,
    each_over (condition_over making) ConditionFits condition_fits x.conditions fits.3,
  )
  statement_fits (statements.Insert x) fits = parts_fit making x.values MOST_PARTS fits
  statement_fits (statements.Delete x) fits = few_fit (test_over (operand_over making)) x.tests MOST_PARTS fits
  statement_fits (statements.Update x) fits = (
    parts_fit (assignment_over making) x.assignments MOST_PARTS fits.0,
    few_fit (test_over (operand_over making)) x.tests MOST_PARTS fits.1,
  )
  statement_fits (statements.Set x) fits = fits

  script_fits : (x : Script) → ScriptFits x → ScriptFits (script_over making x)
  script_fits x fits = (
    fits.0,
    fits.1,
    few_fit (statement_over making) x.statements MOST_STATEMENTS fits.2,
    each_over (statement_over making) StatementFits statement_fits x.statements fits.3,
  )

-- ---- bound scripts

pub bound_script_fits : (variables : List BoundVariable) (script : Script) → ScriptFits script
    → ScriptFits (bound_script variables script)
bound_script_fits variables script fits = script_fits (bound_value variables) script fits

pub bound_script_is_readable : (variables : List BoundVariable) (script : Script)
    → All (λ (variable : BoundVariable). IsBindable variable.value) variables → IsReadable script
    → IsReadable (bound_script variables script)
bound_script_is_readable variables script can readable =
    let made = bound_script variables script in
    let each = each_of (λ (variable : BoundVariable). IsBindable variable.value) variables can in
    each_at CanBeRead (script_spelling made)
    (script_prints (bound_value variables) (value_prints variables each) script
    (each_of CanBeRead (script_spelling script) readable))
