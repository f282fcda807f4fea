-- What operands and expressions are worth has the property, where what is written and what is bound has.
use Rattle.std.proofs.Common.{◌≡◌, ℤ, pos, Bool, true, false, List, [], ◌∷◌, map, Option, Some, None, refl}
use Rattle.std.proofs.Common.{subst}
use Rattle.std.proofs.lemmas.Option.{same_Some}
use Rattle.std.specs.Prelude.{◌+ℤ◌, ◌-ℤ◌, if◌then◌else◌, unwrap_or}
use Rattle.std.specs.List.{AllByRecursion}
use Rattle.std.specs.Option.{option_and_then, option_map}
use Rattle.ent_value.specs.declared.value.Value.{Value}
use Rattle.ent_value.specs.declared.value.Value.TheVariants.{Int, Text}
use Rattle.ent_tree.specs.declared.operand.ColumnReference.{ColumnReference}
use Rattle.ent_tree.specs.declared.operand.Expression.{Expression}
use Rattle.ent_tree.specs.declared.operand.Expression.TheVariants.{Single, Sum, Difference}
use Rattle.ent_tree.specs.declared.operand.Operand.{Operand}
use Rattle.ent_tree.specs.declared.operand.Operand.TheVariants as operands
use Rattle.ent_tree.specs.declared.operand.ValueSpecification.{ValueSpecification}
use Rattle.ent_tree.specs.declared.operand.ValueSpecification.TheVariants as specifications
use Rattle.ent_print.specs.Lexeme.{Lexeme}
use Rattle.ent_print.specs.Spelling.{expression_spelling, operand_spelling, specification_spelling, value_spelling}
use Rattle.ent_semantics.specs.Change.{all_there}
use Rattle.ent_semantics.specs.Database.{Environment, Name, same_name, with_value, with_values}
use Rattle.ent_semantics.specs.Term.{SourceColumn, column_value, expression_value, in_64_bits, is_64_bits, known_value}
use Rattle.ent_semantics.specs.Term.{no_value, number_of, operand_value, refers_to}
use Rattle.ent_program_laws.specs.Values.{BindsValues, IsWritten}

module _ (P : Value → Type 0) (numbers : (number : ℤ) → P (Int number)) where
  abbrev AreWritten : List Lexeme → Type 0
  AreWritten lexemes = AllByRecursion (IsWritten P) lexemes

  abbrev HasWhereThere : Option Value → Type 0
  HasWhereThere there = (value : Value) → there ≡ Some value → P value

  pub no_value_has : P no_value
  no_value_has = numbers (pos 0)

  literal_has : (value : Value) → IsWritten P (value_spelling value) → P value
  literal_has (Int number) writes = numbers number
  literal_has (Text content) writes = writes

  -- ---- numbers

  in_range_has : (number : ℤ) → HasWhereThere (in_64_bits number)
  in_range_has number value e = by (is_64_bits number) e
    where
      by : (b : Bool) → (if b then Some (Int number) else None) ≡ Some value → P value
      by true is = subst P (same_Some (Int number) value is) (numbers number)
      by false is = cc (is)

  -- an expression over terms that have it
  pub expression_has : {A : Type 0} (worth : A → Value) (spelling : A → List Lexeme)
      → ((x : A) → AreWritten (spelling x) → P (worth x)) → (expression : Expression A)
      → AreWritten (expression_spelling spelling expression) → HasWhereThere (expression_value worth expression)
  expression_has worth spelling each (Single term) writes value e =
      subst P (same_Some (worth term) value e) (each term writes)
  expression_has worth spelling each (Sum left right) writes value e =
      in_range_has (number_of (worth left) +ℤ number_of (worth right)) value e
  expression_has worth spelling each (Difference left right) writes value e =
      in_range_has (number_of (worth left) -ℤ number_of (worth right)) value e

  -- ---- columns

  pub column_has : (columns : List SourceColumn) (row : List Value) (reference : ColumnReference)
      → AllByRecursion P row → P (column_value columns row reference)
  column_has [] row reference all = no_value_has
  column_has (column ∷ columns) [] reference all = no_value_has
  column_has (column ∷ columns) (value ∷ values) reference all =
      by (refers_to reference column) (column_has columns values reference all.1)
    where
      by : (b : Bool) → P (column_value columns values reference)
          → P (if b then value else column_value columns values reference)
      by true rest = all.0
      by false rest = rest

  -- ---- known before a row is read

  module _ (environment : Environment) (binds : BindsValues P environment) where
    pub known_has : (value : ValueSpecification) → AreWritten (specification_spelling value)
        → P (known_value environment value)
    known_has (specifications.Literal literal) writes = literal_has literal.value writes.0
    known_has (specifications.HostVariable variable) writes = by (environment variable.name) refl
      where
        by : (there : Option Value) → environment variable.name ≡ there → P (unwrap_or there no_value)
        by None is = no_value_has
        by (Some value) is = binds variable.name value is

    pub operand_has : (columns : List SourceColumn) (row : List Value) → AllByRecursion P row → (operand : Operand)
        → AreWritten (operand_spelling operand) → P (operand_value environment columns row operand)
    operand_has columns row all (operands.Value value) writes = known_has value writes
    operand_has columns row all (operands.Column reference) writes = column_has columns row reference all

    -- what is bound

    pub bound_has : (variable : Name) (value : Value) → P value
        → BindsValues P (with_value environment variable value)
    bound_has variable value is name other e = by (same_name variable name) e
      where
        by : (b : Bool) → (if b then Some value else environment name) ≡ Some other → P other
        by true here = subst P (same_Some value other here) is
        by false before = binds name other before

  -- one after the other
  pub all_bound_have : (environment : Environment) (bound : List (Name × Value)) → BindsValues P environment
      → AllByRecursion (λ (pair : Name × Value). P pair.1) bound → BindsValues P (with_values environment bound)
  all_bound_have environment [] binds all = binds
  all_bound_have environment (pair ∷ more) binds all =
      all_bound_have (with_value environment pair.0 pair.1) more
      (bound_has environment binds pair.0 pair.1 all.0) all.1

  -- ---- values of lists

  pub mapped_have : {A : Type 0} (Q : A → Type 0) (worth : A → Value) (xs : List A)
      → ((x : A) → Q x → P (worth x)) → AllByRecursion Q xs → AllByRecursion P (map worth xs)
  mapped_have Q worth [] each all = tt
  mapped_have Q worth (x ∷ xs) each all = (each x all.0, mapped_have Q worth xs each all.1)

  -- a value at each place, or none
  pub all_there_have : (all : List (Option Value)) (values : List Value) → AllByRecursion HasWhereThere all
      → all_there all ≡ Some values → AllByRecursion P values
  all_there_have [] values each e = subst (AllByRecursion P) (same [] values e) tt
    where
      same : (x y : List Value) → Some x ≡ Some y → x ≡ y
      same x y is = cc
  all_there_have (first ∷ more) values each e =
      by first refl (all_there more) refl e (λ others there. all_there_have more others each.1 there)
    where
      same : (x y : List Value) → Some x ≡ Some y → x ≡ y
      same x y is = cc

      by : (here : Option Value) → first ≡ here → (rest : Option (List Value)) → all_there more ≡ rest
          → option_and_then (λ value. option_map (λ values. value ∷ values) rest) here ≡ Some values
          → ((others : List Value) → all_there more ≡ Some others → AllByRecursion P others)
          → AllByRecursion P values
      by None is rest there none on = cc (none)
      by (Some value) is None there none on = cc (none)
      by (Some value) is (Some others) there some on =
          subst (AllByRecursion P) (same (value ∷ others) values some) (each.0 value is, on others there)
