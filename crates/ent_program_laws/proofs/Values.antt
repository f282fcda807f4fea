-- What values, operands and expressions are worth can be told.
use Rattle.std.proofs.Common.{◌≡◌, ◌<◌, ℕ, suc, ℤ, pos, negsuc, Bool, true, false, List, [], ◌∷◌, map}
use Rattle.std.proofs.Common.{length, Option, Some, None, refl, ap, subst, arith}
use Rattle.std.specs.Prelude.{◌+ℤ◌, ◌-ℤ◌, nat_lt, if◌then◌else◌, unwrap_or}
use Rattle.std.specs.List.{AllByRecursion}
use Rattle.std.specs.Option.{option_and_then, option_map}
use Rattle.std.proofs.lemmas.Bool.Decides.{nat_tests}
use Rattle.std.proofs.lemmas.Option.{same_Some}
use Rattle.ent_value.specs.declared.value.Value.{Value}
use Rattle.ent_value.specs.declared.value.Value.TheVariants.{Int}
use Rattle.ent_tree.specs.declared.operand.ColumnReference.{ColumnReference}
use Rattle.ent_tree.specs.declared.operand.Expression.{Expression}
use Rattle.ent_tree.specs.declared.operand.Expression.TheVariants.{Single, Sum, Difference}
use Rattle.ent_tree.specs.declared.operand.Operand.{Operand}
use Rattle.ent_tree.specs.declared.operand.Operand.TheVariants as operands
use Rattle.ent_tree.specs.declared.operand.ValueSpecification.{ValueSpecification}
use Rattle.ent_tree.specs.declared.operand.ValueSpecification.TheVariants as specifications
use Rattle.ent_print.specs.Lexeme.{Lexeme}
use Rattle.ent_print.specs.Spelling.{expression_spelling, operand_spelling, specification_spelling}
use Rattle.ent_semantics.specs.Change.{all_there}
use Rattle.ent_semantics.specs.Database.{Environment, Name, with_value, with_values, same_name}
use Rattle.ent_semantics.specs.Term.{SourceColumn, column_value, expression_value, in_64_bits, is_64_bits, known_value}
use Rattle.ent_semantics.specs.Term.{no_value, number_of, operand_value, refers_to}
use Rattle.ent_history.specs.Parts.{IsValue}
use Rattle.ent_program_laws.proofs.Read.{AreRead, literal_is_value}

-- host variables have values that can be told
abbrev pub HoldsValues : Environment → Type 0
HoldsValues environment = (name : Name) (value : Value) → environment name ≡ Some value → IsValue value

abbrev pub AreValues : List Value → Type 0
AreValues values = AllByRecursion IsValue values

pub no_value_is_value : IsValue no_value
no_value_is_value = record { sfits = omega arith }

-- ---- numbers

low_number : (n : ℕ) → nat_lt n 9223372036854775808 ≡ true → n < 9223372036854775808
low_number n e = grind (arith, nat_tests)

number_fits : (number : ℤ) → is_64_bits number ≡ true → IsValue (Int number)
number_fits (pos n) e = let low = low_number n e in record { sfits = omega (arith, low) }
number_fits (negsuc n) e = let low = low_number n e in record { sfits = omega (arith, low) }

within_is_value : (number : ℤ) (value : Value) → in_64_bits number ≡ Some value → IsValue value
within_is_value number value e = by (is_64_bits number) refl e
  where
    by : (b : Bool) → is_64_bits number ≡ b → (if b then Some (Int number) else None) ≡ Some value → IsValue value
    by true fits is = subst IsValue (same_Some (Int number) value is) (number_fits number fits)
    by false fits is = cc (is)

-- an expression over terms whose values can be told
pub expression_is_value : {A : Type 0} (worth : A → Value) (spelling : A → List Lexeme)
    → ((x : A) → AreRead (spelling x) → IsValue (worth x)) → (expression : Expression A)
    → AreRead (expression_spelling spelling expression) → (value : Value)
    → expression_value worth expression ≡ Some value → IsValue value
expression_is_value worth spelling each (Single term) can value e =
    subst IsValue (same_Some (worth term) value e) (each term can)
expression_is_value worth spelling each (Sum left right) can value e =
    within_is_value (number_of (worth left) +ℤ number_of (worth right)) value e
expression_is_value worth spelling each (Difference left right) can value e =
    within_is_value (number_of (worth left) -ℤ number_of (worth right)) value e

-- ---- columns

pub column_is_value : (columns : List SourceColumn) (row : List Value) (reference : ColumnReference) → AreValues row
    → IsValue (column_value columns row reference)
column_is_value [] row reference all = no_value_is_value
column_is_value (column ∷ columns) [] reference all = no_value_is_value
column_is_value (column ∷ columns) (value ∷ values) reference all =
    by (refers_to reference column) (column_is_value columns values reference all.1)
  where
    by : (b : Bool) → IsValue (column_value columns values reference)
        → IsValue (if b then value else column_value columns values reference)
    by true rest = all.0
    by false rest = rest

-- ---- known before a row is read

module _ (environment : Environment) (held : HoldsValues environment) where
  pub known_is_value : (value : ValueSpecification) → AreRead (specification_spelling value)
      → IsValue (known_value environment value)
  known_is_value (specifications.Literal literal) can = literal_is_value literal.value can.0
  known_is_value (specifications.HostVariable variable) can = by (environment variable.name) refl
    where
      by : (there : Option Value) → environment variable.name ≡ there → IsValue (unwrap_or there no_value)
      by None is = no_value_is_value
      by (Some value) is = held variable.name value is

  pub operand_is_value : (columns : List SourceColumn) (row : List Value) → AreValues row → (operand : Operand)
      → AreRead (operand_spelling operand) → IsValue (operand_value environment columns row operand)
  operand_is_value columns row all (operands.Value value) can = known_is_value value can
  operand_is_value columns row all (operands.Column reference) can = column_is_value columns row reference all

  -- what is bound

  pub bound_is_held : (variable : Name) (value : Value) → IsValue value
      → HoldsValues (with_value environment variable value)
  bound_is_held variable value is name other e = by (same_name variable name) e
    where
      by : (b : Bool) → (if b then Some value else environment name) ≡ Some other → IsValue other
      by true here = subst IsValue (same_Some value other here) is
      by false before = held name other before

-- one after the other
pub all_bound_are_held : (environment : Environment) (bound : List (Name × Value)) → HoldsValues environment
    → AllByRecursion (λ (pair : Name × Value). IsValue pair.1) bound → HoldsValues (with_values environment bound)
all_bound_are_held environment [] held all = held
all_bound_are_held environment (pair ∷ more) held all =
    all_bound_are_held (with_value environment pair.0 pair.1) more
    (bound_is_held environment held pair.0 pair.1 all.0) all.1

-- ---- values of lists

pub mapped_are_values : {A : Type 0} (P : A → Type 0) (worth : A → Value) (xs : List A)
    → ((x : A) → P x → IsValue (worth x)) → AllByRecursion P xs → AreValues (map worth xs)
mapped_are_values P worth [] each all = tt
mapped_are_values P worth (x ∷ xs) each all = (each x all.0, mapped_are_values P worth xs each all.1)

-- a value at each place, or none
pub all_there_are : (all : List (Option Value)) (values : List Value)
    → AllByRecursion (λ (there : Option Value). (value : Value) → there ≡ Some value → IsValue value) all
    → all_there all ≡ Some values → AreValues values × (length values ≡ length all)
all_there_are [] values each e = by values e
  where
    by : (values : List Value) → Some [] ≡ Some values → AreValues values × (length values ≡ 0)
    by [] is = (tt, refl)
    by (value ∷ more) is = cc (is)
all_there_are (first ∷ more) values each e =
    by first refl (all_there more) refl e (λ others there. all_there_are more others each.1 there)
  where
    same : (x y : List Value) → Some x ≡ Some y → x ≡ y
    same x y is = cc

    by : (here : Option Value) → first ≡ here → (rest : Option (List Value)) → all_there more ≡ rest
        → option_and_then (λ value. option_map (λ values. value ∷ values) rest) here ≡ Some values
        → ((others : List Value) → all_there more ≡ Some others
        → AreValues others × (length others ≡ length more))
        → AreValues values × (length values ≡ length (first ∷ more))
    by None is rest there none on = cc (none)
    by (Some value) is None there none on = cc (none)
    by (Some value) is (Some others) there some on =
        let behind = on others there in
        subst (λ (values : List Value). AreValues values × (length values ≡ length (first ∷ more)))
        (same (value ∷ others) values some)
        ((each.0 value is, behind.0), ap (λ n. suc n) behind.1)
