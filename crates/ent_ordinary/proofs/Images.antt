-- The kinds of what an image gives.
use Rattle.std.proofs.Common.{◌≡◌, ℕ, zero, suc, List, [], ◌∷◌, map, Option, Some, None}
use Rattle.std.proofs.Common.{Result}
use Rattle.std.proofs.Common.{Ok, Err, refl, sym, ap, ◌∙◌}
use Rattle.std.specs.Prelude.{◌+ℤ◌, ◌-ℤ◌, slice_get, slice_index_or, IfOk}
use Rattle.std.specs.Option.{option_map, option_and_then}
use Rattle.ent_value.specs.Refusal.{Gives}
use Rattle.ent_value.specs.Value.{kind_of, kinds_of}
use Rattle.ent_value.specs.declared.refusal.Refusal.{Refusal}
use Rattle.ent_value.specs.declared.value.Kind.{Kind}
use Rattle.ent_value.specs.declared.value.Value.{Value}
use Rattle.ent_tree.specs.declared.operand.Expression.{Expression}
use Rattle.ent_tree.specs.declared.operand.Expression.TheVariants.{Single, Sum, Difference}
use Rattle.ent_semantics.specs.Change.{all_there}
use Rattle.ent_semantics.specs.Term.{no_value, number_of, expression_value}
use Rattle.ent_semantics.specs.declared.answer.Failure.{Failure}
use Rattle.ent_semantics.proofs.NumberKinds.{number_kind}
use Rattle.ent_semantics.specs.declared.operand.Operand.{Operand}
use Rattle.ent_semantics.specs.declared.operand.Operand.TheVariants as operands
use Rattle.ent_ordinary.specs.Worth.{worth_over}
use Rattle.ent_ordinary.specs.Change.{image_or_overflow}
use Rattle.ent_semantics.specs.FormKinds.{operand_kind, expression_kind, KeepsKinds}
use Rattle.ent_ordinary.specs.ExpressionWorth.{image_of, there_or_overflow}

kind_of_column : (row : List Value) (number : ℕ) (kind : Kind) → slice_get (kinds_of row) number ≡ Some kind
    → kind_of (slice_index_or row number no_value) ≡ kind
kind_of_column [] number kind e = cc
kind_of_column (value ∷ row) zero kind e = cc
kind_of_column (value ∷ row) (suc number) kind e = kind_of_column row number kind e

kind_of_operand : (row : List Value) (operand : Operand Value) (kind : Kind)
    → operand_kind (kinds_of row) operand ≡ Some kind → kind_of (worth_over row operand) ≡ kind
kind_of_operand row (operands.Known value) kind e = cc
kind_of_operand row (operands.Column number) kind e = kind_of_column row number kind e

kind_of_expression : {A : Type 0} (kind : A → Option Kind) (worth : A → Value)
    → ((term : A) (k : Kind) → kind term ≡ Some k → kind_of (worth term) ≡ k)
    → (expression : Expression A) (k : Kind) (value : Value) → expression_kind kind expression ≡ Some k
    → expression_value worth expression ≡ Some value → kind_of value ≡ k
kind_of_expression kind worth each (Single term) k value e is =
    let same : worth term ≡ value = cc in sym (ap kind_of same) ∙ each term k e
kind_of_expression kind worth each (Sum left right) k value e is =
    let h = number_kind (number_of (worth left) +ℤ number_of (worth right)) value is in cc
kind_of_expression kind worth each (Difference left right) k value e is =
    let h = number_kind (number_of (worth left) -ℤ number_of (worth right)) value is in cc

kinds_of_all : {A : Type 0} (kind : A → Option Kind) (worth : A → Option Value)
    → ((a : A) (k : Kind) (value : Value) → kind a ≡ Some k → worth a ≡ Some value → kind_of value ≡ k)
    → (image : List A) (columns : List Kind) (new : List Value) → map kind image ≡ map Some columns
    → all_there (map worth image) ≡ Some new → kinds_of new ≡ columns
kinds_of_all kind worth each [] [] new e is = let same : [] ≡ new = cc in sym (ap kinds_of same)
kinds_of_all kind worth each [] (k ∷ columns) new e is = cc
kinds_of_all kind worth each (a ∷ image) [] new e is = cc
kinds_of_all {A} kind worth each (a ∷ image) (k ∷ columns) new e is =
    let head : kind a ≡ Some k = cc in
    let tail : map kind image ≡ map Some columns = cc in
    by (worth a) (λ value. each a k value head) (all_there (map worth image))
    (λ values. kinds_of_all kind worth each image columns values tail) is
  where
    by : (first : Option Value) → ((value : Value) → first ≡ Some value → kind_of value ≡ k)
        → (rest : Option (List Value)) → ((values : List Value) → rest ≡ Some values → kinds_of values ≡ columns)
        → option_and_then (λ value. option_map (λ values. value ∷ values) rest) first ≡ Some new
        → kinds_of new ≡ k ∷ columns
    by (Some value) one (Some values) two is =
        let same : value ∷ values ≡ new = cc in
        let h = one value refl in
        let t = two values refl in
        sym (ap kinds_of same) ∙ (λ i. h i ∷ t i)
    by (Some value) one None two is = cc
    by None one rest two is = cc

-- an image has the kinds that its expressions have
kinds_of_image : (image : List (Expression (Operand Value))) (row new : List Value) (columns : List Kind)
    → KeepsKinds columns image → kinds_of row ≡ columns → image_of image row ≡ Some new → kinds_of new ≡ columns
kinds_of_image image row new columns e of_row is =
    kinds_of_all (expression_kind (operand_kind columns)) (expression_value (worth_over row))
    (kind_of_expression (operand_kind columns) (worth_over row)
    (λ term k e. kind_of_operand row term k (ap (λ ks. operand_kind ks term) of_row ∙ e))) image columns new e is

-- what there is, from an answer that isn't an overflow
there_is : {A : Type 0} (meant : Option A) (x : A) → there_or_overflow meant ≡ Ok x → meant ≡ Some x
there_is None x is = absurd cc
there_is (Some y) x is = let same : y ≡ x = cc in ap (λ z. Some z) same

pub image_of_kinds : (image : List (Expression (Operand Value))) (row : List Value) (columns : List Kind)
    (answer : Result (List Value) (Refusal Failure))
    → KeepsKinds columns image → kinds_of row ≡ columns
    → Gives (λ new. new) answer (image_or_overflow (image_of image) row) → IfOk answer (λ new. kinds_of new ≡ columns)
image_of_kinds image row columns (Ok new) fits of_row is =
    kinds_of_image image row new columns fits of_row (there_is (image_of image row) new is)
image_of_kinds image row columns (Err fault) fits of_row is = tt
