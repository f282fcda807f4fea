-- What a test of equality wants in a column behind a front.
use Rattle.std.proofs.Common.{◌≡◌, ℕ, zero, suc, ◌+◌, ◌<◌, List, [], ◌∷◌, ◌++◌, length, take, Some, refl, sym, ap}
use Rattle.std.proofs.Common.{◌∙◌, arith, add-one, Bor, append_assoc}
use Rattle.std.proofs.lemmas.List.{length-map}
use Rattle.std.specs.Option.{option_copied}
use Rattle.std.specs.Prelude.{IsTrue, IfSome, Option, None, slice_get, slice_index_or}
use Rattle.std.specs.Cmp.{Equal-is}
use Rattle.std.specs.Ordering.{eq_by_cmp}
use Rattle.ent_value.specs.Value.{value_cmp, row_cmp, kind_of, kinds_of}
use Rattle.ent_value.specs.Order.{exact_values, rows_equal}
use Rattle.ent_value.specs.declared.value.Kind.{Kind}
use Rattle.ent_value.specs.declared.value.Value.{Value}
use Rattle.ent_rel.specs.First.{has_first}
use Rattle.ent_tree.specs.declared.operand.Comparison.TheVariants.{Equal}
use Rattle.ent_tree.specs.declared.operand.Test.{Test}
use Rattle.ent_semantics.specs.Selection.{compares, holds}
use Rattle.ent_semantics.specs.Term.{no_value}
use Rattle.ent_semantics.specs.declared.operand.Operand.{Operand}
use Rattle.ent_ordinary.specs.Early.{value_there}
use Rattle.ent_ordinary.specs.Worth.{worth_over}
use Rattle.ent_ordinary.proofs.Fronts.{there_worth}

module _ (front rest : List Value) (test : Test (Operand Value)) (is : test.comparison ≡ Equal)
    (met : IsTrue (holds (worth_over (front ++ rest)) test)) where
  sides_same : worth_over (front ++ rest) test.left ≡ worth_over (front ++ rest) test.right
  sides_same =
      let left = worth_over (front ++ rest) test.left in
      let right = worth_over (front ++ rest) test.right in
      exact_values left right ((Equal-is (value_cmp left right)).0
      (ap (λ c. compares c (value_cmp left right)) (sym is) ∙ met))

  pub wanted_right : (column : ℕ) (value : Value)
      → worth_over (front ++ rest) test.left ≡ slice_index_or rest column no_value
      → value_there front test.right ≡ Some value → slice_index_or rest column no_value ≡ value
  wanted_right column value left right = sym left ∙ sides_same ∙ there_worth front rest test.right value right

  pub wanted_left : (column : ℕ) (value : Value)
      → worth_over (front ++ rest) test.right ≡ slice_index_or rest column no_value
      → value_there front test.left ≡ Some value → slice_index_or rest column no_value ≡ value
  wanted_left column value right left = sym right ∙ sym sides_same ∙ there_worth front rest test.left value left

-- what holds of the value that is there
pub if_there : {P : Value → Type 0} (there : Option Value) (found : Option (Bor Value)) → option_copied found ≡ there
    → ((value : Value) → there ≡ Some value → P value) → IfSome found (λ value. P value.now)
if_there there (Some value) is each = each value.now (sym is)
if_there there None is each = tt

-- a row whose first values are these has them
pub first_are : (values row : List Value) (n : ℕ) → length values ≡ n → take n row ≡ values
    → IsTrue (has_first values row)
first_are values row n count is =
    ap (λ first. eq_by_cmp row_cmp first values) (ap (λ m. take m row) count ∙ is) ∙ rows_equal.refl values

-- one value more of the first ones
one_more : (row others : List Value) (n : ℕ) (value : Value) → n < length row
    → slice_index_or (row ++ others) n no_value ≡ value → take (suc n) row ≡ take n row ++ value ∷ []
one_more [] others n value lt is = absurd (omega arith)
one_more (first ∷ row) others zero value lt is = ap (λ v. v ∷ []) is
one_more (first ∷ row) others (suc n) value lt is =
    ap (λ values. first ∷ values) (one_more row others n value (omega arith) is)

pub first_more : (values next row others : List Value) (kinds : List Kind) (n : ℕ) (value copy : Value)
    → kinds_of row ≡ kinds → n < length kinds → take n row ≡ values
    → slice_index_or (row ++ others) n no_value ≡ value → copy ≡ value → next ≡ values ++ copy ∷ []
    → take (n + 1) row ≡ next
first_more values next row others kinds n value copy of lt so is same pushed =
    let count : length row ≡ length kinds = sym (length-map row kind_of) ∙ ap length of in
    ap (λ m. take m row) (add-one n) ∙ one_more row others n value (omega arith) is
    ∙ (λ i. so i ++ sym same i ∷ []) ∙ sym pushed

-- one value more of a row behind a front
value_more : (row : List Value) (n : ℕ) (value : Value) → slice_get row n ≡ Some value
    → take (suc n) row ≡ take n row ++ value ∷ []
value_more [] n value is = cc
value_more (first ∷ row) zero value is = let same : first ≡ value = cc in ap (λ v. v ∷ []) same
value_more (first ∷ row) (suc n) value is = ap (λ values. first ∷ values) (value_more row n value is)

pub joined_more : (front row values next : List Value) (n : ℕ) (value : Value) → slice_get row n ≡ Some value
    → values ≡ front ++ take n row → next ≡ values ++ value ∷ [] → next ≡ front ++ take (n + 1) row
joined_more front row values next n value is so pushed =
    pushed ∙ ap (λ values. values ++ value ∷ []) so ∙ append_assoc front (take n row) (value ∷ [])
    ∙ ap (λ rest. front ++ rest) (sym (value_more row n value is) ∙ ap (λ m. take m row) (sym (add-one n)))
