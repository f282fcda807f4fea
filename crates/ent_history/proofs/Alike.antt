-- What is the same is equal.
use Rattle.std.proofs.Common.{◌≡◌, Bool, true, List, [], ◌∷◌, refl, ap}
use Rattle.std.specs.Cmp.{Equal-is, eq_by_cmp_equiv}
use Rattle.std.specs.Cmp.Lexicographic.{pointwise}
use Rattle.std.specs.Ordering.{eq_by_cmp}
use Rattle.ent_value.specs.Order.{values_total, exact_values, exact_rows, rows_equal}
use Rattle.ent_value.specs.Value.{value_cmp, row_cmp}
use Rattle.ent_value.specs.declared.value.Value.{Value}
use Rattle.ent_semantics.specs.declared.answer.Answer.{Answer}
use Rattle.ent_semantics.specs.declared.answer.Answer.TheVariants as answers
use Rattle.ent_semantics.specs.declared.answer.Fact.{Fact}
use Rattle.ent_semantics.specs.Names.{equal_names, name_itself}
use Rattle.ent_history.specs.Alike.{same_row, same_rows, same_fact, same_answer}
use Rattle.ent_lists.specs.Elements.{and_both, both_and, same_number, number_itself}

module _ {X : Type 0} (E : X → X → Bool) where
  -- a test that tells elements apart tells lists apart
  each_equal : ((x y : X) → E x y ≡ true → x ≡ y) → (xs ys : List X) → pointwise E xs ys ≡ true → xs ≡ ys
  each_equal exact [] [] e = refl
  each_equal exact [] (y ∷ ys) e = cc
  each_equal exact (x ∷ xs) [] e = cc
  each_equal exact (x ∷ xs) (y ∷ ys) e =
      let both = and_both (E x y) (pointwise E xs ys) e in
      λ i. exact x y both.0 i ∷ each_equal exact xs ys both.1 i

  each_itself : ((x : X) → E x x ≡ true) → (xs : List X) → pointwise E xs xs ≡ true
  each_itself itself [] = refl
  each_itself itself (x ∷ xs) = both_and (E x x) (pointwise E xs xs) (itself x) (each_itself itself xs)

pub equal_values : (x y : Value) → eq_by_cmp value_cmp x y ≡ true → x ≡ y
equal_values x y e = exact_values x y ((Equal-is (value_cmp x y)).0 e)

pub value_itself : (x : Value) → eq_by_cmp value_cmp x x ≡ true
value_itself x = (eq_by_cmp_equiv values_total).refl x

pub equal_rows : (xs ys : List Value) → same_row xs ys ≡ true → xs ≡ ys
equal_rows xs ys e = exact_rows xs ys ((Equal-is (row_cmp xs ys)).0 e)

pub row_itself : (xs : List Value) → same_row xs xs ≡ true
row_itself xs = rows_equal.refl xs

pub equal_lists : (xs ys : List (List Value)) → same_rows xs ys ≡ true → xs ≡ ys
equal_lists = each_equal same_row equal_rows

pub list_itself : (xs : List (List Value)) → same_rows xs xs ≡ true
list_itself = each_itself same_row row_itself

pub equal_facts : (x y : Fact) → same_fact x y ≡ true → x ≡ y
equal_facts x y e =
    let both = and_both _ (same_row x.values y.values) e in
    λ i. record {
      relation = equal_names x.relation y.relation both.0 i;
      values = equal_rows x.values y.values both.1 i;
    }

pub fact_itself : (x : Fact) → same_fact x x ≡ true
fact_itself x = both_and _ (same_row x.values x.values) (name_itself x.relation) (row_itself x.values)

pub equal_answers : (x y : Answer) → same_answer x y ≡ true → x ≡ y
equal_answers (answers.Count n) (answers.Count m) e = ap (λ k. answers.Count k) (same_number n m e)
equal_answers (answers.Value x) (answers.Value y) e = ap (λ v. answers.Value v) (equal_values x y e)
equal_answers (answers.Rows xs) (answers.Rows ys) e = ap (λ v. answers.Rows v) (equal_lists xs ys e)
equal_answers (answers.Heads xs) (answers.Heads ys) e =
    ap (λ v. answers.Heads v) (each_equal same_fact equal_facts xs ys e)
equal_answers (answers.Count n) (answers.Value y) e = cc
equal_answers (answers.Count n) (answers.Rows y) e = cc
equal_answers (answers.Count n) (answers.Heads y) e = cc
equal_answers (answers.Value x) (answers.Count y) e = cc
equal_answers (answers.Value x) (answers.Rows y) e = cc
equal_answers (answers.Value x) (answers.Heads y) e = cc
equal_answers (answers.Rows x) (answers.Count y) e = cc
equal_answers (answers.Rows x) (answers.Value y) e = cc
equal_answers (answers.Rows x) (answers.Heads y) e = cc
equal_answers (answers.Heads x) (answers.Count y) e = cc
equal_answers (answers.Heads x) (answers.Value y) e = cc
equal_answers (answers.Heads x) (answers.Rows y) e = cc

pub answer_itself : (x : Answer) → same_answer x x ≡ true
answer_itself (answers.Count n) = number_itself n
answer_itself (answers.Value x) = value_itself x
answer_itself (answers.Rows xs) = list_itself xs
answer_itself (answers.Heads xs) = each_itself same_fact fact_itself xs
