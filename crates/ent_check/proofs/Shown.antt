-- A test that an item has a row's value changes nothing of whether a SELECT shows that row.
use Rattle.std.proofs.Common.{◌≡◌, ℕ, zero, suc, ◌<◌, Bool, true, false, ◌&&◌, ◌||◌, cond, List, [], ◌∷◌, ◌++◌, length}
use Rattle.std.proofs.Common.{map}
use Rattle.std.proofs.Common.{refl, sym, ap, ◌∙◌, arith, slice_index_or}
use Rattle.std.specs.List.{filter, list_any}
use Rattle.std.specs.Cmp.{Equal-is}
use Rattle.std.specs.Ordering.{eq_by_cmp, is_eq}
use Rattle.ent_lists.specs.Laws.{contains-from_list}
use Rattle.ent_lists.specs.Sets as set
use Rattle.ent_lists.proofs.Lists.{list_all-behind}
use Rattle.ent_value.specs.Order.{exact_rows, rows_total}
use Rattle.ent_value.specs.Value.{row_cmp, value_cmp}
use Rattle.ent_value.specs.declared.value.Value.{Value}
use Rattle.ent_tree.specs.declared.operand.Comparison.TheVariants.{Equal}
use Rattle.ent_tree.specs.declared.operand.Test.{Test}
use Rattle.ent_semantics.specs.Database.{Rows}
use Rattle.ent_semantics.specs.Selection.{combinations, holds, meets, selection}
use Rattle.ent_semantics.specs.declared.operand.Operand.{Operand}
use Rattle.ent_semantics.specs.declared.operand.Operand.TheVariants.{Known}
use Rattle.ent_history.proofs.Alike.{value_itself}
use Rattle.ent_ordinary.specs.Worth.{worth_over}
use Rattle.ent_check.proofs.Lists.{any_same}

abbrev Row : Type 0
Row = List Value

-- what is shown of those that pass a test
any_shown : (shown : Row → Row) (p : Row → Bool) (row : Row) (xs : List Row)
    → list_any (eq_by_cmp row_cmp row) (map shown (filter p xs))
    ≡ list_any (λ x. p x && eq_by_cmp row_cmp row (shown x)) xs
any_shown shown p row [] = refl
any_shown shown p row (x ∷ xs) = by (p x) (any_shown shown p row xs)
  where
    by : (b : Bool) → list_any (eq_by_cmp row_cmp row) (map shown (filter p xs))
        ≡ list_any (λ z. p z && eq_by_cmp row_cmp row (shown z)) xs
        → list_any (eq_by_cmp row_cmp row) (map shown (cond b (x ∷ filter p xs) (filter p xs)))
        ≡ ((b && eq_by_cmp row_cmp row (shown x)) || list_any (λ z. p z && eq_by_cmp row_cmp row (shown z)) xs)
    by true rest = ap (λ b. eq_by_cmp row_cmp row (shown x) || b) rest
    by false rest = rest

-- the same rows pass where a test is added that holds wherever the row is shown
pub shown_same : (p q : Row → Bool) (shown : Row → Row) (sources : List Rows) (row : Row)
    → ((x : Row) → eq_by_cmp row_cmp row (shown x) ≡ true → q x ≡ true)
    → set.contains (selection (λ x. p x && q x) shown sources) row ≡ set.contains (selection p shown sources) row
shown_same p q shown sources row holds =
    contains-from_list rows_total exact_rows (map shown (filter (λ x. p x && q x) (combinations sources))) row
    ∙ any_shown shown (λ x. p x && q x) row (combinations sources)
    ∙ any_same (λ x. (p x && q x) && eq_by_cmp row_cmp row (shown x)) (λ x. p x && eq_by_cmp row_cmp row (shown x))
    (combinations sources) (λ x. by (p x) (q x) (eq_by_cmp row_cmp row (shown x)) (holds x))
    ∙ sym (any_shown shown p row (combinations sources))
    ∙ sym (contains-from_list rows_total exact_rows (map shown (filter p (combinations sources))) row)
  where
    by : (a b c : Bool) → (c ≡ true → b ≡ true) → ((a && b) && c) ≡ (a && c)
    by true true c is = refl
    by true false true is = cc (is refl)
    by true false false is = refl
    by false b c is = refl

mapped_at : {X Y : Type 0} (f : X → Y) (xs : List X) (i : ℕ) (x : X) (y : Y) → i < length xs
    → slice_index_or (map f xs) i y ≡ f (slice_index_or xs i x)
mapped_at f [] i x y low = absurd (omega (arith, low))
mapped_at f (z ∷ zs) zero x y low = refl
mapped_at f (z ∷ zs) (suc i) x y low = mapped_at f zs i x y (omega (arith, low))

module _ (tests : List (Test (Operand Value))) (items : List (Operand Value)) (row : Row) (i : ℕ)
    (item : Operand Value) (value : Value) (low : i < length items) (at : item ≡ slice_index_or items i item)
    (there : value ≡ slice_index_or row i value) where
  abbrev test : Test (Operand Value)
  test = record { left = item; comparison = Equal; right = Known value }

  abbrev shown : Row → Row
  shown combination = map (worth_over combination) items

  its_value : (combination : Row) → row ≡ shown combination → worth_over combination item ≡ value
  its_value combination is =
      ap (worth_over combination) at
      ∙ sym (mapped_at (worth_over combination) items i item value low)
      ∙ ap (λ r. slice_index_or r i value) (sym is)
      ∙ sym there

  holds_there : (combination : Row) → eq_by_cmp row_cmp row (shown combination) ≡ true
      → holds (worth_over combination) test ≡ true
  holds_there combination same =
      let is : row ≡ shown combination = exact_rows row (shown combination) ((Equal-is _).0 same) in
      ap (λ v. is_eq (value_cmp v value)) (its_value combination is) ∙ value_itself value

  pub one_test_more : (sources : List Rows)
      → set.contains (selection (meets worth_over (tests ++ test ∷ [])) shown sources) row
      ≡ set.contains (selection (meets worth_over tests) shown sources) row
  one_test_more sources =
      (λ j. set.contains (selection (λ combination. list_all-behind (holds (worth_over combination)) tests test j) shown
      sources) row)
      ∙ shown_same (meets worth_over tests) (λ combination. holds (worth_over combination) test) shown sources row
      holds_there
