-- What holds of each row of a list or a set.
use Rattle.std.proofs.Common.{◌≡◌, Bool, true, false, ◌&&◌, ◌||◌, List, [], ◌∷◌, refl, sym, ap, subst, ◌∙◌}
use Rattle.std.specs.Cmp.{Equal-is}
use Rattle.std.specs.List.{AllByRecursion, list_any}
use Rattle.std.specs.Ordering.{eq_by_cmp}
use Rattle.ent_lists.specs.Sets as set
use Rattle.ent_lists.specs.Laws.{contains-ascending, contains-from_list, contains-insert, contains-retain}
use Rattle.ent_lists.specs.Elements.{and_both, or_second}
use Rattle.ent_value.specs.Order.{rows_total, exact_rows, rows_equal}
use Rattle.ent_value.specs.Value.{row_cmp}
use Rattle.ent_value.specs.declared.value.Value.{Value}
use Rattle.ent_semantics.specs.Database.{Rows}

module _ (P : List Value → Type 0) where
  abbrev pub EachRow : Rows → Type 0
  EachRow rows = (row : List Value) → set.contains rows row ≡ true → P row

  -- ---- rows of a list

  pub of_rows : (rows : List (List Value)) (row : List Value) → AllByRecursion P rows
      → list_any (eq_by_cmp row_cmp row) rows ≡ true → P row
  of_rows [] row h there = cc
  of_rows (first ∷ rows) row h there =
      elim (eq_by_cmp row_cmp row first) as (λ b. eq_by_cmp row_cmp row first ≡ b
      → (b || list_any (eq_by_cmp row_cmp row) rows) ≡ true → P row) [
        | true ↦ λ e _. subst P (sym (exact_rows row first ((Equal-is (row_cmp row first)).0 e))) h.0
        | false ↦ λ _ rest. of_rows rows row h.1 rest
      ] refl there

  pub to_rows : (rows : List (List Value))
      → ((row : List Value) → list_any (eq_by_cmp row_cmp row) rows ≡ true → P row) → AllByRecursion P rows
  to_rows [] h = tt
  to_rows (row ∷ rows) h = (
    h row (ap (λ b. b || list_any (eq_by_cmp row_cmp row) rows) (rows_equal.refl row)),
    to_rows rows (λ other there. h other (or_second (eq_by_cmp row_cmp other row) _ there)),
  )

  -- ---- rows of a set

  pub of_ascending : (rows : Rows) → AllByRecursion P (set.ascending rows) → EachRow rows
  of_ascending rows h row there = of_rows (set.ascending rows) row h (sym (contains-ascending rows row) ∙ there)

  pub to_ascending : (rows : Rows) → EachRow rows → AllByRecursion P (set.ascending rows)
  to_ascending rows h = to_rows (set.ascending rows) (λ row there. h row (contains-ascending rows row ∙ there))

  pub each_listed : (rows : List (List Value)) → AllByRecursion P rows → EachRow (set.from_list rows)
  each_listed rows h row there = of_rows rows row h (sym (contains-from_list rows_total exact_rows rows row) ∙ there)

  either : (left right : Bool) → (left || right) ≡ true → left ≡ false → right ≡ true
  either true right e none = cc
  either false right e none = e

  pub each_inserted : (rows : Rows) (row : List Value) → EachRow rows → P row → EachRow (set.insert rows row)
  each_inserted rows row h k other e =
      elim (eq_by_cmp row_cmp other row) as (λ b. eq_by_cmp row_cmp other row ≡ b → P other) [
        | true ↦ λ same. subst P (sym (exact_rows other row ((Equal-is (row_cmp other row)).0 same))) k
        | false ↦ λ differs. h other (either _ _ (sym (contains-insert rows_total exact_rows rows row other) ∙ e)
            differs)
      ] refl

  pub each_all_inserted : (rows : Rows) (more : List (List Value)) → EachRow rows → AllByRecursion P more
      → EachRow (set.insert_all rows more)
  each_all_inserted rows [] h k = h
  each_all_inserted rows (row ∷ more) h k =
      each_all_inserted (set.insert rows row) more (each_inserted rows row h k.0) k.1

  pub each_retained : (rows : Rows) (keeps : List Value → Bool) → EachRow rows → EachRow (set.retain rows keeps)
  each_retained rows keeps h row e = h row (and_both (set.contains rows row) (keeps row) both).0
    where
      both : (set.contains rows row && keeps row) ≡ true
      both =
          sym (contains-retain rows_total rows keeps row (λ other same. ap keeps (sym (exact_rows row other same))))
          ∙ e
