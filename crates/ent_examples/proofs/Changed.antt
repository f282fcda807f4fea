-- What an INSERT of a new row comes to, and an UPDATE of a table of one row.
use Rattle.std.proofs.Common.{◌≡◌, ℕ, ◌+◌, Bool, true, false, cond, ◌&&◌, List, [], ◌∷◌, map, refl, sym, ap, subst}
use Rattle.std.proofs.Common.{◌∙◌, Ok}
use Rattle.std.proofs.Common.{Err, Option, Some, None, length}
use Rattle.std.specs.Prelude.{nat_le, slice_index_or, slice_set, is_some, if◌then◌else◌}
use Rattle.std.specs.List.{cons_option, filter_map, list_all, list_any}
use Rattle.std.specs.Ordering.{eq_by_cmp}
use Rattle.ent_lists.specs.Laws.{ascending-from_list, contains-from_list, from_list-filter, len-insert}
use Rattle.ent_lists.specs.Laws.{without-filter, len-empty}
use Rattle.ent_lists.specs.Sets as set
use Rattle.ent_value.specs.Order.{rows_total, exact_rows}
use Rattle.ent_value.specs.Value.{row_cmp}
use Rattle.ent_value.specs.declared.limits.TheConstants.{MOST_ROWS}
use Rattle.ent_value.specs.declared.value.Value.{Value}
use Rattle.ent_tree.specs.declared.operand.Expression.{Expression}
use Rattle.ent_semantics.specs.Change.{all_there}
use Rattle.ent_semantics.specs.declared.answer.Answer.TheVariants as answers
use Rattle.ent_semantics.specs.declared.answer.Failure.TheVariants.{TableFull}
use Rattle.ent_semantics.specs.Database.{Rows, nothing_bound}
use Rattle.ent_semantics.specs.Effect.{changed, or_overflow}
use Rattle.ent_semantics.specs.Term.{expression_value}
use Rattle.ent_semantics.specs.declared.operand.Operand.{Operand}
use Rattle.ent_semantics.specs.declared.statement.Statement.TheVariants as forms
use Rattle.ent_semantics.specs.Form.{Tables, closed_worth, form_meaning, operand_worth, table_numbered}
use Rattle.ent_protocol.specs.Job.{IsEffect, Changed}
use Rattle.ent_examples.proofs.Inserted.{another_row, one_row}

abbrev Row : Type 0
Row = List Value

pub no_row : set.len (set.from_list {R = row_cmp} []) ≡ 0
no_row = len-empty row_cmp

-- the table, which holds these rows
module _ (table : ℕ) (tables : Tables) (rows : List Row)
    (holds : slice_index_or tables table set.empty ≡ set.from_list rows)
    (found : (other : Rows) → slice_index_or (slice_set tables table other) table set.empty ≡ other) where
  abbrev present : Rows
  present = slice_index_or tables table set.empty

  module _ (values : List Value) where
    abbrev row : Row
    row = map (λ value. value) values

    pub inserted : list_any (eq_by_cmp row_cmp row) rows ≡ false
        → set.len (set.from_list {R = row_cmp} rows) ≡ length rows
        → nat_le (length rows + 1) MOST_ROWS ≡ true
        → IsEffect (forms.Insert table values) tables
        (form_meaning closed_worth (forms.Insert table values) [] tables nothing_bound) (Changed 1 [] (row ∷ []))
    inserted is_new distinct room = another_row table values tables absent fits found
      where
        absent : set.contains present row ≡ false
        absent =
            ap (λ s. set.contains s row) holds ∙ contains-from_list rows_total exact_rows rows row ∙ is_new

        counted : set.len (set.insert present row) ≡ length rows + 1
        counted =
            len-insert rows_total exact_rows present row
            ∙ ap (λ b. cond b (set.len present) (set.len present + 1)) absent
            ∙ ap (λ n. n + 1) (ap (λ s. set.len s) holds ∙ distinct)

        fits : nat_le (set.len (set.insert present row)) MOST_ROWS ≡ true
        fits = ap (λ n. nat_le n MOST_ROWS) counted ∙ room

-- the table, which holds one row; the row gives way to another one
module _ (table : ℕ) (tables : Tables) (old new : Row) (image : List (Expression (Operand Value)))
    (holds : slice_index_or tables table set.empty ≡ set.from_list (old ∷ []))
    (found : (other : Rows) → slice_index_or (slice_set tables table other) table set.empty ≡ other)
    (gives : all_there (map (expression_value (operand_worth (closed_worth nothing_bound) old)) image) ≡ Some new) where
  abbrev held : Rows
  held = slice_index_or tables table set.empty

  abbrev image_of : Row → Option Row
  image_of row = all_there (map (expression_value (operand_worth (closed_worth nothing_bound) row)) image)

  -- with these rows that match, in this order, and those that don't
  abbrev Gives : Rows → List Row → Rows → Type 0
  Gives matched listed rest =
      IsEffect (forms.Update table image []) tables (or_overflow
      (if list_all (λ row. is_some (image_of row)) listed
      then Some (set.insert_all rest (filter_map image_of listed)) else None)
      (changed (table_numbered table) (set.len matched)) tables nothing_bound) (Changed 1 (old ∷ []) (new ∷ []))

  abbrev Lists : Option Row → ℕ → Rows → Type 0
  Lists to count rest =
      IsEffect (forms.Update table image []) tables (or_overflow
      (if is_some to && true then Some (set.insert_all rest (cons_option to [])) else None)
      (changed (table_numbered table) count) tables nothing_bound) (Changed 1 (old ∷ []) (new ∷ []))

  all_match : set.retain held (λ row. true) ≡ set.from_list (old ∷ [])
  all_match =
      ap (λ s. set.retain s (λ row. true)) holds
      ∙ sym (from_list-filter rows_total exact_rows (λ row. true) (old ∷ []))

  nothing_left : set.retain held (λ row. false) ≡ set.empty
  nothing_left =
      ap (λ s. set.retain s (λ row. false)) holds
      ∙ sym (from_list-filter rows_total exact_rows (λ row. false) (old ∷ []))

  taken_out : set.empty ≡ set.without_all held (old ∷ [])
  taken_out =
      from_list-filter rows_total exact_rows (λ row. false) (old ∷ [])
      ∙ sym (without-filter rows_total exact_rows (λ row. true) (old ∷ []))
      ∙ ap (λ s. set.without_all s (old ∷ [])) (sym holds)

  one : set.len (set.from_list {R = row_cmp} (old ∷ [])) ≡ 1
  one = one_row old

  fits : nat_le (set.len (set.insert (set.empty {R = row_cmp}) new)) MOST_ROWS ≡ true
  fits = ap (λ n. nat_le n MOST_ROWS) (one_row new)

  abbrev Ends : Bool → Type 0
  Ends b =
      IsEffect (forms.Update table image []) tables
      (if b then Ok (record {
        database = slice_set tables table (set.insert set.empty new);
        environment = nothing_bound;
        answer = answers.Count 1;
      }) else Err TableFull) (Changed 1 (old ∷ []) (new ∷ []))

  pub updated : IsEffect (forms.Update table image []) tables
      (form_meaning closed_worth (forms.Update table image []) [] tables nothing_bound)
      (Changed 1 (old ∷ []) (new ∷ []))
  updated =
      subst (λ s. Gives s (set.ascending s) (set.retain held (λ row. false))) (sym all_match)
      (subst (λ xs. Gives (set.from_list (old ∷ [])) xs (set.retain held (λ row. false)))
      (sym (ascending-from_list rows_total exact_rows (old ∷ []) tt))
      (subst (λ rest. Gives (set.from_list (old ∷ [])) (old ∷ []) rest) (sym nothing_left)
      (subst (λ to. Lists to (set.len (set.from_list {R = row_cmp} (old ∷ []))) set.empty) (sym gives)
      (subst (λ n. Lists (Some new) n set.empty) (sym one)
      (subst Ends (sym fits) (
        refl,
        found (set.insert set.empty new) ∙ ap (λ s. set.insert s new) taken_out,
      ))))))
