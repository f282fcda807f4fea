-- What an INSERT of a new row comes to, and one into a table without rows.
use Rattle.std.proofs.Common.{◌≡◌, ℕ, ◌+◌, Bool, true, false, cond, List, [], ◌∷◌, map, refl, sym, ap, subst, ◌∙◌, Ok}
use Rattle.std.proofs.Common.{Err}
use Rattle.std.specs.Prelude.{nat_le, slice_index_or, slice_set}
use Rattle.ent_lists.specs.Laws.{contains-empty, len-empty, len-insert, without-nothing}
use Rattle.ent_lists.specs.Sets as set
use Rattle.ent_value.specs.Order.{rows_total, exact_rows}
use Rattle.ent_value.specs.Value.{row_cmp}
use Rattle.ent_value.specs.declared.limits.TheConstants.{MOST_ROWS}
use Rattle.ent_value.specs.declared.value.Value.{Value}
use Rattle.ent_semantics.specs.declared.answer.Answer.TheVariants as answers
use Rattle.ent_semantics.specs.declared.answer.Failure.TheVariants.{TableFull}
use Rattle.ent_semantics.specs.Database.{Rows, nothing_bound}
use Rattle.ent_semantics.specs.declared.statement.Statement.TheVariants as forms
use Rattle.ent_semantics.specs.Form.{Tables, closed_worth, form_meaning}
use Rattle.ent_protocol.specs.Job.{IsEffect, Changed, applied}

-- a row that comes into none is the only one
pub only_row : (row : List Value) → applied [] (row ∷ []) set.empty ≡ set.from_list (row ∷ [])
only_row row = ap (λ rows. set.insert rows row) (without-nothing rows_total exact_rows set.empty)

pub one_row : (row : List Value) → set.len (set.from_list {R = row_cmp} (row ∷ [])) ≡ 1
one_row row =
    len-insert rows_total exact_rows (set.empty {R = row_cmp}) row
    ∙ ap (λ b. cond b (set.len (set.empty {R = row_cmp})) (set.len (set.empty {R = row_cmp}) + 1))
    (contains-empty row_cmp row)
    ∙ ap (λ n. n + 1) (len-empty row_cmp)

module _ (table : ℕ) (values : List Value) (tables : Tables) where
  abbrev rows : Rows
  rows = slice_index_or tables table set.empty

  abbrev row : List Value
  row = map (λ value. value) values

  abbrev Comes : Bool → Bool → Type 0
  Comes is_there fits =
      IsEffect (forms.Insert table values) tables (cond fits (Ok (record {
        database = slice_set tables table (set.insert rows row);
        environment = nothing_bound;
        answer = answers.Count (cond is_there 0 1);
      })) (Err TableFull)) (Changed 1 [] (row ∷ []))

  -- a row that isn't there, where there is room
  pub another_row : set.contains rows row ≡ false → nat_le (set.len (set.insert rows row)) MOST_ROWS ≡ true
      → ((other : Rows) → slice_index_or (slice_set tables table other) table set.empty ≡ other)
      → IsEffect (forms.Insert table values) tables
      (form_meaning closed_worth (forms.Insert table values) [] tables nothing_bound) (Changed 1 [] (row ∷ []))
  another_row absent fits found =
      subst (λ b. Comes b (nat_le (set.len (set.insert rows row)) MOST_ROWS)) (sym absent)
      (subst (λ b. Comes false b) (sym fits) (
        refl,
        found (set.insert rows row)
            ∙ ap (λ kept. set.insert kept row) (sym (without-nothing rows_total exact_rows rows)),
      ))

  pub new_row : rows ≡ set.empty
      → ((other : Rows) → slice_index_or (slice_set tables table other) table set.empty ≡ other)
      → IsEffect (forms.Insert table values) tables
      (form_meaning closed_worth (forms.Insert table values) [] tables nothing_bound) (Changed 1 [] (row ∷ []))
  new_row none found = another_row absent fits found
    where
      absent : set.contains rows row ≡ false
      absent = ap (λ r. set.contains r row) none ∙ contains-empty row_cmp row

      fits : nat_le (set.len (set.insert rows row)) MOST_ROWS ≡ true
      fits = ap (λ r. nat_le (set.len (set.insert r row)) MOST_ROWS) none ∙ ap (λ n. nat_le n MOST_ROWS) (one_row row)
