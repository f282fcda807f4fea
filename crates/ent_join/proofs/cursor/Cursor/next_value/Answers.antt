use Rattle.std.proofs.Common.{◌≡◌, ◌-◌, ◌<◌, ◌∷◌, length, take, drop, get_or, ap, sym, ◌∙◌, subst, arith}
use Rattle.std.specs.Prelude.{slice_index_or}
use Rattle.ent_semantics.specs.Term.{no_value}
use Rattle.ent_join.specs.Cursor.{column_values, IsNext}
use Rattle.ent_join.proofs.Walked.{first_and_others, column_is, next_in_column, all_first}
use Rattle.ent_join.proofs.cursor.Cursor.next_value.Goals as goal

pub returns-in-len1-up-clause-value : goal.returns-in-len1-up-clause-value
returns-in-len1-up-clause-value c =
    let rows = c.self.inside.rows.now in
    let column = c.self.inside.column in
    let first = c.first-item.result in
    let value = c.index-values-self.result in
    let others = take (length rows - 1) (drop 1 rows) in
    let whole : rows ≡ first ∷ others = first_and_others rows first (omega arith) c.first-item.is in
    let wide : column < length first =
    all_first (λ row. column < length row) rows others first whole c.self.invariant in
    let is : slice_index_or first column no_value ≡ value =
    column_is first column value wide (c.index-values-self.is ∙ ap (λ row. get_or row column value) c.values.ensures) in
    subst (λ before. IsNext before (column_values column c.rows_behind-self-inside.result.now) value)
    (ap (column_values column) (sym whole) ∙ c.self.view_is)
    (next_in_column column first others c.rows_behind-self-inside.result.now value is
    c.rows_behind-self-inside.ensures.passed)
