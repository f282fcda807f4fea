use Rattle.std.proofs.Common.{◌≡◌, ◌-◌, ◌<◌, ◌∷◌, length, take, drop, subst, arith}
use Rattle.std.specs.Prelude.{slice_index_or}
use Rattle.ent_semantics.specs.Term.{no_value}
use Rattle.ent_join.specs.Cursor.{PassesOver}
use Rattle.ent_join.proofs.Walked.{first_and_others, passes_over_more, all_first, all_others}
use Rattle.ent_join.proofs.cursor.rows_behind.Goals as goal

pub loop-left-preserved : goal.loop-left-preserved
loop-left-preserved c =
    let rows = c.loop-left.left.now in
    let column = c.args.column in
    let first = c.first-item.result in
    let value = c.args.value.now in
    let others = take (length rows - 1) (drop 1 rows) in
    let whole : rows ≡ first ∷ others = first_and_others rows first (omega arith) c.first-item.is in
    let wide : column < length first =
    all_first (λ row. column < length row) rows others first whole c.loop-left.invariant.has_column in
    let is : slice_index_or first column no_value ≡ value = c.has_value.ensures.0 c.if-not-has_value.false in
    record {
      has_column = all_others (λ row. column < length row) rows others first whole c.loop-left.invariant.has_column;
      passed = passes_over_more column value c.args.rows.now first others is
          (subst (PassesOver column value c.args.rows.now) whole c.loop-left.invariant.passed);
    }
