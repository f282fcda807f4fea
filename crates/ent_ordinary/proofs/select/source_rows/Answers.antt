use Rattle.std.proofs.Common.{true, refl, sym, ◌∙◌}
use Rattle.std.proofs.lemmas.Result.{IfOk-weaker}
use Rattle.ent_lists.specs.Sets as set
use Rattle.ent_rel.specs.First.{has_first}
use Rattle.ent_ordinary.proofs.Searched.{all_pass}
use Rattle.ent_ordinary.proofs.select.source_rows.Goals as goal

pub returns : goal.returns
returns c =
    IfOk-weaker c.look_up.result _ _ (λ rows is. record {
      passes = has_first c.as_slice.result.now;
      are = is;
      enough = λ row others here met.
          rw c.as_slice.ensures.value (c.in_ok-first.ensures.first row others
          (c.kinds.ensures.rows row here ∙ sym c.kinds.ensures.kinds) met);
    }) c.look_up.ensures

pub returns-then-is_empty : goal.returns-then-is_empty
returns-then-is_empty c = record {
  passes = λ row. true;
  are = c.cursor.ensures ∙ sym (all_pass (set.ascending c.args.table.now.rows));
  enough = λ row others here met. refl;
}
