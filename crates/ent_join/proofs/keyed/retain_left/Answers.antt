use Rattle.std.proofs.Common.{rules, length}
use Rattle.std.specs.Prelude.{◌==◌, ◌&&◌}
use Rattle.std.specs.List.{list_all}
use Rattle.std.proofs.lemmas.Fn.{filter_same}
use Rattle.ent_join.specs.Alone.{may_hold_in}
use Rattle.ent_join.proofs.keyed.retain_left.Goals as goal

pub returns : goal.returns
returns c =
    filter_same _ (λ row. (length row == length c.args.columns.now)
    && list_all (may_hold_in c.args.columns.now row) c.args.tests.now) _ (λ x b f' k. search rules) _ _
    c.retain.ensures.filtered
