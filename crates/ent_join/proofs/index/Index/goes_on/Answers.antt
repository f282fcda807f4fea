use Rattle.ent_join.specs.Index.{begins_so}
use Rattle.ent_join.proofs.Between.{any_from_filter}
use Rattle.ent_join.proofs.index.Index.goes_on.Goals as goal

pub returns : goal.returns
returns c =
    any_from_filter (begins_so c.args.beginning.now c.args.self.now.classes) c.args.self.now.rows
    c.rows_after.result.now c.is_empty.result c.rows_after.ensures.rows c.is_empty.ensures
