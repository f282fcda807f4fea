use Rattle.std.proofs.Common.{◌∙◌, ap, map}
use Rattle.std.specs.Arc.{arc_value}
use Rattle.std.proofs.lemmas.Result.{IfOk-weaker}
use Rattle.ent_ordinary.specs.Tables.{rows_in}
use Rattle.ent_check.proofs.Places.{rows_of_numbers}
use Rattle.ent_check.proofs.ground.sources_of.Goals as goal

pub returns : goal.returns
returns c =
    IfOk-weaker c.tables_of.result _ _ (λ sources are.
    ap rows_in are ∙ rows_of_numbers (map arc_value c.args.tables.now) c.args.numbers.now)
    c.tables_of.ensures.tables
