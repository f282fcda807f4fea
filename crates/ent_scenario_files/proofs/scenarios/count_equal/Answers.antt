use Rattle.std.proofs.lemmas.Iterator.Consumers.{count_from_yields_List}
use Rattle.std.proofs.lemmas.Iterator.Splits.{YieldsList-from_lines}
use Rattle.ent_scenario_files.proofs.scenarios.count_equal.Goals as goal

pub returns-then-eq-clause-count : goal.returns-then-eq-clause-count
returns-then-eq-clause-count c =
    count_from_yields_List c.lines.result c.count.result c.count.ensures.ran
    (YieldsList-from_lines c.args.given.now c.lines.ensures.rest)
