use Rattle.std.proofs.Common.{◌≡◌, map, arith}
use Rattle.std.proofs.lemmas.Grind.{common_steps}
use Rattle.std.specs.List.{flat_map}
use Rattle.ent_warnings.specs.Offered.{statement_written}
use Rattle.ent_warnings.specs.Seen.{written}
use Rattle.ent_warnings.proofs.Relations.{same_relations}
use Rattle.ent_warnings.proofs.postcondition.Postcondition.all_of.Goals as goal

pub returns-clause-relations : goal.returns-clause-relations
returns-clause-relations c =
    let exact : map written c.loop-statement.all.items
    ≡ flat_map statement_written c.args.script.now.statements = grind (arith, common_steps) in
    same_relations c.args.script.now.statements c.loop-statement.all.items exact
