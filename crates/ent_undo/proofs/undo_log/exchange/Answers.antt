use Rattle.std.specs.Arc.{arc_value}
use Rattle.std.proofs.lemmas.List.{map-set}
use Rattle.ent_undo.proofs.undo_log.exchange.Goals as goal

pub returns-then-undo-tables-clause-tables : goal.returns-then-undo-tables-clause-tables
returns-then-undo-tables-clause-tables c =
    let e = map-set arc_value c.args.tables.now c.args.undo.now.table c.swap.new.x in
    cc
