use Rattle.std.proofs.Common.{refl, sym}
use Rattle.ent_report_reader.proofs.Ends.{ascends_first, is_behind_if}
use Rattle.ent_report_reader.proofs.lists.is_behind.Goals as goal

pub returns-in-Some : goal.returns-in-Some
returns-in-Some c =
    is_behind_if c.args.rows.now c.args.row.now c.in-Some.last.now c.cmp.result c.is_lt.result c.in-Some.ensures
    c.cmp.ensures c.is_lt.ensures

pub returns-in-None : goal.returns-in-None
returns-in-None c = (λ t. ascends_first c.args.rows.now c.args.row.now (sym c.in-None.ensures), λ a. refl)
