use Rattle.std.proofs.Common.{refl, sym}
use Rattle.ent_report_reader.proofs.Ends.{comes_behind_if, nothing_before}
use Rattle.ent_report_reader.proofs.opened.comes_behind.Goals as goal

pub returns-in-Some : goal.returns-in-Some
returns-in-Some c =
    comes_behind_if c.args.tables.now c.args.create.now c.in-Some.last.now c.cmp.result c.is_lt.result c.in-Some.ensures
    c.cmp.ensures c.is_lt.ensures

pub returns-in-None : goal.returns-in-None
returns-in-None c = (λ t. nothing_before c.args.tables.now c.args.create.now (sym c.in-None.ensures), λ a. refl)
