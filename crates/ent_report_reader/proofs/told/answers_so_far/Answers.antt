use Rattle.std.proofs.Common.{sym, ◌∙◌}
use Rattle.ent_report_reader.proofs.Ends.{answers_so_far_last, answers_so_far_none}
use Rattle.ent_report_reader.proofs.told.answers_so_far.Goals as goal

pub returns-in-Some : goal.returns-in-Some
returns-in-Some c = c.len.ensures ∙ answers_so_far_last c.args.transactions.now c.in-Some.told.now
    (sym c.in-Some.ensures)

pub returns-in-None : goal.returns-in-None
returns-in-None c = sym (answers_so_far_none c.args.transactions.now (sym c.in-None.ensures))
