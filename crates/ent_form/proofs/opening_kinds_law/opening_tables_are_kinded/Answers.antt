use Rattle.ent_form.proofs.Opened.{opened_kinded, opened_under}
use Rattle.ent_form.proofs.opening_kinds_law.opening_tables_are_kinded.Goals as goal

pub returns-clause-kinds : goal.returns-clause-kinds
returns-clause-kinds c = opened_kinded

pub returns-clause-database : goal.returns-clause-database
returns-clause-database c = opened_under
