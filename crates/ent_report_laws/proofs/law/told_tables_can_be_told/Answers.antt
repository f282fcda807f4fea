use Rattle.ent_report_laws.proofs.OfTables.{tables_are_told}
use Rattle.ent_report_laws.proofs.Sound.{told_sound}
use Rattle.ent_report_laws.proofs.law.told_tables_can_be_told.Goals as goal

pub returns : goal.returns
returns c text history tells = tables_are_told text history (told_sound text history tells) tells
