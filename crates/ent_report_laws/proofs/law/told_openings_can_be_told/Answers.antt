use Rattle.ent_report_laws.proofs.OfOpening.{opening_is_told}
use Rattle.ent_report_laws.proofs.Sound.{told_sound}
use Rattle.ent_report_laws.proofs.law.told_openings_can_be_told.Goals as goal

pub returns : goal.returns
returns c text history tells = opening_is_told text history (told_sound text history tells) tells
