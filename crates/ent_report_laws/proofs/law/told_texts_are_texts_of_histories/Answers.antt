use Rattle.ent_report_laws.proofs.Texts.{told_text_is}
use Rattle.ent_report_laws.proofs.law.told_texts_are_texts_of_histories.Goals as goal

pub returns : goal.returns
returns c = told_text_is
