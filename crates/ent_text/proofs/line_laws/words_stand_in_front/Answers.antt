use Rattle.ent_text.proofs.Rows.{behind_found}
use Rattle.ent_text.proofs.line_laws.words_stand_in_front.Goals as goal

pub returns-clause-found : goal.returns-clause-found
returns-clause-found c = behind_found
