use Rattle.ent_program_laws.specs.Values.{IsOfCharacters, IsPassed}
use Rattle.ent_program_laws.proofs.Tables.{openings_keep, tables_show}
use Rattle.ent_program_laws.proofs.keeping.tables_keep_texts.Goals as goal

pub returns-clause-characters : goal.returns-clause-characters
returns-clause-characters c = openings_keep IsOfCharacters

pub returns-clause-shown_characters : goal.returns-clause-shown_characters
returns-clause-shown_characters c = tables_show IsOfCharacters

pub returns-clause-tests : goal.returns-clause-tests
returns-clause-tests c passes = openings_keep (IsPassed passes)

pub returns-clause-shown_tests : goal.returns-clause-shown_tests
returns-clause-shown_tests c passes = tables_show (IsPassed passes)
