use Rattle.ent_program_laws.specs.Values.{IsOfCharacters, IsPassed}
use Rattle.ent_program_laws.proofs.CharacterTurns.{runs_keep, read_views_keep}
use Rattle.ent_program_laws.proofs.keeping.runs_keep_texts.Goals as goal

pub returns-clause-characters : goal.returns-clause-characters
returns-clause-characters c = runs_keep IsOfCharacters (λ number. tt)

pub returns-clause-tests : goal.returns-clause-tests
returns-clause-tests c passes = runs_keep (IsPassed passes) (λ number. tt)

pub returns-clause-character_read_views : goal.returns-clause-character_read_views
returns-clause-character_read_views c = read_views_keep IsOfCharacters (λ number. tt)

pub returns-clause-test_read_views : goal.returns-clause-test_read_views
returns-clause-test_read_views c passes = read_views_keep (IsPassed passes) (λ number. tt)
