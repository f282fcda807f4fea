use Rattle.ent_program_laws.specs.Values.{IsOfCharacters, IsPassed}
use Rattle.ent_program_laws.proofs.CharacterGrounding.{groundings_have}
use Rattle.ent_program_laws.proofs.keeping.groundings_keep_texts.Goals as goal

pub returns-clause-characters : goal.returns-clause-characters
returns-clause-characters c = groundings_have IsOfCharacters (λ number. tt)

pub returns-clause-tests : goal.returns-clause-tests
returns-clause-tests c passes = groundings_have (IsPassed passes) (λ number. tt)
