use Rattle.ent_program_laws.specs.Values.{IsOfCharacters, IsPassed}
use Rattle.ent_program_laws.proofs.CharacterLeaving.{statement_leaves}
use Rattle.ent_program_laws.proofs.keeping.statements_keep_texts.Goals as goal

pub returns-clause-characters : goal.returns-clause-characters
returns-clause-characters c = statement_leaves IsOfCharacters (λ number. tt)

pub returns-clause-tests : goal.returns-clause-tests
returns-clause-tests c passes = statement_leaves (IsPassed passes) (λ number. tt)
