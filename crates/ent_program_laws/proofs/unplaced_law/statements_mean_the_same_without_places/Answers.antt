use Rattle.ent_program_laws.proofs.Entangled.{grounding_same, heads_same, posts_same, variables_same}
use Rattle.ent_program_laws.proofs.Statements.{changes_same, meaning_same, uses_same}
use Rattle.ent_program_laws.proofs.unplaced_law.statements_mean_the_same_without_places.Goals as goal

pub returns-clause-meaning : goal.returns-clause-meaning
returns-clause-meaning c = meaning_same

pub returns-clause-variables : goal.returns-clause-variables
returns-clause-variables c = variables_same

pub returns-clause-grounds : goal.returns-clause-grounds
returns-clause-grounds c declared database environment entangled valuation =
    grounding_same environment entangled valuation declared database

pub returns-clause-heads : goal.returns-clause-heads
returns-clause-heads c = heads_same

pub returns-clause-posts : goal.returns-clause-posts
returns-clause-posts c = posts_same

pub returns-clause-uses : goal.returns-clause-uses
returns-clause-uses c = uses_same

pub returns-clause-changes : goal.returns-clause-changes
returns-clause-changes c = changes_same
