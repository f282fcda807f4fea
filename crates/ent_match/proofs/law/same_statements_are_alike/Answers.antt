use Rattle.ent_match.proofs.Alike.{alike_component, alike_first_unsafe, alike_safe}
use Rattle.ent_match.proofs.law.same_statements_are_alike.Goals as goal

pub returns-clause-safe : goal.returns-clause-safe
returns-clause-safe c = alike_safe

pub returns-clause-first_unsafe : goal.returns-clause-first_unsafe
returns-clause-first_unsafe c = alike_first_unsafe

pub returns-clause-component : goal.returns-clause-component
returns-clause-component c = alike_component
