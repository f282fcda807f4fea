use Rattle.ent_semantics.proofs.Framed.{statement_same, grounding_same, statement_other, run_same, same_database}
use Rattle.ent_semantics.proofs.law.statements_keep_to_their_uses.Goals as goal

-- src/law.rt:22:1
pub returns-clause-reads : goal.returns-clause-reads
returns-clause-reads c = statement_same

-- src/law.rt:22:1
pub returns-clause-grounds : goal.returns-clause-grounds
returns-clause-grounds c = grounding_same

-- src/law.rt:22:1
pub returns-clause-runs : goal.returns-clause-runs
returns-clause-runs c = run_same

-- src/law.rt:22:1
pub returns-clause-changes : goal.returns-clause-changes
returns-clause-changes c = statement_other

-- src/law.rt:22:1
pub returns-clause-extensional : goal.returns-clause-extensional
returns-clause-extensional c = same_database
