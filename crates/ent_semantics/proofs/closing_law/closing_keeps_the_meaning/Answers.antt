use Rattle.ent_semantics.proofs.Over.{closed_meaning, closed_grounding, closed_heads, closed_posts}
use Rattle.ent_semantics.proofs.closing_law.closing_keeps_the_meaning.Goals as goal

-- src/law.rt:13:1
pub returns-clause-meaning : goal.returns-clause-meaning
returns-clause-meaning c = closed_meaning

-- src/law.rt:13:1
pub returns-clause-grounds : goal.returns-clause-grounds
returns-clause-grounds c = closed_grounding

-- src/law.rt:13:1
pub returns-clause-heads : goal.returns-clause-heads
returns-clause-heads c = closed_heads

-- src/law.rt:13:1
pub returns-clause-posts : goal.returns-clause-posts
returns-clause-posts c = closed_posts
