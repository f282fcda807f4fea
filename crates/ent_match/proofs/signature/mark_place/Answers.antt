use Rattle.std.proofs.Common.{arith}
use Rattle.std.proofs.lemmas.Grind.{common_steps}
use Rattle.ent_match.specs.Signature.{mark_place}
use Rattle.ent_match.proofs.signature.mark_place.Goals as goal

pub returns-clause-value : goal.returns-clause-value
unfolding mark_place
returns-clause-value c = grind (arith, common_steps)
