use Rattle.ent_claim_laws.proofs.Keeping.{memory_stands, one_content, reached_kept}
use Rattle.ent_claim_laws.proofs.claim_law.versions_have_one_content.Goals as goal

pub returns-clause-one : goal.returns-clause-one
returns-clause-one g c content world first second reached at at_too version =
    one_content world (reached_kept content world reached) first second at at_too version

pub returns-clause-memory : goal.returns-clause-memory
returns-clause-memory g c content world own reached is same =
    memory_stands world (reached_kept content world reached) own is same
