use Rattle.std.proofs.Common.{subst, sym}
use Rattle.ent_semantics.specs.Pool.{Posted}
use Rattle.ent_form.specs.Catalogue.{schemas_of}
use Rattle.ent_plan.specs.Ranged.{IsRanged}
use Rattle.ent_protocol.specs.Member.{pool}
use Rattle.ent_lists.specs.Elements.{to_all}
use Rattle.ent_headline.proofs.Posted.{posted_resolved}
use Rattle.ent_headline.proofs.reached.posted_variables_are_ranged.Goals as goal

pub returns : goal.returns
returns c s reached =
    to_all (λ (member : Posted). IsRanged member.statement) (pool s) (λ member there.
    let r = posted_resolved s reached member there in
    subst (λ (member : Posted). IsRanged member.statement) (sym r.is)
    (c.resolved_variables_are_ranged.ensures (schemas_of s.opening.tables) r.script r.plain r.entangled r.resolved
    r.stands r.environment))
