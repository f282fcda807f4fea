use Rattle.std.proofs.Common.{subst, sym}
use Rattle.ent_plan.specs.Plan.{HasDistinctHeads}
use Rattle.ent_protocol.specs.Member.{pool}
use Rattle.ent_form.specs.Catalogue.{schemas_of}
use Rattle.ent_lists.specs.Elements.{contains_in}
use Rattle.ent_headline.proofs.Posted.{posted_resolved}
use Rattle.ent_headline.proofs.reached.posted_heads_are_distinct.Goals as goal

pub returns : goal.returns
returns c s reached member there =
    let r = posted_resolved s reached member (contains_in (pool s) member there) in
    subst HasDistinctHeads (sym r.is)
    (c.resolved_heads_are_distinct.ensures (schemas_of s.opening.tables) r.script r.plain r.entangled r.resolved
    r.stands member.tx member.attempt member.place r.environment)
