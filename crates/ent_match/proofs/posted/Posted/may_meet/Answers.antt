use Rattle.std.proofs.Common.{subst}
use Rattle.ent_semantics.specs.Pool.{Posted}
use Rattle.ent_match.specs.Signature.{IsSignature}
use Rattle.ent_match.proofs.Signatures.{share_none, unlike}
use Rattle.ent_match.proofs.posted.Posted.may_meet.Goals as goal

pub returns : goal.returns
returns c =
    let posts = c.self.inside.posts in
    let heads = c.owner.inside.heads in
    λ no.
    unlike c.args.self.now c.args.owner.now posts heads
    (subst (λ (p : Posted). IsSignature p.statement.posts posts) c.self.view_is c.self.invariant.of_posts)
    (subst (λ (p : Posted). IsSignature p.statement.heads heads) c.owner.view_is c.owner.invariant.of_heads)
    (share_none posts heads no)
