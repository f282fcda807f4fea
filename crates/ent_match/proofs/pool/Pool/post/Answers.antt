use Rattle.std.proofs.Common.{sym, subst, List}
use Rattle.std.specs.Prelude.{Contains}
use Rattle.ent_semantics.specs.Pool.{Posted, IsSafe}
use Rattle.ent_match.specs.Fault.{IsByNumber}
use Rattle.ent_match.proofs.Placed.{either_way}
use Rattle.ent_match.proofs.pool.Pool.post.Goals as goal

pub post_to-requires-clause-none : goal.post_to-requires-clause-none
post_to-requires-clause-none c =
    λ other inside. c.requires other (subst (λ (xs : List Posted). Contains xs other) c.self.view_is inside)

pub invariant_of-self : goal.invariant_of-self
invariant_of-self c =
    either_way c.post_to.result c.post_to.ensures.posted c.post_to.ensures.err
    (λ posted. (posted.by_number, posted.safe, c.post_to.ensures.exact))
    (λ same. (
      subst IsByNumber (sym same) c.self.invariant.0,
      subst IsSafe (sym same) c.self.invariant.1,
      c.post_to.ensures.exact,
    ))
