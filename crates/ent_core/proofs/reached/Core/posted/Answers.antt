use Rattle.std.proofs.Common.{subst}
use Rattle.std.specs.Prelude.{MatchOption}
use Rattle.ent_protocol.specs.Member.{pool}
use Rattle.ent_protocol.specs.State.{State}
use Rattle.ent_match.specs.Place.{HasNoneOf}
use Rattle.ent_core.specs.Obstacle.{IsOf}
use Rattle.ent_core.proofs.reached.Core.posted.Goals as goal

pub returns : goal.returns
returns c =
    subst (λ (s : State). MatchOption c.posted.result (HasNoneOf (pool s) c.args.tx)
    (λ query. IsOf (pool s) c.args.tx query.now)) c.self.view_is c.posted.ensures
