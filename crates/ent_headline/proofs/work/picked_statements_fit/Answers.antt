use Rattle.std.proofs.Common.{map}
use Rattle.ent_semantics.specs.Pool.{Posted}
use Rattle.ent_plan.specs.Ranged.{IsRanged}
use Rattle.ent_protocol.specs.Member.{pool}
use Rattle.ent_protocol.specs.PoolEvents.{joint_uses}
use Rattle.ent_protocol.specs.PostedBy.{is_present}
use Rattle.ent_headline.specs.Resolved.{resolved_forms}
use Rattle.ent_lists.specs.Elements.{contains_in, in_contains, of_all, to_all}
use Rattle.ent_headline.proofs.Lent.{lent_used}
use Rattle.ent_headline.proofs.work.picked_statements_fit.Goals as goal

pub returns : goal.returns
returns c s asked reached present =
    let members = asked in
    record {
      component = c.components_stand_alone.ensures.component (pool s) members present;
      safe = c.components_stand_alone.ensures.safe (pool s) members present
          (c.pools_are_safe.ensures resolved_forms s reached);
      heads = λ member there.
          c.posted_heads_are_distinct.ensures s reached member
          (in_contains (pool s) member (is_present (pool s) asked present member (contains_in members member there)));
      ranged = to_all (λ (member : Posted). IsRanged member.statement) members (λ member at.
          of_all (λ (member : Posted). IsRanged member.statement) (pool s) member
          (c.posted_variables_are_ranged.ensures s reached) (is_present (pool s) asked present member at));
      used = lent_used s.opening.tables s.tables (joint_uses asked);
      stand = c.lent_tables_stand.ensures s.opening.tables s.tables (joint_uses asked);
    }
