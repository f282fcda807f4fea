use Rattle.std.proofs.Common.{refl, sym, subst}
use Rattle.std.specs.Prelude.{Contains}
use Rattle.ent_table_scenarios.proofs.pool.post_to.Goals as goal

-- src/pool.rt:73:11
pub post-requires : goal.post-requires
post-requires c other there =
    c.if-not-has_none.ensures refl other
    (subst (λ members. Contains members other) (sym c.members.ensures.members) there)
