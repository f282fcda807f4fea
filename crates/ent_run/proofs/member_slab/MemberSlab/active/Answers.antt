use Rattle.std.proofs.Common.{List, ℕ, subst}
use Rattle.std.specs.Prelude.{Contains}
use Rattle.ent_run.proofs.Keys.{active_there}
use Rattle.ent_run.proofs.member_slab.MemberSlab.active.Goals as goal

pub new-requires : goal.new-requires
new-requires c = λ key there.
    let inside = c.self.inside in
    active_there inside.live inside.prepared.items inside.active.items c.self.invariant key
    (subst (λ (keys : List ℕ). Contains keys key) c.as_slice.ensures.value there)
