use Rattle.std.proofs.Common.{◌≡◌, ◌∙◌, ℕ, Some, ap, map, subst, sym}
use Rattle.ent_run.specs.Places.{found}
use Rattle.ent_protocol.specs.Begin.{replaced}
use Rattle.ent_protocol.specs.State.{Member}
use Rattle.ent_core.proofs.Bound.{bound_to}
use Rattle.ent_core.proofs.advance.bind.Goals as goal

pub returns-clause-ok : goal.returns-clause-ok
returns-clause-ok c = λ member there.
    let active = c.args.run.now.active in
    let own : found active c.tx.result ≡ Some member =
    subst (λ (n : ℕ). found active n ≡ Some member) (sym c.tx.ensures) there in
    c.in_ok-step_bound.ensures.ok member own
    ∙ ap (λ (new : Member). map (replaced new) active)
    (bound_to c.args.single.now.statement c.statement.result.now c.args.value.now c.in_ok-copy.field-0
    c.in_ok-bound.bound.items member c.in_ok-bound.ensures c.statement.ensures c.in_ok-copy.ensures)
