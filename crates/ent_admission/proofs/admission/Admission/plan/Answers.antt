use Rattle.std.proofs.Common.{◌≤◌, ◌+◌, length, sym, subst}
use Rattle.ent_tree.specs.declared.limits.TheConstants.{MOST_SCRIPTS}
use Rattle.ent_admission.specs.Admission.{IsAtRest, IsBatch}
use Rattle.ent_admission.specs.Admission.{Admission}
use Rattle.ent_admission.specs.contracts.admission.Admission.{the_view}
use Rattle.ent_admission.proofs.Calls.{kept_planned}
use Rattle.ent_admission.proofs.admission.Admission.plan.Goals as goal

pub invariant_of-self : goal.invariant_of-self
invariant_of-self c =
    let a = the_view c.self.inside in
    let none = c.in_default.is in
    let keys = c.args.tickets.keys in
    kept_planned a c.self.inside.index c.args.tickets c.self.invariant
    (subst IsAtRest (sym c.self.view_is) (c.in_ok-fault.ensures.at_rest none))
    (subst (λ (x : Admission). IsBatch x keys) (sym c.self.view_is) (c.in_ok-fault.ensures.ok none))
    (subst (λ (x : Admission). length x.epoch.core.submitted + length keys ≤ MOST_SCRIPTS) (sym c.self.view_is)
    (c.in_ok-fault.ensures.room none))
    c.args.again
