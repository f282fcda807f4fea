use Rattle.std.proofs.Common.{refl, subst}
use Rattle.ent_waiting.specs.declared.waiter.WaitingPlace.TheVariants.{Queued}
use Rattle.ent_admission.specs.Acts.{OnlyShifts}
use Rattle.ent_admission.specs.Admission.{Admission}
use Rattle.ent_admission.specs.contracts.admission.Admission.{the_view}
use Rattle.ent_admission.proofs.Acting.{shifts_only}
use Rattle.ent_admission.proofs.Calls.{kept_moved}
use Rattle.ent_admission.proofs.admission.Admission.queue.Goals as goal

pub invariant_of-self-2 : goal.invariant_of-self-2
invariant_of-self-2 c =
    kept_moved (the_view c.self.inside) c.self.inside.index c.self.invariant c.queue.new.self c.args.ticket
    (Queued c.args.rank) refl
    c.in_ok-queue.ensures.ok c.in_ok-queue.ensures.updates (λ e. absurd cc)

pub returns-clause-shifts : goal.returns-clause-shifts
returns-clause-shifts c =
    let a = the_view c.self.inside in
    subst (λ (x : Admission). OnlyShifts x (record a { list = c.queue.new.self })) c.self.view_is
    (shifts_only a c.queue.new.self c.args.ticket (Queued c.args.rank) refl c.in_ok-queue.ensures.ok
    c.in_ok-queue.ensures.updates
    c.queue.ensures.onward)
