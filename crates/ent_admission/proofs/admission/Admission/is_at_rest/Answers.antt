use Rattle.std.proofs.Common.{◌∙◌, sym, ap}
use Rattle.std.specs.BTreeSet.{contains}
use Rattle.std.specs.Ordering.{nat_cmp}
use Rattle.ent_waiting.specs.WaitingList.{is_stationed, waiter_of}
use Rattle.ent_waiting.specs.declared.queues.Station.TheVariants.{Batch}
use Rattle.ent_admission.specs.Admission.{Admission}
use Rattle.ent_admission.proofs.admission.Admission.is_at_rest.Goals as goal

pub returns-in-Some-clause-busy : goal.returns-in-Some-clause-busy
returns-in-Some-clause-busy c = λ e rest.
    let ticket = c.in-Some._ticket.now in
    absurd
    (let h = sym (rest.over.coming ticket) ∙ ap (λ (x : Admission). contains nat_cmp x.coming ticket)
    (sym c.self.view_is)
    ∙ c.in-Some.ensures.member in cc)

pub returns-in-Some-first_from-clause-busy : goal.returns-in-Some-first_from-clause-busy
returns-in-Some-first_from-clause-busy c = λ e rest.
    let ticket = c.in-Some-first_from._ticket in
    absurd
    (let h = sym (rest.over.idle ticket)
    ∙ ap (λ (x : Admission). is_stationed Batch (waiter_of x.list ticket)) (sym c.self.view_is)
    ∙ c.in-Some-first_from.ensures.there in cc)
