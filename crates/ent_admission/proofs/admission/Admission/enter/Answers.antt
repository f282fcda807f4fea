use Rattle.std.proofs.Common.{inl, inr}
use Rattle.ent_admission.proofs.Going.{goes_on, goes_once}
use Rattle.ent_admission.proofs.admission.Admission.enter.Goals as goal

pub returns-clause-goes : goal.returns-clause-goes
returns-clause-goes c =
    goes_on c.args.self.now c.ready.new.self c.submit.new.self
    (goes_once c.args.self.now c.ready.new.self (inl c.in_ok-ready.ensures.ok))
    (goes_once c.ready.new.self c.submit.new.self (inr (inl c.in_ok-submit.ensures.ok)))
