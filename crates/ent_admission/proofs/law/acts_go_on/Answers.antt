use Rattle.ent_admission.proofs.Acting.{advances_nowhere, advances_on, shifts_nowhere, shifts_on, shifts_advance}
use Rattle.ent_admission.proofs.law.acts_go_on.Goals as goal

pub returns-clause-stays : goal.returns-clause-stays
returns-clause-stays c = advances_nowhere

pub returns-clause-advances : goal.returns-clause-advances
returns-clause-advances c = advances_on

pub returns-clause-shifts : goal.returns-clause-shifts
returns-clause-shifts c = shifts_on

pub returns-clause-same : goal.returns-clause-same
returns-clause-same c = shifts_nowhere

pub returns-clause-shifting : goal.returns-clause-shifting
returns-clause-shifting c = shifts_advance
