use Rattle.std.proofs.Common.{◌∙◌, refl, sym, ap}
use Rattle.ent_admission.specs.Passed.{Epoch}
use Rattle.ent_room.proofs.law.acts_go_on.Goals as goal

pub returns-clause-stays : goal.returns-clause-stays
returns-clause-stays c r =
    record { acts = c.acts_go_on.ensures.stays r.admission; none_before = λ e. e; none_ended = λ e. refl }

pub returns-clause-advances : goal.returns-clause-advances
returns-clause-advances c first between last one two =
    record {
      acts = c.acts_go_on.ensures.advances first.admission between.admission last.admission one.acts two.acts;
      none_before = λ e. one.none_before (two.none_before e);
      none_ended = λ e. two.none_ended e ∙ one.none_ended (two.none_before e);
    }

pub returns-clause-shifts : goal.returns-clause-shifts
returns-clause-shifts c first between last one two =
    record {
      shifts = c.acts_go_on.ensures.shifts first.admission between.admission last.admission one.shifts two.shifts;
      last = two.last ∙ one.last;
    }

pub returns-clause-same : goal.returns-clause-same
returns-clause-same c r = record { shifts = c.acts_go_on.ensures.same r.admission; last = refl }

pub returns-clause-shifting : goal.returns-clause-shifting
returns-clause-shifting c old new shifts =
    record {
      acts = c.acts_go_on.ensures.shifting old.admission new.admission shifts.shifts;
      none_before = λ e. sym shifts.last ∙ e;
      none_ended = λ e. ap (λ (epoch : Epoch). epoch.number) shifts.shifts.epoch;
    }
