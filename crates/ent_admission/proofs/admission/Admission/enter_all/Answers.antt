use Rattle.std.proofs.Common.{◌∙◌}
use Rattle.ent_admission.proofs.Changes.{onward_on}
use Rattle.ent_admission.proofs.Going.{goes_on}
use Rattle.ent_admission.proofs.admission.Admission.enter_all.Goals as goal

pub loop-first-preserved : goal.loop-first-preserved
loop-first-preserved c =
    record {
      goes = goes_on c.args.self.now c.loop-first.self c.enter.new.self c.loop-first.invariant.goes
          c.enter.ensures.goes;
      opening = c.enter.ensures.opening ∙ c.loop-first.invariant.opening;
      onward = onward_on c.args.self.now.list c.loop-first.self.list c.enter.new.self.list c.loop-first.invariant.onward
          c.enter.ensures.onward;
    }

pub returns-in_err-enter-clause-goes : goal.returns-in_err-enter-clause-goes
returns-in_err-enter-clause-goes c =
    goes_on c.args.self.now c.loop-first.self c.enter.new.self c.loop-first.invariant.goes c.enter.ensures.goes

pub returns-in_err-enter-clause-onward : goal.returns-in_err-enter-clause-onward
returns-in_err-enter-clause-onward c =
    onward_on c.args.self.now.list c.loop-first.self.list c.enter.new.self.list c.loop-first.invariant.onward
    c.enter.ensures.onward
