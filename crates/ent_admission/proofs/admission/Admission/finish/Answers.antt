use Rattle.ent_admission.proofs.Acting.{Gone, gone_on, gone_run}
use Rattle.ent_admission.proofs.admission.Admission.finish.Goals as goal

pub returns-in_err-run-clause-goes : goal.returns-in_err-run-clause-goes
returns-in_err-run-clause-goes c =
    let one : Gone c.args.self.now c.enter_all.new.self = record {
      goes = c.enter_all.ensures.goes;
      onward = c.enter_all.ensures.onward;
      opening = c.enter_all.ensures.opening;
    } in
    let two = gone_on c.args.self.now c.enter_all.new.self c.run.new.self one
    (gone_run c.enter_all.new.self c.run.new.self c.run.ensures.runs c.run.ensures.opening) in
    two.goes

pub returns-in_err-settle_all-clause-goes : goal.returns-in_err-settle_all-clause-goes
returns-in_err-settle_all-clause-goes c =
    let one : Gone c.args.self.now c.enter_all.new.self = record {
      goes = c.enter_all.ensures.goes;
      onward = c.enter_all.ensures.onward;
      opening = c.enter_all.ensures.opening;
    } in
    let two = gone_on c.args.self.now c.enter_all.new.self c.run.new.self one
    (gone_run c.enter_all.new.self c.run.new.self c.run.ensures.runs c.run.ensures.opening) in
    let three = gone_on c.args.self.now c.run.new.self c.settle_all.new.self two (record {
      goes = c.settle_all.ensures.goes;
      onward = c.settle_all.ensures.onward;
      opening = c.settle_all.ensures.opening;
    }) in
    three.goes

pub returns-in_err-settle_all-clause-onward : goal.returns-in_err-settle_all-clause-onward
returns-in_err-settle_all-clause-onward c =
    let one : Gone c.args.self.now c.enter_all.new.self = record {
      goes = c.enter_all.ensures.goes;
      onward = c.enter_all.ensures.onward;
      opening = c.enter_all.ensures.opening;
    } in
    let two = gone_on c.args.self.now c.enter_all.new.self c.run.new.self one
    (gone_run c.enter_all.new.self c.run.new.self c.run.ensures.runs c.run.ensures.opening) in
    let three = gone_on c.args.self.now c.run.new.self c.settle_all.new.self two (record {
      goes = c.settle_all.ensures.goes;
      onward = c.settle_all.ensures.onward;
      opening = c.settle_all.ensures.opening;
    }) in
    three.onward

pub returns-clause-goes : goal.returns-clause-goes
returns-clause-goes c =
    let one : Gone c.args.self.now c.enter_all.new.self = record {
      goes = c.enter_all.ensures.goes;
      onward = c.enter_all.ensures.onward;
      opening = c.enter_all.ensures.opening;
    } in
    let two = gone_on c.args.self.now c.enter_all.new.self c.run.new.self one
    (gone_run c.enter_all.new.self c.run.new.self c.run.ensures.runs c.run.ensures.opening) in
    let three = gone_on c.args.self.now c.run.new.self c.settle_all.new.self two (record {
      goes = c.settle_all.ensures.goes;
      onward = c.settle_all.ensures.onward;
      opening = c.settle_all.ensures.opening;
    }) in
    three.goes

pub returns-clause-onward : goal.returns-clause-onward
returns-clause-onward c =
    let one : Gone c.args.self.now c.enter_all.new.self = record {
      goes = c.enter_all.ensures.goes;
      onward = c.enter_all.ensures.onward;
      opening = c.enter_all.ensures.opening;
    } in
    let two = gone_on c.args.self.now c.enter_all.new.self c.run.new.self one
    (gone_run c.enter_all.new.self c.run.new.self c.run.ensures.runs c.run.ensures.opening) in
    let three = gone_on c.args.self.now c.run.new.self c.settle_all.new.self two (record {
      goes = c.settle_all.ensures.goes;
      onward = c.settle_all.ensures.onward;
      opening = c.settle_all.ensures.opening;
    }) in
    three.onward
