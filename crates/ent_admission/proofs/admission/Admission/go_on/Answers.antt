use Rattle.ent_admission.proofs.Acting.{Gone, at_rest_told, gone_advances, gone_on, gone_told}
use Rattle.ent_admission.proofs.admission.Admission.go_on.Goals as goal

pub returns-in_err-finish-clause-advances : goal.returns-in_err-finish-clause-advances
returns-in_err-finish-clause-advances c =
    let one : Gone c.args.self.now c.finish.new.self = record {
      goes = c.finish.ensures.goes;
      onward = c.finish.ensures.onward;
      opening = c.finish.ensures.opening;
    } in
    gone_advances c.args.self.now c.finish.new.self one

pub returns-in_err-tell-clause-goes : goal.returns-in_err-tell-clause-goes
returns-in_err-tell-clause-goes c =
    let one : Gone c.args.self.now c.finish.new.self = record {
      goes = c.finish.ensures.goes;
      onward = c.finish.ensures.onward;
      opening = c.finish.ensures.opening;
    } in
    let two = gone_on c.args.self.now c.finish.new.self c.tell.new.self one
    (gone_told c.finish.new.self c.tell.new.self c.tell.ensures.goes c.tell.ensures.list c.tell.ensures.core) in
    two.goes

pub returns-in_err-tell-clause-advances : goal.returns-in_err-tell-clause-advances
returns-in_err-tell-clause-advances c =
    let one : Gone c.args.self.now c.finish.new.self = record {
      goes = c.finish.ensures.goes;
      onward = c.finish.ensures.onward;
      opening = c.finish.ensures.opening;
    } in
    gone_advances c.args.self.now c.tell.new.self
    (gone_on c.args.self.now c.finish.new.self c.tell.new.self one
    (gone_told c.finish.new.self c.tell.new.self c.tell.ensures.goes c.tell.ensures.list c.tell.ensures.core))

pub returns-in_err-tell-clause-opening : goal.returns-in_err-tell-clause-opening
returns-in_err-tell-clause-opening c =
    let one : Gone c.args.self.now c.finish.new.self = record {
      goes = c.finish.ensures.goes;
      onward = c.finish.ensures.onward;
      opening = c.finish.ensures.opening;
    } in
    let two = gone_on c.args.self.now c.finish.new.self c.tell.new.self one
    (gone_told c.finish.new.self c.tell.new.self c.tell.ensures.goes c.tell.ensures.list c.tell.ensures.core) in
    two.opening

pub returns-in_err-tell-clause-onward : goal.returns-in_err-tell-clause-onward
returns-in_err-tell-clause-onward c =
    let one : Gone c.args.self.now c.finish.new.self = record {
      goes = c.finish.ensures.goes;
      onward = c.finish.ensures.onward;
      opening = c.finish.ensures.opening;
    } in
    let two = gone_on c.args.self.now c.finish.new.self c.tell.new.self one
    (gone_told c.finish.new.self c.tell.new.self c.tell.ensures.goes c.tell.ensures.list c.tell.ensures.core) in
    two.onward

pub returns-clause-goes : goal.returns-clause-goes
returns-clause-goes c =
    let one : Gone c.args.self.now c.finish.new.self = record {
      goes = c.finish.ensures.goes;
      onward = c.finish.ensures.onward;
      opening = c.finish.ensures.opening;
    } in
    let two = gone_on c.args.self.now c.finish.new.self c.tell.new.self one
    (gone_told c.finish.new.self c.tell.new.self c.tell.ensures.goes c.tell.ensures.list c.tell.ensures.core) in
    two.goes

pub returns-clause-ok : goal.returns-clause-ok
returns-clause-ok c =
    at_rest_told c.finish.new.self c.tell.new.self c.in_ok-finish.ensures.over c.tell.ensures.coming c.tell.ensures.core
    c.tell.ensures.list c.in_ok-tell.ensures.told

pub returns-clause-advances : goal.returns-clause-advances
returns-clause-advances c =
    let one : Gone c.args.self.now c.finish.new.self = record {
      goes = c.finish.ensures.goes;
      onward = c.finish.ensures.onward;
      opening = c.finish.ensures.opening;
    } in
    gone_advances c.args.self.now c.tell.new.self
    (gone_on c.args.self.now c.finish.new.self c.tell.new.self one
    (gone_told c.finish.new.self c.tell.new.self c.tell.ensures.goes c.tell.ensures.list c.tell.ensures.core))

pub returns-clause-opening : goal.returns-clause-opening
returns-clause-opening c =
    let one : Gone c.args.self.now c.finish.new.self = record {
      goes = c.finish.ensures.goes;
      onward = c.finish.ensures.onward;
      opening = c.finish.ensures.opening;
    } in
    let two = gone_on c.args.self.now c.finish.new.self c.tell.new.self one
    (gone_told c.finish.new.self c.tell.new.self c.tell.ensures.goes c.tell.ensures.list c.tell.ensures.core) in
    two.opening

pub returns-clause-onward : goal.returns-clause-onward
returns-clause-onward c =
    let one : Gone c.args.self.now c.finish.new.self = record {
      goes = c.finish.ensures.goes;
      onward = c.finish.ensures.onward;
      opening = c.finish.ensures.opening;
    } in
    let two = gone_on c.args.self.now c.finish.new.self c.tell.new.self one
    (gone_told c.finish.new.self c.tell.new.self c.tell.ensures.goes c.tell.ensures.list c.tell.ensures.core) in
    two.onward
