use Rattle.std.proofs.Common.{List, refl, subst}
use Rattle.ent_protocol.specs.Finish.{stepped}
use Rattle.ent_protocol.specs.State.{Member}
use Rattle.ent_run.specs.Places.{IsAt}
use Rattle.ent_run.specs.UnderKeys.{nobody}
use Rattle.ent_run.proofs.OneChange.{tried_change, tried_numbers, tried_prepared}
use Rattle.ent_run.proofs.change.step.Goals as goal

pub returns-in-Some-clause-ok : goal.returns-in-Some-clause-ok
returns-in-Some-clause-ok c =
    tried_change c.step.result (stepped c.args.answer) (λ m. refl) c.args.members.now c.step.new.self c.in-Some.at
    (c.step.ensures.ok nobody) c.requires c.args.tx
    (subst (λ (ms : List Member). IsAt ms c.args.tx c.in-Some.at) c.active.ensures c.in-Some.ensures.some)

pub returns-in-Some-clause-numbers : goal.returns-in-Some-clause-numbers
returns-in-Some-clause-numbers c =
    tried_numbers c.step.result (stepped c.args.answer) (λ m. refl) c.args.members.now c.step.new.self c.in-Some.at
    (c.step.ensures.ok nobody) c.step.ensures.err

pub returns-in-Some-clause-prepared : goal.returns-in-Some-clause-prepared
returns-in-Some-clause-prepared c =
    tried_prepared c.step.result (stepped c.args.answer) (λ m. refl) c.args.members.now c.step.new.self c.in-Some.at
    (c.step.ensures.ok nobody) c.step.ensures.err
