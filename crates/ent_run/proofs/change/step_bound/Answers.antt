use Rattle.std.proofs.Common.{List, refl, subst}
use Rattle.ent_members.specs.Changes.{stepping}
use Rattle.ent_protocol.specs.State.{Member}
use Rattle.ent_run.specs.Places.{IsAt}
use Rattle.ent_run.specs.UnderKeys.{nobody}
use Rattle.ent_run.proofs.OneChange.{tried_change, tried_numbers, tried_prepared}
use Rattle.ent_run.proofs.change.step_bound.Goals as goal

pub returns-in-Some-clause-ok : goal.returns-in-Some-clause-ok
returns-in-Some-clause-ok c =
    tried_change c.step_bound.result (stepping c.args.answer c.args.bound.items) (λ m. refl) c.args.members.now
    c.step_bound.new.self c.in-Some.at
    (c.step_bound.ensures.ok nobody) c.requires c.args.tx
    (subst (λ (ms : List Member). IsAt ms c.args.tx c.in-Some.at) c.active.ensures c.in-Some.ensures.some)

pub returns-in-Some-clause-numbers : goal.returns-in-Some-clause-numbers
returns-in-Some-clause-numbers c =
    tried_numbers c.step_bound.result (stepping c.args.answer c.args.bound.items) (λ m. refl) c.args.members.now
    c.step_bound.new.self c.in-Some.at
    (c.step_bound.ensures.ok nobody) c.step_bound.ensures.err

pub returns-in-Some-clause-prepared : goal.returns-in-Some-clause-prepared
returns-in-Some-clause-prepared c =
    tried_prepared c.step_bound.result (stepping c.args.answer c.args.bound.items) (λ m. refl) c.args.members.now
    c.step_bound.new.self c.in-Some.at
    (c.step_bound.ensures.ok nobody) c.step_bound.ensures.err
