use Rattle.ent_c.proofs.Saying.{of_driver}
use Rattle.ent_c.proofs.script.said_of_script.Goals as goal

pub returns-in-Some-clause-said : goal.returns-in-Some-clause-said
returns-in-Some-clause-said c =
    of_driver c.said_over.result (λ said. said.fault) c.args.driver.now c.in-Some.opening.now c.args.script.now
    c.in-Some.ensures.opening c.said_over.ensures.said
