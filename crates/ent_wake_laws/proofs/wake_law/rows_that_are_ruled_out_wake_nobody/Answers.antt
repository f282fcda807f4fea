use Rattle.ent_wake_laws.proofs.Waking.{choice_before, grounding_before}
use Rattle.ent_wake_laws.proofs.wake_law.rows_that_are_ruled_out_wake_nobody.Goals as goal

pub returns-clause-groundings : goal.returns-clause-groundings
returns-clause-groundings c old new widths statement values wide sleep grounds =
    grounding_before widths old new wide statement values sleep grounds

pub returns-clause-choices : goal.returns-clause-choices
returns-clause-choices c old new widths members groundings wide sleep choice =
    choice_before widths old new wide members groundings sleep choice
