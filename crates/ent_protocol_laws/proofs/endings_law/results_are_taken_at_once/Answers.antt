use Rattle.ent_protocol_laws.proofs.Taken.{joint_out, joint_returned, joint_taken, single_out, single_returned}
use Rattle.ent_protocol_laws.proofs.Taken.{single_taken}
use Rattle.ent_protocol_laws.proofs.endings_law.results_are_taken_at_once.Goals as goal

pub returns-clause-single : goal.returns-clause-single
returns-clause-single g c = single_out

pub returns-clause-single_taken : goal.returns-clause-single_taken
returns-clause-single_taken g c forms s tx done lent reply new h step =
    single_taken lent done reply new (single_out forms s tx done lent h) step

pub returns-clause-single_returned : goal.returns-clause-single_returned
returns-clause-single_returned g c = single_returned

pub returns-clause-joint : goal.returns-clause-joint
returns-clause-joint g c = joint_out

pub returns-clause-joint_taken : goal.returns-clause-joint_taken
returns-clause-joint_taken g c forms s done lent reply new h step =
    joint_taken lent done reply new (joint_out forms s done lent h) step

pub returns-clause-joint_returned : goal.returns-clause-joint_returned
returns-clause-joint_returned g c = joint_returned
