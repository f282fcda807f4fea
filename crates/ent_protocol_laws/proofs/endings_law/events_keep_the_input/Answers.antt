use Rattle.std.proofs.Common.{ap, map}
use Rattle.ent_protocol_laws.proofs.Kept.{submitted_kept}
use Rattle.ent_protocol_laws.proofs.endings_law.events_keep_the_input.Goals as goal

pub returns-clause-opening : goal.returns-clause-opening
returns-clause-opening g c forms s event reply new step = (c.steps_go_on.ensures forms s event reply new step).opening

pub returns-clause-submitted : goal.returns-clause-submitted
returns-clause-submitted g c = submitted_kept

pub returns-clause-scripts : goal.returns-clause-scripts
returns-clause-scripts g c forms s event reply new step none =
    ap (map (λ own. own.script)) (submitted_kept forms s event reply new step none)
