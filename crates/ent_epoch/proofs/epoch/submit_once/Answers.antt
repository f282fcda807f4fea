use Rattle.std.proofs.Common.{refl}
use Rattle.ent_protocol.specs.Event.{Submit, Submitted}
use Rattle.ent_epoch.proofs.epoch.submit_once.Goals as goal

pub returns-clause-unheard : goal.returns-clause-unheard
returns-clause-unheard c = λ telling keeps.
    c.tellings_keep_up.ensures.unheard telling c.args.core.now (Submit c.args.script) (Submitted c.in_ok-tx.tx)
    c.submit_to.new.core keeps c.in_ok-tx.ensures.ok refl
