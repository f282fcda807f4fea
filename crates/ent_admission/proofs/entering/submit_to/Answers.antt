use Rattle.std.proofs.Common.{◌∙◌, ap}
use Rattle.ent_epoch.specs.Epoch.{for_one_run}
use Rattle.ent_epoch.specs.declared.epoch.NotSubmitted.{NotSubmitted}
use Rattle.ent_value.specs.declared.refusal.Refusal.TheVariants.{Fault}
use Rattle.ent_admission.proofs.Submitting.{never}
use Rattle.ent_admission.proofs.entering.submit_to.Goals as goal

pub unreachable-requires : goal.unreachable-requires
unreachable-requires c =
    never c.args.epoch.now.core (for_one_run c.args.script.now) c.requires.room.scripts c.requires.formed.0
    c.requires.formed.1 c.in-Err-Fault.field-0-0
    (λ e. c.in-Err-Fault.ensures.full (c.in-Err-Fault.field-0-is ∙ ap (λ (x : NotSubmitted). Fault x) e))
    (λ fault e. c.in-Err-Fault.ensures.faulty fault (c.in-Err-Fault.field-0-is ∙ ap (λ (x : NotSubmitted). Fault x) e))
