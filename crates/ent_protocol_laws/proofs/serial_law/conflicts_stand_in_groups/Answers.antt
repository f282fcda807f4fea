use Rattle.ent_protocol_laws.proofs.Conflicts.{conflicts_stand}
use Rattle.ent_protocol_laws.proofs.serial_law.conflicts_stand_in_groups.Goals as goal

pub returns : goal.returns
returns c h forms s faithful reached =
    conflicts_stand s (h.lent_jobs_are_present.ensures.apart forms s faithful reached)
