use Rattle.ent_waiting.proofs.Onward.{never_written}
use Rattle.ent_waiting.proofs.store_law.earlier_claimants_are_fenced_off.Goals as goal

pub returns : goal.returns
returns g c changed world later write earlier not_written leads =
    never_written changed world later leads write earlier not_written
