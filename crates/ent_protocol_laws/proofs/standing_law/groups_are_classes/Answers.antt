use Rattle.ent_protocol_laws.proofs.Grouped.{reached_groups}
use Rattle.ent_protocol_laws.proofs.standing_law.groups_are_classes.Goals as goal

pub returns : goal.returns
returns c h = reached_groups
