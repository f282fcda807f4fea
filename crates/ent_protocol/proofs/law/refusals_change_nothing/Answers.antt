use Rattle.ent_protocol.proofs.Idle.{idle_kept}
use Rattle.ent_protocol.proofs.law.refusals_change_nothing.Goals as goal

-- src/law.rt:11:1
pub returns : goal.returns
returns c start forms s event reply new h idle = idle_kept forms s event reply new h idle
