use Rattle.ent_sql_laws.proofs.Scripts.{again_script}
use Rattle.ent_sql_laws.proofs.round_trip.printed_script_is_itself.Goals as goal

pub returns : goal.returns
returns c = again_script
