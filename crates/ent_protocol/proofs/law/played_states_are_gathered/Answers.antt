use Rattle.ent_protocol.proofs.Led.{played_gathered}
use Rattle.ent_protocol.proofs.law.played_states_are_gathered.Goals as goal

pub returns : goal.returns
returns c start forms opening scripts events replies last played =
    played_gathered forms opening scripts events replies last played
