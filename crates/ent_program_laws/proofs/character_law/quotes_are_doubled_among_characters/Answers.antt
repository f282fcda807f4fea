use Rattle.ent_program_laws.proofs.Quoting.{quoted_exactly}
use Rattle.ent_program_laws.proofs.character_law.quotes_are_doubled_among_characters.Goals as goal

pub returns : goal.returns
returns c = quoted_exactly
