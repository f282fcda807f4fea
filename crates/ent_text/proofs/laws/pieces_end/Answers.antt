use Rattle.ent_text.proofs.Ends.{token_ends, blank_ends}
use Rattle.ent_text.proofs.laws.pieces_end.Goals as goal

pub returns-clause-token : goal.returns-clause-token
returns-clause-token c = token_ends

pub returns-clause-blank : goal.returns-clause-blank
returns-clause-blank c = blank_ends
