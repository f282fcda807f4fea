use Rattle.ent_print.proofs.Reading.{text_is_read}
use Rattle.ent_print.proofs.laws.printed_text_is_read.Goals as goal

pub returns : goal.returns
returns c = text_is_read c.pieces_end.ensures.token c.pieces_end.ensures.blank
