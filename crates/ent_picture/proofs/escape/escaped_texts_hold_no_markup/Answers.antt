use Rattle.ent_picture.proofs.Escaping.{escaped_is_data}
use Rattle.ent_picture.proofs.escape.escaped_texts_hold_no_markup.Goals as goal

pub returns : goal.returns
returns c = escaped_is_data
