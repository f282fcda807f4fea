use Rattle.ent_text.proofs.Moved.{lines_apart}
use Rattle.ent_text.proofs.laws.line_end_parts_texts.Goals as goal

pub returns : goal.returns
returns c = lines_apart
