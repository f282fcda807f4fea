use Rattle.ent_text.proofs.Initials.{other_length}
use Rattle.ent_text.proofs.keyword.is_written.Goals as goal

pub returns-then-word-capitals : goal.returns-then-word-capitals
returns-then-word-capitals c = other_length c.args.word.now c.args.capitals.now c.if-word-capitals.true
