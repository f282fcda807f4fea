use Rattle.ent_program_laws.proofs.CharacterTold.{history_is_text}
use Rattle.ent_program_laws.proofs.character_law.histories_of_characters_have_texts_of_characters.Goals as goal

pub returns : goal.returns
returns c = history_is_text
