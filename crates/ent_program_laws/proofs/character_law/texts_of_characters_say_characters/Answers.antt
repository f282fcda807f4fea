use Rattle.ent_program_laws.proofs.CharacterRead.{input_of_characters}
use Rattle.ent_program_laws.proofs.character_law.texts_of_characters_say_characters.Goals as goal

pub returns-clause-opening : goal.returns-clause-opening
returns-clause-opening c = λ text input read is.
    (input_of_characters c.reading_is_exact.ensures.input c.reader_is_exact.ensures.tokens text input read is).opening

pub returns-clause-scripts : goal.returns-clause-scripts
returns-clause-scripts c = λ text input read is.
    (input_of_characters c.reading_is_exact.ensures.input c.reader_is_exact.ensures.tokens text input read is).scripts
