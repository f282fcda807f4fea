use Rattle.ent_picture.proofs.Parts.{behind_found}
use Rattle.ent_picture.proofs.words.behind_word.Goals as goal

pub returns : goal.returns
returns c =
    record {
      ok = behind_found c.words_stand_in_front.ensures.found c.args.word.now c.args.text.now c.behind.result
          c.behind.ensures;
    }
