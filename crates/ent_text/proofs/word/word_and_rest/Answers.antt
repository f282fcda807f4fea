use Rattle.std.proofs.Common.{◌∙◌, ap, arith, take, rules}
use Rattle.ent_text.proofs.Words.{front_is_word}
use Rattle.ent_text.specs.Lexing.{word_at}
use Rattle.ent_text.proofs.word.word_and_rest.Goals as goal

pub returns-clause-word : goal.returns-clause-word
unfolding word_at
returns-clause-word c = (
  search rules,
  front_is_word c.args.bytes.now c.split_at.result.0.now c.requires
      (c.split_at.ensures.front ∙ ap (λ n. take n c.args.bytes.now) c.word_len.ensures.value) (omega arith),
)
