use Rattle.std.proofs.Common.{◌∙◌, Some, sym}
use Rattle.ent_text.specs.Lexing.{word_kind}
use Rattle.ent_text.specs.View.{kind_if_seen}
use Rattle.ent_text.proofs.Shorter.{piece_of_word, piece_shorter}
use Rattle.ent_text.proofs.piece.behind_piece.Goals as goal

pub returns-in-Ok-clause-value : goal.returns-in-Ok-clause-value
returns-in-Ok-clause-value c = (
  Some (word_kind c.in-Ok.field-0-0.now),
  piece_of_word c.args.place c.args.bytes.now c.requires.visible
      (sym c.is_ascii_alphabetic.ensures.value ∙ c.if-is_ascii_alphabetic.true) ∙ c.in-Ok.ensures.word.0,
)

pub returns-in-Ok-clause-shorter : goal.returns-in-Ok-clause-shorter
returns-in-Ok-clause-shorter c =
    piece_shorter c.args.place c.args.bytes.now (Some (word_kind c.in-Ok.field-0-0.now), c.in-Ok.rest.now)
    c.requires.nonempty
    (piece_of_word c.args.place c.args.bytes.now c.requires.visible
    (sym c.is_ascii_alphabetic.ensures.value ∙ c.if-is_ascii_alphabetic.true) ∙ c.in-Ok.ensures.word.0)

pub returns-in-Ok-other_piece-clause-shorter : goal.returns-in-Ok-other_piece-clause-shorter
returns-in-Ok-other_piece-clause-shorter c =
    piece_shorter c.args.place c.args.bytes.now
    (kind_if_seen c.in-Ok-other_piece.field-0-0, c.in-Ok-other_piece.rest.now) c.requires.nonempty
    c.in-Ok-other_piece.ensures.0
