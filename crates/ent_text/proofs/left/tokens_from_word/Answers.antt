use Rattle.std.proofs.Common.{◌∷◌, ◌∙◌, ◌-◌, ◌+◌, ap, arith, length, List, Some, sym}
use Rattle.ent_text.specs.declared.token.Token.{Token}
use Rattle.ent_text.specs.declared.token.TokenKind.{TokenKind}
use Rattle.ent_text.specs.Left.{tokens_left}
use Rattle.ent_text.specs.Lexing.{word_kind}
use Rattle.ent_text.proofs.UpTo.{left_on, left_fault}
use Rattle.ent_text.proofs.Shorter.{piece_of_word}
use Rattle.ent_text.proofs.left.tokens_from_word.Goals as goal

pub invariant_of-result : goal.invariant_of-result
invariant_of-result c = record {
  room = omega (arith, c.in-Ok.ensures.halves, c.requires.room);
  made = c.view_of.ensures.made;
  at_end = tt;
}

pub returns-in-Ok : goal.returns-in-Ok
returns-in-Ok c =
    let place = c.args.place in
    let bytes = c.args.bytes.now in
    let behind = c.in-Ok.behind.now in
    let end = place + (length bytes - length behind) in
    ap (λ (kind : TokenKind). let tokens : List Token =
    record { kind = kind; start = place; end = end } ∷ tokens_left end behind in tokens) c.view_of.ensures.kind
    ∙ sym (left_on place bytes behind (Some (word_kind c.in-Ok.word.now)) c.requires.nonempty
    (piece_of_word place bytes c.requires.visible c.requires.letter ∙ c.in-Ok.ensures.word.0))

pub returns-in-Err : goal.returns-in-Err
returns-in-Err c =
    c.ended_by.ensures ∙ sym (left_fault c.args.place c.args.bytes.now c.in-Err.fault c.requires.nonempty
    (piece_of_word c.args.place c.args.bytes.now c.requires.visible c.requires.letter ∙ c.in-Err.ensures.word))
