use Rattle.std.proofs.Common.{◌∙◌, ap, arith, sym, Some, Ok, Result}
use Rattle.ent_text.specs.declared.fault.TextFault.{TextFault}
use Rattle.ent_text.specs.declared.token.TokenKind.{TokenKind}
use Rattle.ent_text.specs.Lexing.{Piece}
use Rattle.ent_text.proofs.Measured.{text_is_seen}
use Rattle.ent_text.proofs.piece.text_at.Goals as goal

pub literal_of-requires-clause-text : goal.literal_of-requires-clause-text
literal_of-requires-clause-text c =
    (text_is_seen c.args.place c.in_ok-len.len c.args.bytes.now c.tail-behind.result.now c.in_ok-len.rest.now
    c.tail-behind.ensures c.in_ok-len.ensures (omega (arith))).1

pub returns : goal.returns
returns c = (
  (text_is_seen c.args.place c.in_ok-len.len c.args.bytes.now c.tail-behind.result.now c.in_ok-len.rest.now
      c.tail-behind.ensures c.in_ok-len.ensures (omega arith)).0
      ∙ ap (λ (kind : TokenKind). let r : Result Piece TextFault = Ok (Some kind, c.in_ok-len.rest.now) in r)
      (sym c.literal_of.ensures.kind),
  c.literal_of.ensures.made,
)
