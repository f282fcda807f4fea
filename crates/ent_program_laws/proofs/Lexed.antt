-- The tokens of a text of whole characters.
use Rattle.std.proofs.Common.{ℕ, ◌+◌, List, ◌++◌, length, append_assoc, subst, sym}
use Rattle.std.specs.Str.{IsUtf8}
use Rattle.ent_text.specs.declared.token.Token.{Token}
use Rattle.ent_text.specs.declared.token.TokenKind.{TokenKind}
use Rattle.ent_text.specs.declared.token.TokenKind.TheVariants as kinds
use Rattle.ent_text.specs.Reading.{Reads, nothing, gap, token}
use Rattle.ent_text.specs.Spelling.{Spells}
use Rattle.ent_program_laws.specs.Characters.{IsKindOfCharacters}
use Rattle.ent_program_laws.proofs.Carrying.{AreOfCharacters}
use Rattle.ent_program_laws.proofs.Quoting.{text_within}

kind_within : (front bytes behind : List ℕ) (kind : TokenKind) → Spells bytes kind
    → IsUtf8 (front ++ (bytes ++ behind)) → IsKindOfCharacters kind
kind_within front bytes behind (kinds.Literal content) spelled is =
    text_within front content behind (subst (λ (b : List ℕ). IsUtf8 (front ++ (b ++ behind))) spelled.0 is)
kind_within front bytes behind _ spelled is = tt

-- whatever stands before them
pub tokens_within : (front : List ℕ) (place : ℕ) (bytes : List ℕ) (tokens : List Token) (end : ℕ) (rest : List ℕ)
    → Reads place bytes tokens end rest → IsUtf8 (front ++ bytes) → AreOfCharacters tokens
tokens_within front place bytes tokens end rest (nothing _ _) is = tt
tokens_within front place bytes tokens end rest (gap at before behind others _ _ is_gap longest more) is =
    tokens_within (front ++ before) (at + length before) behind others end rest more
    (subst IsUtf8 (sym (append_assoc front before behind)) is)
tokens_within front place bytes tokens end rest (token at before behind kind others _ _ is_kind far small more) is = (
  kind_within front before behind kind is_kind is,
  tokens_within (front ++ before) (at + length before) behind others end rest more
      (subst IsUtf8 (sym (append_assoc front before behind)) is),
)
