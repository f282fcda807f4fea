-- Literals of whole characters, as they are read and as they are kept.
use Rattle.ent_text.specs.declared.token.TokenKind.TheVariants.{Literal}
use Rattle.ent_print.specs.Lexeme.{Lexeme, Token}
use Rattle.ent_program_laws.specs.Values.{IsOfCharacters, IsWritten}
use Rattle.ent_program_laws.specs.Characters.{IsLexemeOfCharacters}

pub lexeme_kept : (lexeme : Lexeme) → IsLexemeOfCharacters lexeme → IsWritten IsOfCharacters lexeme
lexeme_kept (Token (Literal content)) is = is
lexeme_kept other is = tt
