-- Which byte directly behind a token would make it a longer one, or another.
use Rattle.std.specs.Prelude.{ℕ, Bool, false, ◌||◌, ◌==◌}
use Rattle.std.specs.Char.{is_ascii_digit}
use Rattle.ent_value.specs.Name.{is_word_byte}
use Rattle.ent_text.specs.declared.symbol.Symbol.TheVariants.{Less, Greater, Minus}
use Rattle.ent_text.specs.declared.token.TokenKind.{TokenKind}
use Rattle.ent_text.specs.declared.token.TokenKind.TheVariants.{Word, Name, HostVariable, Number, Literal, Sign, Fault}

-- letters, digits and `_` go on words and host variables, digits numbers, a quote texts, `>` and `=` the symbol `<`,
-- `=` the symbol `>`; and a `-` behind a `-` makes a comment of both
abbrev pub goes_on : TokenKind → ℕ → Bool
goes_on (Word keyword) b = is_word_byte b
goes_on (Name word) b = is_word_byte b
goes_on (HostVariable word) b = is_word_byte b
goes_on (Number n) b = is_ascii_digit b
goes_on (Literal text) b = b == 39
goes_on (Sign Less) b = (b == 62) || (b == 61)
goes_on (Sign Greater) b = b == 61
goes_on (Sign Minus) b = b == 45
goes_on (Sign symbol) b = false
goes_on (Fault fault) b = false
