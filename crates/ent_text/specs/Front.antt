-- The token at the front, in the words of readers.
use Rattle.std.specs.Prelude.{ℕ, Bool, List}
use Rattle.ent_text.specs.declared.token.Token.{Token}
use Rattle.ent_text.specs.declared.keyword.Keyword.{Keyword}
use Rattle.ent_text.specs.declared.symbol.Symbol.{Symbol}
use Rattle.ent_text.specs.declared.divider.Divider.{Divider}
use Rattle.ent_text.specs.Read.{Read, begins}
use Rattle.ent_text.specs.Class.{word, sign, is, class_of}
use Rattle.ent_text.specs.Grammar.{token, reads}

abbrev pub begins_with_word : Keyword → List Token → Bool
begins_with_word keyword tokens = begins (is (word keyword)) tokens

abbrev pub begins_with_sign : Symbol → List Token → Bool
begins_with_sign symbol tokens = begins (is (sign symbol)) tokens

abbrev pub begins_with_divider : Divider → List Token → Bool
begins_with_divider divider tokens = begins (is (class_of divider)) tokens

-- where a reserved word stands, and the tokens behind it
abbrev pub word_at : Keyword → ℕ → List Token → Read ℕ
word_at keyword = reads (token (word keyword))

-- where a symbol stands, and the tokens behind it
abbrev pub sign_at : Symbol → ℕ → List Token → Read ℕ
sign_at symbol = reads (token (sign symbol))
