-- How a name is read.
use Rattle.std.specs.Prelude.{◌&&◌, ℕ, Bool, true, false, List}
use Rattle.std.specs.List.{take_while}
use Rattle.std.specs.Option.{is_none}
use Rattle.ent_value.specs.Name.{is_word, is_word_byte}
use Rattle.ent_text.specs.Lexing.{after, keyword_of}
use Rattle.ent_text.specs.declared.token.TokenKind.{TokenKind}
use Rattle.ent_text.specs.declared.token.TokenKind.TheVariants as kinds
use Rattle.ent_semantics.specs.Database.{Name}
use Rattle.ent_text.specs.Pieces.{Read, wanted}

abbrev pub is_keyword : TokenKind → Bool
is_keyword (kinds.Word keyword) = true
is_keyword other = false

-- a letter, then letters, digits and `_`, at most 63 bytes, and no reserved word
abbrev pub is_name : List ℕ → Bool
is_name word = is_word word && is_none (keyword_of word)

-- all letters, digits and `_` in front, where they are a name
unfoldable pub name_at : List ℕ → Read Name
name_at bytes =
    let word = take_while is_word_byte bytes in wanted (is_name word) (word, after is_word_byte bytes)
