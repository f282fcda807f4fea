-- Names are of ASCII.
use Rattle.std.proofs.Common.{ℕ, leb, List, length}
use Rattle.std.specs.Prelude.{◌&&◌, slice_index}
use Rattle.std.specs.Char.{is_ascii_alphabetic}
use Rattle.std.specs.List.{list_all}
use Rattle.std.specs.Option.{is_none}
use Rattle.std.specs.Str.{IsUtf8}
use Rattle.std.proofs.lemmas.Bool.{and_parts, le-leb}
use Rattle.ent_value.specs.Name.{is_word, is_word_byte}
use Rattle.ent_value.specs.declared.name.TheConstants.{LONGEST_NAME}
use Rattle.ent_text.specs.Lexing.{keyword_of}
use Rattle.ent_text.specs.declared.token.TokenKind.TheVariants as kinds
use Rattle.ent_print.specs.Reading.{CanStand}
use Rattle.ent_history.specs.Parts.{IsName}
use Rattle.ent_lists.specs.Elements.{both_and}
use Rattle.ent_history.proofs.Names.{is_name_of, word_is_text}

pub name_text : (name : List ℕ) → IsName name → IsUtf8 name
name_text name is =
    word_is_text name (and_parts (is_word name) (is_none (keyword_of name)) (is_name_of name is)).0

pub variable_text : (name : List ℕ) → CanStand (kinds.HostVariable name) → IsUtf8 name
variable_text name can =
    word_is_text name
    (both_and (leb (length name) LONGEST_NAME) (is_ascii_alphabetic (slice_index name 0) && list_all is_word_byte name)
    (le-leb (length name) LONGEST_NAME can.1)
    (both_and (is_ascii_alphabetic (slice_index name 0)) (list_all is_word_byte name) can.0.1.1.0 can.0.1.1.1))
