-- The texts of values and rows of whole characters.
use Rattle.std.proofs.Common.{ℕ, pos, negsuc, suc, List, [], ◌∷◌, ◌++◌, arith, refl}
use Rattle.std.specs.Prelude.{codes}
use Rattle.std.specs.List.{AllByRecursion}
use Rattle.std.specs.Fmt.{decimal}
use Rattle.std.specs.Str.{IsUtf8}
use Rattle.std.proofs.lemmas.Str.{IsUtf8-nil}
use Rattle.ent_value.specs.Print.{more_text, row_text, value_text, values_text}
use Rattle.ent_value.specs.declared.value.Value.{Value}
use Rattle.ent_value.specs.declared.value.Value.TheVariants.{Int, Text}
use Rattle.ent_book.specs.Report.{line, row_line, rows_text}
use Rattle.ent_program_laws.specs.Values.{IsOfCharacters}
use Rattle.ent_program_laws.specs.Characters.{IsRowOfCharacters}
use Rattle.ent_program_laws.proofs.Quoting.{quoted_text}
use Rattle.ent_program_laws.proofs.Texts.{behind_byte, joined, number_text, of_ascii, one_byte}

pub value_is_text : (value : Value) → IsOfCharacters value → IsUtf8 (value_text value)
value_is_text (Int (pos n)) is = number_text n
value_is_text (Int (negsuc n)) is = behind_byte 45 (decimal (suc n)) (omega arith) (number_text (suc n))
value_is_text (Text content) is = quoted_text content is

more_are_text : (values : List Value) → IsRowOfCharacters values → IsUtf8 (more_text values)
more_are_text [] each = IsUtf8-nil
more_are_text (value ∷ values) each =
    joined (codes ", ") (value_text value ++ more_text values) (of_ascii (codes ", ") refl)
    (joined (value_text value) (more_text values) (value_is_text value each.0) (more_are_text values each.1))

values_are_text : (values : List Value) → IsRowOfCharacters values → IsUtf8 (values_text values)
values_are_text [] each = IsUtf8-nil
values_are_text (value ∷ values) each =
    joined (value_text value) (more_text values) (value_is_text value each.0) (more_are_text values each.1)

pub row_is_text : (row : List Value) → IsRowOfCharacters row → IsUtf8 (row_text row)
row_is_text row each =
    behind_byte 40 (values_text row ++ 41 ∷ []) (omega arith)
    (joined (values_text row) (41 ∷ []) (values_are_text row each) (one_byte 41 (omega arith)))

pub line_is_text : (text : List ℕ) → IsUtf8 text → IsUtf8 (line text)
line_is_text text is = joined text (10 ∷ []) is (one_byte 10 (omega arith))

pub rows_are_text : (rows : List (List Value)) → AllByRecursion IsRowOfCharacters rows → IsUtf8 (rows_text rows)
rows_are_text [] each = IsUtf8-nil
rows_are_text (row ∷ rows) each =
    joined (row_line row) (rows_text rows) (line_is_text (row_text row) (row_is_text row each.0))
    (rows_are_text rows each.1)
