-- What can be written in a line, and what can stand behind it.
use Rattle.std.specs.Prelude.{◌≢◌, ◌≤◌, ◌==◌, ◌||◌, ℕ, Bool, List, [], length, FitsSigned}
use Rattle.std.specs.List.{AllByRecursion}
use Rattle.std.specs.Int.{w64}
use Rattle.ent_value.specs.Name.{is_word_byte}
use Rattle.ent_value.specs.declared.text.TheConstants.{LONGEST_TEXT}
use Rattle.ent_value.specs.declared.value.Value.{Value}
use Rattle.ent_value.specs.declared.value.Value.TheVariants.{Int, Text}
use Rattle.ent_text.specs.Lexing.{Stops}
use Rattle.ent_text.specs.Spelling.{IsPlain}

-- a byte that would go on a number, a name or a text
abbrev pub goes_on : ℕ → Bool
goes_on b = is_word_byte b || (b == 39)

-- none stands first
abbrev pub IsOver : List ℕ → Type 0
IsOver = Stops goes_on

-- at most 255 bytes, without control characters
abbrev pub IsText : List ℕ → Type 0
IsText content = IsPlain content × (length content ≤ LONGEST_TEXT)

-- a number of 64 bits, -9223372036854775808 too, or a text
abbrev pub IsValue : Value → Type 0
IsValue (Int number) = FitsSigned w64 number
IsValue (Text content) = IsText content

-- a value at least
abbrev pub IsRow : List Value → Type 0
IsRow values = (values ≢ []) × AllByRecursion IsValue values
