-- Which values a caller may bind to a host variable: those that a script can spell.
use Rattle.std.specs.Prelude.{◌≡◌, ◌≢◌, ◌<◌, ◌≤◌, ℕ, ℤ, negsuc, List, length, Some, FitsSigned}
use Rattle.std.specs.Char.{is_ascii_control}
use Rattle.std.specs.Int.{w64}
use Rattle.std.specs.List.{position_from}
use Rattle.std.specs.Str.{IsUtf8, IsValidUpTo}
use Rattle.ent_value.specs.declared.refusal.Refusal.{Refusal}
use Rattle.ent_value.specs.declared.refusal.Refusal.TheVariants.{Memory, Fault}
use Rattle.ent_value.specs.declared.text.TheConstants.{LONGEST_TEXT}
use Rattle.ent_value.specs.declared.value.Value.{Value}
use Rattle.ent_value.specs.declared.value.Value.TheVariants.{Int, Text}
use Rattle.ent_text.specs.Spelling.{IsPlain}
use Rattle.ent_bound.specs.declared.fault.ValueFault.{ValueFault}
use Rattle.ent_bound.specs.declared.fault.ValueFault.TheVariants.{LeastNumber, TooLong, NotUtf8, ControlCharacter}

-- the least number of 64 bits: a script spells a number below 0 by a `-` and digits, and these would be beyond 64 bits
abbrev pub least_number : ℤ
least_number = negsuc 9223372036854775807

-- a text of characters within the limit, without control characters
abbrev pub IsBindableText : List ℕ → Type 0
IsBindableText content = (length content ≤ LONGEST_TEXT) × IsUtf8 content × IsPlain content

-- a number but for the least, or such a text
abbrev pub IsBindable : Value → Type 0
IsBindable (Int number) = FitsSigned w64 number × (number ≢ least_number)
IsBindable (Text content) = IsBindableText content

-- why a text can't be bound: its length, else where it stops being UTF-8, else its first control character
abbrev pub IsTextFault : List ℕ → ValueFault → Type 0
IsTextFault content LeastNumber = ⊥
IsTextFault content TooLong = LONGEST_TEXT < length content
IsTextFault content (NotUtf8 place) =
    (length content ≤ LONGEST_TEXT) × ¬ (IsUtf8 content) × IsValidUpTo content place
IsTextFault content (ControlCharacter place) =
    (length content ≤ LONGEST_TEXT) × IsUtf8 content × (position_from is_ascii_control 0 content ≡ Some place)

-- a text is refused for a fault of it, or memory ran out
abbrev pub RefusesText : List ℕ → Refusal ValueFault → Type 0
RefusesText content Memory = Unit {0}
RefusesText content (Fault fault) = IsTextFault content fault
