-- How the parts of a line are read from the left: a thing and the bytes behind it, or nothing of the sort.
use Rattle.std.specs.Prelude.{ℕ, zero, suc, pos, negsuc, Bool, true, false, not, List, [], ◌∷◌, length}
use Rattle.std.specs.Prelude.{Result, Ok, Err, nat_le, ◌==◌, if◌then◌else◌, slice_index, take, drop, codes}
use Rattle.std.specs.List.{take_while}
use Rattle.std.specs.Char.{is_ascii_digit}
use Rattle.std.specs.Cmp.Lexicographic.{pointwise}
use Rattle.ent_value.specs.Refusal.{◌>>=◌}
use Rattle.ent_value.specs.declared.text.TheConstants.{LONGEST_TEXT}
use Rattle.ent_value.specs.declared.value.Value.{Value}
use Rattle.ent_value.specs.declared.value.Value.TheVariants.{Int, Text}
use Rattle.ent_text.specs.declared.fault.TextFault.{TextFault}
use Rattle.ent_text.specs.Lexing.{after, value_from, quoted_at}
use Rattle.ent_text.specs.declared.line_fault.LineFault.{LineFault}
use Rattle.ent_text.specs.declared.line_fault.LineFault.TheVariants.{Misfit}

abbrev pub Read : Type 0 → Type 0
Read A = Result (A × List ℕ) LineFault

abbrev pub wanted : {A : Type 0} → Bool → A → Result A LineFault
wanted test x = if test then Ok x else Err Misfit

-- what stands behind these bytes, where they stand in front
unfoldable pub behind : List ℕ → List ℕ → Result (List ℕ) LineFault
behind word bytes = wanted (pointwise ◌==◌ (take (length word) bytes) word) (drop (length word) bytes)

-- ---- numbers

-- a digit at least, and no zero before others
abbrev pub is_plain : List ℕ → Bool
is_plain [] = false
is_plain (d ∷ []) = true
is_plain (d ∷ e ∷ more) = not (d == 48)

-- a number up to a limit
unfoldable pub number_to : ℕ → List ℕ → Read ℕ
number_to most bytes =
    let digits = take_while is_ascii_digit bytes in
    if is_plain digits then
    (if nat_le (value_from 0 digits) most then Ok (value_from 0 digits, after is_ascii_digit bytes) else Err Misfit)
    else Err Misfit

abbrev pub number_at : List ℕ → Read ℕ
number_at bytes = number_to 9223372036854775807 bytes

-- ---- values

-- a number behind its minus sign; none is 0
abbrev pub negative : ℕ → List ℕ → Read Value
negative zero rest = Err Misfit
negative (suc n) rest = Ok (Int (negsuc n), rest)

-- a reading of a text's bytes, whose faults are all the same here
abbrev pub unplaced : {A : Type 0} → Result A TextFault → Result A LineFault
unplaced (Ok x) = Ok x
unplaced (Err fault) = Err Misfit

-- what stands in quotes, behind the opening one, and the bytes behind the closing one
unfoldable pub content_at : List ℕ → Read (List ℕ)
content_at bytes = unplaced (quoted_at 0 0 bytes)

-- at most 255 bytes
abbrev pub short_text : List ℕ → List ℕ → Read Value
short_text content rest = wanted (nat_le (length content) LONGEST_TEXT) (Text content, rest)

unfoldable pub text_at : List ℕ → Read Value
text_at bytes = content_at bytes >>= λ content. short_text content.0 content.1

unfoldable pub negative_at : List ℕ → Read Value
negative_at bytes = number_to 9223372036854775808 bytes >>= λ found. negative found.0 found.1

unfoldable pub positive_at : List ℕ → Read Value
positive_at bytes = number_at bytes >>= λ found. Ok (Int (pos found.0), found.1)

-- a text in quotes, a number, or one behind a minus sign
unfoldable pub value_at : List ℕ → Read Value
value_at bytes =
    if slice_index bytes 0 == 39 then text_at (drop 1 bytes)
    else (if slice_index bytes 0 == 45 then negative_at (drop 1 bytes) else positive_at bytes)

-- ---- rows

abbrev pub with_value : Value → Read (List Value) → Read (List Value)
with_value value read = read >>= λ more. Ok (value ∷ more.0, more.1)

-- a value behind a comma and a space
unfoldable pub divided_at : List ℕ → Read Value
divided_at bytes = behind (codes ", ") bytes >>= λ rest. value_at rest

-- Values up to a closing parenthesis, each behind a comma and a space, and the bytes behind it. There are no more of
-- them than bytes.
unfoldable pub more_at : ℕ → List ℕ → Read (List Value)
more_at zero bytes = Err Misfit
more_at (suc n) [] = Err Misfit
more_at (suc n) (b ∷ bytes) =
    if b == 41 then Ok ([], bytes)
    else (divided_at (b ∷ bytes) >>= λ value. with_value value.0 (more_at n value.1))

-- values in parentheses, one at least
unfoldable pub row_at : List ℕ → Read (List Value)
row_at bytes =
    behind (codes "(") bytes >>= λ inner.
    value_at inner >>= λ first. with_value first.0 (more_at (length first.1) first.1)
