-- Parts of a text, and its width.
use Rattle.std.specs.Prelude.{◌≡◌, ◌++◌, ℕ, List, false, chars, sum_by, unwrap_or}
use Rattle.unicode_width.specs.Width.{char_width, str_width}

-- how many columns a text takes
abbrev pub width : List ℕ → ℕ
width text = str_width false (chars text)

-- how many a character takes by itself; a control character takes one, as it is shown
abbrev pub char_columns : ℕ → ℕ
char_columns c = unwrap_or (char_width false c) 1

-- how many the characters of a text take, each by itself
abbrev pub columns : List ℕ → ℕ
columns text = sum_by char_columns (chars text)

-- the end of a text
abbrev pub IsEndOf : List ℕ → List ℕ → Type 0
IsEndOf text part = (front : List ℕ) × (text ≡ front ++ part)

-- the beginning of a text
abbrev pub IsBeginningOf : List ℕ → List ℕ → Type 0
IsBeginningOf text part = (rest : List ℕ) × (text ≡ part ++ rest)
