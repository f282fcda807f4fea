-- JSON: texts, lists and objects, as bytes.
use Rattle.std.specs.Prelude.{ℕ, ◌+◌, ◌/◌, ◌%◌, ◌==◌, List, [], ◌∷◌, ◌++◌, nat_lt, if◌then◌else◌}
use Rattle.std.specs.List.{flat_map}

-- the digit of a number below 16
abbrev pub hex_digit : ℕ → ℕ
hex_digit n = if nat_lt n 10 then n + 48 else n + 87

-- a byte of a text: a quote and a backslash stand behind a backslash, a control character as its number
abbrev pub escaped_byte : ℕ → List ℕ
escaped_byte byte =
    if byte == 34 then 92 ∷ 34 ∷ []
    else (if byte == 92 then 92 ∷ 92 ∷ []
    else (if nat_lt byte 32 then 92 ∷ 117 ∷ 48 ∷ 48 ∷ hex_digit (byte / 16) ∷ hex_digit (byte % 16) ∷ []
    else (byte ∷ [])))

abbrev pub escaped : List ℕ → List ℕ
escaped bytes = flat_map escaped_byte bytes

-- a text, in quotes
abbrev pub text_json : List ℕ → List ℕ
text_json bytes = 34 ∷ (escaped bytes ++ 34 ∷ [])

module _ {A : Type 0} (json : A → List ℕ) where
  -- each behind a comma
  abbrev pub more_json : List A → List ℕ
  more_json xs = flat_map (λ x. 44 ∷ json x) xs

  -- with commas between them
  abbrev pub items_json : List A → List ℕ
  items_json [] = []
  items_json (x ∷ xs) = json x ++ more_json xs

  abbrev pub list_json : List A → List ℕ
  list_json xs = 91 ∷ (items_json xs ++ 93 ∷ [])

  -- members are names with their values
  abbrev pub object_json : List A → List ℕ
  object_json xs = 123 ∷ (items_json xs ++ 125 ∷ [])
