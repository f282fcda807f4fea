-- The text of values and rows.
use Rattle.std.specs.Prelude.{ℕ, List, [], ◌∷◌, ◌++◌, ◌==◌, if◌then◌else◌, codes}
use Rattle.std.specs.Fmt.{signed_decimal}
use Rattle.ent_value.specs.declared.value.Value.{Value}
use Rattle.ent_value.specs.declared.value.Value.TheVariants.{Int, Text}

-- each quote is doubled
abbrev pub doubled : List ℕ → List ℕ
doubled [] = []
doubled (b ∷ bs) = if b == 39 then 39 ∷ 39 ∷ doubled bs else (b ∷ doubled bs)

abbrev pub quoted : List ℕ → List ℕ
quoted bs = 39 ∷ (doubled bs ++ 39 ∷ [])

abbrev pub value_text : Value → List ℕ
value_text (Int n) = signed_decimal n
value_text (Text bs) = quoted bs

-- values after the first, each behind a comma and a space
abbrev pub more_text : List Value → List ℕ
more_text [] = []
more_text (v ∷ vs) = codes ", " ++ (value_text v ++ more_text vs)

abbrev pub values_text : List Value → List ℕ
values_text [] = []
values_text (v ∷ vs) = value_text v ++ more_text vs

abbrev pub row_text : List Value → List ℕ
row_text vs = 40 ∷ (values_text vs ++ 41 ∷ [])
