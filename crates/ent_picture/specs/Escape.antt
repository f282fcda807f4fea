-- Texts that stand in XML.
use Rattle.std.specs.Prelude.{◌≡◌, ◌≢◌, ◌==◌, ◌⊎◌, if◌then◌else◌, ℕ, List, [], ◌∷◌, codes}
use Rattle.std.specs.List.{AllByRecursion, flat_map}

-- a byte, written so that it is no markup: less-than, greater-than, ampersand and quote by their names
abbrev pub escape : ℕ → List ℕ
escape b = if b == 60 then codes "&lt;" else (if b == 62 then codes "&gt;"
    else (if b == 38 then codes "&amp;" else (if b == 34 then codes "&quot;" else b ∷ [])))

abbrev pub escaped : List ℕ → List ℕ
escaped text = flat_map escape text

-- the name of a character that is markup, or a byte that is none
abbrev pub IsPiece : List ℕ → Type 0
IsPiece piece = (piece ≡ codes "&lt;") ⊎ ((piece ≡ codes "&gt;") ⊎ ((piece ≡ codes "&amp;") ⊎ ((piece ≡ codes "&quot;")
    ⊎ ((b : ℕ) × (piece ≡ b ∷ []) × (b ≢ 60) × (b ≢ 62) × (b ≢ 38) × (b ≢ 34)))))

-- a text that is such names and such bytes, one after the other
abbrev pub IsCharacterData : List ℕ → Type 0
IsCharacterData text =
    (pieces : List (List ℕ)) × (text ≡ flat_map (λ piece. piece) pieces) × AllByRecursion IsPiece pieces
