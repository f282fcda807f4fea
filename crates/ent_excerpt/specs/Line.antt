-- The line of a text that holds a place.
use Rattle.std.specs.Prelude.{◌≡◌, ◌≢◌, ◌⊎◌, ℕ, List, [], ◌∷◌, ◌++◌, length}
use Rattle.std.specs.List.{All}

-- no byte of these is LF
abbrev pub IsUnbroken : List ℕ → Type 0
IsUnbroken bytes = All (λ b. b ≢ 10) bytes

-- nothing, or lines that are ended by LF
abbrev pub EndsLines : List ℕ → Type 0
EndsLines bytes = (bytes ≡ []) ⊎ ((front : List ℕ) × (bytes ≡ front ++ 10 ∷ []))

-- nothing, or an LF and what stands behind it
abbrev pub BeginsAtBreak : List ℕ → Type 0
BeginsAtBreak bytes = (bytes ≡ []) ⊎ ((back : List ℕ) × (bytes ≡ 10 ∷ back))

-- the text's last line
pub record IsLastLine (text line : List ℕ) : Type 0 where
  pub earlier : List ℕ
  pub whole : text ≡ earlier ++ line
  pub begins : EndsLines earlier
  pub unbroken : IsUnbroken line

-- the text's first line
pub record IsFirstLine (text line : List ℕ) : Type 0 where
  pub later : List ℕ
  pub whole : text ≡ line ++ later
  pub ends : BeginsAtBreak later
  pub unbroken : IsUnbroken line

-- the line that holds the place at this offset: what stands in it before the place, and from the place on
pub record IsLineAt (text : List ℕ) (offset : ℕ) (before behind : List ℕ) : Type 0 where
  pub earlier : List ℕ
  pub later : List ℕ
  pub whole : text ≡ (earlier ++ before) ++ (behind ++ later)
  pub place : length (earlier ++ before) ≡ offset
  pub begins : EndsLines earlier
  pub ends : BeginsAtBreak later
  pub unbroken_before : IsUnbroken before
  pub unbroken_behind : IsUnbroken behind
