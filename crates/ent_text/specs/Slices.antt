-- Tokens are slices of their text, in order.
use Rattle.std.specs.Prelude.{ℕ, ◌<◌, ◌≤◌, List, [], ◌∷◌, length, slice_range, ⊤}
use Rattle.std.specs.List.{All}
use Rattle.ent_text.specs.declared.token.Token.{Token}
use Rattle.ent_text.specs.Spelling.{Spells}

-- the bytes of the text from the token's start up to its end spell it
abbrev pub IsSliceOf : List ℕ → Token → Type 0
IsSliceOf text token =
    (token.start < token.end) × (token.end ≤ length text)
    × Spells (slice_range text token.start token.end) token.kind

-- each token ends before all later ones start
abbrev pub AreInOrder : List Token → Type 0
AreInOrder [] = ⊤
AreInOrder (token ∷ tokens) = All (λ later. token.end ≤ later.start) tokens × AreInOrder tokens
