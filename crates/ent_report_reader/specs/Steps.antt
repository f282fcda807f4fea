-- The first piece of a text, which a draft takes in.
use Rattle.std.specs.Prelude.{◌≡◌, ◌<◌, ℕ, List, ◌++◌, length, Option, Some, None}
use Rattle.ent_history.specs.Draft.{Draft}
use Rattle.ent_history.specs.Stands.{Stands}
use Rattle.ent_history.specs.Scripts.{ScriptStands}
use Rattle.ent_history.specs.Fault.{NothingStands}

-- a piece stands in front, and this is behind it
pub record TakesPiece (old new : Draft) (text behind : List ℕ) : Type 0 where
  pub piece : List ℕ
  pub parts : text ≡ piece ++ behind
  pub stands : Stands old piece new
  pub shorter : length behind < length text

-- The first piece stands, with it the report tells this, and this is what stands behind it; or nothing can stand there,
-- and the draft is as before.
abbrev pub Steps : Draft → Draft → List ℕ → Option (List ℕ) → Type 0
Steps old new text (Some behind) = TakesPiece old new text behind
Steps old new text None = NothingStands old text × (new ≡ old)

-- no script that can stand there begins this rest of a text
abbrev pub NoScript : Draft → List ℕ → Type 0
NoScript draft rest = (text more : List ℕ) (next : Draft) → rest ≡ text ++ more → ScriptStands draft text next → ⊥

-- the same, of a script
abbrev pub StepsScript : Draft → Draft → List ℕ → Option (List ℕ) → Type 0
StepsScript old new text (Some behind) = TakesPiece old new text behind
StepsScript old new text None = NoScript old text × (new ≡ old)
