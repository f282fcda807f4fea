-- Bytes that were put piece by piece.
use Rattle.std.proofs.Common.{◌≡◌, ℕ, List, ◌++◌, ap, ◌∙◌, append_assoc}

-- a piece before others
pub before : (out piece next rest last : List ℕ) → next ≡ out ++ piece → last ≡ next ++ rest
    → last ≡ out ++ (piece ++ rest)
before out piece next rest last put behind =
    behind ∙ ap (λ front. front ++ rest) put ∙ append_assoc out piece rest
