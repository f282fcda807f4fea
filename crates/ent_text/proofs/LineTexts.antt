-- Texts are read as they are written.
use Rattle.std.proofs.Common.{◌≡◌, ℕ, List, ◌∷◌, ◌++◌, Ok, Err, ap, subst}
use Rattle.ent_value.specs.Print.{doubled}
use Rattle.ent_text.specs.Lexing.{Stops, quoted_at}
use Rattle.ent_text.specs.Spelling.{IsPlain}
use Rattle.ent_text.proofs.OneReading.{quoted_closed}
use Rattle.ent_text.proofs.Reading.{Body}
use Rattle.ent_text.proofs.Texts.{Quoted, is_quote, quoted_is}
use Rattle.ent_text.specs.Pieces.{content_at, unplaced}
use Rattle.ent_text.proofs.Numbers.{read_of}

placed : (body : Body) (content rest : List ℕ) → unplaced body ≡ read_of content rest → body ≡ Ok (content, rest)
placed (Ok x) content rest h = cc
placed (Err fault) content rest h = cc

pub content_found : (bytes content rest : List ℕ) → content_at bytes ≡ Ok (content, rest)
    → (bytes ≡ doubled content ++ 39 ∷ rest) × IsPlain content × Stops is_quote rest
unfolding content_at
content_found bytes content rest h =
    subst (Quoted 0 0 bytes) (placed (quoted_at 0 0 bytes) content rest h) (quoted_is 0 0 bytes)

pub content_again : (content rest : List ℕ) → IsPlain content → Stops is_quote rest
    → content_at (doubled content ++ 39 ∷ rest) ≡ Ok (content, rest)
unfolding content_at
content_again content rest plain stop = ap unplaced (quoted_closed content rest 0 0 plain stop)
