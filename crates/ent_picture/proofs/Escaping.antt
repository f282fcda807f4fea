-- What is escaped holds no markup.
use Rattle.std.proofs.Common.{◌≡◌, ℕ, Bool, true, false, List, [], ◌∷◌, ◌++◌, map, refl, ap, inl, inr, eqb}
use Rattle.std.specs.Prelude.{◌≢◌, ◌==◌, if◌then◌else◌, codes}
use Rattle.std.specs.List.{AllByRecursion, flat_map}
use Rattle.std.proofs.lemmas.Bool.{ne_eqb, eqb-false}
use Rattle.ent_picture.specs.Escape.{IsCharacterData, IsPiece, escape, escaped}

other_by : (b : ℕ) → eqb b 60 ≡ false → eqb b 62 ≡ false → eqb b 38 ≡ false → eqb b 34 ≡ false
    → (if b == 60 then codes "&lt;" else (if b == 62 then codes "&gt;"
    else (if b == 38 then codes "&amp;" else (if b == 34 then codes "&quot;" else b ∷ [])))) ≡ b ∷ []
other_by b less more amp quote = rw (less, more, amp, quote) refl

pub escape_other : (b : ℕ) → (b ≡ 60 → ⊥) → (b ≡ 62 → ⊥) → (b ≡ 38 → ⊥) → (b ≡ 34 → ⊥) → escape b ≡ b ∷ []
escape_other b less more amp quote =
    other_by b (ne_eqb b 60 less) (ne_eqb b 62 more) (ne_eqb b 38 amp) (ne_eqb b 34 quote)

quote_piece : (b : ℕ) → b ≢ 60 → b ≢ 62 → b ≢ 38 → (t : Bool) → eqb b 34 ≡ t
    → IsPiece (if t then codes "&quot;" else b ∷ [])
quote_piece b less more amp true e = inr (inr (inr (inl refl)))
quote_piece b less more amp false e = inr (inr (inr (inr (b, refl, less, more, amp, eqb-false b 34 e))))

amp_piece : (b : ℕ) → b ≢ 60 → b ≢ 62 → (t : Bool) → eqb b 38 ≡ t
    → IsPiece (if t then codes "&amp;" else (if b == 34 then codes "&quot;" else b ∷ []))
amp_piece b less more true e = inr (inr (inl refl))
amp_piece b less more false e = quote_piece b less more (eqb-false b 38 e) (eqb b 34) refl

more_piece : (b : ℕ) → b ≢ 60 → (t : Bool) → eqb b 62 ≡ t
    → IsPiece (if t then codes "&gt;" else
    (if b == 38 then codes "&amp;" else (if b == 34 then codes "&quot;" else b ∷ [])))
more_piece b less true e = inr (inl refl)
more_piece b less false e = amp_piece b less (eqb-false b 62 e) (eqb b 38) refl

less_piece : (b : ℕ) (t : Bool) → eqb b 60 ≡ t
    → IsPiece (if t then codes "&lt;" else (if b == 62 then codes "&gt;"
    else (if b == 38 then codes "&amp;" else (if b == 34 then codes "&quot;" else b ∷ []))))
less_piece b true e = inl refl
less_piece b false e = more_piece b (eqb-false b 60 e) (eqb b 62) refl

escape_piece : (b : ℕ) → IsPiece (escape b)
escape_piece b = less_piece b (eqb b 60) refl

pieces_of : (text : List ℕ) → AllByRecursion IsPiece (map escape text)
pieces_of [] = tt
pieces_of (b ∷ text) = (escape_piece b, pieces_of text)

joined : (text : List ℕ) → escaped text ≡ flat_map (λ (piece : List ℕ). piece) (map escape text)
joined [] = refl
joined (b ∷ text) = ap (λ (rest : List ℕ). escape b ++ rest) (joined text)

pub escaped_is_data : (text : List ℕ) → IsCharacterData (escaped text)
escaped_is_data text = (map escape text, joined text, pieces_of text)
