-- Words up to the next space, and behind it.
use Rattle.std.proofs.Common.{◌≡◌, ◌∙◌, ℕ, ◌+◌, suc, Bool, true, false, cond, List, [], ◌∷◌, Some, None, refl, sym, ap}
use Rattle.std.proofs.Common.{take, drop, arith, ◌<◌, ◌-◌, length}
use Rattle.std.proofs.lemmas.List.{take_rest}
use Rattle.std.specs.List.{position_from}
use Rattle.ent_room_calls.specs.Turning.{is_space, pieces}

-- the first piece ends at the first space, and the others stand behind it
pub record CutAt (text : List ℕ) (from place : ℕ) : Type 0 where
  pub count : ℕ
  pub is : place ≡ from + count
  pub within : count < length text
  pub cut : pieces text ≡ take count text ∷ pieces (drop (suc count) text)

some_is : (x y : ℕ) → Some x ≡ Some y → x ≡ y
some_is x y e = cc

pub cut_at : (text : List ℕ) (from place : ℕ) → position_from is_space from text ≡ Some place → CutAt text from place
cut_at [] from place e = absurd (let no = e in cc)
cut_at (byte ∷ rest) from place e = by (is_space byte) refl e (cut_at rest (from + 1) place)
  where
    by : (t : Bool) → is_space byte ≡ t → cond t (Some from) (position_from is_space (from + 1) rest) ≡ Some place
        → (position_from is_space (from + 1) rest ≡ Some place → CutAt rest (from + 1) place)
        → CutAt (byte ∷ rest) from place
    by true is e more = record { count = 0; is = omega (arith, some_is from place e); within = omega arith; cut = cc }
    by false is e more =
        let later = more e in let cut = later.cut in
        record { count = suc later.count; is = omega (arith, later.is); within = omega (arith, later.within); cut = cc }

-- without a space there is one piece
pub whole : (text : List ℕ) (from : ℕ) → position_from is_space from text ≡ None → pieces text ≡ text ∷ []
whole [] from e = refl
whole (byte ∷ rest) from e = by (is_space byte) refl e (whole rest (from + 1))
  where
    by : (t : Bool) → is_space byte ≡ t → cond t (Some from) (position_from is_space (from + 1) rest) ≡ None
        → (position_from is_space (from + 1) rest ≡ None → pieces rest ≡ rest ∷ [])
        → pieces (byte ∷ rest) ≡ (byte ∷ rest) ∷ []
    by true is e more = cc
    by false is e more = let one = more e in cc

-- the same, of a text cut at its first space
pub cut_here : (text : List ℕ) (place : ℕ) → position_from is_space 0 text ≡ Some place →
    pieces text ≡ take place text ∷ pieces (take (length text - (place + 1)) (drop (place + 1) text))
cut_here text place e =
    let at = cut_at text 0 place e in
    let same : place ≡ at.count = omega (arith, at.is) in
    let next : place + 1 ≡ suc at.count = omega (arith, at.is) in
    at.cut ∙ sym (ap (λ n. take n text ∷ pieces (drop (suc at.count) text)) same)
    ∙ ap (λ more. take place text ∷ pieces more) (sym (take_rest text (place + 1) ∙ ap (λ n. drop n text) next))
