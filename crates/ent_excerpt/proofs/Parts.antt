-- Parts of a text.
use Rattle.std.proofs.Common.{◌≡◌, ◌<◌, ◌+◌, ℕ, Bool, true, false, List, []}
use Rattle.std.proofs.Common.{◌∷◌, ◌++◌, length, take, drop, refl, sym, ◌∙◌, ap, arith}
use Rattle.std.specs.Prelude.{◌↔◌, IsTrue}
use Rattle.std.proofs.lemmas.List.{length-append, take-append-drop, append-nil}
use Rattle.ent_excerpt.specs.Part.{IsEndOf, IsBeginningOf}

pub all_is_end : (text : List ℕ) → IsEndOf text text
all_is_end text = ([], refl)

pub all_is_beginning : (text : List ℕ) → IsBeginningOf text text
all_is_beginning text = ([], sym (append-nil text))

pub drop_is_end : (text part : List ℕ) (n : ℕ) → part ≡ drop n text → IsEndOf text part
drop_is_end text part n is =
    (take n text, sym (take-append-drop n text) ∙ ap (λ (rest : List ℕ). take n text ++ rest) (sym is))

pub take_is_beginning : (text part : List ℕ) (n : ℕ) → part ≡ take n text → IsBeginningOf text part
take_is_beginning text part n is =
    (drop n text, sym (take-append-drop n text) ∙ ap (λ (front : List ℕ). front ++ drop n text) (sym is))

equal_lengths : (part text : List ℕ) → part ≡ text → length part ≡ length text
equal_lengths part text same = ap (λ (bytes : List ℕ). length bytes) same

not_shorter : (part text : List ℕ) → length part < length text → ¬ (part ≡ text)
not_shorter part text shorter same = omega (arith, equal_lengths part text same, shorter)

-- an end is shorter than the text just where it isn't all
pub end_is_shorter : (text part : List ℕ) → IsEndOf text part → (length part < length text) ↔ ¬ (part ≡ text)
end_is_shorter text part ([], whole) = (not_shorter part text, (λ differs. absurd (differs (sym whole))))
end_is_shorter text part (b ∷ front, whole) =
    let lengths : length text ≡ length (b ∷ front) + length part =
    equal_lengths text (b ∷ (front ++ part)) whole ∙ length-append (b ∷ front) part in
    (not_shorter part text, (λ differs. grind (arith, lengths)))

-- the same of a beginning
pub beginning_is_shorter : (text part : List ℕ) → IsBeginningOf text part
    → (length part < length text) ↔ ¬ (part ≡ text)
beginning_is_shorter text part ([], whole) =
    (not_shorter part text, (λ differs. absurd (differs (sym (whole ∙ append-nil part)))))
beginning_is_shorter text part (b ∷ rest, whole) =
    let lengths : length text ≡ length part + length (b ∷ rest) =
    equal_lengths text (part ++ b ∷ rest) whole ∙ length-append part (b ∷ rest) in
    (not_shorter part text, (λ differs. grind (arith, lengths)))

-- a part that is all of the text isn't cut
pub not_cut : (cut : Bool) (part text : List ℕ) → IsTrue cut ↔ ¬ (part ≡ text) → part ≡ text → cut ≡ false
not_cut true part text told same = absurd (told.0 refl same)
not_cut false part text told same = refl
