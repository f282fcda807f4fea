-- The line of a joint answer is read as it is written.
use Rattle.std.proofs.Common.{◌≡◌, ◌≢◌, ℕ, ◌<◌, Bool, true, not, eqb, ltb, List, [], ◌∷◌, ◌++◌, length, Ok, Result}
use Rattle.std.proofs.Common.{refl, ap, sym, ◌∙◌, subst, arith, append_assoc, length-append}
use Rattle.std.specs.Prelude.{codes, slice_index, ◌&&◌}
use Rattle.std.specs.Char.{is_ascii_digit}
use Rattle.std.specs.List.{AllByRecursion, flat_map}
use Rattle.std.specs.Fmt.{decimal}
use Rattle.std.proofs.lemmas.Bool.{and_parts, ltb-true, lt-ltb}
use Rattle.std.proofs.lemmas.List.{append-nil}
use Rattle.ent_lists.specs.Elements.{both_and}
use Rattle.ent_value.specs.Refusal.{◌>>=◌}
use Rattle.ent_history.specs.Joints.{PlacesRise, place_text}
use Rattle.ent_history.specs.Parts.{IsNumber}
use Rattle.ent_text.specs.declared.line_fault.LineFault.{LineFault}
use Rattle.ent_text.specs.Pieces.{behind, number_at, wanted}
use Rattle.ent_text.specs.Lexing.{Stops}
use Rattle.ent_text.proofs.Numbers.{chosen, read_of, is_first, is_rest, number_found, number_again}
use Rattle.ent_text.proofs.Values.{bind_ok}
use Rattle.ent_text.proofs.Rows.{behind_found, behind_again}
use Rattle.ent_history.proofs.Steps.{bind_with, same_ok, no_bytes}
use Rattle.ent_history.specs.JointLines.{place_at, places_at, rise, joint_at, joint_text}
use Rattle.ent_history.specs.Listing.{listed_at}
use Rattle.ent_history.proofs.Listing.{listed_found, listed_again, shorter_than_text, nonempty, is_nonempty}

-- ---- a place

abbrev IsPlace : ℕ × ℕ → Type 0
IsPlace place = IsNumber place.0 × IsNumber place.1

regrouped : (tx place : ℕ) (rest : List ℕ)
    → (codes " " ++ (decimal tx ++ (codes "." ++ decimal place))) ++ rest
    ≡ codes " " ++ (decimal tx ++ (codes "." ++ (decimal place ++ rest)))
regrouped tx place rest = ap (λ r. codes " " ++ r) (append_assoc (decimal tx) (codes "." ++ decimal place) rest)

pub place_found : (bytes rest : List ℕ) (place : ℕ × ℕ) → place_at bytes ≡ Ok (place, rest)
    → (bytes ≡ place_text place ++ rest) × IsPlace place
unfolding place_at
place_found bytes rest place h =
    let space = bind_ok (behind (codes " ") bytes)
    (λ rest. number_at rest >>= λ tx. behind (codes ".") tx.1 >>= λ rest. number_at rest >>= λ place.
    read_of (tx.0, place.0) place.1) (place, rest) h in
    let tx = bind_ok (number_at space.0)
    (λ tx. behind (codes ".") tx.1 >>= λ rest. number_at rest >>= λ place. read_of (tx.0, place.0) place.1)
    (place, rest) space.2 in
    let n = tx.0.0 in
    let dot = bind_ok (behind (codes ".") tx.0.1)
    (λ rest. number_at rest >>= λ place. read_of (n, place.0) place.1) (place, rest) tx.2 in
    let last = bind_ok (number_at dot.0) (λ place. read_of (n, place.0) place.1) (place, rest) dot.2 in
    let m = last.0.0 in
    let same : (n, m) ≡ place = is_first (n, m) place last.0.1 rest last.2 in
    let end : last.0.1 ≡ rest = is_rest (n, m) place last.0.1 rest last.2 in
    let one = number_found 9223372036854775807 space.0 tx.0.1 n (omega arith) tx.1 in
    let two = number_found 9223372036854775807 dot.0 last.0.1 m (omega arith) last.1 in
    subst (λ (p : ℕ × ℕ). (bytes ≡ place_text p ++ rest) × IsPlace p) same (
      behind_found (codes " ") bytes space.0 space.1
          ∙ ap (λ r. codes " " ++ r)
          (one.0
          ∙ ap (λ r. decimal n ++ r)
          (behind_found (codes ".") tx.0.1 dot.0 dot.1
          ∙ ap (λ r. codes "." ++ r) (two.0 ∙ ap (λ r. decimal m ++ r) end)))
          ∙ sym (regrouped n m rest),
      (one.1, two.1),
    )

pub place_shorter : (bytes rest : List ℕ) (place : ℕ × ℕ) → place_at bytes ≡ Ok (place, rest)
    → length rest < length bytes
place_shorter bytes rest place h =
    omega (arith, ap length (place_found bytes rest place h).0, length-append (place_text place) rest)

place_again : (place : ℕ × ℕ) (rest : List ℕ) → IsPlace place → Stops is_ascii_digit rest
    → place_at (place_text place ++ rest) ≡ Ok (place, rest)
unfolding place_at
place_again place rest is stop =
    let last = decimal place.1 ++ rest in
    ap place_at (regrouped place.0 place.1 rest)
    ∙ bind_with (behind (codes " ") (codes " " ++ (decimal place.0 ++ (codes "." ++ last))))
    (decimal place.0 ++ (codes "." ++ last))
    (λ rest. number_at rest >>= λ tx. behind (codes ".") tx.1 >>= λ rest. number_at rest >>= λ place.
    read_of (tx.0, place.0) place.1)
    (behind_again (codes " ") (decimal place.0 ++ (codes "." ++ last)))
    ∙ bind_with (number_at (decimal place.0 ++ (codes "." ++ last))) (place.0, codes "." ++ last)
    (λ tx. behind (codes ".") tx.1 >>= λ rest. number_at rest >>= λ place. read_of (tx.0, place.0) place.1)
    (number_again 9223372036854775807 place.0 (codes "." ++ last) (omega arith) is.0 refl)
    ∙ bind_with (behind (codes ".") (codes "." ++ last)) last
    (λ rest. number_at rest >>= λ found. read_of (place.0, found.0) found.1) (behind_again (codes ".") last)
    ∙ bind_with (number_at last) (place.1, rest) (λ found. read_of (place.0, found.0) found.1)
    (number_again 9223372036854775807 place.1 rest (omega arith) is.1 stop)

-- ---- places that rise

they_rise : (places : List (ℕ × ℕ)) → AllByRecursion IsPlace places → rise places ≡ true → PlacesRise places
they_rise [] are h = tt
they_rise (place ∷ []) are h = (are.0.0, are.0.1)
they_rise (place ∷ next ∷ more) are h =
    let parts = and_parts (ltb place.0 next.0) (rise (next ∷ more)) h in
    (are.0.0, are.0.1, ltb-true place.0 next.0 parts.0, they_rise (next ∷ more) are.1 parts.1)

are_places : (places : List (ℕ × ℕ)) → PlacesRise places → AllByRecursion IsPlace places
are_places [] h = tt
are_places (place ∷ []) h = ((h.0, h.1), tt)
are_places (place ∷ next ∷ more) h = ((h.0, h.1), are_places (next ∷ more) h.3)

pub is_rising : (places : List (ℕ × ℕ)) → PlacesRise places → rise places ≡ true
is_rising [] h = refl
is_rising (place ∷ []) h = refl
is_rising (place ∷ next ∷ more) h =
    both_and (ltb place.0 next.0) (rise (next ∷ more)) (lt-ltb place.0 next.0 h.2) (is_rising (next ∷ more) h.3)

-- ---- the line

abbrev whole_line : ℕ → List (ℕ × ℕ) × List ℕ → Result (ℕ × List (ℕ × ℕ)) LineFault
whole_line number places =
    wanted (eqb (length places.1) 0 && (not (eqb (length places.0) 0) && rise places.0)) (number, places.0)

pub joint_found : (line : List ℕ) (number : ℕ) (places : List (ℕ × ℕ)) → joint_at line ≡ Ok (number, places)
    → (line ≡ joint_text number places) × IsNumber number × (places ≢ []) × PlacesRise places
unfolding joint_at places_at
joint_found line number places h =
    let word = bind_ok (behind (codes "joint ") line)
    (λ rest. number_at rest >>= λ number. places_at number.1 >>= λ places. whole_line number.0 places)
    (number, places) h in
    let first = bind_ok (number_at word.0) (λ number. places_at number.1 >>= λ places. whole_line number.0 places)
    (number, places) word.2 in
    let n = first.0.0 in
    let found = bind_ok (places_at first.0.1) (λ places. whole_line n places) (number, places) first.2 in
    let those = found.0.0 in
    let test = chosen (eqb (length found.0.1) 0 && (not (eqb (length those) 0) && rise those)) _ _ _ found.2 in
    let tests = and_parts (eqb (length found.0.1) 0) (not (eqb (length those) 0) && rise those) test.0 in
    let more = and_parts (not (eqb (length those) 0)) (rise those) tests.1 in
    let same = same_ok (n, those) (number, places) test.1 in
    let one = number_found 9223372036854775807 word.0 first.0.1 n (omega arith) first.1 in
    let listed = listed_found 32 place_at place_text IsPlace place_found (length first.0.1) first.0.1 found.0.1 those
    found.1 in
    subst (λ told. (line ≡ joint_text told.0 told.1) × IsNumber told.0 × (told.1 ≢ []) × PlacesRise told.1) same (
      behind_found (codes "joint ") line word.0 word.1
          ∙ ap (λ r. codes "joint " ++ r)
          (one.0
          ∙ ap (λ r. decimal n ++ r)
          (listed.text_is ∙ ap (λ r. flat_map place_text those ++ r) (no_bytes found.0.1 tests.0)
          ∙ append-nil (flat_map place_text those))),
      one.1,
      nonempty those more.0,
      they_rise those listed.are more.1,
    )

all_places : (places : List (ℕ × ℕ)) → AllByRecursion IsPlace places
    → places_at (flat_map place_text places) ≡ Ok (places, [])
unfolding places_at
all_places places are =
    let text = flat_map place_text places in
    ap (λ (r : List ℕ). listed_at 32 place_at (length text) r) (sym (append-nil text))
    ∙ listed_again 32 place_at place_text IsPlace (Stops is_ascii_digit) place_again (λ x rest. refl) (λ x rest. refl)
    (length text) places [] are (shorter_than_text place_text (λ x. omega arith) places) tt no_space
  where
    no_space : slice_index [] 0 ≡ 32 → ⊥
    no_space e = absurd (omega (arith, e))

no_digit : (places : List (ℕ × ℕ)) → Stops is_ascii_digit (flat_map place_text places)
no_digit [] = tt
no_digit (place ∷ more) = refl

pub joint_again : (number : ℕ) (places : List (ℕ × ℕ)) → IsNumber number → places ≢ [] → PlacesRise places
    → joint_at (joint_text number places) ≡ Ok (number, places)
unfolding joint_at
joint_again number places small some rising =
    let text = flat_map place_text places in
    bind_with (behind (codes "joint ") (codes "joint " ++ (decimal number ++ text))) (decimal number ++ text)
    (λ rest. number_at rest >>= λ number. places_at number.1 >>= λ places. whole_line number.0 places)
    (behind_again (codes "joint ") (decimal number ++ text))
    ∙ bind_with (number_at (decimal number ++ text)) (number, text)
    (λ number. places_at number.1 >>= λ places. whole_line number.0 places)
    (number_again 9223372036854775807 number text (omega arith) small (no_digit places))
    ∙ bind_with (places_at text) (places, []) (λ places. whole_line number places)
    (all_places places (are_places places rising))
    ∙ ap (λ (t : Bool). wanted t (number, places))
    (both_and (not (eqb (length places) 0)) (rise places) (is_nonempty places some) (is_rising places rising))
