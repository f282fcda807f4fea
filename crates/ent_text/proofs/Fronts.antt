-- Fronts of lists whose bytes pass a test.
use Rattle.std.proofs.Common.{◌≡◌, ℕ, ◌≤◌, Bool, true, false, cond, List, [], ◌∷◌, ◌++◌, length, refl, sym, ◌∙◌, arith}
use Rattle.std.specs.List.{list_all, prefix_len, take_while}
use Rattle.std.proofs.lemmas.Bool.{and_parts}
use Rattle.std.proofs.lemmas.List.{take-append-drop, take_at, drop_at}
use Rattle.std.proofs.lemmas.List.Sums.{take_while-cons}
use Rattle.std.proofs.lemmas.List.Folds.{list_all-append}
use Rattle.ent_text.specs.Lexing.{after, Stops}

-- the first bytes that pass do
pub front_passes : (test : ℕ → Bool) (bytes : List ℕ) → list_all test (take_while test bytes) ≡ true
front_passes test [] = refl
front_passes test (b ∷ bytes) = rw take_while-cons (on (front_passes test bytes) (test b) refl)
  where
    on : list_all test (take_while test bytes) ≡ true → (t : Bool) → test b ≡ t
        → list_all test (cond t (b ∷ take_while test bytes) []) ≡ true
    on others true e = rw e others
    on others false e = refl

pub parts : (test : ℕ → Bool) (bytes : List ℕ) → bytes ≡ take_while test bytes ++ after test bytes
parts test bytes = sym (take-append-drop (prefix_len test bytes) bytes)

-- a front that passes is among the first bytes that do
pub front_is_taken : (test : ℕ → Bool) (front behind : List ℕ) → list_all test front ≡ true
    → length front ≤ prefix_len test (front ++ behind)
front_is_taken test [] behind all = omega arith
front_is_taken test (b ∷ front) behind all =
    let h = and_parts (test b) (list_all test front) all in
    let others : length front ≤ prefix_len test (front ++ behind) = front_is_taken test front behind h.1 in
    rw h.0 (omega arith)

pub passing_front : (test : ℕ → Bool) (front more : List ℕ) → list_all test (front ++ more) ≡ true
    → list_all test front ≡ true
passing_front test front more all =
    (and_parts (list_all test front) (list_all test more) (sym (list_all-append test front more) ∙ all)).0

prefix_is : (test : ℕ → Bool) (front rest : List ℕ) → list_all test front ≡ true → Stops test rest
    → prefix_len test (front ++ rest) ≡ length front
prefix_is test [] [] all stop = refl
prefix_is test [] (c ∷ others) all stop = rw stop refl
prefix_is test (b ∷ front) rest all stop =
    let h = and_parts (test b) (list_all test front) all in
    let others : prefix_len test (front ++ rest) ≡ length front = prefix_is test front rest h.1 stop in
    rw h.0 (omega arith)

pub taken_is : (test : ℕ → Bool) (front rest : List ℕ) → list_all test front ≡ true → Stops test rest
    → take_while test (front ++ rest) ≡ front
taken_is test front rest all stop =
    take_at front rest (prefix_len test (front ++ rest)) (sym (prefix_is test front rest all stop))

pub after_is : (test : ℕ → Bool) (front rest : List ℕ) → list_all test front ≡ true → Stops test rest
    → after test (front ++ rest) ≡ rest
after_is test front rest all stop =
    drop_at front rest (prefix_len test (front ++ rest)) (sym (prefix_is test front rest all stop))
