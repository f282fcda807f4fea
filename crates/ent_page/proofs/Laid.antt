-- Keys that lie one after another, and what an insertion does to them.
use Rattle.std.proofs.Common.{◌≡◌, ℕ, zero, suc, ◌+◌, ◌-◌, ◌<◌, ◌≤◌, List, [], ◌∷◌, ◌++◌, map, length, take, drop}
use Rattle.std.proofs.Common.{get_or, All, append-nil, inl, inr, sym, refl, ap, ◌∙◌, arith}
use Rattle.std.specs.List.{between, concat}
use Rattle.std.proofs.lemmas.List.Elements.{All-nil, All-cons, All-same}
use Rattle.std.proofs.lemmas.List.{append_assoc, length-append, take-append-drop, take_at, drop_at, get_or_past}
use Rattle.std.proofs.lemmas.Bool.{cases_lt}
use Rattle.ent_page.specs.Layout.{pieces, ends_from, start_of, IsLaid}

start_of-cons : (s e : ℕ) (es : List ℕ) (i : ℕ) → start_of s (e ∷ es) (suc i) ≡ start_of e es i
start_of-cons s e es zero = refl
start_of-cons s e es (suc i) = refl

pub length-pieces : (bs : List ℕ) (s : ℕ) (es : List ℕ) → length (pieces bs s es) ≡ length es
length-pieces bs s [] = refl
length-pieces bs s (e ∷ es) = ap suc (length-pieces bs e es)

pub length-shown : (bs es : List ℕ) (ks : List (List ℕ)) → pieces bs 0 es ≡ ks → length ks ≡ length es
length-shown bs es ks v = sym (ap length v) ∙ length-pieces bs 0 es

pub piece_at : (bs : List ℕ) (s : ℕ) (es : List ℕ) (i : ℕ) → i < length es
    → get_or (pieces bs s es) i [] ≡ between (start_of s es i) (get_or es i 0) bs
piece_at bs s [] i h = absurd (omega arith)
piece_at bs s (e ∷ es) zero h = refl
piece_at bs s (e ∷ es) (suc i) h = piece_at bs e es i (omega arith)
    ∙ sym (ap (λ z. between z (get_or es i 0) bs) (start_of-cons s e es i))

-- places as lengths

start_is : (s : ℕ) (ks : List (List ℕ)) (i : ℕ) → i ≤ length ks
    → start_of s (ends_from s ks) i ≡ s + length (concat (take i ks))
start_is s ks zero h = omega arith
start_is s [] (suc i) h = absurd (omega arith)
start_is s (k ∷ ks) (suc i) h =
    start_of-cons s (s + length k) (ends_from (s + length k) ks) i
    ∙ start_is (s + length k) ks i (omega arith)
    ∙ omega (arith, length-append k (concat (take i ks)))

front_le : (ks : List (List ℕ)) (i : ℕ) → length (concat (take i ks)) ≤ length (concat (take (suc i) ks))
front_le ks zero = omega arith
front_le [] (suc i) = omega arith
front_le (k ∷ ks) (suc i) =
    omega (arith, front_le ks i, length-append k (concat (take i ks)), length-append k (concat (take (suc i) ks)))

whole_le : (ks : List (List ℕ)) (i : ℕ) → length (concat (take i ks)) ≤ length (concat ks)
whole_le ks zero = omega arith
whole_le [] (suc i) = omega arith
whole_le (k ∷ ks) (suc i) =
    omega (arith, whole_le ks i, length-append k (concat (take i ks)), length-append k (concat ks))

-- what a page's arrays keep
module _ (bs es : List ℕ) (laid : IsLaid bs es) where
  place_is : (i : ℕ) → i ≤ length es → start_of 0 es i ≡ length (concat (take i (pieces bs 0 es)))
  place_is i h = ap (λ z. start_of 0 z i) (sym laid.bounds)
      ∙ start_is 0 (pieces bs 0 es) i (omega (arith, length-pieces bs 0 es)) ∙ omega arith

  pub start_le : (i : ℕ) → i < length es → start_of 0 es i ≤ start_of 0 es (suc i)
  start_le i h = omega (arith, place_is i (omega arith), place_is (suc i) (omega arith), front_le (pieces bs 0 es) i)

  pub place_le : (i : ℕ) → i ≤ length es → start_of 0 es i ≤ length bs
  place_le i h = omega (arith, place_is i h, whole_le (pieces bs 0 es) i, ap length laid.flat)

  pub end_le : (k : ℕ) → get_or es k 0 ≤ length bs
  end_le k = elim (cases_lt k (length es)) [
    | inl p ↦ place_le (suc k) (omega arith)
    | inr p ↦ omega (arith, get_or_past es k 0 p)
  ]

-- arrays that are made of keys show these keys

first_back : (pre k rest : List ℕ) → between (length pre) (length pre + length k) (pre ++ (k ++ rest)) ≡ k
first_back pre k rest =
    ap (take (length pre + length k - length pre)) (drop_at pre (k ++ rest) (length pre) refl)
    ∙ take_at k rest (length pre + length k - length pre) (omega arith)

others_back : (pre k : List ℕ) (ks : List (List ℕ))
    → pieces (pre ++ (k ++ concat ks)) (length pre + length k) (ends_from (length pre + length k) ks) ≡ pieces
    ((pre ++ k) ++ concat ks) (length (pre ++ k)) (ends_from (length (pre ++ k)) ks)
others_back pre k ks = λ i. pieces (sym (append_assoc pre k (concat ks)) i) (sym (length-append pre k) i)
    (ends_from (sym (length-append pre k) i) ks)

pieces_back : (pre : List ℕ) (ks : List (List ℕ))
    → pieces (pre ++ concat ks) (length pre) (ends_from (length pre) ks) ≡ ks
pieces_back pre [] = refl
pieces_back pre (k ∷ ks) = λ i. first_back pre k (concat ks) i ∷ (others_back pre k ks ∙ pieces_back (pre ++ k) ks) i

pub shown : (bs es : List ℕ) (ks : List (List ℕ)) → bs ≡ concat ks → es ≡ ends_from 0 ks → pieces bs 0 es ≡ ks
shown bs es ks p q = (λ i. pieces (p i) 0 (q i)) ∙ pieces_back [] ks

pub made : (bs es : List ℕ) (ks : List (List ℕ)) → bs ≡ concat ks → es ≡ ends_from 0 ks → IsLaid bs es
made bs es ks p q =
    record { flat = ap concat (shown bs es ks p q) ∙ sym p; bounds = ap (ends_from 0) (shown bs es ks p q) ∙ sym q }

-- keys put behind others

concat-append : (xs ys : List (List ℕ)) → concat (xs ++ ys) ≡ concat xs ++ concat ys
concat-append [] ys = refl
concat-append (x ∷ xs) ys = ap (λ z. x ++ z) (concat-append xs ys) ∙ sym (append_assoc x (concat xs) (concat ys))

ends_from-append : (s : ℕ) (xs ys : List (List ℕ))
    → ends_from s (xs ++ ys) ≡ ends_from s xs ++ ends_from (s + length (concat xs)) ys
ends_from-append s [] ys = ap (λ z. ends_from z ys) (omega arith)
ends_from-append s (x ∷ xs) ys =
    let e : s + length x + length (concat xs) ≡ s + length (concat (x ∷ xs)) =
    omega (arith, length-append x (concat xs)) in
    ap (λ z. (s + length x) ∷ z) (ends_from-append (s + length x) xs ys
    ∙ ap (λ z. ends_from (s + length x) xs ++ ends_from z ys) e)

moved_ends : (s b d : ℕ) (ks : List (List ℕ)) → map (λ e. e - s + b) (ends_from (s + d) ks) ≡ ends_from (b + d) ks
moved_ends s b d [] = refl
moved_ends s b d (k ∷ ks) =
    let e : s + d + length k - s + b ≡ b + d + length k = omega arith in
    let f : s + d + length k ≡ s + (d + length k) = omega arith in
    let g : b + (d + length k) ≡ b + d + length k = omega arith in
    (λ i. e i ∷ map (λ e. e - s + b) (ends_from (f i) ks))
    ∙ ap (λ z. (b + d + length k) ∷ z) (moved_ends s b (d + length k) ks ∙ ap (λ z. ends_from z ks) g)

pub appended : (bs es new_bs new_es : List ℕ) (keys : List (List ℕ)) → IsLaid bs es → new_bs ≡ bs ++ concat keys
    → new_es ≡ es ++ ends_from (length bs) keys
    → (new_bs ≡ concat (pieces bs 0 es ++ keys)) × (new_es ≡ ends_from 0 (pieces bs 0 es ++ keys))
appended bs es new_bs new_es keys laid a b = (
  a ∙ ap (λ z. z ++ concat keys) (sym laid.flat) ∙ sym (concat-append (pieces bs 0 es) keys),
  b ∙ (λ i. sym laid.bounds i ++ ends_from (length (sym laid.flat i)) keys)
      ∙ ap (λ z. ends_from 0 (pieces bs 0 es) ++ ends_from z keys) (omega arith)
      ∙ sym (ends_from-append 0 (pieces bs 0 es) keys),
)

pub pushed : (bs es given new_bs new_es key : List ℕ) (end : ℕ) → IsLaid bs es → given ≡ es → new_bs ≡ bs ++ key
    → new_es ≡ given ++ end ∷ [] → end ≡ length new_bs
    → (new_bs ≡ concat (pieces bs 0 es ++ key ∷ [])) × (new_es ≡ ends_from 0 (pieces bs 0 es ++ key ∷ []))
pushed bs es given new_bs new_es key end laid g a b c =
    let at : end ≡ length bs + length key = omega (arith, ap length a, length-append bs key) in
    appended bs es new_bs new_es (key ∷ []) laid (a ∙ ap (λ z. bs ++ z) (sym (append-nil key)))
    (b ∙ (λ i. g i ++ at i ∷ []))

-- a part of keys

take_nil : (n : ℕ) (xs : List (List ℕ)) → xs ≡ [] → take n xs ≡ []
take_nil zero xs e = refl
take_nil (suc n) xs e = ap (take (suc n)) e

take_take : (i j : ℕ) (xs : List (List ℕ)) → i ≤ j → take j xs ≡ take i xs ++ take (j - i) (drop i xs)
take_take zero j xs h = let e : j ≡ j - 0 = omega arith in ap (λ n. take n xs) e
take_take (suc i) zero xs h = absurd (omega arith)
take_take (suc i) (suc j) [] h = sym (take_nil (suc j - suc i) [] refl)
take_take (suc i) (suc j) (x ∷ xs) h =
    let e : suc j - suc i ≡ j - i = omega arith in
    ap (λ z. x ∷ z) (take_take i j xs (omega arith)) ∙ ap (λ n. x ∷ (take i xs ++ take n (drop i xs))) (sym e)

drop_ends : (s : ℕ) (ks : List (List ℕ)) (i : ℕ)
    → drop i (ends_from s ks) ≡ ends_from (s + length (concat (take i ks))) (drop i ks)
drop_ends s ks zero = ap (λ z. ends_from z ks) (omega arith)
drop_ends s [] (suc i) = refl
drop_ends s (k ∷ ks) (suc i) =
    let e : s + length k + length (concat (take i ks)) ≡ s + length (concat (take (suc i) (k ∷ ks))) =
    omega (arith, length-append k (concat (take i ks))) in
    drop_ends (s + length k) ks i ∙ ap (λ z. ends_from z (drop i ks)) e

take_ends : (s : ℕ) (ks : List (List ℕ)) (n : ℕ) → take n (ends_from s ks) ≡ ends_from s (take n ks)
take_ends s ks zero = refl
take_ends s [] (suc n) = refl
take_ends s (k ∷ ks) (suc n) = ap (λ z. (s + length k) ∷ z) (take_ends (s + length k) ks n)

bytes_part : (ks : List (List ℕ)) (from to : ℕ) → from ≤ to
    → between (length (concat (take from ks))) (length (concat (take to ks))) (concat ks) ≡ concat (between from to ks)
bytes_part ks from to h =
    let whole : concat ks ≡ concat (take from ks) ++ concat (drop from ks) = ap concat (sym (take-append-drop from ks))
    ∙ concat-append (take from ks) (drop from ks) in
    let back : drop (length (concat (take from ks))) (concat ks) ≡ concat (drop from ks) =
    ap (drop (length (concat (take from ks)))) whole
    ∙ drop_at (concat (take from ks)) (concat (drop from ks)) (length (concat (take from ks))) refl in
    let split : concat (take to ks) ≡ concat (take from ks) ++ concat (between from to ks) =
    ap concat (take_take from to ks h) ∙ concat-append (take from ks) (between from to ks) in
    let n : length (concat (take to ks)) - length (concat (take from ks)) ≡ length (concat (between from to ks)) =
    omega (arith, ap length split, length-append (concat (take from ks)) (concat (between from to ks))) in
    let rest : concat (drop from ks) ≡ concat (between from to ks) ++ concat (drop (to - from) (drop from ks)) =
    ap concat (sym (take-append-drop (to - from) (drop from ks)))
    ∙ concat-append (between from to ks) (drop (to - from) (drop from ks)) in
    (λ i. take (n i) (back i)) ∙ ap (take (length (concat (between from to ks)))) rest
    ∙ take_at (concat (between from to ks)) (concat (drop (to - from) (drop from ks)))
    (length (concat (between from to ks))) refl

ends_within : (low high s : ℕ) (ks : List (List ℕ)) → low ≤ s → s + length (concat ks) ≤ high
    → All (λ e. (low ≤ e) × (e ≤ high)) (ends_from s ks)
ends_within low high s [] p q = All-nil (λ e. (low ≤ e) × (e ≤ high))
ends_within low high s (k ∷ ks) p q =
    let r : s + length k + length (concat ks) ≤ high = omega (arith, length-append k (concat ks)) in
    All-cons (λ e. (low ≤ e) × (e ≤ high)) (s + length k) (ends_from (s + length k) ks) (omega arith, omega arith)
    (ends_within low high (s + length k) ks (omega arith) r)

module _ (bs es : List ℕ) (laid : IsLaid bs es) (from to : ℕ) (h : from ≤ to) (k : to ≤ length es) where
  from_is : start_of 0 es from ≡ length (concat (take from (pieces bs 0 es)))
  from_is = place_is bs es laid from (omega arith)

  to_is : start_of 0 es to ≡ length (concat (take to (pieces bs 0 es)))
  to_is = place_is bs es laid to k

  pub part_order : start_of 0 es from ≤ start_of 0 es to
  part_order =
      let ks = pieces bs 0 es in
      let split : concat (take to (pieces bs 0 es)) ≡ concat (take from (pieces bs 0 es)) ++ concat
      (between from to (pieces bs 0 es)) = ap concat (take_take from to ks h)
      ∙ concat-append (take from ks) (between from to ks) in
      omega (
        arith,
        from_is,
        to_is,
        ap length split,
        length-append (concat (take from ks))
            (concat (between from to ks)),
      )

  part_bytes : between (start_of 0 es from) (start_of 0 es to) bs ≡ concat (between from to (pieces bs 0 es))
  part_bytes = (λ i. between (from_is i) (to_is i) (sym laid.flat i)) ∙ bytes_part (pieces bs 0 es) from to h

  part_ends : between from to es ≡ ends_from (start_of 0 es from) (between from to (pieces bs 0 es))
  part_ends =
      ap (between from to) (sym laid.bounds) ∙ ap (take (to - from)) (drop_ends 0 (pieces bs 0 es) from)
      ∙ take_ends (0 + length (concat (take from (pieces bs 0 es)))) (drop from (pieces bs 0 es)) (to - from)
      ∙ ap (λ z. ends_from z (between from to (pieces bs 0 es))) (omega (arith, from_is))

  pub part_within : (read : List ℕ) (start base total : ℕ) → read ≡ es → start ≡ start_of 0 es from
      → base + length (between (start_of 0 es from) (start_of 0 es to) bs) ≤ total
      → All (λ e. (start ≤ e) × (e ≤ start + (total - base))) (between from to read)
  part_within read start base total same at small =
      let n : length (between (start_of 0 es from) (start_of 0 es to) bs) ≡ length
      (concat (between from to (pieces bs 0 es))) = ap length part_bytes in
      All-same (λ e. (start ≤ e) × (e ≤ start + (total - base))) (between from to read)
      (ends_from (start_of 0 es from) (between from to (pieces bs 0 es))) (ap (between from to) same ∙ part_ends)
      (ends_within start (start + (total - base)) (start_of 0 es from) (between from to (pieces bs 0 es)) (omega arith)
      (omega arith))

  -- the arrays of a page behind which a part of this one is put
  pub part_appended : (mine ends new_bs new_es read places given : List ℕ) (start stop base : ℕ) → IsLaid mine ends
      → read ≡ bs → places ≡ es → given ≡ ends → start ≡ start_of 0 es from → stop ≡ start_of 0 es to
      → base ≡ length mine
      → new_bs ≡ mine ++ between start stop read
      → new_es ≡ given ++ map (λ e. e - start + base) (between from to places)
      → (new_bs ≡ concat (pieces mine 0 ends ++ between from to (pieces bs 0 es))) ×
      (new_es ≡ ends_from 0 (pieces mine 0 ends ++ between from to (pieces bs 0 es)))
  part_appended mine ends new_bs new_es read places given start stop base own r p g s t b x y =
      let keys = between from to (pieces bs 0 es) in
      let moved : map (λ e. e - start + base) (between from to places) ≡ ends_from (length mine) keys =
      ap (λ z. map (λ e. e - start + base) (between from to z)) p ∙ ap (map (λ e. e - start + base)) part_ends
      ∙ ap (λ z. map (λ e. e - start + base) (ends_from z keys)) (omega arith) ∙ moved_ends start base 0 keys
      ∙ ap (λ z. ends_from z keys) (omega arith) in
      appended mine ends new_bs new_es keys own (x ∙ (λ i. mine ++ between (s i) (t i) (r i))
      ∙ ap (λ z. mine ++ z) part_bytes) (y ∙ (λ i. g i ++ moved i))
