-- Lists by their places.
use Rattle.std.proofs.Common.{◌≡◌, ℕ, zero, suc, ◌+◌, ◌==◌, Bool, true, false, cond, List, [], ◌∷◌, set, get_or, map}
use Rattle.std.proofs.Common.{filter, refl, sym, ap, ◌∙◌, arith, Option, Some, None}
use Rattle.std.specs.List.{slice_get, enumerate_from}
use Rattle.std.proofs.lemmas.Bool.Decides.{nat_tests}
use Rattle.std.specs.Option.{option_map}

-- lists with the same element at each place, or none, are the same
pub same_places : {X : Type 0} (xs ys : List X) → ((i : ℕ) → slice_get xs i ≡ slice_get ys i) → xs ≡ ys
same_places [] [] same = refl
same_places [] (y ∷ ys) same = let e = same 0 in cc
same_places (x ∷ xs) [] same = let e = same 0 in cc
same_places (x ∷ xs) (y ∷ ys) same =
    let e = same 0 in
    let rest = same_places xs ys (λ i. same (suc i)) in
    cc

suc_same : (k i : ℕ) → (suc k == suc i) ≡ (k == i)
suc_same k i = by (suc k == suc i) refl (k == i) refl
  where
    by : (a : Bool) → (suc k == suc i) ≡ a → (b : Bool) → (k == i) ≡ b → a ≡ b
    by true one true two = refl
    by false one false two = refl
    by true one false two = absurd (grind (arith, nat_tests))
    by false one true two = absurd (grind (arith, nat_tests))

option_map-same : {X : Type 0} (o : Option X) → o ≡ option_map (λ x. x) o
option_map-same None = refl
option_map-same (Some x) = refl

-- a place after a write
pub slice_get-set : {X : Type 0} (xs : List X) (k i : ℕ) (y : X)
    → slice_get (set xs k y) i ≡ option_map (λ x. cond (k == i) y x) (slice_get xs i)
slice_get-set [] k i y = refl
slice_get-set (x ∷ xs) zero zero y = refl
slice_get-set (x ∷ xs) zero (suc i) y =
    let e : (0 == suc i) ≡ false = grind (arith, nat_tests) in
    option_map-same (slice_get xs i) ∙ sym (ap (λ b. option_map (λ z. cond b y z) (slice_get xs i)) e)
slice_get-set (x ∷ xs) (suc k) zero y =
    let e : (suc k == 0) ≡ false = grind (arith, nat_tests) in
    sym (ap (λ b. Some (cond b y x)) e)
slice_get-set (x ∷ xs) (suc k) (suc i) y =
    slice_get-set xs k i y ∙ sym (ap (λ b. option_map (λ z. cond b y z) (slice_get xs i)) (suc_same k i))

-- a place of a list that is mapped with the places
pub slice_get-enumerate : {X : Type 0} (f : ℕ → X → X) (n : ℕ) (xs : List X) (i : ℕ)
    → slice_get (map (λ p. f p.0 p.1) (enumerate_from n xs)) i ≡ option_map (f (n + i)) (slice_get xs i)
slice_get-enumerate f n [] i = refl
slice_get-enumerate f n (x ∷ xs) zero = let e : n ≡ n + 0 = omega arith in ap (λ m. Some (f m x)) e
slice_get-enumerate {X} f n (x ∷ xs) (suc i) =
    let e : (n + 1) + i ≡ n + suc i = omega arith in
    slice_get-enumerate f (n + 1) xs i ∙ ap (λ m. option_map (f m) (slice_get xs i)) e

pub filter-map : {X Y : Type 0} (p : Y → Bool) (f : X → Y) (xs : List X)
    → filter p (map f xs) ≡ map f (filter (λ x. p (f x)) xs)
filter-map p f [] = refl
filter-map {X} {Y} p f (x ∷ xs) = by (p (f x)) (filter-map p f xs)
  where
    by : (b : Bool) → filter p (map f xs) ≡ map f (filter (λ x. p (f x)) xs)
        → cond b (f x ∷ filter p (map f xs)) (filter p (map f xs)) ≡ map f
        (cond b (x ∷ filter (λ x. p (f x)) xs) (filter (λ x. p (f x)) xs))
    by true e = ap (λ ys. f x ∷ ys) e
    by false e = e

-- a write where neither the old element nor the new one passes
pub filter-set : {X : Type 0} (p : X → Bool) (xs : List X) (i : ℕ) (x y : X) → get_or xs i x ≡ x → p x ≡ false
    → p y ≡ false → filter p (set xs i y) ≡ filter p xs
filter-set p [] i x y at old new = refl
filter-set p (z ∷ xs) zero x y at old new =
    let e : p z ≡ false = ap p at ∙ old in
    ap (λ b. cond b (y ∷ filter p xs) (filter p xs)) new ∙ sym (ap (λ b. cond b (z ∷ filter p xs) (filter p xs)) e)
filter-set p (z ∷ xs) (suc i) x y at old new =
    ap (λ ys. cond (p z) (z ∷ ys) ys) (filter-set p xs i x y at old new)
