-- Laws of lists: their ends and places, their images, and what holds of each element.
use Rattle.std.proofs.Common.{◌≡◌, ◌⊎◌, ◌∙◌, ◌<◌, ◌≤◌, ℕ, zero, suc, Bool, ◌&&◌, List, [], ◌∷◌, ◌++◌, map, length, take}
use Rattle.std.proofs.Common.{drop, get_or, refl, sym, ap, subst, inl, inr, arith, Option, Some, None, All, AllPairs}
use Rattle.std.specs.Prelude.{slice_get, slice_index_or}
use Rattle.std.specs.List.{AllByRecursion, cons_option, filter_map, list_all}
use Rattle.std.proofs.lemmas.List.Elements.{All-contains}
use Rattle.std.proofs.Math.Bool.{and_assoc, and-true}
use Rattle.ent_lists.specs.Elements.{In, all_first, all_second, in_contains, nth_in}

-- ---- ends

pub same_first : {X : Type 0} (x y : X) (xs ys : List X) → x ∷ xs ≡ y ∷ ys → x ≡ y
same_first x y xs ys e = cc

pub split_last : {X : Type 0} (xs : List X) → (xs ≡ []) ⊎ ((front : List X) × (last : X) × (xs ≡ front ++ last ∷ []))
split_last [] = inl refl
split_last (x ∷ xs) =
    elim (split_last xs) [
      | inl e ↦ inr ([], x, ap (λ more. x ∷ more) e)
      | inr w ↦ inr (x ∷ w.0, w.1, ap (λ more. x ∷ more) w.2)
    ]

pub some_in : {X : Type 0} (x : X) (xs : List X) → In x xs → 1 ≤ length xs
some_in x [] at = absurd at
some_in x (y ∷ ys) at = omega arith

-- ---- places

pub got_last : {X : Type 0} (xs : List X) (x : X) → slice_get (xs ++ x ∷ []) (length xs) ≡ Some x
got_last [] x = refl
got_last (y ∷ ys) x = got_last ys x

pub got_none : {X : Type 0} (xs : List X) (place : ℕ) → slice_get xs place ≡ None → length xs ≤ place
got_none [] n e = omega arith
got_none (x ∷ xs) zero e = cc (e)
got_none (x ∷ xs) (suc n) e = let rest : length xs ≤ n = got_none xs n e in omega arith

pub drop_at : {X : Type 0} (xs : List X) (i : ℕ) (x : X) → slice_get xs i ≡ Some x → drop i xs ≡ x ∷ drop (suc i) xs
drop_at [] i x h = absurd cc
drop_at (y ∷ ys) zero x h = let e : y ≡ x = cc in ap (λ z. z ∷ ys) e
drop_at (y ∷ ys) (suc i) x h = drop_at ys i x h

-- ---- images

pub map_same : {X Y : Type 0} (f g : X → Y) (xs : List X) → AllByRecursion (λ x. f x ≡ g x) xs → map f xs ≡ map g xs
map_same f g [] same = refl
map_same f g (x ∷ xs) same = λ i. same.0 i ∷ map_same f g xs same.1 i

pub map_at : {A B : Type 0} (f : A → B) (xs : List A) (i : ℕ) (x : A) (d : B) → i < length xs → x ≡ get_or xs i x
    → slice_index_or (map f xs) i d ≡ f x
map_at f [] i x d lt is = absurd (omega arith)
map_at f (y ∷ xs) zero x d lt is = ap f (sym is)
map_at f (y ∷ xs) (suc i) x d lt is = map_at f xs i x d (omega arith) is

pub got_mapped : {A B : Type 0} (f : A → B) (xs : List A) (i : ℕ) (d : A) → i < length xs
    → slice_get (map f xs) i ≡ Some (f (slice_index_or xs i d))
got_mapped f [] i d lt = absurd (omega (arith, lt))
got_mapped f (x ∷ xs) zero d lt = refl
got_mapped f (x ∷ xs) (suc i) d lt = got_mapped f xs i d (omega (arith, lt))

pub of_filter_map : {X Y : Type 0} (f : X → Option Y) (xs : List X) (y : Y) → In y (filter_map f xs)
    → (x : X) × In x xs × (f x ≡ Some y)
of_filter_map f [] y at = absurd at
of_filter_map {X} {Y} f (x ∷ xs) y at = by (f x) refl at (of_filter_map f xs y)
  where
    by : (o : Option Y) → f x ≡ o → In y (cons_option o (filter_map f xs))
        → (In y (filter_map f xs) → (z : X) × In z xs × (f z ≡ Some y)) → (z : X) × In z (x ∷ xs) × (f z ≡ Some y)
    by (Some z) is (inl same) rest = (x, inl refl, is ∙ ap (λ w. Some w) (sym same))
    by (Some z) is (inr at) rest = let r = rest at in (r.0, inr r.1, r.2)
    by None is at rest = let r = rest at in (r.0, inr r.1, r.2)

pub to_filter_map : {X Y : Type 0} (f : X → Option Y) (xs : List X) (x : X) (y : Y) → In x xs → f x ≡ Some y
    → In y (filter_map f xs)
to_filter_map f [] x y at is = absurd at
to_filter_map f (z ∷ xs) x y (inl same) is =
    subst (λ (o : Option _). In y (cons_option o (filter_map f xs))) (sym is ∙ ap f same) (inl refl)
to_filter_map f (z ∷ xs) x y (inr at) is = by (f z) (to_filter_map f xs x y at is)
  where
    by : (o : Option _) → In y (filter_map f xs) → In y (cons_option o (filter_map f xs))
    by (Some own) later = inr later
    by None later = later

-- ---- what holds of each element

pub all_behind : {A : Type 0} (P : A → Type 0) (xs : List A) (x : A) → AllByRecursion P xs → P x
    → AllByRecursion P (xs ++ x ∷ [])
all_behind P [] x all one = (one, tt)
all_behind P (y ∷ ys) x all one = (all.0, all_behind P ys x all.1 one)

pub all_parts : {A : Type 0} (P : A → Type 0) (xs ys : List A) → AllByRecursion P (xs ++ ys)
    → AllByRecursion P xs × AllByRecursion P ys
all_parts P xs ys all = (all_first P xs ys all, all_second P xs ys all)

pub all_take : {A : Type 0} (P : A → Type 0) (r : ℕ) (xs : List A) → AllByRecursion P xs → AllByRecursion P (take r xs)
all_take P zero xs all = tt
all_take P (suc r) [] all = tt
all_take P (suc r) (x ∷ xs) all = (all.0, all_take P r xs all.1)

pub all_mapped : {A B : Type 0} (P : A → Type 0) (Q : B → Type 0) (f : A → B) (xs : List A)
    → ((x : A) → P x → Q (f x)) → AllByRecursion P xs → AllByRecursion Q (map f xs)
all_mapped P Q f [] each all = tt
all_mapped P Q f (x ∷ xs) each all = (each x all.0, all_mapped P Q f xs each all.1)

pub all_above : (n u : ℕ) (us : List ℕ) → n < u → AllByRecursion (λ m. u < m) us → AllByRecursion (λ m. n < m) us
all_above n u [] below all = tt
all_above n u (m ∷ us) below all = (omega (arith, below, all.0), all_above n u us below all.1)

pub list_all-behind : {X : Type 0} (p : X → Bool) (xs : List X) (x : X)
    → list_all p (xs ++ x ∷ []) ≡ (list_all p xs && p x)
list_all-behind p [] x = and-true (p x)
list_all-behind p (y ∷ ys) x =
    ap (λ b. p y && b) (list_all-behind p ys x) ∙ sym (and_assoc (p y) (list_all p ys) (p x))

pub index_all : {X : Type 0} (P : X → Type 0) (xs : List X) → ((x : X) → In x xs → P x) → All P xs
index_all P xs f = λ k d low. f (slice_index_or xs k d) (nth_in xs k d low)

pub of_index : {X : Type 0} (P : X → Type 0) (xs : List X) (x : X) → All P xs → In x xs → P x
of_index P xs x all at = All-contains P xs x all (in_contains xs x at)

pub pairs_head : {X : Type 0} (R : X → X → Type 0) (x : X) (xs : List X) → AllPairs R (x ∷ xs) → All (R x) xs
pairs_head R x xs all = λ k d lt. all 0 (suc k) d (omega arith) (omega arith)

pub pairs_tail : {X : Type 0} (R : X → X → Type 0) (x : X) (xs : List X) → AllPairs R (x ∷ xs) → AllPairs R xs
pairs_tail R x xs all = λ i j d below lt. all (suc i) (suc j) d (omega arith) (omega arith)
