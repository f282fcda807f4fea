-- Lists of lists, and names that are apart.
use Rattle.std.proofs.Common.{◌≡◌, Bool, true, false, cond, ◌||◌, List, [], ◌∷◌, ◌++◌, map, refl, sym, ap, subst, ◌∙◌}
use Rattle.std.proofs.Common.{T, Some}
use Rattle.std.specs.Prelude.{◌&&◌}
use Rattle.std.specs.List.{filter, flat_map, list_any, AllByRecursion}
use Rattle.std.specs.Cmp.Lexicographic.{slice_cmp, same_text, texts_ties, nat_list_eq_equiv}
use Rattle.std.specs.FinMap as finite
use Rattle.std.specs.FinMap.Entries.{below_all}
use Rattle.std.specs.Ordering.{nat_cmp, eq_by_cmp, is_eq, is_lt}
use Rattle.std.specs.declared.cmp.Ordering.{Ordering}
use Rattle.std.specs.declared.cmp.Ordering.TheVariants.{Less, Equal, Greater}
use Rattle.std.proofs.Math.Bool.{or-true}
use Rattle.std.proofs.lemmas.List.{append-nil}
use Rattle.std.proofs.lemmas.List.Concat.{flat_map-append}
use Rattle.std.proofs.lemmas.List.Elements.{filter-append}
use Rattle.ent_semantics.specs.Database.{Name, same_name}
use Rattle.ent_history.specs.Draft.{last_of}

pub last_of-push : {X : Type 0} (front : List X) (x : X) → last_of (front ++ x ∷ []) ≡ Some x
last_of-push [] x = refl
last_of-push (y ∷ []) x = refl
last_of-push (y ∷ z ∷ front) x = last_of-push (z ∷ front) x

-- ---- lists of lists

pub same_each : {A B : Type 0} (f g : A → List B) (xs : List A) → AllByRecursion (λ x. f x ≡ g x) xs
    → flat_map f xs ≡ flat_map g xs
same_each f g [] h = refl
same_each f g (x ∷ xs) h = (λ i. h.0 i ++ flat_map f xs) ∙ ap (λ ys. g x ++ ys) (same_each f g xs h.1)

pub flat_map-flat_map : {A B C : Type 0} (f : B → List C) (g : A → List B) (xs : List A)
    → flat_map f (flat_map g xs) ≡ flat_map (λ x. flat_map f (g x)) xs
flat_map-flat_map f g [] = refl
flat_map-flat_map f g (x ∷ xs) =
    flat_map-append f (g x) (flat_map g xs) ∙ ap (λ ys. flat_map f (g x) ++ ys) (flat_map-flat_map f g xs)

pub filter-flat_map : {A B : Type 0} (p : B → Bool) (f : A → List B) (xs : List A)
    → filter p (flat_map f xs) ≡ flat_map (λ x. filter p (f x)) xs
filter-flat_map p f [] = refl
filter-flat_map p f (x ∷ xs) =
    filter-append p (f x) (flat_map f xs) ∙ ap (λ ys. filter p (f x) ++ ys) (filter-flat_map p f xs)

-- ---- names

abbrev pub name_cmp : Name → Name → Ordering
name_cmp = slice_cmp nat_cmp

pub ties : (one other : Name) → eq_by_cmp name_cmp one other ≡ same_name one other
ties one other = sym (texts_ties one other)

pub other_way : (one other : Name) → same_name one other ≡ same_name other one
other_way one other = nat_list_eq_equiv.symm one other

pub itself : (name : Name) → same_name name name ≡ true
itself name = nat_list_eq_equiv.refl name

pub is_same : (one other : Name) → same_name one other ≡ true → one ≡ other
is_same one other e = same_text one other (sym e)

-- no two of them are one name
abbrev pub AreApart : List Name → Type 0
AreApart [] = Unit {0}
AreApart (name ∷ names) = AllByRecursion (λ other. same_name name other ≡ false) names × AreApart names

abbrev pub is_in : Name → List Name → Bool
is_in name names = list_any (λ other. same_name name other) names

first : (a b : Bool) → T (a && b) → T a
first true b p = tt
first false b p = p

second : (a b : Bool) → T (a && b) → T b
second true b p = p
second false b p = absurd p

not_tied : (o : Ordering) → T (is_lt o) → is_eq o ≡ false
not_tied Less p = refl
not_tied Equal p = absurd p
not_tied Greater p = absurd p

abbrev pub keys : List (Name × Unit {0}) → List Name
keys entries = map (λ e. e.0) entries

below : (name : Name) (entries : List (Name × Unit {0})) → T (below_all name_cmp name entries)
    → AllByRecursion (λ other. same_name name other ≡ false) (keys entries)
below name [] h = tt
below name (entry ∷ entries) h = (
  sym (ties name entry.0) ∙ not_tied (name_cmp name entry.0) (first _ (below_all name_cmp name entries) h),
  below name entries (second (is_lt (name_cmp name entry.0)) _ h),
)

pub apart : (entries : List (Name × Unit {0})) → T (finite.is_sorted name_cmp entries) → AreApart (keys entries)
apart [] h = tt
apart (entry ∷ entries) h = (
  below entry.0 entries (first _ (finite.is_sorted name_cmp entries) h),
  apart entries (second (below_all name_cmp entry.0 entries) _ h),
)

-- what holds of each name that is in a list holds of all of it
pub each_in : (P : Name → Type 0) (names : List Name) → ((name : Name) → is_in name names ≡ true → P name)
    → AllByRecursion P names
each_in P [] h = tt
each_in P (name ∷ names) h = (
  h name (ap (λ b. b || is_in name names) (itself name)),
  each_in P names (λ other e. h other (ap (λ b. same_name other name || b) e ∙ or-true (same_name other name))),
)

module _ {A : Type 0} (f : Name → List A) (name : Name) where
  -- what a name has, where it is the wanted one
  abbrev pub of_name : Name → List A
  of_name other = cond (same_name other name) (f other) []

  none_of : (names : List Name) → AllByRecursion (λ other. same_name name other ≡ false) names
      → flat_map of_name names ≡ []
  none_of [] h = refl
  none_of (other ∷ names) h = rw (other_way other name ∙ h.0) (none_of names h.1)

  one_by : (other : Name) (names : List Name) (test : Bool) → same_name other name ≡ test
      → AllByRecursion (λ more. same_name other more ≡ false) names
      → (is_in name names ≡ true → flat_map of_name names ≡ f name)
      → is_in name (other ∷ names) ≡ true
      → flat_map of_name (other ∷ names) ≡ f name
  one_by other names true e apart rest h =
      let same = is_same other name e in
      rw e (ap (λ ys. f other ++ ys)
      (none_of names (subst (λ n. AllByRecursion (λ more. same_name n more ≡ false) names) same apart))
      ∙ append-nil (f other) ∙ ap f same)
  one_by other names false e apart rest h =
      rw e (rest (sym (ap (λ b. b || is_in name names) (other_way name other ∙ e)) ∙ h))

  -- of names that are apart, just the one that is wanted has something
  pub one_of : (names : List Name) → AreApart names → is_in name names ≡ true → flat_map of_name names ≡ f name
  one_of [] h e = cc
  one_of (other ∷ names) h e = one_by other names (same_name other name) refl h.0 (one_of names h.1) e
