-- Who is among some members.
use Rattle.std.proofs.Common.{◌≡◌, ℕ, Bool, true, false, cond, not, ◌||◌, List, [], ◌∷◌, ◌++◌, map, refl, sym, ap, ◌∙◌}
use Rattle.std.proofs.Common.{Some}
use Rattle.std.specs.Prelude.{◌==◌}
use Rattle.std.specs.List.{AllByRecursion, filter}
use Rattle.std.proofs.Math.Bool.{or-true}
use Rattle.ent_lists.specs.Elements.{same_number, number_itself, or_first, all_by}
use Rattle.ent_protocol.specs.Member.{is_tx}
use Rattle.ent_protocol.specs.Rollback.{is_among}
use Rattle.ent_protocol.specs.State.{Member, first_of}

-- ---- truth values

pub or_both : (a b c d : Bool) → (a ≡ true → c ≡ true) → (b ≡ true → d ≡ true) → (a || b) ≡ true → (c || d) ≡ true
or_both true b c d f g h = or_first c d (f refl)
or_both false b c d f g h = ap (λ x. c || x) (g h) ∙ or-true c

-- ---- lists

pub kept_filtered : {A : Type 0} (P Q : A → Type 0) (p : A → Bool) (xs : List A)
    → ((x : A) → p x ≡ true → P x → Q x) → AllByRecursion P xs → AllByRecursion Q (filter p xs)
kept_filtered P Q p [] f h = tt
kept_filtered P Q p (x ∷ xs) f h =
    elim (p x) as (λ b. p x ≡ b → AllByRecursion Q (cond b (x ∷ filter p xs) (filter p xs))) [
      | true ↦ λ e. (f x e h.0, kept_filtered P Q p xs f h.1)
      | false ↦ λ e. kept_filtered P Q p xs f h.1
    ] refl

pub none_filtered : {A : Type 0} (p : A → Bool) (xs : List A) → AllByRecursion (λ x. p x ≡ false) xs
    → filter p xs ≡ []
none_filtered p [] h = refl
none_filtered p (x ∷ xs) h =
    ap (λ b. cond b (x ∷ filter p xs) (filter p xs)) h.0 ∙ none_filtered p xs h.1

-- ---- members

pub among_mapped : (f : Member → Member) (ms : List Member) (tx : ℕ) → ((m : Member) → (f m).tx ≡ m.tx)
    → is_among (map f ms) tx ≡ is_among ms tx
among_mapped f [] tx same = refl
among_mapped f (m ∷ ms) tx same =
    let rest = among_mapped f ms tx same in
    λ i. (same m i == tx) || rest i

pub among_left : (xs ys : List Member) (tx : ℕ) → is_among xs tx ≡ true → is_among (xs ++ ys) tx ≡ true
among_left [] ys tx h = cc
among_left (x ∷ xs) ys tx h =
    or_both (x.tx == tx) (is_among xs tx) (x.tx == tx) (is_among (xs ++ ys) tx) (λ e. e) (among_left xs ys tx) h

pub among_right : (xs ys : List Member) (tx : ℕ) → is_among ys tx ≡ true → is_among (xs ++ ys) tx ≡ true
among_right [] ys tx h = h
among_right (x ∷ xs) ys tx h = ap (λ b. (x.tx == tx) || b) (among_right xs ys tx h) ∙ or-true _

left_out : (t k b c : Bool) → k ≡ false → (t ≡ true → k ≡ true) → (b ≡ true → c ≡ true) → (t || b) ≡ true → c ≡ true
left_out true k b c e keep rest h = absurd (different (sym e ∙ keep refl))
  where
    different : false ≡ true → ⊥
    different x = cc
left_out false k b c e keep rest h = rest h

-- a member that a test keeps, for every member of its number
pub among_kept : (p : Member → Bool) (ms : List Member) (tx : ℕ) → ((m : Member) → (m.tx == tx) ≡ true → p m ≡ true)
    → is_among ms tx ≡ true → is_among (filter p ms) tx ≡ true
among_kept p [] tx keep h = h
among_kept p (m ∷ ms) tx keep h =
    elim (p m) as (λ b. p m ≡ b → is_among (cond b (m ∷ filter p ms) (filter p ms)) tx ≡ true) [
      | true ↦ λ e. or_both (m.tx == tx) (is_among ms tx) (m.tx == tx) (is_among (filter p ms) tx) (λ x. x)
          (among_kept p ms tx keep) h
      | false ↦ λ e. left_out (m.tx == tx) (p m) (is_among ms tx) (is_among (filter p ms) tx) e (keep m)
          (among_kept p ms tx keep) h
    ] refl

-- a member is among those that a test keeps, or among the others
split : (p : Member → Bool) (m : Member) (ms : List Member) (tx : ℕ) (b t : Bool)
    → (is_among ms tx ≡ true → is_among (filter p ms) tx ≡ false
    → is_among (filter (λ x. not (p x)) ms) tx ≡ true)
    → (m.tx == tx) ≡ t → (t || is_among ms tx) ≡ true
    → is_among (cond b (m ∷ filter p ms) (filter p ms)) tx ≡ false
    → is_among (cond (not b) (m ∷ filter (λ x. not (p x)) ms) (filter (λ x. not (p x)) ms)) tx ≡ true
split p m ms tx true true rest is h e = absurd (different (sym (or_first (m.tx == tx) _ is) ∙ e))
  where
    different : true ≡ false → ⊥
    different x = cc
split p m ms tx true false rest is h e = rest h (sym (ap (λ b. b || is_among (filter p ms) tx) is) ∙ e)
split p m ms tx false true rest is h e = or_first (m.tx == tx) _ is
split p m ms tx false false rest is h e =
    ap (λ b. (m.tx == tx) || b) (rest h e) ∙ or-true _

pub among_split : (p : Member → Bool) (ms : List Member) (tx : ℕ) → is_among ms tx ≡ true
    → is_among (filter p ms) tx ≡ false → is_among (filter (λ m. not (p m)) ms) tx ≡ true
among_split p [] tx h e = h
among_split p (m ∷ ms) tx h e = split p m ms tx (p m) (m.tx == tx) (among_split p ms tx) refl h e

-- each is among them
pub all_among : (ms : List Member) → AllByRecursion (λ m. is_among ms m.tx ≡ true) ms
all_among [] = tt
all_among (m ∷ ms) = (
  or_first (m.tx == m.tx) (is_among ms m.tx) (number_itself m.tx),
  all_by (λ x. is_among ms x.tx ≡ true) (λ x. is_among (m ∷ ms) x.tx ≡ true) ms
      (λ x h. ap (λ b. (m.tx == x.tx) || b) h ∙ or-true _) (all_among ms),
)

-- the member that is found is among them
pub found_among : (tx : ℕ) (ms : List Member) (m : Member) → first_of (filter (is_tx tx) ms) ≡ Some m
    → (m.tx ≡ tx) × (is_among ms tx ≡ true)
found_among tx [] m h = cc
found_among tx (x ∷ ms) m h =
    elim (x.tx == tx) as (λ b. (x.tx == tx) ≡ b → first_of (cond b (x ∷ filter (is_tx tx) ms) (filter (is_tx tx) ms))
    ≡ Some m → (m.tx ≡ tx) × ((b || is_among ms tx) ≡ true)) [
      | true ↦ λ e g. (sym (ap (λ (y : Member). y.tx) (some_member x m g)) ∙ same_number x.tx tx e, refl)
      | false ↦ λ e g. found_among tx ms m g
    ] refl h
  where
    some_member : (x y : Member) → Some x ≡ Some y → x ≡ y
    some_member x y g = cc
