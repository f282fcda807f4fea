-- The partners' pool: safe, and one component.
use Rattle.std.proofs.Common.{◌≡◌, ◌⊎◌, inl, inr, ℕ, zero, suc, ◌<◌, Bool, true, List, [], ◌∷◌, refl, sym}
use Rattle.std.proofs.Common.{rules, ap, arith, subst, Some, ◌∙◌}
use Rattle.std.specs.Prelude.{AllPairs, Contains, slice_get}
use Rattle.ent_value.specs.declared.value.Kind.TheVariants as kinds
use Rattle.ent_value.specs.declared.value.Value.{Value}
use Rattle.ent_semantics.specs.declared.entangled.Atom.{Atom}
use Rattle.ent_semantics.specs.Closing.{atom_over}
use Rattle.ent_semantics.specs.Form.{known_worth}
use Rattle.ent_semantics.specs.Database.{nothing_bound}
use Rattle.ent_semantics.specs.Component.{IsIn, IsInRemainder, IsSupported, AreLinked, IsComponent}
use Rattle.ent_semantics.specs.Pool.{Posted, Unify, CanMeet, IsSafe}
use Rattle.ent_examples.specs.Partners.{Mickey, Minnie, flight_122, flies_as, pair, query}

pub one_case : {A : Type 0} (x z : A) → Contains (x ∷ []) z → z ≡ x
one_case x z (zero, h, e) = sym e
one_case x z (suc k, h, e) = absurd (omega arith)

pub two_cases : {A : Type 0} (x y z : A) → Contains (x ∷ y ∷ []) z → (z ≡ x) ⊎ (z ≡ y)
two_cases x y z (zero, h, e) = inl (sym e)
two_cases x y z (suc zero, h, e) = inr (sym e)
two_cases x y z (suc (suc k), h, e) = absurd (omega arith)

abbrev pub mickey : ℕ → Posted
mickey tx = query tx Mickey Minnie

abbrev pub minnie : ℕ → Posted
minnie tx = query tx Minnie Mickey

-- a closed atom of a name
abbrev atom : Value → Atom Value
atom name = atom_over (known_worth nothing_bound) (flies_as name)

pub safe_one : (one : ℕ) → IsSafe (mickey one ∷ [])
safe_one one asker first other index a b c h k =
    ap (λ (x : Posted). x.tx) (one_case (mickey one) first b ∙ sym (one_case (mickey one) other c))

pub safe_two : (one two : ℕ) → IsSafe (pair one two)
safe_two one two = grind (arith, rules)

-- ---- one component

under_122 : (name : Value) → Unify (kinds.Int ∷ []) (atom name) (kinds.Int ∷ []) (atom name)
under_122 name =
    record {
      values = flight_122 ∷ [];
      of_kinds = (refl, tt);
      other_values = flight_122 ∷ [];
      of_other_kinds = (refl, tt);
      one_fact = refl;
    }

mickey_meets : (one two : ℕ) → CanMeet (mickey one) 0 (minnie two)
mickey_meets one two =
    record {
      post = atom Minnie;
      is_post = refl;
      head = atom Minnie;
      is_head = (0, omega arith, refl);
      unify = under_122 Minnie;
    }

minnie_meets : (one two : ℕ) → CanMeet (minnie two) 0 (mickey one)
minnie_meets one two =
    record {
      post = atom Mickey;
      is_post = refl;
      head = atom Mickey;
      is_head = (0, omega arith, refl);
      unify = under_122 Mickey;
    }

abbrev everyone : ℕ → Bool
everyone tx = true

module _ (one two : ℕ) (before : one < two) where
  abbrev HasPartners : Posted → Type 0
  HasPartners asker =
      (index : ℕ) (post : Atom Value) → slice_get asker.statement.posts index ≡ Some post
      → (owner : Posted) × IsIn (pair one two) everyone owner × CanMeet asker index owner

  first_has : HasPartners (mickey one)
  first_has zero post e = (minnie two, ((1, omega arith, refl), refl), mickey_meets one two)
  first_has (suc k) post e = cc

  second_has : HasPartners (minnie two)
  second_has zero post e = (mickey one, ((0, omega arith, refl), refl), minnie_meets one two)
  second_has (suc k) post e = cc

  -- what holds of pair holds of each of the pool
  of_both : (P : Posted → Type 0) → P (mickey one) → P (minnie two) → (x : Posted) → Contains (pair one two) x → P x
  of_both P h k x there = of (two_cases (mickey one) (minnie two) x there)
    where
      of : (x ≡ mickey one) ⊎ (x ≡ minnie two) → P x
      of (inl e) = subst P (sym e) h
      of (inr e) = subst P (sym e) k

  supported : IsSupported (pair one two) everyone
  supported asker index post h e = of_both HasPartners first_has second_has asker h.0 index post e

  remains : (x : Posted) → Contains (pair one two) x → IsInRemainder (pair one two) x
  remains x there = record { among = everyone; supported = supported; is_in = (there, refl) }

  abbrev first_there : Contains (pair one two) (mickey one)
  first_there = (0, omega arith, refl)

  abbrev second_there : Contains (pair one two) (minnie two)
  second_there = (1, omega arith, refl)

  ascending : AllPairs (λ (x y : Posted). x.tx < y.tx) (pair one two)
  ascending zero zero d i<j j<n = absurd (omega arith)
  ascending zero (suc zero) d i<j j<n = before
  ascending zero (suc (suc j)) d i<j j<n = absurd (omega arith)
  ascending (suc i) zero d i<j j<n = absurd (omega arith)
  ascending (suc i) (suc zero) d i<j j<n = absurd (omega arith)
  ascending (suc i) (suc (suc j)) d i<j j<n = absurd (omega arith)

  pub one_component : IsComponent (pair one two) (pair one two)
  one_component =
      record {
        first = mickey one;
        in_remainder = remains (mickey one) first_there;
        class = λ member. (
          λ there. of_both (λ x. IsInRemainder (pair one two) x × AreLinked (pair one two) (mickey one) x)
              (remains (mickey one) first_there, (zero, refl)) (
                remains (minnie two) second_there,
                (suc zero, (minnie two, (0, inl (mickey_meets one two)), remains (minnie two) second_there, refl)),
              ) member there,
          λ h. h.0.is_in.0,
        );
        ascending = ascending;
      }
