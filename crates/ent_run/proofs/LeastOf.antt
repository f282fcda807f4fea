-- The least number of which a fact holds.
use Rattle.std.proofs.Common.{◌≡◌, ◌⊎◌, inl, inr, ℕ, ◌≤◌, nat_lt, min, if◌then◌else◌, List, [], ◌∷◌}
use Rattle.std.proofs.Common.{refl, sym, ap, subst, ◌∙◌, arith}
use Rattle.std.specs.Prelude.{Contains, Option, Some, None}
use Rattle.std.proofs.lemmas.Bool.Decides.{nat_tests}
use Rattle.ent_lock.specs.Holders.{lesser}
use Rattle.ent_lock.specs.Use.{IsLeastIfAny}
pub use Rattle.ent_lock.proofs.Requests.{least_same, least_either}
use Rattle.ent_protocol.specs.Uses.{least}
use Rattle.ent_run.proofs.Lists.{contains_none, contains_cases, contains_first, contains_later}

no_lower : (x y : ℕ) → x ≤ y → y ≤ x → x ≡ y
no_lower x y h k = omega (arith, h, k)

-- there is one such number at most
pub one_least : (P : ℕ → Type 0) (a b : Option ℕ) → IsLeastIfAny P a → IsLeastIfAny P b → a ≡ b
one_least P None None h k = refl
one_least P None (Some y) h k = absurd (h y k.0)
one_least P (Some x) None h k = absurd (k x h.0)
one_least P (Some x) (Some y) h k = ap Some (no_lower x y (h.1 y k.0) (k.1 x h.0))

-- ---- the least of a list

abbrev lesser_with : ℕ → Option ℕ → ℕ
lesser_with n None = n
lesser_with n (Some m) = if nat_lt n m then n else m

least_with : (n : ℕ) (ns : List ℕ) → least (n ∷ ns) ≡ Some (lesser_with n (least ns))
least_with n [] = refl
least_with n (m ∷ ms) = refl

lesser_is : (n m : ℕ) → (if nat_lt n m then n else m) ≡ min n m
lesser_is n m = grind (arith, nat_tests)

pub least_more : (n : ℕ) (ns : List ℕ) → least (n ∷ ns) ≡ lesser (Some n) (least ns)
least_more n ns = least_with n ns ∙ by_rest (least ns)
  where
    by_rest : (o : Option ℕ) → Some (lesser_with n o) ≡ lesser (Some n) o
    by_rest None = refl
    by_rest (Some m) = ap Some (lesser_is n m)

pub least_of_list : (ns : List ℕ) → IsLeastIfAny (Contains ns) (least ns)
least_of_list [] = λ v there. contains_none v there
least_of_list (n ∷ ns) =
    subst (IsLeastIfAny (Contains (n ∷ ns))) (sym (least_more n ns))
    (least_same (λ v. (n ≡ v) ⊎ Contains ns v) (Contains (n ∷ ns)) (lesser (Some n) (least ns)) into_list
    (λ v there. contains_cases n v ns there)
    (least_either (λ v. n ≡ v) (Contains ns) (Some n) (least ns) (refl, λ w same. omega (arith, same))
    (least_of_list ns)))
  where
    into_list : (v : ℕ) → (n ≡ v) ⊎ Contains ns v → Contains (n ∷ ns) v
    into_list v (inl same) = subst (Contains (n ∷ ns)) same (contains_first n ns)
    into_list v (inr later) = contains_later n v ns later
