-- What comes in is found.
use Rattle.std.proofs.Common.{◌≡◌, ◌∙◌, ℕ, cond, List, [], ◌∷◌, Option, Some, refl, sym, ap}
use Rattle.std.specs.BTreeMap.{insert_entry, is_at}
use Rattle.std.specs.Cmp.{nat_cmp_is}
use Rattle.std.specs.Map.{lookup}
use Rattle.std.specs.Ordering.{is_eq, match_ordering, nat_cmp}
use Rattle.std.specs.declared.cmp.Ordering.{Ordering}
use Rattle.std.specs.declared.cmp.Ordering.TheVariants.{Less, Equal, Greater}

module _ {X : Type 0} (k : ℕ) (x : X) where
  abbrev found : List (ℕ × X) → Option X
  found entries = lookup (is_at (nat_cmp k)) entries

  found_first : (others : List (ℕ × X)) → found ((k, x) ∷ others) ≡ Some x
  found_first others = ap (λ (o : Ordering). cond (is_eq o) (Some x) (found others)) (sym (nat_cmp_is k k Equal refl))

  pub found_inserted : (entries : List (ℕ × X)) → lookup (is_at (nat_cmp k)) (insert_entry nat_cmp entries k x) ≡ Some x
  found_inserted [] = found_first []
  found_inserted (e ∷ es) = by (insert_entry nat_cmp es k x) (found_inserted es) (nat_cmp k e.0) refl
    where
      by : (more : List (ℕ × X)) → found more ≡ Some x → (o : Ordering) → nat_cmp k e.0 ≡ o
          → found (match_ordering o ((k, x) ∷ e ∷ es) ((e.0, x) ∷ es) (e ∷ more)) ≡ Some x
      by more rest Less is = found_first (e ∷ es)
      by more rest Equal is = ap (λ (o : Ordering). cond (is_eq o) (Some x) (found es)) is
      by more rest Greater is = ap (λ (o : Ordering). cond (is_eq o) (Some e.1) (found more)) is ∙ rest
