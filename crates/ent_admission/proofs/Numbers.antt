-- Numbers of lists, and keys of sets.
use Rattle.std.proofs.Common.{◌≡◌, ◌∙◌, ◌++◌, ◌∷◌, [], ℕ, zero, suc, true, List, Some, All, length, sym, ap}
use Rattle.std.proofs.Common.{subst}
use Rattle.std.proofs.lemmas.List.Elements.{All-contains}
use Rattle.std.specs.BTreeMap.{is_at}
use Rattle.std.specs.BTreeSet.{BTreeSet, contains}
use Rattle.std.specs.List.{list_any, slice_get}
use Rattle.std.specs.Ordering.{nat_cmp}
use Rattle.ent_lists.specs.Elements.{any_some, in_contains}
use Rattle.ent_lists.proofs.Lists.{got_last}
use Rattle.ent_semantics.specs.Serial.{numbered}
use Rattle.ent_waiting.proofs.Keeping.{at}

get_kept : {X : Type 0} (xs : List X) (x : X) (i : ℕ) (y : X) → slice_get xs i ≡ Some y
    → slice_get (xs ++ x ∷ []) i ≡ Some y
get_kept [] x i y e = absurd cc
get_kept (z ∷ zs) x zero y e = e
get_kept (z ∷ zs) x (suc i) y e = get_kept zs x i y e

pub numbered_kept : {X : Type 0} (xs : List X) (x : X) (n : ℕ) (y : X) → numbered xs n ≡ Some y
    → numbered (xs ++ x ∷ []) n ≡ Some y
numbered_kept xs x zero y e = absurd cc
numbered_kept xs x (suc n) y e = get_kept xs x n y e

pub numbered_last : {X : Type 0} (xs : List X) (x : X) (n : ℕ) → n ≡ suc (length xs)
    → numbered (xs ++ x ∷ []) n ≡ Some x
numbered_last xs x n e = ap (numbered (xs ++ x ∷ [])) e ∙ got_last xs x

pub all_keys : (P : ℕ → Type 0) (set : BTreeSet ℕ) (t : ℕ) → All P set.keys → contains nat_cmp set t ≡ true → P t
all_keys P set t all has =
    let found = any_some (is_at (nat_cmp t)) set.keys has in
    subst P (sym (at t found.0 found.2)) (All-contains P set.keys found.0 all (in_contains set.keys found.0 found.1))

pub some_key : (set : BTreeSet ℕ) (t : ℕ) → contains nat_cmp set t ≡ true → length set.keys ≡ 0 → ⊥
some_key set t has none = by set.keys has none
  where
    by : (keys : List ℕ) → list_any (is_at (nat_cmp t)) keys ≡ true → length keys ≡ 0 → ⊥
    by [] any none = absurd cc
    by (k ∷ ks) any none = absurd cc
