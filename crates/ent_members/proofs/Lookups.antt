-- Look-ups among those who wait.
use Rattle.std.proofs.Common.{◌≡◌, ℕ, zero, suc, ◌+◌, ◌-◌, ◌<◌, ◌≤◌, ◌==◌, Bool, true, false, cond, ◌||◌, List, []}
use Rattle.std.proofs.Common.{◌∷◌, length, map, filter, drop, slice_get, get_or, Option, None, Some, refl, sym, ap, ◌∙◌}
use Rattle.std.proofs.Common.{subst, position, is_some, arith, true≢false}
use Rattle.std.specs.Prelude.{nat_eq}
use Rattle.std.specs.List.{AllByRecursion, IsDistinct, list_any}
use Rattle.std.proofs.lemmas.List.{length-drop, get_or-drop}
use Rattle.std.proofs.lemmas.List.Quantifiers.{position-Some}
use Rattle.std.proofs.lemmas.List.Folds.{list_any_at}
use Rattle.std.proofs.lemmas.Option.{get_or_from_slice_get, slice_get-get_or, slice_get_within}
use Rattle.slab.specs.Slab.{Slab, get as value_at}
use Rattle.indexmap.specs.IndexMap.{IndexMap, get}
use Rattle.ent_protocol.specs.State.{Dormant, first_of}
use Rattle.ent_members.specs.TransactionTable.{Stand, entrant_of, runs_at, runs_of}
use Rattle.ent_members.proofs.Lists.{none_behind}

-- what stands under a number's key
pub value_here : {S : Type 0} (live : Slab Dormant) (order : IndexMap ℕ ℕ S) → Stand live order → (tx key : ℕ)
    → get nat_eq order tx ≡ Some key → value_at live key ≡ Some (entrant_of live order tx)
value_here live order stand tx key here =
    let s = stand tx key here in
    let runs : s.0.runs ≡ runs_at live (get nat_eq order tx) = sym (ap (runs_at live) here ∙ ap runs_of s.1) in
    s.1 ∙ (λ i. Some (record { tx = s.2 i; runs = runs i }))

all_apart : (tx : ℕ) (ks : List ℕ) → AllByRecursion (λ y. nat_eq tx y ≡ false) ks → list_any (λ k. k == tx) ks ≡ false
all_apart tx [] all = refl
all_apart tx (k ∷ ks) all =
    let other : (k == tx) ≡ false = grind (arith, all.0) in
    λ i. other i || all_apart tx ks all.1 i

-- of distinct numbers one that stands before a place stands not behind it
pub behind_lacks : (ks : List ℕ) (at r tx : ℕ) → IsDistinct nat_eq ks → slice_get ks at ≡ Some tx → at < r
    → list_any (λ k. k == tx) (drop r ks) ≡ false
unfolding IsDistinct
behind_lacks [] at r tx apart is less = cc
behind_lacks (k ∷ ks) at zero tx apart is less = absurd (omega (arith, less))
behind_lacks (k ∷ ks) zero (suc r) tx apart is less =
    let e : k ≡ tx = cc in
    none_behind (λ it. it == tx) ks r
    (all_apart tx ks (subst (λ (n : ℕ). AllByRecursion (λ y. nat_eq n y ≡ false) ks) e apart.0))
behind_lacks (k ∷ ks) (suc at) (suc r) tx apart is less = behind_lacks ks at r tx apart.1 is (omega (arith, less))

pub behind_has : (ks : List ℕ) (at r tx : ℕ) → slice_get ks at ≡ Some tx → r ≤ at
    → list_any (λ k. k == tx) (drop r ks) ≡ true
behind_has ks at r tx is le =
    let within : at < length ks = slice_get_within ks at tx is in
    let e : r + (at - r) ≡ at = omega arith in
    let same : get_or (drop r ks) (at - r) tx ≡ tx =
    get_or-drop r ks (at - r) tx ∙ ap (λ k. get_or ks k tx) e ∙ get_or_from_slice_get ks at tx tx is in
    let itself : (get_or (drop r ks) (at - r) tx == tx) ≡ true = grind (arith, same) in
    list_any_at (λ k. k == tx) (drop r ks) (at - r) tx (omega (arith, length-drop r ks)) itself

module _ {S : Type 0} (live : Slab Dormant) (order : IndexMap ℕ ℕ S) (tx : ℕ) where
  abbrev first : List ℕ → Option Dormant
  first ks = first_of (filter (λ (it : Dormant). it.tx == tx) (map (entrant_of live order) ks))

  pub first_there : (ks : List ℕ) → list_any (λ k. k == tx) ks ≡ true → Some (entrant_of live order tx) ≡ first ks
  first_there [] there = absurd (true≢false (sym there))
  first_there (k ∷ ks) there = by (k == tx) refl there (first_there ks)
    where
      by : (b : Bool) → (k == tx) ≡ b → (b || list_any (λ it. it == tx) ks) ≡ true
          → (list_any (λ it. it == tx) ks ≡ true → Some (entrant_of live order tx) ≡ first ks)
          → Some (entrant_of live order tx)
          ≡ first_of (cond b
          (entrant_of live order k ∷ filter (λ (it : Dormant). it.tx == tx) (map (entrant_of live order) ks))
          (filter (λ (it : Dormant). it.tx == tx) (map (entrant_of live order) ks)))
      by true is h rest = let e : tx ≡ k = grind (arith, is) in ap (λ (n : ℕ). Some (entrant_of live order n)) e
      by false is h rest = rest h

  pub first_absent : (ks : List ℕ) → list_any (λ k. k == tx) ks ≡ false → None ≡ first ks
  first_absent [] none = refl
  first_absent (k ∷ ks) none = by (k == tx) none (first_absent ks)
    where
      by : (b : Bool) → (b || list_any (λ it. it == tx) ks) ≡ false
          → (list_any (λ it. it == tx) ks ≡ false → None ≡ first ks)
          → None
          ≡ first_of (cond b
          (entrant_of live order k ∷ filter (λ (it : Dormant). it.tx == tx) (map (entrant_of live order) ks))
          (filter (λ (it : Dormant). it.tx == tx) (map (entrant_of live order) ks)))
      by true h rest = absurd (true≢false h)
      by false h rest = rest h

pub slice_behind : {X : Type 0} (xs : List X) (r i : ℕ) (x : X) → slice_get xs (r + i) ≡ Some x
    → slice_get (drop r xs) i ≡ Some x
slice_behind xs r i x is =
    let within : r + i < length xs = slice_get_within xs (r + i) x is in
    slice_get-get_or (drop r xs) i x (omega (arith, length-drop r xs))
    ∙ ap Some (get_or-drop r xs i x ∙ get_or_from_slice_get xs (r + i) x x is)

pub number_at : (ks : List ℕ) (tx at : ℕ) → position (nat_eq tx) ks ≡ Some at → slice_get ks at ≡ Some tx
number_at ks tx at found =
    let q = position-Some (nat_eq tx) ks at 0 found in
    let n : get_or ks at 0 ≡ tx = grind (arith, q.1) in
    slice_get-get_or ks at 0 q.0 ∙ ap Some n

pub is_none : (o : Option ℕ) → false ≡ is_some o → o ≡ None
is_none None h = refl
is_none (Some n) h = absurd (true≢false (sym h))
