-- Rows with these first values are those whose keys begin alike.
use Rattle.std.proofs.Common.{◌≡◌, ℕ, Bool, true, false, cond, List, [], ◌∷◌, length, map, take, refl, sym, ap}
use Rattle.std.proofs.Common.{◌∙◌}
use Rattle.std.specs.Prelude.{IsTrue, ◌↔◌}
use Rattle.std.specs.List.{filter}
use Rattle.std.specs.Cmp.{both_ways}
use Rattle.std.specs.Ordering.{eq_by_cmp}
use Rattle.ent_value.specs.Value.{row_cmp, kinds_of}
use Rattle.ent_value.specs.Order.{rows_equal}
use Rattle.ent_value.specs.declared.value.Value.{Value}
use Rattle.ent_value.specs.declared.value.Kind.{Kind}
use Rattle.ent_page.specs.Key.{key_of, AreStorable}
use Rattle.ent_page.specs.Front.{begins_with}
use Rattle.ent_page.specs.Read.{row_from}
use Rattle.ent_page.specs.Rows.{IsKey, AreKeys}
use Rattle.ent_rel.specs.First.{has_first}
use Rattle.ent_rel.proofs.Lists.{same_rows}

-- what the law says that a key set's look-up rests on
abbrev pub FirstAreFronts : Type 0
FirstAreFronts =
    (values row : List Value) → kinds_of values ≡ take (length values) (kinds_of row) → AreStorable values
    → AreStorable row
    → IsTrue (begins_with (key_of values) (key_of row)) ↔ (take (length values) row ≡ values)

module _ (law : FirstAreFronts) (kinds : List Kind) (values : List Value) (same : kinds_of values ≡ take
    (length values) kinds) (fits : AreStorable values) where
  alike : (k : List ℕ) → IsKey kinds k → begins_with (key_of values) k ≡ has_first values (row_from kinds k)
  alike k is =
      let row = row_from kinds k in
      let both = law values row (same ∙ ap (take (length values)) (sym is.same)) fits is.fits in
      ap (begins_with (key_of values)) (sym is.again)
      ∙ both_ways (begins_with (key_of values) (key_of row)) (has_first values row)
      (λ h. ap (λ r. eq_by_cmp row_cmp r values) (both.0 h) ∙ rows_equal.refl values)
      (λ h. both.1 (same_rows (take (length values) row) values h))

  pub rows_first : (ks : List (List ℕ)) → AreKeys kinds ks → map (row_from kinds) (filter (begins_with
      (key_of values)) ks) ≡ filter (has_first values) (map (row_from kinds) ks)
  rows_first [] all = refl
  rows_first (k ∷ ks) all =
      by (begins_with (key_of values) k) (has_first values (row_from kinds k)) (alike k all.0) k (filter (begins_with
      (key_of values)) ks) (filter (has_first values) (map (row_from kinds) ks)) (rows_first ks all.1)
    where
      by : (a b : Bool) → a ≡ b → (k : List ℕ) (xs : List (List ℕ)) (ys : List (List Value))
          → map (row_from kinds) xs ≡ ys
          → map (row_from kinds) (cond a (k ∷ xs) xs) ≡ cond b (row_from kinds k ∷ ys) ys
      by true true e k xs ys h = ap (λ z. row_from kinds k ∷ z) h
      by false false e k xs ys h = h
      by true false e k xs ys h = absurd cc
      by false true e k xs ys h = absurd cc

pub keys_where : (kinds : List Kind) (p : List ℕ → Bool) (ks : List (List ℕ)) → AreKeys kinds ks
    → AreKeys kinds (filter p ks)
keys_where kinds p [] all = tt
keys_where kinds p (k ∷ ks) all =
    elim (p k) as (λ b. AreKeys kinds (cond b (k ∷ filter p ks) (filter p ks))) [
      | true ↦ (all.0, keys_where kinds p ks all.1)
      | false ↦ keys_where kinds p ks all.1
    ]
