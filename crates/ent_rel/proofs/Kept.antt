-- Tables by what they keep.
use Rattle.std.proofs.Common.{◌≡◌, ℕ, List, [], ◌∷◌, map, refl, sym, ap, ◌∙◌}
use Rattle.std.specs.List.{AllByRecursion}
use Rattle.ent_lists.specs.Sets as set
use Rattle.ent_lists.specs.Laws.{from_list-ascending}
use Rattle.ent_value.specs.declared.value.Kind.{Kind}
use Rattle.ent_page.specs.Key.{key_of}
use Rattle.ent_page.specs.Read.{row_from}
use Rattle.ent_page.specs.Rows.{IsKey}
use Rattle.ent_page.proofs.Sorted.{keys_total, keys_exact}
use Rattle.ent_rel.specs.Relation.{Relation}
use Rattle.ent_rel.specs.Kept.{KeySet, rows_of, IsKept}
use Rattle.ent_rel.proofs.Keyed.{all_keys, ascending_rows}

keys_again : (kinds : List Kind) (ks : List (List ℕ)) → AllByRecursion (IsKey kinds) ks
    → map key_of (map (row_from kinds) ks) ≡ ks
keys_again kinds [] all = refl
keys_again kinds (k ∷ ks) all = λ i. all.0.again i ∷ keys_again kinds ks all.1 i

-- tables are the same where their kinds and their keys are
module _ (kinds others : List Kind) (keys more : KeySet) (left right : Relation)
    (one : record { kinds = kinds; rows = rows_of kinds keys } ≡ left)
    (two : record { kinds = others; rows = rows_of others more } ≡ right) (kept : IsKept kinds keys)
    (kept_more : IsKept others more) where
  pub same_kinds : left ≡ right → kinds ≡ others
  same_kinds e = ap (λ (t : Relation). t.kinds) (one ∙ e ∙ sym two)

  pub same_key_sets : left ≡ right → keys ≡ more
  same_key_sets e =
      sym (from_list-ascending keys_total keys_exact keys)
      ∙ ap (λ ks. set.from_list ks) (sym (keys_again kinds (set.ascending keys) (all_keys kinds keys kept.fitting))
      ∙ ap (map key_of) (sym (ascending_rows kinds keys kept.fitting)
      ∙ ap (λ (t : Relation). set.ascending t.rows) (one ∙ e ∙ sym two)
      ∙ ascending_rows others more kept_more.fitting)
      ∙ keys_again others (set.ascending more) (all_keys others more kept_more.fitting))
      ∙ from_list-ascending keys_total keys_exact more

  pub same_tables : kinds ≡ others → keys ≡ more → left ≡ right
  same_tables e f = sym one ∙ (λ i. record { kinds = e i; rows = rows_of (e i) (f i) }) ∙ two
