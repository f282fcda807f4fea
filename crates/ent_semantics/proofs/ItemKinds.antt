-- The rows of a SELECT's result have the kinds of its items.
use Rattle.std.proofs.Common.{◌≡◌, Bool, List, [], ◌∷◌, ◌++◌, map, refl, ap, ◌∙◌}
use Rattle.std.specs.List.{AllByRecursion, filter, flat_map}
use Rattle.ent_lists.specs.Sets as set
use Rattle.ent_lists.specs.Elements.{all_joined, all_filtered}
use Rattle.ent_lists.proofs.Lists.{all_mapped}
use Rattle.ent_value.specs.Value.{kinds_of, kind_of}
use Rattle.ent_value.specs.declared.value.Kind.{Kind}
use Rattle.ent_value.specs.declared.value.Value.{Value}
use Rattle.ent_semantics.specs.Database.{Rows}
use Rattle.ent_semantics.specs.Kinds.{KindedSource, RowsHaveKinds, SourcesHaveKinds, kinds_side_by_side, ShowsKinds}
use Rattle.ent_semantics.specs.Selection.{combinations, selection}
use Rattle.ent_semantics.proofs.EachRow.{to_ascending, each_listed}

-- ---- combinations

kinds_joined : (xs ys : List Value) → kinds_of (xs ++ ys) ≡ kinds_of xs ++ kinds_of ys
kinds_joined [] ys = refl
kinds_joined (x ∷ xs) ys = ap (λ kinds. kind_of x ∷ kinds) (kinds_joined xs ys)

abbrev pub HaveKinds : List Kind → List Value → Type 0
HaveKinds kinds row = kinds_of row ≡ kinds

side_by_side : (kinds others : List Kind) (more : List (List Value)) (row : List Value) → HaveKinds kinds row
    → AllByRecursion (HaveKinds others) more
    → AllByRecursion (HaveKinds (kinds ++ others)) (map (λ other. row ++ other) more)
side_by_side kinds others more row h k =
    all_mapped (HaveKinds others) (HaveKinds (kinds ++ others)) (λ other. row ++ other) more
    (λ other e. kinds_joined row other ∙ (λ i. h i ++ e i)) k

each_with : (kinds others : List Kind) (rows more : List (List Value)) → AllByRecursion (HaveKinds kinds) rows
    → AllByRecursion (HaveKinds others) more
    → AllByRecursion (HaveKinds (kinds ++ others)) (flat_map (λ row. map (λ other. row ++ other) more) rows)
each_with kinds others [] more h k = tt
each_with kinds others (row ∷ rows) more h k =
    all_joined (HaveKinds (kinds ++ others)) (map (λ other. row ++ other) more)
    (flat_map (λ row. map (λ other. row ++ other) more) rows)
    (side_by_side kinds others more row h.0 k) (each_with kinds others rows more h.1 k)

combined : (sources : List KindedSource) → SourcesHaveKinds sources
    → AllByRecursion (HaveKinds (kinds_side_by_side sources)) (combinations (map (λ source. source.rows) sources))
combined [] h = (refl, tt)
combined (source ∷ more) h =
    each_with source.kinds (kinds_side_by_side more) (set.ascending source.rows)
    (combinations (map (λ source. source.rows) more))
    (to_ascending (HaveKinds source.kinds) source.rows h.0) (combined more h.1)

pub item_kinds : (matches : List Value → Bool) (shown : List Value → List Value)
    (sources : List KindedSource) (items : List Kind) → SourcesHaveKinds sources
    → ShowsKinds shown (kinds_side_by_side sources) items
    → RowsHaveKinds items (selection matches shown (map (λ source. source.rows) sources))
item_kinds matches shown sources items h k =
    each_listed (HaveKinds items) (map shown kept)
    (all_mapped (HaveKinds (kinds_side_by_side sources)) (HaveKinds items) shown kept k
    (all_filtered (HaveKinds (kinds_side_by_side sources)) matches (combinations tables)
    (combined sources h)))
  where
    tables : List Rows
    tables = map (λ source. source.rows) sources

    kept : List (List Value)
    kept = filter matches (combinations tables)
