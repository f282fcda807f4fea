-- Combinations of rows, source by source, and what is shown of them.
use Rattle.std.proofs.Common.{◌≡◌, List, [], ◌∷◌, ◌++◌, map, refl, sym, ap, ◌∙◌}
use Rattle.std.proofs.Common.{append_assoc}
use Rattle.std.specs.List.{filter, flat_map}
use Rattle.std.proofs.lemmas.List.{map-append, append-nil}
use Rattle.std.proofs.lemmas.List.Elements.{filter-append}
use Rattle.ent_lists.specs.Sets as set
use Rattle.ent_value.specs.declared.value.Value.{Value}
use Rattle.ent_rel.specs.Relation.{Relation}
use Rattle.ent_tree.specs.declared.operand.Test.{Test}
use Rattle.ent_semantics.specs.Selection.{meets, combinations}
use Rattle.ent_semantics.specs.declared.operand.Operand.{Operand}
use Rattle.ent_ordinary.specs.Combined.{combined, shown_of}
use Rattle.ent_ordinary.specs.Tables.{rows_in, rows_listed}
use Rattle.ent_ordinary.specs.Worth.{worth_over}

pub shown_of-append : (items : List (Operand Value)) (tests : List (Test (Operand Value))) (xs ys : List (List Value))
    → shown_of items tests (xs ++ ys) ≡ shown_of items tests xs ++ shown_of items tests ys
shown_of-append items tests xs ys =
    ap (map (λ row. map (worth_over row) items)) (filter-append (meets worth_over tests) xs ys)
    ∙ map-append (λ row. map (worth_over row) items)
    (filter (meets worth_over tests) xs) (filter (meets worth_over tests) ys)

-- one row more of a walk, whose combinations were looked at
pub one_row_more :
    (items : List (Operand Value)) (tests : List (Test (Operand Value))) (front : List Value)
    (more : List (List (List Value))) (old new : List (List Value)) (found next : List (List Value)) (row : List Value)
    → old ≡ row ∷ new → next ≡ found ++ shown_of items tests (combined (front ++ row) more)
    → next ++ shown_of items tests (flat_map (λ row. combined (front ++ row) more) new)
    ≡ found ++ shown_of items tests (flat_map (λ row. combined (front ++ row) more) old)
one_row_more items tests front more old new found next row is shown =
    let each : List Value → List (List Value) = λ row. combined (front ++ row) more in
    ap (λ xs. xs ++ shown_of items tests (flat_map each new)) shown
    ∙ append_assoc found (shown_of items tests (each row)) (shown_of items tests (flat_map each new))
    ∙ ap (λ xs. found ++ xs) (sym (shown_of-append items tests (each row) (flat_map each new))
    ∙ ap (λ rows. shown_of items tests (flat_map each rows)) (sym is))

flat_map_each : {X A B : Type 0} (f : X → List B) (g : A → B) (h : X → List A) → ((x : X) → f x ≡ map g (h x))
    → (xs : List X) → flat_map f xs ≡ map g (flat_map h xs)
flat_map_each f g h each [] = refl
flat_map_each f g h each (x ∷ xs) =
    (λ i. each x i ++ flat_map_each f g h each xs i) ∙ sym (map-append g (h x) (flat_map h xs))

behind : (front row : List Value) (rows : List (List Value))
    → map (λ others. (front ++ row) ++ others) rows
    ≡ map (λ others. front ++ others) (map (λ others. row ++ others) rows)
behind front row [] = refl
behind front row (others ∷ rows) = λ i. append_assoc front row others i ∷ behind front row rows i

unchanged : (rows : List (List Value)) → map (λ others. [] ++ others) rows ≡ rows
unchanged [] = refl
unchanged (row ∷ rows) = ap (λ others. row ∷ others) (unchanged rows)

-- they are the combinations, behind a row
combined_all : (front : List Value) (tables : List Relation)
    → combined front (rows_listed tables) ≡ map (λ others. front ++ others) (combinations (rows_in tables))
combined_all front [] = ap (λ row. row ∷ []) (sym (append-nil front))
combined_all front (table ∷ more) =
    flat_map_each (λ row. combined (front ++ row) (rows_listed more)) (λ others. front ++ others)
    (λ row. map (λ others. row ++ others) (combinations (rows_in more)))
    (λ row. combined_all (front ++ row) more ∙ behind front row (combinations (rows_in more)))
    (set.ascending table.rows)

pub combined_is : (tables : List Relation) → combined [] (rows_listed tables) ≡ combinations (rows_in tables)
combined_is tables = combined_all [] tables ∙ unchanged (combinations (rows_in tables))

-- the combinations of one source, behind a front
pub combined_one : (front : List Value) (rows : List (List Value))
    → combined front (rows ∷ []) ≡ map (λ row. front ++ row) rows
combined_one front [] = refl
combined_one front (row ∷ rows) = ap (λ others. (front ++ row) ∷ others) (combined_one front rows)
