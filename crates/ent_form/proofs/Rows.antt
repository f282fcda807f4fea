-- Combinations of rows, and what is selected of them.
use Rattle.std.proofs.Common.{◌≡◌, ℕ, Bool, true, false, cond, List, [], ◌∷◌, ◌++◌, map, length, refl, ap, ◌∙◌, arith}
use Rattle.std.specs.List.{AllByRecursion, filter, flat_map}
use Rattle.std.proofs.lemmas.List.{length-append}
use Rattle.ent_lists.specs.Elements.{all_joined}
use Rattle.ent_lists.specs.Sets as set
use Rattle.ent_value.specs.declared.value.Value.{Value}
use Rattle.ent_semantics.specs.Database.{Rows}
use Rattle.ent_semantics.specs.Selection.{combinations, selection}
use Rattle.ent_form.proofs.Sources.{total, AllWide}

all_map : {A B : Type 0} (P : A → Type 0) (Q : B → Type 0) (f : A → B) → ((x : A) → P x → Q (f x)) → (xs : List A)
    → AllByRecursion P xs → AllByRecursion Q (map f xs)
all_map P Q f each [] h = tt
all_map P Q f each (x ∷ xs) h = (each x h.0, all_map P Q f each xs h.1)

pub combinations_wide : (sources : List Rows) (widths : List ℕ) → AllWide sources widths
    → AllByRecursion (λ row. length row ≡ total widths) (combinations sources)
combinations_wide [] [] h = (refl, tt)
combinations_wide [] (width ∷ widths) h = absurd h
combinations_wide (rows ∷ more) [] h = absurd h
combinations_wide (rows ∷ more) (width ∷ widths) h =
    front (set.ascending rows) h.0 (combinations_wide more widths h.1)
  where
    front : (rows : List (List Value)) → AllByRecursion (λ row. length row ≡ width) rows
        → AllByRecursion (λ row. length row ≡ total widths) (combinations more)
        → AllByRecursion (λ row. length row ≡ total (width ∷ widths))
        (flat_map (λ row. map (λ others. row ++ others) (combinations more)) rows)
    front [] here rest = tt
    front (row ∷ rows) here rest =
        let longer : (others : List Value) → length others ≡ total widths → length (row ++ others)
        ≡ total (width ∷ widths) =
        λ others e. let a = length-append row others in let b = here.0 in omega arith in
        all_joined (λ row. length row ≡ total (width ∷ widths)) (map (λ others. row ++ others) (combinations more)) _
        (all_map (λ row. length row ≡ total widths) (λ row. length row ≡ total (width ∷ widths))
        (λ others. row ++ others) longer (combinations more) rest)
        (front rows here.1 rest)

-- two ways to match and to show agree on rows of a width
pub selected_alike : (width : ℕ) (matches others : List Value → Bool) (shown seen : List Value → List Value)
    → ((row : List Value) → length row ≡ width → matches row ≡ others row)
    → ((row : List Value) → length row ≡ width → shown row ≡ seen row)
    → (sources : List Rows) → AllByRecursion (λ row. length row ≡ width) (combinations sources)
    → selection matches shown sources ≡ selection others seen sources
selected_alike width matches others shown seen match show sources h = ap set.from_list (alike (combinations sources) h)
  where
    kept : (b : Bool) (row : List Value) (xs ys : List (List Value)) → length row ≡ width → map shown xs ≡ map seen ys
        → map shown (cond b (row ∷ xs) xs) ≡ map seen (cond b (row ∷ ys) ys)
    kept true row xs ys l e = λ i. show row l i ∷ e i
    kept false row xs ys l e = e

    alike : (rows : List (List Value)) → AllByRecursion (λ row. length row ≡ width) rows
        → map shown (filter matches rows) ≡ map seen (filter others rows)
    alike [] h = refl
    alike (row ∷ rows) h =
        ap (λ b. map shown (cond b (row ∷ filter matches rows) (filter matches rows))) (match row h.0)
        ∙ kept (others row) row (filter matches rows) (filter others rows) h.0 (alike rows h.1)
