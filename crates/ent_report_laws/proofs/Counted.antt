-- How many tables and rows a report shows at first: no more than there are.
use Rattle.std.proofs.Common.{◌≡◌, ◌≤◌, ◌+◌, ℕ, Bool, true, false, cond, List, [], ◌∷◌, length, map, refl, sym}
use Rattle.std.proofs.Common.{ap, ◌∙◌, arith}
use Rattle.std.specs.Cmp.{IsTotalOrder}
use Rattle.std.specs.FinMap as finite
use Rattle.std.specs.List.{filter, flat_map}
use Rattle.std.specs.declared.cmp.Ordering.{Ordering}
use Rattle.std.proofs.lemmas.Cmp.{nat_list_cmp_total}
use Rattle.std.proofs.lemmas.List.{length-append, length-map}
use Rattle.std.proofs.lemmas.Map.Entries.{length-keys_of}
use Rattle.std.proofs.lemmas.Map.Lookups.{exact_bytes}
use Rattle.ent_lists.specs.Sets as set
use Rattle.ent_lists.specs.Laws.{len-empty, len-insert}
use Rattle.ent_value.specs.Order.{exact_rows, rows_total}
use Rattle.ent_tree.specs.declared.declaration.Create.{Create}
use Rattle.ent_tree.specs.declared.declaration.Opening.{Opening}
use Rattle.ent_tree.specs.declared.declaration.OpeningRow.{OpeningRow}
use Rattle.ent_semantics.specs.Names.{equal_names}
use Rattle.ent_book.specs.Report.{names_by_bytes}
use Rattle.ent_history.specs.Told.{declared_under, opening_row, told_opening, told_rows}
use Rattle.ent_lists.specs.Elements.{Pairs, filter_empty, of_all}
use Rattle.ent_semantics.specs.Database.{Name, opening_database, row_of, same_name, rows_named}
use Rattle.ent_report_laws.proofs.OpeningDeclared.{names_apart}

-- ---- sets

module _ {K : Type 0} {R : K → K → Ordering} (o : IsTotalOrder R) (exact : finite.IsAntisymmetric R) where
  fewer : (keys : List K) → set.len (set.from_list {R = R} keys) ≤ length keys
  fewer [] = let e = len-empty R in omega arith
  fewer (key ∷ keys) =
      let before : ℕ = set.len (set.from_list {R = R} keys) in
      let e = len-insert o exact (set.from_list {R = R} keys) key in
      by (set.contains (set.from_list {R = R} keys) key) before (fewer keys) e
    where
      by : (there : Bool) (before : ℕ) → before ≤ length keys
          → set.len (set.from_list {R = R} (key ∷ keys)) ≡ cond there before (before + 1)
          → set.len (set.from_list {R = R} (key ∷ keys)) ≤ length (key ∷ keys)
      by true before low e = omega (arith, low, e)
      by false before low e = omega (arith, low, e)

  -- the elements of the set of a list are no more than stand in the list
  fewer_elements : (keys : List K) → length (set.ascending (set.from_list {R = R} keys)) ≤ length keys
  fewer_elements keys =
      let s : set.Set R = set.from_list keys in
      let counted : length (set.ascending s) ≡ set.len s =
      length-keys_of (finite.entries s) ∙ sym (finite.len-entries s) in
      let low = fewer keys in
      omega (arith, counted, low)

-- ---- tables

one_under : (tables : List Create) (name : Name) → length (declared_under tables name) ≤ 1
one_under [] name = omega arith
one_under (create ∷ more) name = by (same_name create.name.name name) (one_under more name)
  where
    by : (b : Bool) → length (declared_under more name) ≤ 1
        → length (cond b (create ∷ []) (declared_under more name)) ≤ 1
    by true rest = omega arith
    by false rest = rest

few_under : (tables : List Create) (names : List Name) → length (flat_map (declared_under tables) names) ≤ length names
few_under tables [] = omega arith
few_under tables (name ∷ names) =
    let one = one_under tables name in
    let rest = few_under tables names in
    let whole = length-append (declared_under tables name) (flat_map (declared_under tables) names) in
    omega (arith, one, rest, whole)

pub few_tables : (opening : Opening) → length (told_opening opening).tables ≤ length opening.tables
few_tables opening =
    let names : List Name = map (λ create. create.name.name) opening.tables in
    let few = few_under opening.tables (names_by_bytes opening) in
    let distinct : length (names_by_bytes opening) ≤ length names =
    fewer_elements nat_list_cmp_total exact_bytes names in
    let all : length names ≡ length opening.tables = length-map opening.tables (λ create. create.name.name) in
    omega (arith, few, distinct, all)

-- ---- rows

abbrev count_under : List OpeningRow → Name → ℕ
count_under rows name = length (filter (λ row. same_name row.table.name name) rows)

abbrev total : (Name → ℕ) → List Name → ℕ
total count [] = 0
total count (name ∷ names) = count name + total count names

few_each : (opening : Opening) (name : Name) → length (told_rows opening name) ≤ count_under opening.rows name
few_each opening name =
    let shown : length (told_rows opening name) ≡ length (set.ascending (opening_database opening name)) =
    length-map (set.ascending (opening_database opening name)) (opening_row name) in
    let distinct : length (set.ascending (opening_database opening name)) ≤ length (rows_named opening name) =
    fewer_elements rows_total exact_rows (rows_named opening name) in
    let all : length (rows_named opening name) ≡ count_under opening.rows name =
    length-map (filter (λ row. same_name row.table.name name) opening.rows) row_of in
    omega (arith, shown, distinct, all)

few_shown : (opening : Opening) (names : List Name)
    → length (flat_map (told_rows opening) names) ≤ total (count_under opening.rows) names
few_shown opening [] = omega arith
few_shown opening (name ∷ names) =
    let one = few_each opening name in
    let rest = few_shown opening names in
    let whole = length-append (told_rows opening name) (flat_map (told_rows opening) names) in
    omega (arith, one, rest, whole)

none_counted : (names : List Name) → total (count_under []) names ≡ 0
none_counted [] = refl
none_counted (name ∷ names) = let rest = none_counted names in omega (arith, rest)

-- how many of some names are this one
abbrev hits : Name → List Name → ℕ
hits own names = length (filter (λ name. same_name own name) names)

once : (own : Name) (names : List Name) → Pairs (λ name other. same_name name other ≡ false) names
    → hits own names ≤ 1
once own [] apart = omega arith
once own (name ∷ names) apart = by (same_name own name) refl (once own names apart.1)
  where
    others : same_name own name ≡ true → hits own names ≡ 0
    others e =
        ap (λ (found : List Name). length found)
        (filter_empty (λ other. same_name own other) names (λ other at.
        ap (λ (n : Name). same_name n other) (equal_names own name e)
        ∙ of_all (λ other. same_name name other ≡ false) names other apart.0 at))

    by : (b : Bool) → same_name own name ≡ b → hits own names ≤ 1
        → length (cond b (name ∷ filter (λ name. same_name own name) names)
        (filter (λ name. same_name own name) names)) ≤ 1
    by true e rest = let none = others e in omega (arith, none)
    by false e rest = rest

one_more : (row : OpeningRow) (rows : List OpeningRow) (names : List Name)
    → total (count_under (row ∷ rows)) names ≡ hits row.table.name names + total (count_under rows) names
one_more row rows [] = refl
one_more row rows (name ∷ names) = by (same_name row.table.name name) (one_more row rows names)
  where
    by : (b : Bool)
        → total (count_under (row ∷ rows)) names ≡ hits row.table.name names + total (count_under rows) names
        → length (cond b (row ∷ filter (λ row. same_name row.table.name name) rows)
        (filter (λ row. same_name row.table.name name) rows)) + total (count_under (row ∷ rows)) names
        ≡ length (cond b (name ∷ filter (λ name. same_name row.table.name name) names)
        (filter (λ name. same_name row.table.name name) names))
        + (count_under rows name + total (count_under rows) names)
    by true rest = omega (arith, rest)
    by false rest = omega (arith, rest)

few_counted : (rows : List OpeningRow) (names : List Name)
    → Pairs (λ name other. same_name name other ≡ false) names → total (count_under rows) names ≤ length rows
few_counted [] names apart = let none = none_counted names in omega (arith, none)
few_counted (row ∷ rows) names apart =
    let rest = few_counted rows names apart in
    let one = once row.table.name names apart in
    let all = one_more row rows names in
    omega (arith, rest, one, all)

pub few_rows : (opening : Opening) → length (told_opening opening).rows ≤ length opening.rows
few_rows opening =
    let shown = few_shown opening (names_by_bytes opening) in
    let counted = few_counted opening.rows (names_by_bytes opening) (names_apart opening) in
    omega (arith, shown, counted)
