-- What is put back, table by table.
use Rattle.std.proofs.Common.{◌≡◌, ◌⊎◌, ◌<◌, ℕ, zero, suc, ◌==◌, Bool, true, false, cond, List, [], ◌∷◌, length}
use Rattle.std.proofs.Common.{refl, sym, ap}
use Rattle.std.proofs.Common.{◌∙◌, inl, inr, arith, slice_index_or, slice_set}
use Rattle.std.specs.List.{AllByRecursion, filter}
use Rattle.std.proofs.lemmas.List.{get_or-set_same, get_or-set_other, length-set}
use Rattle.ent_lists.specs.Sets as set
use Rattle.ent_tree.specs.declared.declaration.Create.{Create}
use Rattle.ent_semantics.specs.Database.{Name, Rows, same_name}
use Rattle.ent_semantics.specs.Form.{Tables}
use Rattle.ent_form.specs.Tables.{database_of, AreWide}
use Rattle.ent_protocol.specs.Rollback.{put_back}
use Rattle.ent_protocol.specs.State.{Change}
use Rattle.ent_protocol_laws.specs.Faithful.{table_number}
use Rattle.ent_lists.specs.Elements.{In, clash, same_number, differ}

-- ---- the rows of a table

abbrev pub at_number : Tables → ℕ → Rows
at_number tables number = slice_index_or tables number set.empty

pub set_at : (tables : Tables) (table number : ℕ) (rows : Rows) → number < length tables
    → at_number (slice_set tables table rows) number ≡ cond (table == number) rows (at_number tables number)
set_at tables table number rows low = by (table == number) refl
  where
    by : (b : Bool) → (table == number) ≡ b
        → at_number (slice_set tables table rows) number ≡ cond b rows (at_number tables number)
    by true is =
        let same = same_number table number is in
        ap (λ (n : ℕ). at_number (slice_set tables n rows) number) same
        ∙ get_or-set_same tables number rows set.empty low
    by false is = get_or-set_other tables table number rows set.empty (λ same. differ table number is (sym same))

-- a table that isn't the one that is set
pub set_elsewhere : (tables : Tables) (table number : ℕ) (rows : Rows) → (table == number) ≡ false
    → at_number (slice_set tables table rows) number ≡ at_number tables number
set_elsewhere tables table number rows is =
    get_or-set_other tables table number rows set.empty (λ same. differ table number is (sym same))

-- the rows that changes put back in a table that has these
abbrev pub back : ℕ → List Change → Rows → Rows
back number [] rows = rows
back number (change ∷ more) rows = back number more (cond (change.table == number) change.before rows)

pub put_length : (changes : List Change) (tables : Tables) → length (put_back changes tables) ≡ length tables
put_length [] tables = refl
put_length (change ∷ more) tables =
    put_length more (slice_set tables change.table change.before) ∙ length-set tables change.table change.before

pub put_at : (changes : List Change) (tables : Tables) (number : ℕ) → number < length tables
    → at_number (put_back changes tables) number ≡ back number changes (at_number tables number)
put_at [] tables number low = refl
put_at (change ∷ more) tables number low =
    put_at more (slice_set tables change.table change.before) number
    (longer (length (slice_set tables change.table change.before)) (length tables)
    (length-set tables change.table change.before) low)
    ∙ ap (back number more) (set_at tables change.table number change.before low)
  where
    longer : (m n : ℕ) → m ≡ n → number < n → number < m
    longer m n e low = omega (arith, e, low)

module _ (p : Change → Bool) (number : ℕ) where
  -- each change of the table passes
  pub back_all : (changes : List Change) (rows : Rows)
      → ((change : Change) → In change changes → change.table ≡ number → p change ≡ true)
      → back number (filter p changes) rows ≡ back number changes rows
  back_all [] rows all = refl
  back_all (change ∷ more) rows all =
      by (p change) refl (change.table == number) refl (λ r. back_all more r (λ c at. all c (inr at)))
    where
      by : (b : Bool) → p change ≡ b → (h : Bool) → (change.table == number) ≡ h
          → ((r : Rows) → back number (filter p more) r ≡ back number more r)
          → back number (cond b (change ∷ filter p more) (filter p more)) rows
          ≡ back number more (cond h change.before rows)
      by true is h at rest =
          ap (λ b. back number (filter p more) (cond b change.before rows)) at ∙ rest (cond h change.before rows)
      by false is false at rest = rest rows
      by false is true at rest = clash (p change) (all change (inl refl) (same_number change.table number at)) is

  -- none does
  pub back_none : (changes : List Change) (rows : Rows)
      → ((change : Change) → In change changes → change.table ≡ number → p change ≡ false)
      → back number (filter p changes) rows ≡ rows
  back_none [] rows all = refl
  back_none (change ∷ more) rows all =
      by (p change) refl (change.table == number) refl (back_none more rows (λ c at. all c (inr at)))
    where
      by : (b : Bool) → p change ≡ b → (h : Bool) → (change.table == number) ≡ h
          → back number (filter p more) rows ≡ rows
          → back number (cond b (change ∷ filter p more) (filter p more)) rows ≡ rows
      by false is h at rest = rest
      by true is false at rest =
          ap (λ b. back number (filter p more) (cond b change.before rows)) at ∙ rest
      by true is true at rest = clash (p change) is (all change (inl refl) (same_number change.table number at))

-- ---- tables under their names

pub wide_length : (creates : List Create) (tables : Tables) → AreWide creates tables → length tables ≡ length creates
wide_length [] [] wide = refl
wide_length [] (rows ∷ tables) wide = absurd wide
wide_length (create ∷ more) [] wide = absurd wide
wide_length (create ∷ more) (rows ∷ tables) wide = ap suc (wide_length more tables wide.1)

-- the rows of a name are those of its table
pub named_at : (creates : List Create) (tables : Tables) (name : Name) → length tables ≡ length creates
    → database_of creates tables name ≡ at_number tables (table_number creates name)
named_at [] [] name same = refl
named_at [] (rows ∷ tables) name same = absurd (omega (arith, same))
named_at (create ∷ more) [] name same = absurd (omega (arith, same))
named_at (create ∷ more) (rows ∷ tables) name same =
    by (same_name create.name.name name) (named_at more tables name (omega (arith, same)))
  where
    by : (b : Bool) → database_of more tables name ≡ at_number tables (table_number more name)
        → cond b rows (database_of more tables name)
        ≡ at_number (rows ∷ tables) (cond b 0 (suc (table_number more name)))
    by true rest = refl
    by false rest = rest

-- a name is declared, or has no rows in any tables
pub declared_or_empty : (creates : List Create) (name : Name)
    → (table_number creates name < length creates) ⊎ ((tables : Tables) → database_of creates tables name ≡ set.empty)
declared_or_empty [] name = inr (λ tables. refl)
declared_or_empty (create ∷ more) name = by (same_name create.name.name name) refl (declared_or_empty more name)
  where
    by : (b : Bool) → same_name create.name.name name ≡ b
        → (table_number more name < length more) ⊎ ((tables : Tables) → database_of more tables name ≡ set.empty)
        → (cond b 0 (suc (table_number more name)) < suc (length more))
        ⊎ ((tables : Tables) → database_of (create ∷ more) tables name ≡ set.empty)
    by true is rest = inl (omega arith)
    by false is (inl low) = inl (omega (arith, low))
    by false is (inr none) = inr each
      where
        each : (tables : Tables) → database_of (create ∷ more) tables name ≡ set.empty
        each [] = refl
        each (rows ∷ tables) = ap (λ b. cond b rows (database_of more tables name)) is ∙ none tables

-- ---- rows of the declared width

abbrev pub Fits : List Create → ℕ → Rows → Type 0
Fits [] number rows = Unit {0}
Fits (create ∷ more) zero rows = AllByRecursion (λ row. length row ≡ length create.columns) (set.ascending rows)
Fits (create ∷ more) (suc number) rows = Fits more number rows

pub wide_at : (creates : List Create) (tables : Tables) (number : ℕ) → AreWide creates tables
    → Fits creates number (at_number tables number)
wide_at [] tables number wide = tt
wide_at (create ∷ more) [] number wide = absurd wide
wide_at (create ∷ more) (rows ∷ tables) zero wide = wide.0
wide_at (create ∷ more) (rows ∷ tables) (suc number) wide = wide_at more tables number wide.1

pub wide_set : (creates : List Create) (tables : Tables) (number : ℕ) (rows : Rows) → AreWide creates tables
    → Fits creates number rows → AreWide creates (slice_set tables number rows)
wide_set [] [] number rows wide fits = wide
wide_set [] (first ∷ tables) number rows wide fits = absurd wide
wide_set (create ∷ more) [] number rows wide fits = absurd wide
wide_set (create ∷ more) (first ∷ tables) zero rows wide fits = (fits, wide.1)
wide_set (create ∷ more) (first ∷ tables) (suc number) rows wide fits =
    (wide.0, wide_set more tables number rows wide.1 fits)

abbrev pub WasWide : List Create → Change → Type 0
WasWide creates change = Fits creates change.table change.before

pub wide_back : (creates : List Create) (changes : List Change) (tables : Tables) → AreWide creates tables
    → AllByRecursion (WasWide creates) changes → AreWide creates (put_back changes tables)
wide_back creates [] tables wide all = wide
wide_back creates (change ∷ more) tables wide all =
    wide_back creates more (slice_set tables change.table change.before)
    (wide_set creates tables change.table change.before wide all.0) all.1
