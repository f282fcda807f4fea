-- How a lock table keeps its uses: for each table, by key, its holders.
use Rattle.std.specs.Prelude.{◌≡◌, ℕ, ◌<◌, ◌≤◌, ◌==◌, Bool, not, List, [], length, map, slice_index_or, AllPairs}
use Rattle.std.specs.List.{flat_map, list_any}
use Rattle.std.specs.Ordering.{nat_cmp}
use Rattle.std.specs.Cmp.Lexicographic.{slice_cmp}
use Rattle.std.specs.declared.cmp.Ordering.TheVariants.{Less}
use Rattle.std.specs.FinSet as set
use Rattle.ent_lock.specs.declared.holders.Holder.{Holder}
use Rattle.ent_lock.specs.declared.table_uses.TableUses.{TableUses}
use Rattle.ent_lock.specs.Use.{Use, Uses}

-- the uses of one table
abbrev pub uses_in : List ℕ → List Holder → List Use
uses_in table holders = map (λ h. record { holder = h.holder; table = table; mode = h.mode }) holders

-- the uses of all tables
abbrev pub held_in : {T : Type 0} → (T → List ℕ) → List (TableUses T) → Uses
held_in key tables = set.from_list (flat_map (λ t. uses_in (key t.table) t.holders.items) tables)

abbrev pub keys_of : {T : Type 0} → (T → List ℕ) → List (TableUses T) → List (List ℕ)
keys_of key tables = map (λ t. key t.table) tables

-- each key comes once, in order
abbrev pub IsByKey : {T : Type 0} → (T → List ℕ) → List (TableUses T) → Type 0
IsByKey key tables = AllPairs (λ a b. slice_cmp nat_cmp a b ≡ Less) (keys_of key tables)

-- a key's place
abbrev pub key_at : {T : Type 0} → (T → List ℕ) → List (TableUses T) → ℕ → List ℕ
key_at key tables i = slice_index_or (keys_of key tables) i []

-- the table with this key stands at place i
pub record IsAt {T : Type 0} (key : T → List ℕ) (tables : List (TableUses T)) (table : List ℕ) (i : ℕ) : Type 0 where
  pub in_range : i < length tables
  pub has_key : key_at key tables i ≡ table

-- the table would go at place i: lower keys before it, and higher ones from it on
pub record IsGapFor {T : Type 0} (key : T → List ℕ) (tables : List (TableUses T)) (table : List ℕ) (i : ℕ)
    : Type 0 where
  pub in_range : i ≤ length tables
  pub lower_before : (j : ℕ) → j < i → slice_cmp nat_cmp (key_at key tables j) table ≡ Less
  pub higher_after : (j : ℕ) → i ≤ j → j < length tables → slice_cmp nat_cmp table (key_at key tables j) ≡ Less

-- a use of none of these transactions
abbrev pub is_use_of_none : List ℕ → Use → Bool
is_use_of_none members u = not (list_any (λ m. m == u.holder) members)
