-- Elements at their places.
use Rattle.std.proofs.Common.{◌≡◌, ◌<◌, ◌≤◌, ℕ, zero, suc, List, [], ◌∷◌, length, map, set, get_or, refl, sym, ap, ◌∙◌}
use Rattle.std.proofs.Common.{arith, Some, None}
use Rattle.std.specs.Prelude.{slice_get, slice_index_or}
use Rattle.ent_lists.specs.Sets as set
use Rattle.ent_tree.specs.declared.declaration.Create.{Create}
use Rattle.ent_rel.specs.Relation.{Relation}
use Rattle.ent_ordinary.specs.Tables.{kinds_in, no_table, rows_in}
use Rattle.ent_protocol.specs.Member.{declared_kinds, seen_now}
use Rattle.ent_protocol.specs.State.{Use}
use Rattle.ent_tables.specs.AtNumber.{seen_at, seen_in}
use Rattle.ent_tables.specs.Stored.{kinds_declared}

-- what stands at a place, or in its stead, seen by f
pub index_map : {A B : Type 0} (f : A → B) (xs : List A) (i : ℕ) (d : A)
    → slice_index_or (map f xs) i (f d) ≡ f (slice_index_or xs i d)
index_map f [] i d = refl
index_map f (x ∷ xs) zero d = refl
index_map f (x ∷ xs) (suc i) d = index_map f xs i d

-- a place that is there, seen by f and then by g
pub there_at : {A B C : Type 0} (f : A → B) (g : B → C) (xs : List A) (i : ℕ) (x : A) → i < length xs
    → x ≡ get_or xs i x
    → Some (g (f x)) ≡ slice_get (map g (map f xs)) i
there_at f g [] i x lt is = absurd (omega arith)
there_at f g (y ∷ xs) zero x lt is = ap (λ z. Some (g (f z))) is
there_at f g (y ∷ xs) (suc i) x lt is = there_at f g xs i x (omega arith) is

pub past_all : {A B C : Type 0} (f : A → B) (g : B → C) (xs : List A) (i : ℕ) → length xs ≤ i
    → None ≡ slice_get (map g (map f xs)) i
past_all f g [] i past = refl
past_all f g (y ∷ xs) zero past = absurd (omega arith)
past_all f g (y ∷ xs) (suc i) past = past_all f g xs i (omega arith)

-- a place that is written with what stands there
pub set_there : {A : Type 0} (xs : List A) (i : ℕ) (x : A) → slice_get xs i ≡ Some x → set xs i x ≡ xs
set_there [] i x is = refl
set_there (y ∷ xs) zero x is = let e : y ≡ x = cc in ap (λ z. z ∷ xs) (sym e)
set_there (y ∷ xs) (suc i) x is = ap (λ zs. y ∷ zs) (set_there xs i x is)

-- ---- tables as uses name them

pub seen_is : (declared : List Create) (tables : List Relation) (uses : List Use)
    → kinds_declared declared ≡ kinds_in tables
    → seen_in tables uses ≡ seen_now declared (rows_in tables) uses
seen_is declared tables [] is = refl
seen_is declared tables (own ∷ uses) is =
    let kinds : (slice_index_or tables own.table no_table).kinds ≡ declared_kinds declared own.table =
    sym (index_map (λ (t : Relation). t.kinds) tables own.table no_table) ∙ ap (λ all. slice_index_or all own.table [])
    (sym is) in
    let rows = sym (index_map (λ (t : Relation). t.rows) tables own.table no_table) in
    let first : seen_at tables own.table ≡ record {
      table = own.table;
      kinds = declared_kinds declared own.table;
      rows = slice_index_or (rows_in tables) own.table set.empty;
    } = λ i. record { table = own.table; kinds = kinds i; rows = rows i } in
    let rest = seen_is declared tables uses is in
    λ i. first i ∷ rest i
