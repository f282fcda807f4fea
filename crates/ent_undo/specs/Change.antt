-- Tables as they stood before transactions changed them, and what a rollback makes of them.
use Rattle.std.specs.Prelude.{ℕ, ◌==◌, ◌&&◌, Bool, not, List, [], ◌∷◌, map, filter, find, slice_set, refl}
use Rattle.std.specs.List.{list_any, enumerate_from}
use Rattle.std.specs.Option.{option_map_or}
use Rattle.std.specs.Coded.{Coded, code_by, coded×, coded_ℕ, coded_list}
use Rattle.ent_rel.specs.Relation.{Relation, coded_relation}

-- a transaction changed a table, which stood so before
pub record Change : Type 0 where
  pub tx : ℕ
  pub table : ℕ
  pub before : Relation

-- a transaction is one of these
abbrev pub is_among : List ℕ → ℕ → Bool
is_among members tx = list_any (λ member. member == tx) members

abbrev pub is_of : List ℕ → Change → Bool
is_of members change = is_among members change.tx

abbrev pub is_of_others : List ℕ → Change → Bool
is_of_others members change = not (is_of members change)

-- the changes by others than these transactions, in their order
abbrev pub of_others : List ℕ → List Change → List Change
of_others members changes = filter (is_of_others members) changes

-- one of these transactions changed that table
abbrev pub is_change_of : List ℕ → ℕ → Change → Bool
is_change_of members table change = is_of members change && (change.table == table)

-- a table as it stood before the first of these transactions' changes of it; as it is, where they made none
abbrev pub before_first_change : List ℕ → List Change → ℕ → Relation → Relation
before_first_change members changes table present =
    option_map_or (λ change. change.before) (find (is_change_of members table) changes) present

-- each of the tables as it stood before the first of these transactions' changes of it
abbrev pub rolled_back : List ℕ → List Change → List Relation → List Relation
rolled_back members changes tables = map (λ p. before_first_change members changes p.0 p.1) (enumerate_from 0 tables)

-- changes put back one after the other, the newest first
abbrev pub put_back : List Change → List Relation → List Relation
put_back [] tables = tables
put_back (change ∷ later) tables = slice_set (put_back later tables) change.table change.before

-- how changes are stored as numbers
abbrev pub coded_changes : Coded (List Change)
coded_changes =
    coded_list (code_by (ℕ × (ℕ × Relation)) (coded× coded_ℕ (coded× coded_ℕ coded_relation))
    (λ c. (c.tx, (c.table, c.before))) (λ p. record { tx = p.0; table = p.1.0; before = p.1.1 }) (λ _. refl))
