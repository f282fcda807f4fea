-- Classes of which no value is in all indexes that have that class and no other.
use Rattle.std.specs.Prelude.{◌==◌, ℕ, Bool, true, false, not, List, [], ◌∷◌, if◌then◌else◌}
use Rattle.std.specs.List.{list_all, list_any}
use Rattle.ent_value.specs.declared.value.Value.{Value}
use Rattle.ent_join.specs.Index.{Indexed, begins_so}

-- some classes are this one and no other
abbrev pub is_alone : ℕ → List ℕ → Bool
is_alone class [] = false
is_alone class (other ∷ []) = other == class
is_alone class (other ∷ another ∷ classes) = false

-- an index of a class alone has a row with the value of a key of one value
abbrev pub may_have : ℕ → List Value → Indexed → Bool
may_have class key index =
    if is_alone class index.classes then list_any (begins_so key (0 ∷ [])) index.rows else true

-- the first of some indexes that is of a class alone has no value that all have
abbrev pub is_empty_domain : List Indexed → ℕ → List Indexed → Bool
is_empty_domain indexes class [] = false
is_empty_domain indexes class (leader ∷ leaders) =
    if is_alone class leader.classes
    then not (list_any (λ key. list_all (may_have class key) indexes) leader.rows)
    else is_empty_domain indexes class leaders
