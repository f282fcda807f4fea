-- What the calls on a table mean, on finite sets of rows.
use Rattle.std.specs.Prelude.{ℕ, Bool, List, [], ◌∷◌, Result, Ok, not, if◌then◌else◌}
use Rattle.ent_lists.specs.Sets as set
use Rattle.ent_value.specs.Refusal.{◌>>=◌}
use Rattle.ent_value.specs.declared.value.Value.{Value}
use Rattle.ent_rel.specs.Relation.{RowSet, bounded}
use Rattle.ent_rel.specs.declared.fault.TableFull.{TableFull}

-- the rows after a change that takes some out and puts others in
abbrev pub changed_rows : RowSet → List (List Value) → List (List Value) → RowSet
changed_rows rows removed added = set.insert_all (set.without_all rows removed) added

-- the rows after a change; a full table where they would be too many
abbrev pub application : RowSet → List (List Value) → List (List Value) → Result RowSet TableFull
application rows removed added = let after = changed_rows rows removed added in bounded after after

-- the union with one row, and how many rows are new; a full table where the rows would be too many
abbrev pub insertion : RowSet → List Value → Result (ℕ × RowSet) TableFull
insertion rows row =
    let after = set.insert rows row in
    bounded after ((if set.contains rows row then 0 else 1), after)

-- the rows that do not match, and how many match
abbrev pub deletion : RowSet → (List Value → Bool) → ℕ × RowSet
deletion rows test = (set.len (set.retain rows test), set.retain rows (λ row. not (test row)))

-- the images of rows in their order, or the fault of the first that has none
abbrev pub images_of : {E : Type 0} → (List Value → Result (List Value) E) → List (List Value)
    → Result (List (List Value)) E
images_of image [] = Ok []
images_of image (row ∷ rows) = image row >>= λ new. images_of image rows >>= λ others. Ok (new ∷ others)

-- The rows that do not match together with the images of those that do, and how many match; or the fault of the first
-- row, in ascending order, that matches and has none. No more rows stand then than before.
abbrev pub replacement : {E : Type 0} → RowSet → (List Value → Bool) → (List Value → Result (List Value) E)
    → Result (ℕ × RowSet) E
replacement rows test image =
    let matched = set.retain rows test in
    images_of image (set.ascending matched) >>= λ images.
    Ok (set.len matched, set.insert_all (set.retain rows (λ row. not (test row))) images)
