-- Which rows stand after a change, row by row.
use Rattle.std.specs.Prelude.{◌≡◌, ℕ, Bool, List, Result, Ok, IsTrue, IsFalse, Contains, ◌↔◌, ◌⊎◌}
use Rattle.ent_lists.specs.Sets as set
use Rattle.ent_value.specs.declared.value.Value.{Value}
use Rattle.ent_rel.specs.Relation.{RowSet}
use Rattle.ent_rel.specs.Change.{changed_rows, insertion, deletion, replacement}

-- after an insertion: the new row, and those that stood
abbrev pub InsertsOne : Type 0
InsertsOne = (rows after : RowSet) (row : List Value) (count : ℕ) → insertion rows row ≡ Ok (count, after)
    → (q : List Value) → IsTrue (set.contains after q) ↔ ((q ≡ row) ⊎ IsTrue (set.contains rows q))

-- after a deletion: those that stood and do not match
abbrev pub DeletesMatches : Type 0
DeletesMatches = (rows : RowSet) (test : List Value → Bool)
    → (q : List Value)
    → IsTrue (set.contains (deletion rows test).1 q) ↔ (IsTrue (set.contains rows q) × IsFalse (test q))

-- a row is the image of a row that stood and matches
abbrev pub IsImage : {E : Type 0} → RowSet → (List Value → Bool) → (List Value → Result (List Value) E) → List Value
    → Type 0
IsImage rows test image q = (old : List Value) × IsTrue (set.contains rows old) × IsTrue (test old) × (image old ≡ Ok q)

-- after a replacement: those that stood and do not match, and the images of those that match
abbrev pub ReplacesMatches : Type 0 → Type 0
ReplacesMatches E =
    (rows after : RowSet) (test : List Value → Bool) (image : List Value → Result (List Value) E) (count : ℕ)
    → replacement rows test image ≡ Ok (count, after)
    → (q : List Value) → IsTrue (set.contains after q)
    ↔ (IsImage rows test image q ⊎ (IsTrue (set.contains rows q) × IsFalse (test q)))

-- after any change: the added rows, and those that stood and were not removed
abbrev pub ChangesRows : Type 0
ChangesRows = (rows : RowSet) (removed added : List (List Value))
    → (q : List Value) → IsTrue (set.contains (changed_rows rows removed added) q)
    ↔ (Contains added q ⊎ (IsTrue (set.contains rows q) × (Contains removed q → ⊥)))
