-- Rows that can't be the row of a source.
use Rattle.std.specs.Prelude.{◌≡◌, ◌+◌, ◌-◌, ◌||◌, ℕ, Bool, true, false, not, List, [], ◌∷◌, length, Option, Some, None}
use Rattle.std.specs.Prelude.{nat_lt, slice_get, slice_index_or, if◌then◌else◌}
use Rattle.std.specs.List.{AllByRecursion, list_any}
use Rattle.std.specs.Ordering.{eq_by_cmp}
use Rattle.ent_lists.specs.Sets as set
use Rattle.ent_value.specs.Value.{value_cmp}
use Rattle.ent_value.specs.declared.value.Value.{Value}
use Rattle.ent_tree.specs.declared.operand.Test.{Test}
use Rattle.ent_semantics.specs.Form.{Tables}
use Rattle.ent_semantics.specs.Selection.{compares}
use Rattle.ent_semantics.specs.declared.entangled.Entangled.{Entangled}
use Rattle.ent_semantics.specs.declared.entangled.Membership.{Membership}
use Rattle.ent_semantics.specs.declared.entangled.Term.{Term}
use Rattle.ent_semantics.specs.declared.entangled.Term.TheVariants as terms
use Rattle.ent_semantics.specs.declared.operand.Operand.{Operand}
use Rattle.ent_semantics.specs.declared.operand.Operand.TheVariants as operands

-- a table has a row
abbrev pub has_row : Tables → ℕ → List Value → Bool
has_row tables table row = set.contains (slice_index_or tables table set.empty) row

-- the rows of each table have so many values
abbrev pub HasWidths : List ℕ → Tables → Type 0
HasWidths widths tables =
    (table : ℕ) (row : List Value) → has_row tables table row ≡ true → length row ≡ slice_index_or widths table 0

-- What an operand is worth, as far as the row of one source says it. The columns of that source have the numbers from
-- `first` on. None: it is a column of another source.
abbrev pub own_value : ℕ → List Value → Operand Value → Option Value
own_value first row (operands.Known value) = Some value
own_value first row (operands.Column number) =
    if nat_lt number first then None else slice_get row (number - first)

-- the row decides a test, and it fails
abbrev pub refutes : ℕ → List Value → Test (Operand Value) → Bool
refutes first row test = fails (own_value first row test.left) (own_value first row test.right)
  where
    fails : Option Value → Option Value → Bool
    fails (Some left) (Some right) = not (compares test.comparison (value_cmp left right))
    fails left right = false

-- a constant of the tuple differs from what the row shows at its place
abbrev pub differs_at : Option Value → Term Value → Bool
differs_at (Some shown) (terms.Known value) = not (eq_by_cmp value_cmp shown value)
differs_at shown term = false

-- one of them does
abbrev pub differs : ℕ → List Value → List (Operand Value) → List (Term Value) → Bool
differs first row [] tuple = false
differs first row (item ∷ items) [] = false
differs first row (item ∷ items) (term ∷ tuple) =
    differs_at (own_value first row item) term || differs first row items tuple

-- the row can't be that of the source whose columns begin at this number
abbrev pub is_ruled_out : Membership Value → ℕ → List Value → Bool
is_ruled_out membership first row =
    list_any (refutes first row) membership.select.tests
    || differs first row membership.select.items membership.terms

-- each new row is ruled out for each of these sources, whose columns begin at this number
abbrev pub SleepsFrom : List ℕ → Tables → Tables → Membership Value → ℕ → List ℕ → Type 0
SleepsFrom widths old new membership first [] = Unit {0}
SleepsFrom widths old new membership first (table ∷ more) =
    ((row : List Value) → has_row new table row ≡ true → has_row old table row ≡ false
    → is_ruled_out membership first row ≡ true)
    × SleepsFrom widths old new membership (first + slice_index_or widths table 0) more

-- and for every source of every sub-select of a statement
abbrev pub Sleeps : List ℕ → Tables → Tables → Entangled Value → Type 0
Sleeps widths old new statement =
    AllByRecursion (λ membership. SleepsFrom widths old new membership 0 membership.select.sources) statement.atoms
