-- What a DELETE and an UPDATE make of the rows of a table.
use Rattle.std.specs.Prelude.{Bool, not, List, [], ◌∷◌, Option, Some, None, is_some, if◌then◌else◌}
use Rattle.std.specs.List.{list_all, filter_map}
use Rattle.std.specs.Option.{option_and_then, option_map}
use Rattle.ent_lists.specs.Sets as set
use Rattle.ent_value.specs.declared.value.Value.{Value}
use Rattle.ent_tree.specs.declared.operand.Operand.{Operand}
use Rattle.ent_tree.specs.declared.statement.Assignment.{Assignment}
use Rattle.ent_semantics.specs.Database.{Rows, same_name}
use Rattle.ent_semantics.specs.Term.{Worth, SourceColumn, expression_value}

-- the rows that match
abbrev pub matched : (List Value → Bool) → Rows → Rows
matched matches rows = set.retain rows matches

-- the rows that don't
abbrev pub unmatched : (List Value → Bool) → Rows → Rows
unmatched matches rows = set.retain rows (λ row. not (matches row))

-- The rows that don't match together with the images of those that do. Nothing where a row that matches has no image.
abbrev pub updated : (List Value → Bool) → (List Value → Option (List Value)) → Rows → Option Rows
updated matches image rows =
    let old = set.ascending (matched matches rows) in
    if list_all (λ row. is_some (image row)) old
    then Some (set.insert_all (unmatched matches rows) (filter_map image old))
    else None

-- the values of a list, where there is each of them
abbrev pub all_there : {A : Type 0} → List (Option A) → Option (List A)
all_there [] = Some []
all_there (x ∷ xs) = option_and_then (λ value. option_map (λ values. value ∷ values) (all_there xs)) x

-- the value that assignments give to a column of a row: the one that it has, where none names the column
abbrev pub assigned_value : (Operand → Value) → List Assignment → SourceColumn → Value → Option Value
assigned_value worth [] column value = Some value
assigned_value worth (assignment ∷ more) column value =
    if same_name assignment.column.name column.column
    then expression_value worth assignment.expression
    else assigned_value worth more column value

-- the values that assignments give to the columns of a row, whose operands are worth this
abbrev pub assigned_values : (Operand → Value) → List Assignment → List SourceColumn → List Value → List (Option Value)
assigned_values worth assignments [] row = []
assigned_values worth assignments (column ∷ columns) [] = []
assigned_values worth assignments (column ∷ columns) (value ∷ values) =
    assigned_value worth assignments column value ∷ assigned_values worth assignments columns values

-- A row with the assigned columns changed, all expressions being over the row as it was. Nothing where one is beyond
-- 64 bits.
abbrev pub image : Worth Operand → List Assignment → List SourceColumn → List Value → Option (List Value)
image worth assignments columns row = all_there (assigned_values (worth row) assignments columns row)
