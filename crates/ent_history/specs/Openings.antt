-- How the line of a table of the opening is read, and which lines there are.
use Rattle.std.specs.Prelude.{◌==◌, ◌&&◌, ℕ, Bool, true, not, List, [], ◌∷◌, ◌++◌, length, Result, Ok}
use Rattle.std.specs.Prelude.{codes}
use Rattle.std.specs.Prelude.{slice_index, if◌then◌else◌}
use Rattle.std.specs.List.{list_any}
use Rattle.std.specs.Fmt.{decimal}
use Rattle.ent_value.specs.Refusal.{◌>>=◌}
use Rattle.ent_value.specs.declared.value.Kind.{Kind}
use Rattle.ent_value.specs.declared.value.Kind.TheVariants as kinds
use Rattle.ent_tree.specs.declared.declaration.Column.{Column}
use Rattle.ent_tree.specs.declared.declaration.Create.{Create}
use Rattle.ent_semantics.specs.Database.{Name, same_name}
use Rattle.ent_book.specs.Report2.{columns_text}
use Rattle.ent_text.specs.declared.line_fault.LineFault.{LineFault}
use Rattle.ent_text.specs.Pieces.{Read, behind, number_at, wanted}
use Rattle.ent_history.specs.Listing.{listed_at, with_one}
use Rattle.ent_history.specs.Names.{name_at}

-- ---- columns

-- the first letter tells
unfoldable pub kind_at : List ℕ → Read Kind
kind_at bytes =
    if slice_index bytes 0 == 73 then (behind (codes "INT") bytes >>= λ rest. Ok (kinds.Int, rest))
    else (behind (codes "TEXT") bytes >>= λ rest. Ok (kinds.Text, rest))

abbrev pub column_of : Name → Kind → Column
column_of name kind = record { name = record { name = name; place = 0 }; kind = kind }

unfoldable pub column_at : List ℕ → Read Column
column_at bytes =
    name_at bytes >>= λ name. behind (codes " ") name.1 >>= λ rest. kind_at rest >>= λ kind.
    Ok (column_of name.0 kind.0, kind.1)

-- a column behind a comma and a space
unfoldable pub next_column_at : List ℕ → Read Column
next_column_at bytes = behind (codes ", ") bytes >>= λ rest. column_at rest

-- one of these columns has this name
abbrev pub is_among : Name → List Column → Bool
is_among name columns = list_any (λ column. same_name column.name.name name) columns

-- no column has the name of one behind it
abbrev pub are_distinct : List Column → Bool
are_distinct [] = true
are_distinct (column ∷ more) = not (is_among column.name.name more) && are_distinct more

-- columns, 1 to 16
unfoldable pub columns_at : List ℕ → Read (List Column)
columns_at bytes = column_at bytes >>= λ column. with_one column.0 (listed_at 44 next_column_at 15 column.1)

-- ---- the line

abbrev pub create_of : Name → List Column → Create
create_of name columns = record { name = record { name = name; place = 0 }; columns = columns }

unfoldable pub opening_at : List ℕ → Result (Create × ℕ) LineFault
opening_at line =
    behind (codes "opening ") line >>= λ rest. name_at rest >>= λ name. behind (codes " (") name.1 >>= λ rest.
    columns_at rest >>= λ columns. behind (codes ") ") columns.1 >>= λ rest. number_at rest >>= λ count.
    wanted ((length count.1 == 0) && are_distinct columns.0) (create_of name.0 columns.0, count.0)

-- a table's name, its columns, and how many rows follow, without the end of the line
abbrev pub opening_text : Create → ℕ → List ℕ
opening_text create count =
    codes "opening "
    ++ (create.name.name ++ (codes " (" ++ (columns_text create.columns ++ (codes ") " ++ decimal count))))
