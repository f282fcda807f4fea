-- Steps of the loops that look for a name that is declared twice.
use Rattle.std.proofs.Common.{◌≡◌, ℕ, ◌+◌, ◌<◌, Bool, true, false, List, [], ◌∷◌, ◌++◌, length, map, take, drop, get_or}
use Rattle.std.proofs.Common.{Some, None, sym, ap, ◌∙◌}
use Rattle.std.specs.List.{list_any}
use Rattle.std.proofs.lemmas.List.{at_drop_more, map_more}
use Rattle.ent_lists.specs.Laws.{any_map}
use Rattle.ent_tree.specs.declared.declaration.Column.{Column}
use Rattle.ent_tree.specs.declared.declaration.Create.{Create}
use Rattle.ent_semantics.specs.Database.{Name, same_name}
use Rattle.ent_form.specs.declared.fault.FormFault.{FormFault}
use Rattle.ent_form.specs.declared.fault.FormFault.TheVariants.{Repeated}
use Rattle.ent_form.specs.OpeningFault.{Check, ◌before◌, refused_where, repeated, declarations_fault}

abbrev column_name : Column → Name
column_name column = column.name.name

abbrev table_name : Create → Name
table_name table = table.name.name

-- the fault of the columns that are left, behind those before
abbrev columns_left : List Column → ℕ → List Column → Check
columns_left columns i rest = repeated (map column_name (take i columns)) (map (λ column. column.name) rest)

-- the same, at its first column
abbrev column_first : List Column → ℕ → Column → Bool → Check
column_first columns i column test =
    refused_where test (Repeated column.name.place) before repeated
    (map column_name (take i columns) ++ column_name column ∷ [])
    (map (λ column. column.name) (drop (i + 1) columns))

at_column : (columns : List Column) (i : ℕ) (column : Column) (test : Bool) → i < length columns → column
    ≡ get_or columns i column → test ≡ list_any (λ other. same_name other.name.name column.name.name) (take i columns)
    → columns_left columns i (drop i columns) ≡ column_first columns i column test
at_column columns i column test h is e =
    at_drop_more (columns_left columns i) columns i column h
    ∙ ap (λ (x : Column). columns_left columns i (x ∷ drop (i + 1) columns)) (sym is)
    ∙ ap (column_first columns i column) (any_map (λ other. same_name other (column_name column)) column_name
    (take i columns) ∙ sym e)

pub column_again : (columns : List Column) (i : ℕ) (column : Column) (test : Bool) (total : Check) → i < length columns
    → column ≡ get_or columns i column → test ≡ list_any (λ other. same_name other.name.name column.name.name)
    (take i columns) → test ≡ true
    → repeated (map (λ column. column.name.name) (take i columns)) (map (λ column. column.name) (drop i columns))
    ≡ total → Some (Repeated column.name.place) ≡ total
column_again columns i column test total h is e found so =
    ap (column_first columns i column) (sym found) ∙ sym (at_column columns i column test h is e) ∙ so

pub column_new : (columns : List Column) (i : ℕ) (column : Column) (test : Bool) (total : Check) → i < length columns
    → column ≡ get_or columns i column → test ≡ list_any (λ other. same_name other.name.name column.name.name)
    (take i columns) → test ≡ false
    → repeated (map (λ column. column.name.name) (take i columns)) (map (λ column. column.name) (drop i columns))
    ≡ total → repeated (map (λ column. column.name.name) (take (i + 1) columns))
    (map (λ column. column.name) (drop (i + 1) columns)) ≡ total
column_new columns i column test total h is e none so =
    ap (λ names. repeated names (map (λ column. column.name) (drop (i + 1) columns)))
    (map_more column_name columns i column h ∙ ap (λ (x : Column). map column_name (take i columns) ++ column_name
    x ∷ []) (sym is))
    ∙ ap (column_first columns i column) (sym none) ∙ sym (at_column columns i column test h is e) ∙ so

-- the fault of the tables that are left, behind those before
abbrev tables_left : List Create → ℕ → List Create → Check
tables_left tables i rest = declarations_fault (map table_name (take i tables)) rest

-- the same, at its first table
abbrev table_first : List Create → ℕ → Create → Bool → Check → Check
table_first tables i table test inside =
    refused_where test (Repeated table.name.place) before inside before declarations_fault
    (map table_name (take i tables) ++ table_name table ∷ []) (drop (i + 1) tables)

at_table : (tables : List Create) (i : ℕ) (table : Create) (test : Bool) → i < length tables → table
    ≡ get_or tables i table → test ≡ list_any (λ other. same_name other.name.name table.name.name) (take i tables)
    → tables_left tables i (drop i tables) ≡ table_first tables i table test
    (repeated [] (map (λ column. column.name) table.columns))
at_table tables i table test h is e =
    at_drop_more (tables_left tables i) tables i table h
    ∙ ap (λ (x : Create). tables_left tables i (x ∷ drop (i + 1) tables)) (sym is)
    ∙ ap (λ (b : Bool). table_first tables i table b (repeated [] (map (λ column. column.name) table.columns)))
    (any_map (λ other. same_name other (table_name table)) table_name (take i tables) ∙ sym e)

pub table_again : (tables : List Create) (i : ℕ) (table : Create) (test : Bool) (total : Check) → i < length tables
    → table ≡ get_or tables i table → test ≡ list_any (λ other. same_name other.name.name table.name.name)
    (take i tables) → test ≡ true
    → declarations_fault (map (λ table. table.name.name) (take i tables)) (drop i tables) ≡ total
    → Some (Repeated table.name.place) ≡ total
table_again tables i table test total h is e found so =
    ap (λ (b : Bool). table_first tables i table b (repeated [] (map (λ column. column.name) table.columns)))
    (sym found) ∙ sym (at_table tables i table test h is e) ∙ so

pub table_inside : (tables : List Create) (i : ℕ) (table : Create) (test : Bool) (fault : FormFault) (total : Check)
    → i < length tables → table ≡ get_or tables i table → test
    ≡ list_any (λ other. same_name other.name.name table.name.name) (take i tables) → test ≡ false → Some fault
    ≡ repeated [] (map (λ column. column.name) table.columns)
    → declarations_fault (map (λ table. table.name.name) (take i tables)) (drop i tables) ≡ total → Some fault ≡ total
table_inside tables i table test fault total h is e none inside so =
    ap (λ (c : Check). table_first tables i table false c) inside
    ∙ ap (λ (b : Bool). table_first tables i table b (repeated [] (map (λ column. column.name) table.columns)))
    (sym none) ∙ sym (at_table tables i table test h is e) ∙ so

pub table_new : (tables : List Create) (i : ℕ) (table : Create) (test : Bool) (total : Check) → i < length tables
    → table ≡ get_or tables i table → test ≡ list_any (λ other. same_name other.name.name table.name.name)
    (take i tables) → test ≡ false → None ≡ repeated [] (map (λ column. column.name) table.columns)
    → declarations_fault (map (λ table. table.name.name) (take i tables)) (drop i tables) ≡ total
    → declarations_fault (map (λ table. table.name.name) (take (i + 1) tables)) (drop (i + 1) tables) ≡ total
table_new tables i table test total h is e none inside so =
    ap (λ names. declarations_fault names (drop (i + 1) tables))
    (map_more table_name tables i table h ∙ ap (λ (x : Create). map table_name (take i tables) ++ table_name x ∷
    []) (sym is))
    ∙ ap (λ (c : Check). table_first tables i table false c) inside
    ∙ ap (λ (b : Bool). table_first tables i table b (repeated [] (map (λ column. column.name) table.columns)))
    (sym none) ∙ sym (at_table tables i table test h is e) ∙ so
