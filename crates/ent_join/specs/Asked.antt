-- What the statements of a plan ask of the values of its classes.
use Rattle.std.specs.Prelude.{◌≡◌, ℕ, List, [], ◌∷◌, ◌++◌, map}
use Rattle.std.specs.List.{cons_option, filter}
use Rattle.ent_lists.specs.Sets as set
use Rattle.ent_value.specs.declared.value.Value.{Value}
use Rattle.ent_tree.specs.declared.operand.Test.{Test}
use Rattle.ent_rel.specs.Numbered.{Numbered, relation_of}
use Rattle.ent_semantics.specs.Database.{Rows}
use Rattle.ent_semantics.specs.Selection.{meets, selection}
use Rattle.ent_semantics.specs.declared.entangled.Membership.{Membership}
use Rattle.ent_semantics.specs.declared.entangled.Term.{Term}
use Rattle.ent_semantics.specs.declared.statement.Select.{Select}
use Rattle.ent_semantics.specs.Pool.{Posted}
use Rattle.ent_plan.specs.declared.slot.Slot.{Slot}
use Rattle.ent_ordinary.specs.Tables.{rows_in}
use Rattle.ent_ordinary.specs.Worth.{worth_over}
use Rattle.ent_join.specs.Alone.{is_left}
use Rattle.ent_join.specs.Index.{Indexed}
use Rattle.ent_join.specs.declared.made.Made.{Made}
use Rattle.ent_join.specs.Keyed.{index_under, term_slot}
use Rattle.ent_join.specs.Laid.{table_at}

-- the tables of some numbers
abbrev pub tables_at : List Numbered → List ℕ → List Numbered
tables_at tables [] = []
tables_at tables (source ∷ sources) = cons_option (table_at source tables) (tables_at tables sources)

-- the rows of a sub-select's result, over numbered tables
abbrev pub select_rows : List Numbered → Select Value → Rows
select_rows tables select =
    selection (meets worth_over select.tests) (λ row. map (worth_over row) select.items)
    (rows_in (map relation_of (tables_at tables select.sources)))

-- those of them, in order, that no test refuses which reads nothing but the columns of a tuple
abbrev pub left_rows : List Numbered → List (Test Slot) → Select Value → List Slot → List (List Value)
left_rows tables tests select columns = filter (is_left tests columns) (set.ascending (select_rows tables select))

-- the index of columns over them
abbrev pub select_index : List Numbered → List (Test Slot) → Select Value → List Slot → Indexed
select_index tables tests select columns = index_under columns (left_rows tables tests select columns)

-- an index is the one of its sub-select and columns
abbrev pub IsMade : List Numbered → List (Test Slot) → Made → Type 0
IsMade tables tests made = made.index ≡ select_index tables tests made.select.now made.columns

abbrev pub membership_index : List Numbered → List (Test Slot) → List Slot → Membership Value → Indexed
membership_index tables tests slots membership =
    select_index tables tests membership.select (map (term_slot slots) membership.terms)

-- an index for each tuple of the statements
abbrev pub all_indexes : List Numbered → List (Test Slot) → List Posted → List (List Slot) → List Indexed
all_indexes tables tests [] slots = []
all_indexes tables tests (member ∷ members) [] = []
all_indexes tables tests (member ∷ members) (slots ∷ others) =
    map (membership_index tables tests slots) member.statement.atoms ++ all_indexes tables tests members others

abbrev pub slot_test : List Slot → Test (Term Value) → Test Slot
slot_test slots test =
    record { left = term_slot slots test.left; comparison = test.comparison; right = term_slot slots test.right }

-- the tests of the statements
abbrev pub all_tests : List Posted → List (List Slot) → List (Test Slot)
all_tests [] slots = []
all_tests (member ∷ members) [] = []
all_tests (member ∷ members) (slots ∷ others) =
    map (slot_test slots) member.statement.tests ++ all_tests members others
