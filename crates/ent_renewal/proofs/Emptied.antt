-- Tables of which some are emptied.
use Rattle.std.proofs.Common.{◌≡◌, Bool, true, false, List, refl, sym, ◌∙◌}
use Rattle.std.specs.Prelude.{if◌then◌else◌}
use Rattle.ent_lists.specs.Sets as set
use Rattle.ent_lists.specs.Laws.{contains-empty}
use Rattle.ent_value.specs.Value.{row_cmp}
use Rattle.ent_value.specs.declared.value.Kind.{Kind}
use Rattle.ent_tree.specs.declared.declaration.Create.{Create}
use Rattle.ent_semantics.specs.Database.{Database, Name, Rows, is_among}
use Rattle.ent_semantics.specs.Kinds.{RowsHaveKinds}
use Rattle.ent_renewal.specs.Renewal.{HoldsTablesOf, drained}

empty_kinds : (kinds : List Kind) → RowsHaveKinds kinds set.empty
empty_kinds kinds row there = absurd (let e = sym (contains-empty row_cmp row) ∙ there in cc)

left_kinds : (kinds : List Kind) (rows : Rows) (b : Bool) → RowsHaveKinds kinds rows
    → RowsHaveKinds kinds (if b then set.empty else rows)
left_kinds kinds rows true own = empty_kinds kinds
left_kinds kinds rows false own = own

left_empty : (rows : Rows) (b : Bool) → rows ≡ set.empty → (if b then set.empty else rows) ≡ set.empty
left_empty rows true e = refl
left_empty rows false e = e

pub drained_held : (declared : List Create) (names : List Name) (database : Database)
    → HoldsTablesOf declared database → HoldsTablesOf declared (drained names database)
drained_held declared names database holds =
    record {
      kinds = λ k d low. left_kinds _ _ (is_among names _) (holds.kinds k d low);
      others = λ name none. left_empty (database name) (is_among names name) (holds.others name none);
    }
