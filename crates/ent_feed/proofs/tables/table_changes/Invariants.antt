use Rattle.std.proofs.Common.{◌≡◌, ◌++◌, map}
use Rattle.ent_tree.specs.declared.declaration.Create.{Create}
use Rattle.ent_feed.specs.Tables.{rows_in}
use Rattle.ent_feed.proofs.Listed.{changed_only, left_from, side_by_side}
use Rattle.ent_feed.proofs.tables.table_changes.Given as goal

-- the changes so far, and those of the tables that are left
abbrev pub invariant-loop-index : goal.invariant-loop-index
invariant-loop-index l =
    l.changes ++ changed_only (left_from l.declared l.before l.after l.index)
    ≡ changed_only
    (side_by_side (map (λ (create : Create). create.name.name) l.declared) (rows_in l.before) (rows_in l.after))
