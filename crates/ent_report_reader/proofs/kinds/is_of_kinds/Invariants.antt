use Rattle.std.proofs.Common.{◌≡◌, map, take}
use Rattle.ent_value.specs.Value.{kind_of}
use Rattle.ent_tree.specs.declared.declaration.Column.{Column}
use Rattle.ent_report_reader.proofs.kinds.is_of_kinds.Given as goal

-- the values so far are of the kinds of their columns
abbrev pub invariant-loop-index : goal.invariant-loop-index
invariant-loop-index l =
    map kind_of (take l.index l.row) ≡ map (λ (column : Column). column.kind) (take l.index l.columns)
