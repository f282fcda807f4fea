use Rattle.std.proofs.Common.{◌≡◌, drop}
use Rattle.ent_book.specs.Report2.{declared_columns}
use Rattle.ent_book.proofs.opening.declared_columns.Given as goal

-- the columns are among those that are left
abbrev pub invariant-loop-create : goal.invariant-loop-create
invariant-loop-create l =
    declared_columns (drop l.create-index l.creates) l.name ≡ declared_columns l.creates l.name
