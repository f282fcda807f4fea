use Rattle.std.proofs.Common.{◌≡◌, ◌++◌, drop}
use Rattle.ent_form.specs.Ordinary.{own_from}
use Rattle.ent_form.proofs.change.own_image.Given as goal

-- the columns before and those that are left are all columns
abbrev pub invariant-loop-number : goal.invariant-loop-number
invariant-loop-number l = l.image.items ++ own_from l.number (drop l.number l.table.columns)
    ≡ own_from 0 l.table.columns
