use Rattle.std.proofs.Common.{◌≡◌, ◌++◌, drop, length}
use Rattle.ent_prepare.specs.Given.{opening_rows}
use Rattle.ent_prepare.proofs.opening.opening_rows.Given as goal

-- those so far, with the others, are all
abbrev pub invariant-loop-number : goal.invariant-loop-number
invariant-loop-number l = record {
  all : l.made ++ opening_rows l.number (drop l.number l.rows) ≡ opening_rows 0 l.rows;
  counted : length l.made ≡ l.number;
}
