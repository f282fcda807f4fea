use Rattle.std.proofs.Common.{◌≡◌, Bool, List, take}
use Rattle.std.specs.List.{filter}
use Rattle.ent_lists.specs.Sets as set
use Rattle.ent_value.specs.Value.{row_cmp}
use Rattle.ent_rel.specs.Closure.{Computes}
use Rattle.ent_rel.specs.Part.{IsPart}
use Rattle.ent_rel.proofs.copies.copies_where.Given as goal

-- the rows so far that pass, and where they come from
abbrev pub invariant-loop-row : goal.invariant-loop-row
invariant-loop-row g l = record {
  passing : (passes : List _ → Bool) → Computes g.F.Fn l.test (set.from_list {R = row_cmp} l.rows) passes
      → l.copies.items ≡ filter passes (take l.row-index l.rows);
  part : IsPart (take l.row-index l.rows) l.copies.items;
}
