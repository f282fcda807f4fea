use Rattle.std.proofs.Common.{◌≡◌, Bool, List, ◌++◌, length}
use Rattle.std.specs.List.{filter, Contains, AllByRecursion}
use Rattle.ent_lists.specs.Sets as set
use Rattle.ent_value.specs.Value.{row_cmp}
use Rattle.ent_rel.specs.Closure.{Computes}
use Rattle.ent_rel.specs.Part.{IsPart}
use Rattle.ent_rel.proofs.matches.matches.Given as goal

-- the rows so far that pass and those that are left, and where they come from
abbrev pub invariant-loop-row : goal.invariant-loop-row
invariant-loop-row g l = record {
  passing : (passes : List _ → Bool) → Computes g.F.Fn l.test (set.from_list {R = row_cmp} l.fn.cursor) passes
      → l.found.items ++ filter passes l.cursor ≡ filter passes l.fn.cursor;
  part : (rest : List (List _)) → IsPart l.cursor rest → IsPart l.fn.cursor (l.found.items ++ rest);
  there : AllByRecursion (Contains l.fn.cursor) l.cursor;
}

abbrev pub decreases-loop-row : goal.decreases-loop-row
decreases-loop-row g l = length l.cursor
