use Rattle.std.proofs.Common.{◌≢◌, take}
use Rattle.std.specs.List.{AllByRecursion}
use Rattle.ent_report_reader.proofs.located.line_in.Given as goal

-- it is none of those so far
abbrev pub invariant-loop-located : goal.invariant-loop-located
invariant-loop-located l = AllByRecursion (λ located. located.thing ≢ l.thing) (take l.located-index l.lines)
