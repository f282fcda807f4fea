use Rattle.std.proofs.Common.{◌≡◌, map, take}
use Rattle.ent_value.specs.Value.{kind_of}
use Rattle.ent_report_reader.proofs.kinds.are_of_kinds.Given as goal

-- the values so far are of their kinds
abbrev pub invariant-loop-index : goal.invariant-loop-index
invariant-loop-index l = map kind_of (take l.index l.values) ≡ take l.index l.kinds
