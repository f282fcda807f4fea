use Rattle.std.proofs.Common.{◌≡◌, take}
use Rattle.ent_report_reader.specs.Opened.{literals_of}
use Rattle.ent_report_reader.proofs.opened.literals_of.Given as goal

-- the values so far, as they stand in an opening
abbrev pub invariant-loop-value : goal.invariant-loop-value
invariant-loop-value l = l.literals ≡ literals_of (take l.value-index l.value-items)
