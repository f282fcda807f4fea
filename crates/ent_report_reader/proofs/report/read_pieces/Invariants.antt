use denote.Text.{Utf8}
use denote.Shadow.{shadow}
use Rattle.std.proofs.Common.{length}
use Rattle.ent_report_reader.proofs.ThingLines.{AreNoted}
use Rattle.ent_report_reader.proofs.report.read_pieces.Given as goal

-- the pieces so far stand, and the lines of all that they tell are noted
abbrev pub invariant-loop-lines : goal.invariant-loop-lines
invariant-loop-lines l = shadow (Utf8 l.rest) × AreNoted l.text l.draft l.rest l.lines l.line l.told

abbrev pub decreases-loop-lines : goal.decreases-loop-lines
decreases-loop-lines l = length l.rest
