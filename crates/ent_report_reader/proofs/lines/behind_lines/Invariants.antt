use denote.Text.{Utf8}
use denote.Shadow.{shadow}
use Rattle.ent_report_reader.proofs.Fronts.{SoFar}
use Rattle.ent_report_reader.proofs.lines.behind_lines.Given as goal

-- the lines so far
abbrev pub invariant-loop-left : goal.invariant-loop-left
invariant-loop-left l = shadow (Utf8 l.rest) × SoFar l.text l.most l.left l.rest

abbrev pub decreases-loop-left : goal.decreases-loop-left
decreases-loop-left l = l.left
