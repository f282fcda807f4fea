use Rattle.std.proofs.Common.{length}
use Rattle.ent_reasons.proofs.script_lines.ScriptLines.of.Given as goal

-- the tokens that are left become fewer
abbrev pub decreases-loop-view : goal.decreases-loop-view
decreases-loop-view l = length l.left
