use Rattle.std.proofs.Common.{map, take}
use Rattle.ent_print.specs.Printing.{script_text}
use Rattle.ent_arrange.specs.Arranged.{ArePicked}
use Rattle.ent_arrange.proofs.again.are_picked.Given as goal

-- the scripts so far are printed as those picked so far
abbrev pub invariant-loop-place : goal.invariant-loop-place
invariant-loop-place l =
    ArePicked (map script_text l.scripts) (take l.place l.indices) (map script_text (take l.place l.picked))
