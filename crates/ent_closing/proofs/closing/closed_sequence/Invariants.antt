use Rattle.std.proofs.Common.{◌≡◌, take, map}
use Rattle.ent_closing.specs.Environment.{environment_of}
use Rattle.ent_closing.proofs.closing.closed_sequence.Given as goal

-- the elements so far, closed
abbrev pub invariant-loop-element : goal.invariant-loop-element
invariant-loop-element g l =
    l.closed.items ≡ map (g.T.Closing.closing (environment_of l.environment)) (take l.element-index l.element-items)
