use Rattle.std.proofs.Common.{◌≡◌, take, length}
use Rattle.std.specs.Str.Lines.{lines}
use Rattle.ent_picture.specs.Trace.{lines_of, told}
use Rattle.ent_picture.proofs.reading.read_trace.Given as goal

abbrev pub invariant-loop-words : goal.invariant-loop-words
invariant-loop-words l =
    (l.line ≡ length l.yielded)
    × (told (take (length l.yielded) (lines l.text)) ≡ lines_of l.reading.exchanges.items l.reading.event)
