use Rattle.std.proofs.Common.{◌≡◌, ℕ, ◌+◌, ◌-◌, length}
use Rattle.ent_reasons.specs.Noted.{note_of}
use Rattle.ent_reasons.proofs.notes.extend_to.Given as goal

-- what is made so far changes no note
abbrev pub invariant-loop-notes : goal.invariant-loop-notes
invariant-loop-notes l = (tx : ℕ) → note_of l.notes.items tx ≡ note_of l.fn.notes.items tx

abbrev pub decreases-loop-notes : goal.decreases-loop-notes
decreases-loop-notes l = l.place + 1 - length l.notes.items
