use Rattle.std.proofs.Common.{◌≡◌, ℕ, drop}
use Rattle.ent_reasons.specs.Noted.{each, note_of}
use Rattle.ent_reasons.proofs.notes.change_all.Given as goal

-- what is left to be changed makes of the notes what all makes of them from the start
abbrev pub invariant-loop-tx : goal.invariant-loop-tx
invariant-loop-tx l =
    (tx : ℕ)
    → each (drop l.tx-index l.members) l.change tx (note_of l.notes.items tx)
    ≡ each l.members l.change tx (note_of l.fn.notes.items tx)
