use Rattle.std.proofs.Common.{◌≡◌, drop}
use Rattle.ent_desk.specs.Drafts.{draft_among}
use Rattle.ent_desk.proofs.draft.place_of.Given as goal

-- no draft that was passed is of the transaction
abbrev pub invariant-loop-place : goal.invariant-loop-place
invariant-loop-place l = draft_among (drop l.place l.drafts) l.tx ≡ draft_among l.drafts l.tx
