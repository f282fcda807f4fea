use Rattle.std.proofs.Common.{◌≡◌, map, take}
use Rattle.ent_desk.specs.Drafts.{draft_now}
use Rattle.ent_desk.proofs.draft.drafts_of.Given as goal

abbrev pub invariant-loop-tx : goal.invariant-loop-tx
invariant-loop-tx l = l.drafts.items ≡ map (draft_now l.core) (take l.tx-index l.members)
