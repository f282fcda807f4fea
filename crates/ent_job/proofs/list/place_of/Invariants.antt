use Rattle.std.proofs.Common.{◌≡◌, take}
use Rattle.std.specs.List.{All}
use Rattle.ent_job.proofs.list.place_of.Given as goal

-- none so far is the same
abbrev pub invariant-loop-index : goal.invariant-loop-index
invariant-loop-index l = All (λ own. own ≡ l.job → ⊥) (take l.index l.jobs)
