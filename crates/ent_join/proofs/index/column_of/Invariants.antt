use Rattle.std.proofs.Common.{◌≡◌, ℕ, ◌<◌, get_or}
use Rattle.ent_join.proofs.index.column_of.Given as goal

abbrev pub invariant-loop-column : goal.invariant-loop-column
invariant-loop-column l = (k : ℕ) → k < l.column → get_or l.classes k 0 ≡ l.class → ⊥
