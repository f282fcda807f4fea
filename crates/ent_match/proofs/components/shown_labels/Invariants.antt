use Rattle.std.proofs.Common.{◌≡◌, ℕ, ◌<◌, length, slice_index_or, false, None}
use Rattle.ent_match.specs.Labels.{label, shown}
use Rattle.ent_match.proofs.components.shown_labels.Given as goal

-- the places so far
abbrev pub invariant-loop-place : goal.invariant-loop-place
invariant-loop-place l = record {
  room : length l.firsts.items ≡ l.place;
  each : (place : ℕ) → place < l.place
      → slice_index_or l.firsts.items place None ≡ shown (slice_index_or l.removed place false) (label l.labels place);
}
