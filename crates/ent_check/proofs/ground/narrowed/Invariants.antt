use Rattle.std.proofs.Common.{◌≡◌, List}
use Rattle.ent_semantics.specs.Database.{Rows}
use Rattle.ent_check.specs.Shown.{is_shown}
use Rattle.ent_check.proofs.ground.narrowed.Given as goal

-- the tests so far change nothing of whether the row is shown
abbrev pub invariant-loop-index : goal.invariant-loop-index
invariant-loop-index l = record {
  sources : l.narrowed.sources ≡ l.select.sources;
  items : l.narrowed.items ≡ l.select.items;
  holds : (sources : List Rows) → is_shown l.narrowed sources l.row ≡ is_shown l.select sources l.row;
}
