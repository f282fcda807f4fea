use Rattle.std.proofs.Common.{◌+◌, ℕ, ◌∙◌, ap}
use Rattle.ent_excerpt.specs.Place.{breaks}
use Rattle.ent_excerpt.proofs.place.Place.of.Goals as goal

pub returns : goal.returns
returns c boundary = record {
  before = c.of.result.before.now;
  behind = c.of.result.behind.now;
  around = c.of.ensures boundary;
  line_number = ap (λ (n : ℕ). n + 1) (c.breaks-line.ensures ∙ ap breaks (c.text_before.ensures boundary));
  column_number = ap (λ (n : ℕ). n + 1) c.characters-column.ensures.value;
}
