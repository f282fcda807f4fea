-- Rows of answer relations, as far as a text knows them, and which of them may be one row.
use Rattle.std.specs.Prelude.{Bool, true, ◌&&◌, Option, Some, None}
use Rattle.std.specs.Cmp.Lexicographic.{pointwise}
use Rattle.std.specs.Ordering.{eq_by_cmp}
use Rattle.ent_value.specs.Value.{value_cmp}
use Rattle.ent_value.specs.declared.value.Value.{Value}
use Rattle.ent_semantics.specs.Database.{same_name}
use Rattle.ent_meetings.specs.declared.pattern.Pattern.{Pattern}

-- two terms may have one value: all may, but for two known values that differ
abbrev pub may_be_one : Option Value → Option Value → Bool
may_be_one (Some known) (Some other) = eq_by_cmp value_cmp known other
may_be_one (Some known) None = true
may_be_one None offered = true

-- what is demanded may be met by what is offered: one relation, one length, and each two terms may have one value
abbrev pub may_meet : Pattern → Pattern → Bool
may_meet demand offer = same_name demand.relation offer.relation && pointwise may_be_one demand.terms offer.terms
