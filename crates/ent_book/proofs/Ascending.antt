-- How many rows stand in order.
use Rattle.std.proofs.Common.{◌≡◌, length, sym, ◌∙◌}
use Rattle.std.proofs.lemmas.Map.Entries.{length-keys_of}
use Rattle.std.specs.FinMap as finite
use Rattle.ent_lists.specs.Sets as set
use Rattle.ent_value.specs.Value.{row_cmp}

pub count_of_ascending : (rows : set.Set row_cmp) → length (set.ascending rows) ≡ set.len rows
count_of_ascending rows = length-keys_of (finite.entries rows) ∙ sym (finite.len-entries rows)
