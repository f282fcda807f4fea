-- Tables of a state by their names.
use Rattle.std.proofs.Common.{◌≡◌, Bool, true, false, List, [], ◌∷◌, Option, Some, None, refl, sym, ap, ◌∙◌}
use Rattle.std.specs.Prelude.{MatchOption, if◌then◌else◌}
use Rattle.std.specs.Option.{option_map}
use Rattle.ent_lists.specs.Sets as set
use Rattle.ent_semantics.specs.Form.{Tables}
use Rattle.ent_semantics.specs.Database.{Name, Rows, same_name}
use Rattle.ent_protocol.specs.Lookup.{rows_under}
use Rattle.ent_protocol.specs.Reached.{named_tables}

abbrev rows_or_none : Option Rows → Rows
rows_or_none (Some rows) = rows
rows_or_none None = set.empty

looked_up : (names : List Name) (tables : Tables) (name : Name)
    → named_tables names tables name ≡ rows_or_none (rows_under names tables name)
looked_up [] tables name = refl
looked_up (first ∷ names) [] name = refl
looked_up (first ∷ names) (rows ∷ tables) name = by (same_name first name) (looked_up names tables name)
  where
    by : (b : Bool) → named_tables names tables name ≡ rows_or_none (rows_under names tables name)
        → (if b then rows else named_tables names tables name)
        ≡ rows_or_none (if b then Some rows else rows_under names tables name)
    by true rest = refl
    by false rest = rest

pub found_by_name : {T : Type 0} (rows_of : T → Rows) (found : Option T) (names : List Name) (tables : Tables)
    (name : Name)
    → option_map rows_of found ≡ rows_under names tables name
    → MatchOption found (named_tables names tables name ≡ set.empty)
    (λ table. named_tables names tables name ≡ rows_of table)
found_by_name rows_of None names tables name e = looked_up names tables name ∙ ap rows_or_none (sym e)
found_by_name rows_of (Some table) names tables name e = looked_up names tables name ∙ ap rows_or_none (sym e)
