-- The tables that the sub-selects of statements name.
use Rattle.std.specs.Prelude.{ℕ, List}
use Rattle.std.specs.List.{flat_map}
use Rattle.std.specs.Ordering.{nat_cmp}
use Rattle.ent_lists.specs.Sets as set
use Rattle.ent_value.specs.declared.value.Value.{Value}
use Rattle.ent_semantics.specs.declared.entangled.Entangled.{Entangled}
use Rattle.ent_semantics.specs.Pool.{Posted}

abbrev pub sources_of : Entangled Value → List ℕ
sources_of statement = flat_map (λ membership. membership.select.sources) statement.atoms

-- the tables of the sub-selects of posted statements, by number, each once
abbrev pub source_tables : List Posted → List ℕ
source_tables members =
    set.ascending (set.from_list {R = nat_cmp} (flat_map (λ member. sources_of member.statement) members))
