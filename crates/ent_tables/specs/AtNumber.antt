-- Tables under their numbers.
use Rattle.std.specs.Prelude.{ℕ, List, map, slice_index_or}
use Rattle.ent_rel.specs.Relation.{Relation}
use Rattle.ent_protocol.specs.Job.{Numbered}
use Rattle.ent_protocol.specs.State.{Use}
use Rattle.ent_ordinary.specs.Tables.{no_table}

abbrev pub seen_of : ℕ → Relation → Numbered
seen_of number table = record { table = number; kinds = table.kinds; rows = table.rows }

-- the table of a number
abbrev pub seen_at : List Relation → ℕ → Numbered
seen_at tables number = seen_of number (slice_index_or tables number no_table)

-- the tables of some uses
abbrev pub seen_in : List Relation → List Use → List Numbered
seen_in tables uses = map (λ own. seen_at tables own.table) uses
