-- The groups of a feed, in lines of JSON.
use Rattle.std.specs.Prelude.{ℕ, List}
use Rattle.std.specs.List.{flat_map}
use Rattle.ent_feed.specs.Line.{group_line}
use Rattle.ent_feed.specs.declared.group.Group.{Group}

-- a line for each, one after the other
abbrev pub group_lines : List Group → List ℕ
group_lines groups = flat_map group_line groups
