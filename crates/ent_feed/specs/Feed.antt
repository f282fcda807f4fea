-- A feed: the groups that are kept, and the number of the next one.
use Rattle.std.specs.Prelude.{ℕ, List, nat_le, nat_lt}
use Rattle.std.specs.List.{filter}
use Rattle.ent_feed.specs.declared.group.Group.{Group}

pub record Feed : Type 0 where
  -- the number of the first group that is kept, or of the next one where none is
  pub first : ℕ
  -- the number of the next group
  pub next : ℕ
  -- in order of their numbers
  pub groups : List Group

-- those from a number on
abbrev pub from : ℕ → List Group → List Group
from number groups = filter (λ group. nat_le number group.number) groups

-- those behind a number
abbrev pub behind : ℕ → List Group → List Group
behind number groups = filter (λ group. nat_lt number group.number) groups
