-- Members are told by their numbers, and stand by number.
use Rattle.std.specs.Prelude.{◌<◌, map, AllPairs, nat_eq}
use Rattle.std.specs.List.{IsDistinct}
use Rattle.ent_semantics.specs.Pool.{Posted}
use Rattle.ent_protocol.specs.Member.{pool}
use Rattle.ent_protocol.specs.State.{State, Member, members}

pub record StandByNumber (s : State) : Type 0 where
  -- members are of distinct numbers
  pub distinct : IsDistinct nat_eq (map (λ member. member.tx) (members s))
  -- those that aren't prepared stand by number, and so do their statements in the pool
  pub active : AllPairs (λ (one other : Member). one.tx < other.tx) s.active
  pub pool : AllPairs (λ (one other : Posted). one.tx < other.tx) (pool s)
