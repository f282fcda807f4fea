-- The slab of a run's members: nobody else stands in it.
use Rattle.std.specs.Prelude.{◌↔◌, ℕ, List, ◌++◌, map, Contains, nat_eq}
use Rattle.std.specs.List.{IsDistinct}
use Rattle.slab.specs.Slab.{Slab, ContainsKey}
use Rattle.ent_protocol.specs.State.{Member}
use Rattle.ent_members.specs.Order.{tx_of}
use Rattle.ent_run.specs.Run.{Run}

-- a key has a member exactly where it is in one of the two lists
abbrev pub AreKeys : Slab Member → List ℕ → List ℕ → Type 0
AreKeys live prepared active = (key : ℕ) → ContainsKey live key ↔ Contains (prepared ++ active) key

-- no two members have one number
abbrev pub AreDistinct : Run → Type 0
AreDistinct run = IsDistinct nat_eq (map tx_of (run.prepared ++ run.active))
