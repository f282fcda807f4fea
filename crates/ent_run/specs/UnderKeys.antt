-- Members in a slab, in the order of a list of their keys.
use Rattle.std.specs.Prelude.{ℕ, Bool, false, List, [], map, Option, None, Some, Contains, if◌then◌else◌}
use Rattle.slab.specs.Slab.{Slab, ContainsKey, get as value_at}
use Rattle.ent_protocol.specs.State.{Member}

-- stands where no member is
abbrev pub nobody : Member
nobody = record { tx = 0; attempt = 0; group = 0; place = 1; bound = []; answers = []; uses = []; posted = false }

abbrev pub or_nobody : Option Member → Member
or_nobody None = nobody
or_nobody (Some member) = member

abbrev pub member_under : Slab Member → ℕ → Member
member_under live key = or_nobody (value_at live key)

-- the members under these keys, in their order
abbrev pub members_under : Slab Member → List ℕ → List Member
members_under live keys = map (member_under live) keys

-- each of these keys has a member
abbrev pub AreThere : Slab Member → List ℕ → Type 0
AreThere live keys = (key : ℕ) → Contains keys key → ContainsKey live key

-- a member that passes a test, where there is one
abbrev pub if_passing : (Member → Bool) → Option Member → Option Member
if_passing passes None = None
if_passing passes (Some member) = if passes member then Some member else None
