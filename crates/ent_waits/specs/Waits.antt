-- Who waits for whom, as pairs of a member and another, in the order in which they are gathered.
use Rattle.std.specs.Prelude.{ℕ, Bool, ◌&&◌, List, [], ◌∷◌, if◌then◌else◌}
use Rattle.std.specs.List.{flat_map}
use Rattle.ent_semantics.specs.Serial.{numbered}
use Rattle.ent_run.specs.Run.{Run, with_run}
use Rattle.ent_run.specs.Waits.{is_awaited}
use Rattle.ent_protocol.specs.Job.{Job}
use Rattle.ent_protocol.specs.Member.{next_in}
use Rattle.ent_protocol.specs.Reached.{opened}
use Rattle.ent_protocol.specs.State.{State, Member, Submitted, Use}
use Rattle.ent_protocol.specs.Waits.{is_waiting, next_uses}

-- a state with these members, these scripts and these lent jobs
abbrev pub state_with : Run → List Submitted → List Job → State → State
state_with run submitted lent s = record (with_run run s) { submitted = submitted; lent = lent }

-- a state with nothing
abbrev pub nothing : State
nothing = opened (record { tables = []; rows = [] })

-- a member that asks for uses and another, where it waits for that one
abbrev pub pair_if_awaited : Run → Member → List Use → Member → List (ℕ × ℕ)
pair_if_awaited run asker asked other =
    if is_awaited (with_run run nothing) asker asked other then (asker.tx, other.tx) ∷ [] else []

-- a member that is neither posted nor has a job out waits for another
abbrev pub awaits_now : Run → List Submitted → List Job → Member → Member → Bool
awaits_now run submitted lent asker other =
    is_waiting (state_with run submitted lent nothing) asker
    && is_awaited (with_run run nothing) asker (next_uses (next_in (numbered submitted asker.tx) asker)) other

-- a member and each that it waits for
abbrev pub pairs_while_waiting : Run → List Submitted → List Job → Member → List (ℕ × ℕ)
pairs_while_waiting run submitted lent asker =
    if is_waiting (state_with run submitted lent nothing) asker
    then flat_map (pair_if_awaited run asker (next_uses (next_in (numbered submitted asker.tx) asker))) run.active
    else []

-- those of all members
abbrev pub gathered : Run → List Submitted → List Job → List (ℕ × ℕ)
gathered run submitted lent = flat_map (pairs_while_waiting run submitted lent) run.active
