-- How many events a run makes at most.
use Rattle.std.specs.Prelude.{ℕ, ◌+◌, ◌*◌, length, if◌then◌else◌}
use Rattle.ent_protocol.specs.Run.{starting}
use Rattle.ent_protocol.specs.State.{State, members}
use Rattle.ent_protocol_laws.specs.Within.{statements_in_run}
use Rattle.ent_sched.specs.Onward.{events_of_round}

-- a run is at its start, or is on; where none is on, the start of one
abbrev pub run_start : State → State
run_start s = if s.running then s else starting s

-- the steps of progress of a run at most: twice the statements, their ends counted, the members and their square
abbrev pub most_progress : State → ℕ
most_progress s =
    let n = length (members s) in
    2 * statements_in_run s + n + n * n

-- the rounds of a run: each makes progress, but for the last
abbrev pub events_of_rounds : State → ℕ
events_of_rounds s = (most_progress s + 1) * events_of_round s

-- a run is started, its rounds are made, and it is ended
abbrev pub events_of_run : State → ℕ
events_of_run s = events_of_rounds (run_start s) + 2
