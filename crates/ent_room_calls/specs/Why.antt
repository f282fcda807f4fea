-- How a ticket stands, in a line, with the demand of who is lonely.
use Rattle.std.specs.Prelude.{List, [], ◌++◌, ℕ, codes, Option, Some, None, slice_get}
use Rattle.ent_meetings.specs.Party.{party_of}
use Rattle.ent_meetings.specs.declared.pattern.Pattern.{Pattern}
use Rattle.ent_reasons.specs.Demand.{demand_text}
use Rattle.ent_room.specs.declared.state.State.{State}
use Rattle.ent_room.specs.declared.state.State.TheVariants as states
use Rattle.ent_waiting.specs.declared.waiter.Waiter.{Waiter}
use Rattle.ent_room_calls.specs.State.{state_text}

-- behind the number of a demand
abbrev pub demand_behind : Option Pattern → List ℕ
demand_behind (Some pattern) = codes ", " ++ demand_text (λ term. term) pattern.relation pattern.terms
demand_behind None = []

-- how the ticket of a waiter stands; of one that is lonely, the demand that nobody who waits may offer
abbrev pub waiting_text : Waiter → State → List ℕ
waiting_text waiter (states.Lonely demand) =
    state_text (states.Lonely demand) ++ demand_behind (slice_get (party_of waiter.script).demands demand)
waiting_text waiter other = state_text other

-- how a ticket stands, under which this script waits, if one does; without the end of the line
abbrev pub why_text : Option Waiter → State → List ℕ
why_text (Some waiter) state = waiting_text waiter state
why_text None state = state_text state
