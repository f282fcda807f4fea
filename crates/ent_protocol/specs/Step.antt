-- One event of a core.
use Rattle.ent_protocol.specs.Begin.{Begins}
use Rattle.ent_protocol.specs.Event.{Event, Reply}
use Rattle.ent_protocol.specs.Event as events
use Rattle.ent_protocol.specs.Finish.{Finishes}
use Rattle.ent_protocol.specs.PoolEvents.{Picks, JoinsOrIsStale}
use Rattle.ent_protocol.specs.Run.{Forms, Submits, Starts, BreaksIfAny, Ends, Recalls}
use Rattle.ent_protocol.specs.State.{State}

-- From a state an event leads, with a reply, to a state. Only a result that is what its work means over its own tables
-- is accepted; any result may be refused.
abbrev pub Step : {F : Type 0} → Forms F → State → Event → Reply F → State → Type 0
Step forms s (events.Submit script) reply new = Submits forms s script reply new
Step forms s events.StartRun reply new = Starts s reply new
Step forms s (events.Begin tx) reply new = Begins s tx reply new
Step forms s (events.Finish done) reply new = Finishes s done reply new
Step forms s events.Pick reply new = Picks s reply new
Step forms s (events.JoinAnswer done) reply new = JoinsOrIsStale s done reply new
Step forms s events.BreakCycle reply new = BreaksIfAny s reply new
Step forms s events.EndRun reply new = Ends s reply new
Step forms s events.Recall reply new = Recalls s reply new
