-- What replies tell: that a script is added, and which job is lent.
use Rattle.std.specs.Prelude.{Bool, true, false, List, [], ◌∷◌}
use Rattle.ent_protocol.specs.Event.{Event, Reply}
use Rattle.ent_protocol.specs.Event as events
use Rattle.ent_protocol.specs.Job.{Job}

-- a script is submitted, and accepted
abbrev pub adds_script : {F : Type 0} → Event → Reply F → Bool
adds_script (events.Submit script) (events.Submitted tx) = true
adds_script event reply = false

-- the job that a reply lends
abbrev pub lent_by : {F : Type 0} → Reply F → List Job
lent_by (events.Lent job) = job ∷ []
lent_by other = []
