-- What a watcher of a core is told.
use Rattle.std.specs.Prelude.{◌≡◌, List, [], ◌∷◌, length, map}
use Rattle.ent_value.specs.Ticks.{ticked}
use Rattle.ent_protocol_laws.specs.Commits.{NoneStarts, StartsAtMostFirst}
use Rattle.ent_form.specs.declared.fault.FormFault.{FormFault}
use Rattle.ent_protocol.specs.Event.{Event, Reply}
use Rattle.ent_protocol.specs.Event as events
use Rattle.ent_protocol.specs.Job.{Done}
use Rattle.ent_protocol.specs.Play.{Plays}
use Rattle.ent_protocol.specs.Run.{Forms}
use Rattle.ent_protocol.specs.State.{State}
use Rattle.ent_protocol.specs.Step.{Step}
use Rattle.ent_sched.specs.Tally.{Tally}
use Rattle.ent_sched.specs.declared.watcher.MadeEvent.{MadeEvent}
use Rattle.ent_sched.specs.declared.watcher.MadeEvent.TheVariants as told

-- an event and its reply
abbrev pub Exchange : Type 0
Exchange = Event × Reply FormFault

-- what is heard of an event: it and its reply, and the state behind it
pub record Heard : Type 0 where
  pub one : Exchange
  pub after : State

abbrev pub heard_of : Event → Reply FormFault → State → Heard
heard_of event reply after = record { one = (event, reply); after = after }

-- the events of what is heard, with their replies
abbrev pub exchanged : List Heard → List Exchange
exchanged all = map (λ heard. heard.one) all

-- What is told is this event. Of a result that was handed in it has a mark.
abbrev pub TellsOf : {M : Type 0} → (M → Done → Type 0) → MadeEvent M → Event → Type 0
TellsOf marks told.StartRun event = event ≡ events.StartRun
TellsOf marks (told.Begin tx) event = event ≡ events.Begin tx
TellsOf marks (told.Finish mark) event = (done : Done) × marks mark done × (event ≡ events.Finish done)
TellsOf marks told.Pick event = event ≡ events.Pick
TellsOf marks (told.JoinAnswer mark) event = (done : Done) × marks mark done × (event ≡ events.JoinAnswer done)
TellsOf marks told.BreakCycle event = event ≡ events.BreakCycle
TellsOf marks told.EndRun event = event ≡ events.EndRun
TellsOf marks told.Recall event = event ≡ events.Recall

-- from how a watcher was, all that it heard, one after the other, leads to how it is
abbrev pub HearsAll : {W X : Type 0} → (W → X → W → Type 0) → W → List X → W → Type 0
HearsAll hears old [] new = new ≡ old
HearsAll {W} hears old (one ∷ more) new = (next : W) × hears old one next × HearsAll hears next more new

-- from a state the events that were heard of lead, with their replies, each to the state that was heard of with it
abbrev pub PlaysThrough : Forms FormFault → State → List Heard → State → Type 0
PlaysThrough forms s [] last = last ≡ s
PlaysThrough forms s (heard ∷ more) last =
    Step forms s heard.one.0 heard.one.1 heard.after × PlaysThrough forms heard.after more last

-- Events lead from one counted core to another. The watcher heard of each of them, with its reply and the state that it
-- led to, in this order, and of nothing else; and as many ticked.
pub record IsWatched {W : Type 0} (forms : Forms FormFault) (hears : W → Heard → W → Type 0) (old new : Tally)
    (before behind : W) : Type 0 where
  pub told : List Heard
  pub plays : Plays forms old.core (exchanged told) new.core
  pub through : PlaysThrough forms old.core told new.core
  pub heard : HearsAll hears before told behind
  pub ticks : new.ticks ≡ ticked (length told) old.ticks

-- the same of events none of which starts a run
abbrev pub IsWatchedInRun : {W : Type 0} → Forms FormFault → (W → Heard → W → Type 0) → Tally → Tally → W → W → Type 0
IsWatchedInRun forms hears old new before behind =
    (all : IsWatched forms hears old new before behind) × NoneStarts (exchanged all.told)

-- the same of events none of which but the first may start a run
abbrev pub IsRunWatched : {W : Type 0} → Forms FormFault → (W → Heard → W → Type 0) → Tally → Tally → W → W → Type 0
IsRunWatched forms hears old new before behind =
    (all : IsWatched forms hears old new before behind) × StartsAtMostFirst (exchanged all.told)
