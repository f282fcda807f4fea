-- A run of two processes over one store.
use Rattle.std.specs.Prelude.{◌≡◌, [], ◌∷◌}
use Rattle.ent_lists.specs.Elements.{In}
use Rattle.ent_waiting.specs.Step.{IsReached}
use Rattle.ent_waiting.specs.Store.{Waiter, Ended, Write}
use Rattle.ent_waiting.specs.World.{World}

abbrev pub first_waiter : {S : Type 0} → S → Waiter S
first_waiter script = record { ticket = 1; script = script }

abbrev pub first_ended : {E : Type 0} → E → Ended E
first_ended ending = record { ticket = 1; ending = ending }

-- One process gives out a ticket, and commits a group by which it ends; the process crashes, and that write never
-- arrives. Another process goes on from the store, and commits the group again; it sends its write twice, which goes
-- through once, and tells it.
pub record RunsThrough {T C S E : Type 0} (changed : C → T → T) (tables : T) (script : S) (change : C) (ending : E)
    : Type 0 where
  pub world : World T C S E
  pub reached : IsReached changed tables world
  pub lost : Write C S E
  pub was_sent : In lost world.sent
  pub never_written : In lost world.history → ⊥
  pub changed_once : world.store.tables ≡ changed change tables
  pub one_group : world.store.group ≡ 1
  pub nobody_waits : world.store.waiting ≡ []
  pub ended : world.store.ended ≡ first_ended ending ∷ []
  pub ticket : world.tickets ≡ first_waiter script ∷ []
  pub endings : world.endings ≡ first_ended ending ∷ []
