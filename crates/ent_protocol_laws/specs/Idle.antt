-- Rounds of a run in which nothing moves.
use Rattle.std.specs.Prelude.{◌≡◌, ℕ, true, [], Some}
use Rattle.std.specs.List.{AllByRecursion}
use Rattle.ent_protocol.specs.Event.{Event, Reply}
use Rattle.ent_protocol.specs.Event as events
use Rattle.ent_protocol.specs.Lookup.{Ready, Turn, running_members, standing}
use Rattle.ent_protocol.specs.Play.{is_idle}
use Rattle.ent_protocol.specs.Run.{Forms}
use Rattle.ent_protocol.specs.State.{State}
use Rattle.ent_protocol.specs.Step.{Step}

-- what a begin of a member that is ready is answered: it moves, or is blocked or held back
abbrev pub IsTurnTaken : {F : Type 0} → Reply F → Type 0
IsTurnTaken (events.Blocked holder) = Unit {0}
IsTurnTaken (events.HeldBack fault) = Unit {0}
IsTurnTaken (events.Lent job) = Unit {0}
IsTurnTaken events.Posted = Unit {0}
IsTurnTaken events.Prepared = Unit {0}
IsTurnTaken (events.Committed entries) = Unit {0}
IsTurnTaken (events.RolledBack group) = Unit {0}
IsTurnTaken other = ⊥

module _ {F : Type 0} (forms : Forms F) (s : State) where
  -- an event is answered so
  abbrev pub IsAnswered : Event → Reply F → Type 0
  IsAnswered event reply = (new : State) × Step forms s event reply new

  -- where a transaction is ready, its begin is refused
  abbrev pub IsHeldUp : ℕ → Type 0
  IsHeldUp tx =
      (turn : Turn) → standing s tx ≡ Some (Ready turn)
      → (reply : Reply F) × (is_idle reply ≡ true) × IsAnswered (events.Begin tx) reply

  -- no job is lent, no member that is ready may begin, nothing is picked, and there is no cycle to break
  pub record IsIdleRound : Type 0 where
    pub none_lent : s.lent ≡ []
    pub held_up : AllByRecursion IsHeldUp (running_members s)
    pub nothing_picked : IsAnswered events.Pick events.Nothing
    pub no_cycle : IsAnswered events.BreakCycle events.NoCycle
