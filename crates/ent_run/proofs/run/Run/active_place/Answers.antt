use Rattle.std.proofs.Common.{◌∙◌, List, map, ap, subst, sym}
use Rattle.std.specs.Prelude.{None, Some, Option}
use Rattle.std.proofs.Common.{ℕ}
use Rattle.std.specs.Prelude.{IfSome}
use Rattle.ent_members.specs.Order.{IsAscending, tx_of}
use Rattle.ent_protocol.specs.State.{Member}
use Rattle.ent_run.specs.InRuns.{in_runs}
use Rattle.ent_run.specs.Places.{IsAt, found}
use Rattle.ent_run.specs.Run.{Run}
use Rattle.ent_run.proofs.Lookups.{at_in_runs, found_nobody, own_ascending}
use Rattle.ent_run.proofs.run.Run.active_place.Goals as goal

pub place_by_number-requires : goal.place_by_number-requires
place_by_number-requires c =
    let inside = c.self.inside in
    subst (λ (ms : List Member). IsAscending (map tx_of ms)) (sym c.active.ensures)
    (own_ascending inside.locks inside.groups inside.members.active c.self.invariant.0.0.run.ascending)

pub returns-clause-some : goal.returns-clause-some
returns-clause-some c =
    let inside = c.self.inside in
    let tx = c.args.tx in
    subst (λ (run : Run). IfSome c.place_by_number.result (IsAt run.active tx)) c.self.view_is
    (by_place c.place_by_number.result
    (subst (λ (ms : List Member). IfSome c.place_by_number.result (IsAt ms tx)) c.active.ensures
    c.place_by_number.ensures.some))
  where
    by_place : (place : Option ℕ) → IfSome place (IsAt c.self.inside.members.active c.args.tx)
        → IfSome place (IsAt (in_runs c.self.inside.locks c.self.inside.groups c.self.inside.members.active) c.args.tx)
    by_place None at = tt
    by_place (Some i) at =
        at_in_runs c.self.inside.locks c.self.inside.groups c.self.inside.members.active c.args.tx i at

pub returns-clause-none : goal.returns-clause-none
returns-clause-none c = λ none s.
    let inside = c.self.inside in
    let tx = c.args.tx in
    sym (found_nobody inside.locks inside.groups inside.members.active tx
    (sym (ap (λ (ms : List Member). found ms tx) (sym c.active.ensures) ∙ c.place_by_number.ensures.none none))
    ∙ ap (λ (run : Run). found run.active tx) c.self.view_is)
