use Rattle.std.proofs.Common.{◌∙◌, List, map, ap, subst, sym}
use Rattle.std.specs.Prelude.{Some}
use Rattle.ent_members.specs.Order.{IsAscending, tx_of}
use Rattle.ent_protocol.specs.State.{Member}
use Rattle.ent_run.specs.Places.{found}
use Rattle.ent_run.specs.Run.{Run}
use Rattle.ent_run.proofs.Lookups.{found_nobody, found_one, own_ascending}
use Rattle.ent_run.proofs.run.Run.active_member.Goals as goal

pub member_by_number-requires : goal.member_by_number-requires
member_by_number-requires c =
    let inside = c.self.inside in
    subst (λ (ms : List Member). IsAscending (map tx_of ms)) (sym c.active.ensures)
    (own_ascending inside.locks inside.groups inside.members.active c.self.invariant.0.0.run.ascending)

pub returns-in-Some : goal.returns-in-Some
returns-in-Some c = λ s.
    let inside = c.self.inside in
    let tx = c.args.tx in
    ap Some c.new.ensures
    ∙ found_one inside.locks inside.groups inside.members.active tx c.in-Some.own.now
    (c.in-Some.ensures ∙ ap (λ (ms : List Member). found ms tx) c.active.ensures)
    ∙ ap (λ (run : Run). found run.active tx) c.self.view_is

pub returns-in-None : goal.returns-in-None
returns-in-None c = λ s.
    let inside = c.self.inside in
    let tx = c.args.tx in
    found_nobody inside.locks inside.groups inside.members.active tx
    (c.in-None.ensures ∙ ap (λ (ms : List Member). found ms tx) c.active.ensures)
    ∙ ap (λ (run : Run). found run.active tx) c.self.view_is
