use Rattle.std.proofs.Common.{◌∙◌, false, ℕ, refl, sym, subst, ap}
use Rattle.ent_admission.specs.Admission.{IsIndexed}
use Rattle.ent_meetings.specs.Waiting.{party_at}
use Rattle.ent_room.specs.Room.{Room}
use Rattle.ent_room.specs.State.{Waits}
use Rattle.ent_room.proofs.room.Room.resting.Goals as goal

pub returns-in-Unoffered : goal.returns-in-Unoffered
returns-in-Unoffered c =
    let index = c.index-index.result.now in
    let waits : Waits c.args.self.now.admission c.args.ticket false =
    record { waiter = c.args.waiter.now; waits = c.requires.waits; batch = c.requires.no_batch } in
    let stands = ap (λ (n : ℕ). party_at index n) (sym c.number.ensures) ∙ sym c.in-Some.ensures in (
      record { waiting = waits; place = c.requires.rests },
      record {
        index = index;
        indexed = subst (λ (r : Room). IsIndexed index r.admission.list) c.self.view_is c.index-index.ensures;
        party = c.in-Some.party.now;
        stands = stands;
        lacks = c.in-Unoffered.ensures.lack;
        lonely = c.in-Unoffered.ensures.lonely tt c.args.ticket stands;
      },
    )

pub returns-in_default-unoffered : goal.returns-in_default-unoffered
returns-in_default-unoffered c =
    let waits : Waits c.args.self.now.admission c.args.ticket false =
    record { waiter = c.args.waiter.now; waits = c.requires.waits; batch = c.requires.no_batch } in
    record { waiting = waits; place = c.requires.rests }

pub returns-in_default-2 : goal.returns-in_default-2
returns-in_default-2 c =
    let waits : Waits c.args.self.now.admission c.args.ticket false =
    record { waiter = c.args.waiter.now; waits = c.requires.waits; batch = c.requires.no_batch } in
    (waits, refl)

pub returns-in_default-3 : goal.returns-in_default-3
returns-in_default-3 c =
    let waits : Waits c.args.self.now.admission c.args.ticket false =
    record { waiter = c.args.waiter.now; waits = c.requires.waits; batch = c.requires.no_batch } in
    record { waiting = waits; place = c.requires.rests }
