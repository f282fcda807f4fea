use Rattle.std.proofs.Common.{◌≡◌, ◌∙◌, ◌+◌, List, ap, subst}
use Rattle.ent_form.specs.declared.catalogue.TableSchema.{TableSchema}
use Rattle.ent_prepare.specs.Prepared.{IsPrepared}
use Rattle.ent_waiting.specs.WaitingList.{WaitingList, admitted}
use Rattle.ent_waiting.specs.Waiter.{newcomer}
use Rattle.ent_admission.specs.Admission.{Admission}
use Rattle.ent_room.specs.Putting.{Restores, with_restored}
use Rattle.ent_room.specs.Room.{Room}
use Rattle.ent_room.proofs.Arrivals.{as_restored, restored_waits}
use Rattle.ent_room.proofs.room.Room.restore.Goals as goal

pub returns-in-Ok-restore-clause-restores : goal.returns-in-Ok-restore-clause-restores
returns-in-Ok-restore-clause-restores c =
    let old = c.self.inside.admission in
    let new = c.restore.new.self.list in
    let script = c.in-Ok.script in
    let stay = c.args.stay in
    let patience = c.patience_of-patience in
    let rank = c.rank_of-rank in
    let same : c.self-2.inside.admission ≡ old =
    ap (λ (r : Room). r.admission) (c.self-2.view_is ∙ c.come.ensures.same) in
    let restored = subst
    (λ (a : Admission). new ≡ record (admitted c.args.ticket (newcomer script patience.result c.args.batches rank.result)
    a.list) { earlier = c.args.ticket + 1 })
    same c.in-Ok-restore.ensures.list in
    let list : new ≡ with_restored c.args.ticket script stay c.args.batches old.list =
    subst (λ (l : WaitingList). new ≡ l)
    (as_restored script stay old.list c.args.ticket c.args.batches patience.result rank.result patience.ensures
    rank.ensures)
    restored in
    subst
    (λ (r : Room). Restores r.admission c.args.ticket c.args.text.now c.args.variables.now stay c.args.batches new)
    c.self.view_is
    (record {
      script = script;
      prepared = subst (λ (tables : List TableSchema). IsPrepared tables c.args.text.now c.args.variables.now script)
          c.self.invariant.0 c.in-Ok.ensures.ok;
      list = list;
      waits = restored_waits script stay old.list c.args.ticket c.args.batches new list;
    })
