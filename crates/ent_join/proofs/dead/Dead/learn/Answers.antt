use Rattle.std.proofs.Common.{sym, subst, arith, map}
use Rattle.std.specs.Prelude.{slice_set}
use Rattle.ent_join.specs.Dead.{HasLearnt}
use Rattle.ent_join.proofs.Learnt.{learnt}
use Rattle.ent_join.proofs.dead.Dead.learn.Goals as goal

pub returns-in_ok-insert : goal.returns-in_ok-insert
returns-in_ok-insert c =
    let places = c.self.inside.places in
    let place = c.args.place in
    subst (λ kept. HasLearnt kept (map (λ values. values.items) (slice_set places.items place c.insert.new.values))
    place c.args.value.now c.args.reason.now) c.self.view_is
    (learnt (λ values. values.items) places.items place c.index_mut.result.now c.insert.new.values c.args.value.now
    c.args.reason.now (omega (arith, c.len.ensures, places.ok.0)) (sym c.index_mut.ensures.value)
    c.in_ok-insert.ensures (c.is_none_before.ensures c.if-is_none_before.true))
