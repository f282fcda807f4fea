use Rattle.std.proofs.Common.{ap, refl, ◌∙◌}
use Rattle.ent_run.specs.Run.{Run}
use Rattle.ent_run.proofs.Keys.{own_is, same_numbers, written, written_there}
use Rattle.ent_run.proofs.member_slab.MemberSlab.step_back.Goals as goal

pub index_mut-requires : goal.index_mut-requires
index_mut-requires c =
    let inside = c.self.inside in
    written_there inside.live inside.prepared.items inside.active.items c.self.invariant c.args.self.now c.self.view_is
    c.requires.numbers c.args.place c.requires.within c.as_slice.result.now c.as_slice.ensures.value

pub returns-clause-back : goal.returns-clause-back
returns-clause-back c = λ answer bound before d is bindings posted.
    let inside = c.self.inside in
    let own = own_is inside.live inside.prepared.items inside.active.items c.self.invariant c.args.self.now
    c.self.view_is c.requires.numbers c.args.place c.requires.within c.as_slice.result.now c.as_slice.ensures.value
    c.index_mut.result.now c.index_mut.ensures.value d in
    written inside.live inside.prepared.items inside.active.items c.self.invariant c.args.self.now c.self.view_is
    c.requires.numbers c.args.place c.requires.within c.as_slice.result.now c.as_slice.ensures.value
    c.step_back.new.self before (c.step_back.ensures.back answer bound before (own ∙ is) bindings posted)

pub returns-clause-numbers : goal.returns-clause-numbers
returns-clause-numbers c =
    let inside = c.self.inside in
    same_numbers inside.live inside.prepared.items inside.active.items c.self.invariant c.args.self.now c.self.view_is
    c.requires.numbers c.args.place c.requires.within c.as_slice.result.now c.as_slice.ensures.value
    c.step_back.new.self c.index_mut.result.now c.index_mut.ensures.value c.step_back.ensures.tx

pub returns-clause-prepared : goal.returns-clause-prepared
returns-clause-prepared c =
    let inside = c.self.inside in
    ap (λ (run : Run). run.prepared)
    (written inside.live inside.prepared.items inside.active.items c.self.invariant c.args.self.now c.self.view_is
    c.requires.numbers c.args.place c.requires.within c.as_slice.result.now c.as_slice.ensures.value
    c.step_back.new.self c.step_back.new.self refl)
