use Rattle.std.proofs.Common.{◌≡◌, ap, get_or, ◌∙◌}
use Rattle.ent_members.specs.Changes.{stepping}
use Rattle.ent_run.proofs.Keys.{own_is, unwritten, written, written_there}
use Rattle.ent_run.proofs.OneMember.{on_err_then, on_ok_then}
use Rattle.ent_run.proofs.member_slab.MemberSlab.step_bound.Goals as goal

pub index_mut-requires : goal.index_mut-requires
index_mut-requires c =
    let inside = c.self.inside in
    written_there inside.live inside.prepared.items inside.active.items c.self.invariant c.args.self.now c.self.view_is
    c.requires.numbers c.args.place c.requires.within c.as_slice.result.now c.as_slice.ensures.value

pub returns-clause-ok : goal.returns-clause-ok
returns-clause-ok c = λ d.
    let inside = c.self.inside in
    let old = c.args.self.now in
    let one = c.index_mut.result.now in
    let change = stepping c.args.answer c.args.bound.items in
    let own = own_is inside.live inside.prepared.items inside.active.items c.self.invariant old c.self.view_is
    c.requires.numbers c.args.place c.requires.within c.as_slice.result.now c.as_slice.ensures.value one
    c.index_mut.ensures.value d in
    on_ok_then c.step_bound.result (c.step_bound.new.self ≡ change one) _
    (λ is. written inside.live inside.prepared.items inside.active.items c.self.invariant old c.self.view_is
    c.requires.numbers c.args.place c.requires.within c.as_slice.result.now c.as_slice.ensures.value
    c.step_bound.new.self (change (get_or old.active c.args.place d)) (is ∙ ap change own))
    c.step_bound.ensures.ok

pub returns-clause-err : goal.returns-clause-err
returns-clause-err c =
    let inside = c.self.inside in
    let one = c.index_mut.result.now in
    on_err_then c.step_bound.result (c.step_bound.new.self ≡ one) _
    (unwritten inside.live inside.prepared.items inside.active.items c.self.invariant c.args.self.now c.self.view_is
    c.requires.numbers c.args.place c.requires.within c.as_slice.result.now c.as_slice.ensures.value
    c.step_bound.new.self one
    c.index_mut.ensures.value)
    c.step_bound.ensures.err
