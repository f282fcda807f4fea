use Rattle.std.proofs.Common.{ap, get_or, ◌∙◌}
use Rattle.ent_members.specs.Changes.{posted}
use Rattle.ent_run.proofs.Keys.{own_is, written, written_there}
use Rattle.ent_run.proofs.member_slab.MemberSlab.post.Goals as goal

pub index_mut-requires : goal.index_mut-requires
index_mut-requires c =
    let inside = c.self.inside in
    written_there inside.live inside.prepared.items inside.active.items c.self.invariant c.args.self.now c.self.view_is
    c.requires.numbers c.args.place c.requires.within c.as_slice.result.now c.as_slice.ensures.value

pub returns : goal.returns
returns c = λ d.
    let inside = c.self.inside in
    let own = own_is inside.live inside.prepared.items inside.active.items c.self.invariant c.args.self.now
    c.self.view_is c.requires.numbers c.args.place c.requires.within c.as_slice.result.now c.as_slice.ensures.value
    c.index_mut.result.now c.index_mut.ensures.value d in
    written inside.live inside.prepared.items inside.active.items c.self.invariant c.args.self.now c.self.view_is
    c.requires.numbers c.args.place c.requires.within c.as_slice.result.now c.as_slice.ensures.value c.post.new.self
    (posted (get_or c.args.self.now.active c.args.place d)) (c.post.ensures ∙ ap posted own)
