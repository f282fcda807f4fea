use Rattle.std.proofs.Common.{rules, ◌<◌, ℕ, List, length, subst, sym}
use Rattle.std.proofs.lemmas.List.{length-map}
use Rattle.ent_protocol.specs.State.{Member as Seen}
use Rattle.ent_run.specs.UnderKeys.{member_under}
use Rattle.ent_run.proofs.InSlab.{key_there}
use Rattle.ent_run.proofs.member_list.MemberList.at.Goals as goal

pub offset_bounds-keys-place : goal.offset_bounds-keys-place
offset_bounds-keys-place c =
    let inside = c.self.inside in
    let h : c.args.place < length inside.keys.now =
    subst (λ (n : ℕ). c.args.place < n) (length-map inside.keys.now (member_under inside.live.now))
    (subst (λ (ms : List Seen). c.args.place < length ms) (sym c.self.view_is) c.requires) in
    search rules

pub index-requires : goal.index-requires
index-requires c =
    let inside = c.self.inside in
    key_there inside.live.now inside.keys.now c.args.place 0 c.self.invariant
    (subst (λ (n : ℕ). c.args.place < n) (length-map inside.keys.now (member_under inside.live.now))
    (subst (λ (ms : List Seen). c.args.place < length ms) (sym c.self.view_is) c.requires))
