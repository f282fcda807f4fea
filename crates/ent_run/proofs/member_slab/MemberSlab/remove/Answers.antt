use Rattle.std.proofs.Common.{ap, filter, ◌∙◌}
use Rattle.ent_run.specs.Moves.{is_not_of}
use Rattle.ent_run.specs.Run.{Run}
use Rattle.ent_run.specs.UnderKeys.{members_under}
use Rattle.ent_run.proofs.Keys.{left_active, left_keys, left_prepared}
use Rattle.ent_run.proofs.member_slab.MemberSlab.remove.Goals as goal

pub invariant_of-self : goal.invariant_of-self
invariant_of-self c =
    let inside = c.self.inside in
    rw (c.keep_there.ensures, c.keep_there-2.ensures)
    (left_keys inside.live inside.prepared.items inside.active.items c.self.invariant c.remove.new.live
    (is_not_of c.args.numbers.now) c.remove.ensures)

pub returns-clause-prepared : goal.returns-clause-prepared
returns-clause-prepared c =
    let inside = c.self.inside in
    ap (members_under c.remove.new.live) c.keep_there.ensures
    ∙ left_prepared inside.live inside.prepared.items inside.active.items c.self.invariant c.remove.new.live
    (is_not_of c.args.numbers.now) c.remove.ensures
    ∙ ap (λ (run : Run). filter (is_not_of c.args.numbers.now) run.prepared) c.self.view_is

pub returns-clause-active : goal.returns-clause-active
returns-clause-active c =
    let inside = c.self.inside in
    ap (members_under c.remove.new.live) c.keep_there-2.ensures
    ∙ left_active inside.live inside.prepared.items inside.active.items c.self.invariant c.remove.new.live
    (is_not_of c.args.numbers.now) c.remove.ensures
    ∙ ap (λ (run : Run). filter (is_not_of c.args.numbers.now) run.active) c.self.view_is
