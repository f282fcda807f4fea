use Rattle.std.proofs.Common.{ℕ, Some, List, ap, subst, sym, ◌∙◌}
use Rattle.std.specs.List.{insert}
use Rattle.slab.specs.Slab.{Slab, Updates}
use Rattle.ent_protocol.specs.State.{Member}
use Rattle.ent_run.specs.MemberSlab.{AreKeys}
use Rattle.ent_run.specs.Moves.{run_of}
use Rattle.ent_run.specs.Run.{Run}
use Rattle.ent_run.specs.UnderKeys.{members_under}
use Rattle.ent_run.proofs.Keys.{more_active, more_keys, more_prepared}
use Rattle.ent_run.proofs.member_slab.MemberSlab.insert.Goals as goal
use Rattle.ent_run.proofs.member_slab.MemberSlab.insert.Goals.{After-insert_reserved}

kept : (c : After-insert_reserved)
    → AreKeys c.reserve.new.self c.self.inside.prepared.items c.self.inside.active.items
kept c =
    subst (λ (live : Slab Member). AreKeys live c.self.inside.prepared.items c.self.inside.active.items)
    (sym c.in_ok-reserve.ensures.rest_kept) c.self.invariant

update : (c : After-insert_reserved)
    → Updates c.reserve.new.self c.insert_reserved.new.self c.vacant_key-key.result (Some c.args.member)
update c =
    subst (λ (key : ℕ). Updates c.reserve.new.self c.insert_reserved.new.self key (Some c.args.member))
    (c.insert_reserved.ensures.key ∙ sym c.vacant_key-key.ensures.value) c.insert_reserved.ensures.updates

pub invariant_of-self-2 : goal.invariant_of-self-2
invariant_of-self-2 c =
    subst (λ (keys : List ℕ). AreKeys c.insert_reserved.new.self c.self.inside.prepared.items keys)
    (sym c.in_ok-insert.ensures.items)
    (more_keys c.reserve.new.self c.insert_reserved.new.self c.self.inside.prepared.items c.self.inside.active.items
    (kept c) c.args.place c.vacant_key-key.result c.args.member c.vacant_key-key.ensures.vacant (update c))

pub returns-clause-ok : goal.returns-clause-ok
returns-clause-ok c =
    let prepared = c.self.inside.prepared.items in
    let active = c.self.inside.active.items in
    let new = c.insert_reserved.new.self in
    let kept_prepared = more_prepared c.reserve.new.self new prepared active (kept c) c.args.place
    c.vacant_key-key.result c.args.member c.vacant_key-key.ensures.vacant (update c)
    ∙ ap (λ (live : Slab Member). members_under live prepared) c.in_ok-reserve.ensures.rest_kept
    ∙ ap (λ (run : Run). run.prepared) c.self.view_is in
    let with_one = ap (members_under new) c.in_ok-insert.ensures.items
    ∙ more_active c.reserve.new.self new prepared active (kept c) c.args.place
    c.vacant_key-key.result c.args.member c.vacant_key-key.ensures.vacant (update c)
    ∙ ap (λ (live : Slab Member). insert (members_under live active) c.args.place c.args.member)
    c.in_ok-reserve.ensures.rest_kept
    ∙ ap (λ (run : Run). insert run.active c.args.place c.args.member) c.self.view_is in
    λ i. run_of (kept_prepared i) (with_one i)
