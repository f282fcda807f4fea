use Rattle.std.proofs.Common.{List, ℕ, ap, filter, nat_eq, sym, subst, ◌∙◌}
use Rattle.std.specs.Prelude.{Contains}
use Rattle.std.specs.List.{IsDistinct}
use Rattle.ent_run.specs.InRuns.{is_otherwise_labelled}
use Rattle.ent_run.specs.MemberSlab.{AreDistinct, AreKeys}
use Rattle.ent_run.specs.Run.{Run}
use Rattle.ent_run.specs.UnderKeys.{members_under}
use Rattle.ent_run.proofs.InSlab.{first_distinct, keys_distinct}
use Rattle.ent_run.proofs.Keys.{Leaving, prepared_there, taken_active, taken_keys, taken_prepared}
use Rattle.ent_run.proofs.member_slab.MemberSlab.take_group.Goals as goal
use Rattle.ent_run.proofs.member_slab.MemberSlab.take_group.Goals.{After-take_group}

pub take_group-requires-clause-there : goal.take_group-requires-clause-there
take_group-requires-clause-there c = λ key within.
    let inside = c.self.inside in
    prepared_there inside.live inside.prepared.items inside.active.items c.self.invariant key
    (subst (λ (keys : List ℕ). Contains keys key) c.as_slice.ensures.value within)

pub take_group-requires-clause-distinct : goal.take_group-requires-clause-distinct
take_group-requires-clause-distinct c =
    let inside = c.self.inside in
    subst (λ (keys : List ℕ). IsDistinct nat_eq keys) (sym c.as_slice.ensures.value)
    (keys_distinct inside.live inside.prepared.items
    (first_distinct (members_under inside.live inside.prepared.items) (members_under inside.live inside.active.items)
    (subst AreDistinct (sym c.self.view_is) c.requires.numbers)))

abbrev leaving : After-take_group → Leaving
leaving c = record {
  live = c.self.inside.live;
  prepared = c.self.inside.prepared.items;
  active = c.self.inside.active.items;
  keys = c.self.invariant;
  distinct = subst AreDistinct (sym c.self.view_is) c.requires.numbers;
  left = c.take_group.new.live;
  passes = is_otherwise_labelled c.args.groups.now c.args.group;
  leave = λ key within. c.take_group.ensures.listed key
      (subst (λ (keys : List ℕ). Contains keys key) (sym c.as_slice.ensures.value) within);
  others = λ key out. c.take_group.ensures.others key
      (λ within. out (subst (λ (keys : List ℕ). Contains keys key) c.as_slice.ensures.value within));
  fewer = c.take_group.ensures.fewer;
}

pub invariant_of-self : goal.invariant_of-self
invariant_of-self c =
    let w = (goal.at.invariant_of-self c).After-take_group in
    subst (λ (keys : List ℕ). AreKeys c.take_group.new.live keys c.self.inside.active.items)
    (sym c.keep_there.ensures) (taken_keys (leaving w))

pub returns-clause-prepared : goal.returns-clause-prepared
returns-clause-prepared c =
    let w = (goal.at.returns-clause-prepared c).After-take_group in
    ap (members_under c.take_group.new.live) c.keep_there.ensures
    ∙ taken_prepared (leaving w)
    ∙ ap (λ (run : Run). filter (is_otherwise_labelled c.args.groups.now c.args.group) run.prepared) c.self.view_is

pub returns-clause-active : goal.returns-clause-active
returns-clause-active c =
    let w = (goal.at.returns-clause-active c).After-take_group in
    taken_active (leaving w) ∙ ap (λ (run : Run). run.active) c.self.view_is
