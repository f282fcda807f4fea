use Rattle.std.proofs.Common.{◌≡◌, ℕ, ◌+◌, ◌<◌, ◌==◌, List, length, take, insert, count_by, nat_lt, if◌then◌else◌}
use Rattle.std.proofs.Common.{arith, sym, ap, ◌∙◌, subst}
use Rattle.std.specs.Prelude.{Some, None}
use Rattle.ent_group.specs.declared.groups.Membership.{Membership}
use Rattle.ent_group.specs.Groups.{group_of, IsNamed, IsGrouping, alone}
use Rattle.std.proofs.Common.{rules}
use Rattle.std.proofs.lemmas.List.{length-take-le}
use Rattle.ent_group.proofs.Labels.{not_member, added_grouping, group_of-insert, added_classes}
use Rattle.ent_group.proofs.groups.Groups.add.Goals as goal

pub invariant_of-self : goal.invariant_of-self
invariant_of-self c =
    let ms = take c.self.inside.len c.self.inside.memberships in
    let long : length ms ≡ c.self.inside.len =
    length-take-le c.self.inside.len c.self.inside.memberships (search rules) in
    let short : length ms < 64 =
    subst (λ (ns : List Membership). length ns < 64) (sym c.self.view_is) c.requires.room in
    let absent : group_of ms c.args.tx ≡ None = ap (λ (ns : List Membership). group_of ns c.args.tx) c.self.view_is
    ∙ not_member c.args.self.now c.args.tx c.requires.not_in in
    let place = c.count_below-at.ensures ∙ ap (λ (ns : List Membership). count_by (λ m. nat_lt m.member c.args.tx) ns)
    (c.as_slice.ensures.list ∙ sym c.self.view_is) in
    let after = c.put_at.ensures ∙ ap (λ (i : ℕ). insert ms i (alone c.args.tx)) place in (
      omega (arith, long, short),
      subst IsGrouping (sym after)
          (added_grouping ms c.args.tx c.self.invariant.1 short absent),
    )

pub returns-clause-labels : goal.returns-clause-labels
returns-clause-labels c = λ x.
    let ms = take c.self.inside.len c.self.inside.memberships in
    let absent : group_of ms c.args.tx ≡ None = ap (λ (ns : List Membership). group_of ns c.args.tx) c.self.view_is
    ∙ not_member c.args.self.now c.args.tx c.requires.not_in in
    ap (λ (ns : List Membership). group_of ns x) c.put_at.ensures
    ∙ group_of-insert ms c.count_below-at.result c.args.tx x absent
    ∙ ap (λ (ns : List Membership). if c.args.tx == x then Some c.args.tx else group_of ns x) c.self.view_is

pub returns-clause-groups : goal.returns-clause-groups
returns-clause-groups c =
    let ms = take c.self.inside.len c.self.inside.memberships in
    added_classes c.args.self.now (take (c.self.inside.len + 1) c.put_at.new.memberships) c.args.tx
    (subst IsNamed c.self.view_is c.self.invariant.1.named) (not_member c.args.self.now c.args.tx c.requires.not_in)
    (returns-clause-labels c)
