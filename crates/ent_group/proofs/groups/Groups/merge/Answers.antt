use Rattle.std.proofs.Common.{◌≡◌, List, take, sym, ap, ◌∙◌, subst}
use Rattle.std.specs.Prelude.{Some}
use Rattle.ent_group.specs.declared.groups.Membership.{Membership}
use Rattle.ent_group.specs.Groups.{group_of, moved_label, relabelled, numbers_of, IsGrouping}
use Rattle.std.specs.Option.{option_map}
use Rattle.std.proofs.lemmas.List.{take-map}
use Rattle.ent_group.proofs.Labels.{Moves, relabelled_grouping, group_of-relabelled, numbers_of-relabelled, relabels}
use Rattle.ent_group.proofs.Labels.{merged_classes}
use Rattle.ent_group.proofs.groups.Groups.merge.Goals as goal

pub invariant_of-self : goal.invariant_of-self
invariant_of-self c =
    let ms = take c.self.inside.len c.self.inside.memberships in
    let change = relabelled c.in-Some-Some.gone c.in-Some-Some.kept in
    let at_left : group_of ms c.args.left ≡ Some c.in-Some-Some.kept =
    ap (λ (ns : List Membership). group_of ns c.args.left) c.self.view_is ∙ sym c.group_of.ensures
    ∙ c.in-Some-Some.is-0 in
    let after = ap (λ (ns : List Membership). take c.self.inside.len ns) c.relabel.ensures
    ∙ take-map change c.self.inside.len c.self.inside.memberships in (
      c.self.invariant.0,
      subst IsGrouping (sym after)
          (relabelled_grouping ms c.in-Some-Some.gone c.in-Some-Some.kept c.args.left c.self.invariant.1 at_left),
    )

moves : (old : List Membership) (c : goal.After-relabel) → take c.self.inside.len c.self.inside.memberships ≡ old
    → Moves c.in-Some-Some.gone c.in-Some-Some.kept (group_of old)
    (group_of (take c.self.inside.len c.relabel.new.memberships))
moves old c is x =
    let change = relabelled c.in-Some-Some.gone c.in-Some-Some.kept in
    ap (λ (ns : List Membership). group_of (take c.self.inside.len ns) x) c.relabel.ensures
    ∙ ap (λ (ns : List Membership). group_of ns x) (take-map change c.self.inside.len c.self.inside.memberships)
    ∙ group_of-relabelled c.in-Some-Some.gone c.in-Some-Some.kept (take c.self.inside.len c.self.inside.memberships) x
    ∙ ap (λ (ns : List Membership). option_map (moved_label c.in-Some-Some.gone c.in-Some-Some.kept) (group_of ns x)) is

pub returns-in-Some-Some-clause-labels : goal.returns-in-Some-Some-clause-labels
returns-in-Some-Some-clause-labels c =
    relabels c.args.self.now (take c.self.inside.len c.relabel.new.memberships) c.args.left c.args.right
    c.in-Some-Some.kept c.in-Some-Some.gone
    (sym c.group_of.ensures ∙ c.in-Some-Some.is-0) (sym c.group_of-2.ensures ∙ c.in-Some-Some.is-1)
    (moves c.args.self.now c c.self.view_is)

pub returns-in-Some-Some-clause-groups : goal.returns-in-Some-Some-clause-groups
returns-in-Some-Some-clause-groups c =
    merged_classes c.args.self.now (take c.self.inside.len c.relabel.new.memberships) c.args.left c.args.right
    c.in-Some-Some.kept c.in-Some-Some.gone
    (sym c.group_of.ensures ∙ c.in-Some-Some.is-0) (sym c.group_of-2.ensures ∙ c.in-Some-Some.is-1)
    (moves c.args.self.now c c.self.view_is)

pub returns-in-Some-Some-clause-members : goal.returns-in-Some-Some-clause-members
returns-in-Some-Some-clause-members c =
    let change = relabelled c.in-Some-Some.gone c.in-Some-Some.kept in
    ap (λ (ns : List Membership). numbers_of (take c.self.inside.len ns)) c.relabel.ensures
    ∙ ap numbers_of (take-map change c.self.inside.len c.self.inside.memberships)
    ∙ numbers_of-relabelled c.in-Some-Some.gone c.in-Some-Some.kept (take c.self.inside.len c.self.inside.memberships)
    ∙ ap numbers_of c.self.view_is
