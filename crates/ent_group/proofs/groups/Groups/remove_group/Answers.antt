use Rattle.std.proofs.Common.{take, arith, sym, ◌∙◌, subst}
use Rattle.ent_group.specs.Groups.{IsByNumber, IsGrouping}
use Rattle.ent_group.proofs.Labels.{without_grouping, gone_class, other_classes}
use Rattle.ent_group.proofs.groups.Groups.remove_group.Goals as goal

pub invariant_of-self : goal.invariant_of-self
invariant_of-self c =
    let ms = take c.self.inside.len c.self.inside.memberships in (
      omega (arith, c.self.invariant.0, c.keep_others-self-inside.ensures.bound),
      subst IsGrouping
          (sym c.keep_others-self-inside.ensures.kept) (without_grouping ms c.in-Some.group c.self.invariant.1),
    )

pub returns-in-Some-clause-gone : goal.returns-in-Some-clause-gone
returns-in-Some-clause-gone c = λ x same.
    rw (c.keep_others-self-inside.ensures.kept, c.self.view_is)
    (gone_class c.args.self.now c.args.tx c.in-Some.group x
    (subst IsByNumber c.self.view_is c.self.invariant.1.by_number) (sym c.group_of.ensures ∙ c.in-Some.is) same)

pub returns-in-Some-clause-others : goal.returns-in-Some-clause-others
returns-in-Some-clause-others c = λ x apart.
    rw (c.keep_others-self-inside.ensures.kept, c.self.view_is)
    (other_classes c.args.self.now c.args.tx c.in-Some.group x (sym c.group_of.ensures ∙ c.in-Some.is) apart)
