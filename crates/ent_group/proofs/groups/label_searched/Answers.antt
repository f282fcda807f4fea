use Rattle.std.proofs.Common.{◌≡◌, nat_lt, false, length, get_or, sym, ap, ◌∙◌, arith}
use Rattle.std.specs.Prelude.{Some}
use Rattle.std.specs.Option.{is_some}
use Rattle.std.proofs.lemmas.Bool.{ltb-true}
use Rattle.ent_group.specs.declared.groups.Membership.{Membership}
use Rattle.ent_group.proofs.LabelAt.{label_behind, label_here}
use Rattle.ent_group.proofs.groups.label_searched.Goals as goal

nobody : Membership
nobody = record { member = 0; group = 0 }

pub returns-in-Some : goal.returns-in-Some
returns-in-Some c =
    let ms = c.args.memberships.now in
    let at = c.count_below-at.result in
    let own = c.in-Some.own.now in
    let here : own ≡ get_or ms at own = c.in-Some.ensures.lookup.1 in
    let label = label_here ms at c.args.tx own c.requires
    (ltb-true at (length ms) (sym c.in-Some.ensures.lookup.0)) (sym (ap (λ m. m.member) here) ∙ c.if-own-tx.true) in
    sym (label ∙ ap (λ m. Some m.group) (sym here))

pub returns-in_default : goal.returns-in_default
returns-in_default c =
    let ms = c.args.memberships.now in
    let at = c.count_below-at.result in
    let own = c.in-Some.own.now in
    let here : own ≡ get_or ms at own = c.in-Some.ensures.lookup.1 in
    sym (label_behind ms c.args.tx at own c.requires c.count_below-at.ensures
    (λ _ same. c.if-own-tx.false (ap (λ m. m.member) here ∙ same)))

pub returns-in_default-2 : goal.returns-in_default-2
returns-in_default-2 c =
    let ms = c.args.memberships.now in
    let at = c.count_below-at.result in
    let beyond : false ≡ nat_lt at (length ms) = sym (ap is_some c.in_default.is) ∙ c.get.ensures.lookup.0 in
    sym (label_behind ms c.args.tx at nobody c.requires c.count_below-at.ensures
    (λ within. absurd (grind (arith, beyond))))
