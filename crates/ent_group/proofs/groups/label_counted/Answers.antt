use Rattle.std.proofs.Common.{◌≡◌, length, get_or, sym, ap, ◌∙◌}
use Rattle.std.specs.Prelude.{Some}
use Rattle.std.proofs.lemmas.Bool.{ltb-true}
use Rattle.ent_group.proofs.LabelAt.{label_here}
use Rattle.ent_group.proofs.groups.label_counted.Goals as goal

pub returns-then-own-tx : goal.returns-then-own-tx
returns-then-own-tx c =
    let ms = c.args.memberships.now in
    let own = c.in_ok-own.own.now in
    let here = c.in_ok-own.ensures.lookup.1 in
    label_here ms _ c.args.tx own c.requires (ltb-true _ (length ms) (sym c.in_ok-own.ensures.lookup.0))
    (sym (ap (λ m. m.member) here) ∙ c.if-own-tx.true)
    ∙ ap (λ m. Some m.group) (sym here)
