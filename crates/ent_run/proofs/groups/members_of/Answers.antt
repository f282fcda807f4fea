use Rattle.std.proofs.Common.{sym, ◌∙◌, ap}
use Rattle.std.specs.Prelude.{Some}
use Rattle.std.proofs.lemmas.Option.{same_Some}
use Rattle.ent_run.proofs.groups.members_of.Goals as goal

pub returns-then-is_label-clause-members : goal.returns-then-is_label-clause-members
returns-then-is_label-clause-members c = λ x.
    let own = c.is_label.ensures.0 c.if-is_label.true in (
      λ there.
          let same = (c.members.ensures.group x).0 there in
          same.2 ∙ ap Some (same_Some same.0 c.args.label (sym same.1 ∙ own)),
      λ labelled. (c.members.ensures.group x).1 (c.args.label, own, labelled),
    )
