use Rattle.std.proofs.Common.{◌==◌, ◌&&◌, ℕ, Bool, sym, ap, ◌∙◌}
use Rattle.std.specs.List.{list_any}
use Rattle.ent_lists.specs.Elements.{number_itself}
use Rattle.ent_protocol.specs.Member.{is_tx}
use Rattle.ent_run.proofs.groups.is_labelled_among.Goals as goal

pub returns-then-own-group : goal.returns-then-own-group
returns-then-own-group c =
    let own = c.args.own.now in
    c.is_among_by_number.ensures
    ∙ sym (ap (λ (b : Bool). b && list_any (is_tx own.member) c.args.members.now)
    (ap (λ (n : ℕ). n == c.args.group) c.if-own-group.true ∙ number_itself c.args.group))
