use Rattle.std.proofs.Common.{◌==◌, ◌<◌, ℕ, length, sym, ap, subst, ◌∙◌}
use Rattle.std.proofs.lemmas.List.Folds.{list_any_at}
use Rattle.ent_lists.specs.Elements.{number_itself}
use Rattle.ent_protocol.specs.Member.{is_tx}
use Rattle.ent_run.proofs.search.is_among_from.Goals as goal

pub returns-then-tx : goal.returns-then-tx
returns-then-tx c =
    let members = c.args.members.now in
    let next = c.args.next.now in
    let own = c.at.result.now in
    sym (list_any_at (is_tx c.args.tx) members next own
    (subst (λ (n : ℕ). next < n) c.len.ensures c.if-next-len.true)
    (ap (is_tx c.args.tx) (sym (c.at.ensures own))
    ∙ ap (λ (n : ℕ). n == c.args.tx) (sym c.tx.ensures ∙ c.if-tx.true) ∙ number_itself c.args.tx))
