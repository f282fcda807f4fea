use Rattle.std.proofs.Common.{◌≡◌, sym, ap, subst, ◌∙◌}
use Rattle.ent_lock.specs.Layout.{held_in}
use Rattle.ent_lock.specs.Use.{Uses, AddsUses, with_uses, keyed}
use Rattle.ent_lock.proofs.Requests.{with_uses-AddsUses}
use Rattle.ent_lock.proofs.Held.{on_ok_then}
use Rattle.ent_lock.proofs.lock_table.LockTable.grant.Goals as goal

pub returns-clause-ok : goal.returns-clause-ok
returns-clause-ok g c =
    let key = g.T.TableKey.key in
    let tx = c.args.tx in
    let asked = keyed key c.args.asked.now in
    let new = held_in key c.add_all.new.tables.items in
    on_ok_then c.add_all.result (new ≡ with_uses (held_in key c.self.inside.tables.items) tx asked)
    (AddsUses c.args.self.now new tx asked)
    (λ is. subst (λ (held : Uses). AddsUses c.args.self.now held tx asked)
    (sym (is ∙ ap (λ (held : Uses). with_uses held tx asked) c.self.view_is))
    (with_uses-AddsUses c.args.self.now tx asked))
    c.add_all.ensures.ok
