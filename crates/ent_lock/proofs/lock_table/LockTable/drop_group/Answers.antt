use Rattle.std.proofs.Common.{sym, ap, subst, ◌∙◌}
use Rattle.std.specs.FinSet as finite
use Rattle.ent_lock.specs.Use.{Uses, DropsUses}
use Rattle.ent_lock.specs.Layout.{held_in, is_use_of_none}
use Rattle.std.proofs.lemmas.List.{with_items_is}
use Rattle.ent_lock.proofs.Requests.{retain-DropsUses}
use Rattle.ent_lock.proofs.lock_table.LockTable.drop_group.Goals as goal

pub returns : goal.returns
returns g c =
    let members = c.args.members.now in
    let same = with_items_is c.self.inside.tables c.drop_members.new.tables
    (c.drop_members.auto.tables ∙ c.deref_mut.ensures.len) in
    subst (λ (held : Uses). DropsUses c.args.self.now held members)
    (sym (ap (held_in g.T.TableKey.key) same ∙ c.drop_members.ensures.held
    ∙ ap (λ (h : Uses). finite.retain h (is_use_of_none members))
    (ap (held_in g.T.TableKey.key) c.deref_mut.ensures.value ∙ c.self.view_is)))
    (retain-DropsUses c.args.self.now members)
