use Rattle.std.proofs.Common.{◌≡◌, true, false, sym, ap, ◌∙◌}
use Rattle.std.specs.FinSet as finite
use Rattle.ent_lock.specs.Layout.{held_in}
use Rattle.std.proofs.Common.{inl, inr}
use Rattle.std.proofs.lemmas.Bool.{not-false}
use Rattle.ent_lists.specs.Elements.{turned}
use Rattle.ent_lock.specs.Use.{Uses}
use Rattle.ent_lock.proofs.Held.{the_use, insert_again, remove_insert, on_err_then, no_err}
use Rattle.ent_lock.proofs.table_uses.+add_all.Goals as goal

pub returns-then-is_new-clause-err : goal.returns-then-is_new-clause-err
returns-then-is_new-clause-err g t c =
    let old = held_in g.T.TableKey.key c.args.tables.now.items in
    let u = the_use c.args.tx (g.T.TableKey.key c.in-Some.first.now.0) c.in-Some.first.now.1 in
    let absent : finite.contains old u ≡ false =
    turned (finite.contains old u) (sym c.in_ok-is_new.ensures.is_new ∙ c.if-is_new.true) in
    on_err_then c.add_all-added.result
    (held_in g.T.TableKey.key c.add_all-added.new.tables.items ≡ held_in g.T.TableKey.key
    c.add_use.new.tables.items) (held_in g.T.TableKey.key c.remove_use.new.tables.items ≡ old)
    (λ same. c.remove_use.ensures.held ∙ ap (λ (held : Uses). finite.remove held u) (same ∙ c.in_ok-is_new.ensures.ok)
    ∙ remove_insert old u absent)
    c.add_all-added.ensures.err

pub returns-else-is_err-clause-err : goal.returns-else-is_err-clause-err
returns-else-is_err-clause-err g t c =
    let old = held_in g.T.TableKey.key c.args.tables.now.items in
    let u = the_use c.args.tx (g.T.TableKey.key c.in-Some.first.now.0) c.in-Some.first.now.1 in
    elim c.else-is_err.either [
      | inl both ↦
          let there : finite.contains old u ≡ true =
          not-false (finite.contains old u) (sym c.in_ok-is_new.ensures.is_new ∙ both.1) in
          on_err_then c.add_all-added.result
          (held_in g.T.TableKey.key c.add_all-added.new.tables.items ≡ held_in g.T.TableKey.key
          c.add_use.new.tables.items) (held_in g.T.TableKey.key c.add_all-added.new.tables.items ≡ old)
          (λ same. same ∙ c.in_ok-is_new.ensures.ok ∙ sym (insert_again old u there)) c.add_all-added.ensures.err
      | inr fine ↦ no_err c.add_all-added.result (held_in g.T.TableKey.key c.add_all-added.new.tables.items ≡ old)
          (sym c.is_err.ensures.value ∙ fine)
    ]
