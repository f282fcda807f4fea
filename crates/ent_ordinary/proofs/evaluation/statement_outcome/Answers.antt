use Rattle.std.proofs.Common.{◌≡◌, ap, sym, ◌∙◌, map}
use Rattle.ent_rel.specs.Numbered.{relation_of}
use Rattle.ent_semantics.specs.declared.statement.Statement.TheVariants as statements
use Rattle.ent_ordinary.proofs.Changes.{if_ok, deleted_so, updated_so, applied_so}
use Rattle.ent_ordinary.proofs.evaluation.statement_outcome.Goals as goal

pub returns-in-Insert-clause-change : goal.returns-in-Insert-clause-change
returns-in-Insert-clause-change c =
    if_ok (λ outcome changes. applied_so (map relation_of c.args.tables.now) c.only.result.now _ outcome c.only.ensures
    changes)
    c.insertion.result c.insertion.ensures

pub returns-in-Delete-clause-meaning : goal.returns-in-Delete-clause-meaning
returns-in-Delete-clause-meaning c =
    let table = c.in-Delete.table in
    let tests = c.as_slice-in-Delete.result.now in
    let is : c.args.statement.now ≡ statements.Delete table tests =
    c.in-Delete.is ∙ ap (λ tests. statements.Delete table tests)
    (sym (c.as_slice-in-Delete.ensures ∙ c.deref-in-Delete.ensures)) in
    if_ok (λ outcome changes. deleted_so c.args.statement.now tests table (map relation_of c.args.tables.now)
    c.only-in-Delete.result.now outcome is c.only-in-Delete.ensures changes)
    c.deletion.result c.deletion.ensures

pub returns-in-Delete-clause-change : goal.returns-in-Delete-clause-change
returns-in-Delete-clause-change c =
    if_ok (λ outcome changes. applied_so (map relation_of c.args.tables.now) c.only-in-Delete.result.now _ outcome
    c.only-in-Delete.ensures changes)
    c.deletion.result c.deletion.ensures

pub returns-in-Update-clause-meaning : goal.returns-in-Update-clause-meaning
returns-in-Update-clause-meaning c =
    let table = c.in-Update.table in
    let image = c.as_slice-in-Update.result.now in
    let tests = c.as_slice-in-Update-2.result.now in
    let images = c.as_slice-in-Update.ensures in
    let conditions = c.as_slice-in-Update-2.ensures ∙ c.deref-in-Update.ensures in
    let is : c.args.statement.now ≡ statements.Update table image tests =
    c.in-Update.is ∙ sym (λ i. statements.Update table (images i) (conditions i)) in
    if_ok (λ outcome changes. updated_so c.args.statement.now image tests table (map relation_of c.args.tables.now)
    c.only-in-Update.result.now outcome is c.only-in-Update.ensures changes)
    c.replacement.result c.replacement.ensures

pub returns-in-Update-clause-change : goal.returns-in-Update-clause-change
returns-in-Update-clause-change c =
    if_ok (λ outcome changes. applied_so (map relation_of c.args.tables.now) c.only-in-Update.result.now _ outcome
    c.only-in-Update.ensures changes)
    c.replacement.result c.replacement.ensures
