use Rattle.std.proofs.Common.{◌≡◌, true, false, List, ap, sym, ◌∙◌}
use Rattle.std.specs.List.{list_any}
use Rattle.ent_semantics.specs.Database.{Name, same_name}
use Rattle.ent_book.proofs.FirstOfEach.{with_new, with_old}
use Rattle.ent_book.proofs.written.push_new.Goals as goal

pub returns-in_ok-push : goal.returns-in_ok-push
returns-in_ok-push c =
    let new : list_any (λ other. same_name other c.args.name) c.args.firsts.now.items ≡ false =
    ap (λ (firsts : List Name). list_any (λ other. same_name other c.args.name) firsts) (sym c.deref.ensures.value)
    ∙ sym c.contains.ensures.value
    ∙ c.if-not-contains.true in
    λ names are. c.in_ok-push.ensures.items ∙ with_new names c.args.firsts.now.items c.args.name are new

pub returns-else-not-contains : goal.returns-else-not-contains
returns-else-not-contains c =
    let old : list_any (λ other. same_name other c.args.name) c.args.firsts.now.items ≡ true =
    ap (λ (firsts : List Name). list_any (λ other. same_name other c.args.name) firsts) (sym c.deref.ensures.value)
    ∙ sym c.contains.ensures.value
    ∙ c.if-not-contains.false in
    λ names are. with_old names c.args.firsts.now.items c.args.name are old
