use Rattle.std.proofs.Common.{◌≡◌, ap, sym, subst, ◌∙◌, false, true}
use Rattle.ent_lists.specs.Sets as set
use Rattle.ent_value.specs.Value.{kinds_of}
use Rattle.ent_page.specs.Key.{AreStorable}
use Rattle.ent_rel.specs.Relation.{Relation}
use Rattle.ent_rel.specs.Kept.{listed_rows, rows_of}
use Rattle.ent_rel.proofs.Lists.{have_kinds}
use Rattle.ent_rel.proofs.Keyed.{contains_row, listed_fit, other_absent}
use Rattle.ent_rel.proofs.table.Table.contains.Goals as goal

pub returns-then-have_kinds : goal.returns-then-have_kinds
returns-then-have_kinds c =
    let kinds = c.self.inside.kinds.items in
    let same : kinds_of c.args.row.now ≡ c.self.inside.kinds.items = ap kinds_of (sym c.values.ensures)
    ∙ c.have_kinds.ensures.kinds.0 c.if-have_kinds.true ∙ c.deref.ensures.value in
    let fits = subst AreStorable c.values.ensures (rw c.if-have_kinds.true at c.have_kinds.ensures.stored) in
    c.contains.ensures ∙ contains_row kinds c.self.inside.keys c.args.row.now same fits c.self.invariant.fitting
    ∙ ap (λ (t : Relation). set.contains t.rows c.args.row.now) c.self.view_is

pub returns-else-have_kinds : goal.returns-else-have_kinds
returns-else-have_kinds c =
    let kinds = c.self.inside.kinds.items in
    let other : kinds_of c.args.row.now ≡ c.self.inside.kinds.items → ⊥ = λ same.
    (let no' : false ≡ true = sym c.if-have_kinds.false ∙ c.have_kinds.ensures.kinds.1 (ap kinds_of c.values.ensures
    ∙ same ∙ sym c.deref.ensures.value) in cc) in
    c.if-have_kinds.false
    ∙ sym (ap (λ (t : Relation). set.contains t.rows c.args.row.now) (sym c.self.view_is)
    ∙ other_absent kinds (rows_of kinds c.self.inside.keys) c.args.row.now (have_kinds kinds
    (listed_rows kinds c.self.inside.keys) (listed_fit kinds c.self.inside.keys c.self.invariant.fitting)) other)
