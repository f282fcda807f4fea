use Rattle.std.proofs.Common.{ap, sym, ◌∙◌, take, length}
use Rattle.std.specs.Prelude.{filter}
use Rattle.ent_lists.specs.Sets as set
use Rattle.ent_page.specs.Front.{begins_with}
use Rattle.ent_rel.specs.First.{has_first}
use Rattle.ent_rel.specs.Relation.{Relation}
use Rattle.ent_rel.proofs.Fronts.{rows_first, keys_where}
use Rattle.ent_rel.proofs.Keyed.{all_keys, ascending_rows}
use Rattle.ent_rel.proofs.table.Table.look_up.Goals as goal

pub new-requires : goal.new-requires
new-requires c =
    let kinds = c.self.inside.kinds.items in
    rw (c.deref.ensures.value, c.beginning_with.ensures) (keys_where kinds (begins_with c.in_ok-front.front)
    (set.ascending c.self.inside.keys) (all_keys kinds c.self.inside.keys c.self.invariant.fitting))

pub returns : goal.returns
returns c =
    let kinds = c.self.inside.kinds.items in
    let keys = set.ascending c.self.inside.keys in
    let values = c.args.values.now in
    let all = all_keys kinds c.self.inside.keys c.self.invariant.fitting in
    let told = c.requires ∙ ap (λ (t : Relation). take (length values) t.kinds) (sym c.self.view_is) in
    c.new.ensures ∙ rw (c.deref.ensures.value, c.beginning_with.ensures, c.in_ok-front.ensures.key)
    (rows_first c.first_values_are_fronts.ensures kinds values told c.in_ok-front.ensures.stored keys all)
    ∙ ap (filter (has_first values)) (sym (ascending_rows kinds c.self.inside.keys c.self.invariant.fitting)
    ∙ ap (λ (t : Relation). set.ascending t.rows) c.self.view_is)
