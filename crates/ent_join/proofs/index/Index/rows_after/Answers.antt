use Rattle.std.proofs.Common.{◌≡◌, List, length, ap, subst, ◌∙◌}
use Rattle.std.specs.Arc.{arc_value}
use Rattle.std.specs.List.{AllByRecursion, filter}
use Rattle.ent_value.specs.declared.value.Value.{Value}
use Rattle.ent_join.specs.Index.{Indexed, begins_so}
use Rattle.ent_join.proofs.Between.{all_of_filter}
use Rattle.ent_join.proofs.index.Index.rows_after.Goals as goal

pub returns-clause-widths : goal.returns-clause-widths
returns-clause-widths c =
    let P : Indexed → Type 0 =
    λ index. AllByRecursion (λ (row : List Value). length row ≡ length index.classes) c.rows_between.result.now in
    let p = begins_so c.args.beginning.now c.as_slice.result.now in
    subst P c.self.view_is
    (all_of_filter (λ row. length row ≡ length c.self.inside.classes) p (arc_value c.self.inside.rows)
    c.rows_between.result.now
    c.self.invariant.widths (c.rows_between.ensures ∙ ap (filter p) (c.as_slice-2.ensures ∙ c.deref.ensures)))
