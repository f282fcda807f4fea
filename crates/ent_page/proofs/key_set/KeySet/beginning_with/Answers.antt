use Rattle.std.proofs.Common.{ap, sym, ◌∙◌}
use Rattle.std.specs.List.{filter, flat_map}
use Rattle.std.specs.Arc.{arc_value}
use Rattle.ent_lists.specs.Sets as set
use Rattle.ent_page.specs.Front.{begins_with}
use Rattle.ent_page.proofs.Beginnings.{walked}
use Rattle.ent_page.proofs.Paging.{ascending_is}
use Rattle.ent_page.proofs.key_set.KeySet.beginning_with.Goals as goal

pub returns : goal.returns
returns c =
    let keys = flat_map arc_value c.self.inside.pages.items in
    c.beginning_with.ensures
    ∙ walked c.args.front keys c.walk_from-walk.result c.self.invariant.sorted
    (rw c.as_slice.ensures.value at c.walk_from-walk.ensures)
    ∙ ap (filter (begins_with c.args.front)) (sym (ascending_is keys c.self.invariant.sorted)
    ∙ ap set.ascending c.self.view_is)
