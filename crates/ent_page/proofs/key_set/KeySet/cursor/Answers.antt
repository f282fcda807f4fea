use Rattle.std.proofs.Common.{ap, sym, ◌∙◌}
use Rattle.std.specs.Arc.{arc_value}
use Rattle.std.specs.List.{flat_map}
use Rattle.ent_lists.specs.Sets as set
use Rattle.ent_page.proofs.Paging.{ascending_is}
use Rattle.ent_page.proofs.key_set.KeySet.cursor.Goals as goal

pub returns : goal.returns
returns c =
    c.new.ensures ∙ ap (flat_map arc_value) c.as_slice.ensures.value
    ∙ sym (ascending_is (flat_map arc_value c.self.inside.pages.items) c.self.invariant.sorted)
    ∙ ap set.ascending c.self.view_is
