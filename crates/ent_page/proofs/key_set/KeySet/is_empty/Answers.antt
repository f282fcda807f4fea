use Rattle.std.proofs.Common.{ap, sym, ◌∙◌, ◌==◌}
use Rattle.std.specs.Arc.{arc_value}
use Rattle.std.specs.List.{flat_map}
use Rattle.std.proofs.lemmas.Map.Keys.{IsDistinct-from_sorted}
use Rattle.ent_lists.specs.Sets as set
use Rattle.ent_lists.specs.Laws.{len-distinct}
use Rattle.ent_page.specs.Key.{key_cmp}
use Rattle.ent_page.proofs.Sorted.{keys_total, keys_exact}
use Rattle.ent_page.proofs.key_set.KeySet.is_empty.Goals as goal

pub returns : goal.returns
returns c =
    let keys = flat_map arc_value c.self.inside.pages.items in
    ap (λ n. n == 0) (c.self.invariant.count
    ∙ sym (len-distinct keys_total keys_exact keys (IsDistinct-from_sorted key_cmp keys c.self.invariant.sorted))
    ∙ ap set.len c.self.view_is)
