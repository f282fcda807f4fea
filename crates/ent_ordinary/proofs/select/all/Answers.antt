use Rattle.std.proofs.Common.{[], ◌++◌, map, ap, ◌∙◌}
use Rattle.ent_lists.specs.Sets as set
use Rattle.ent_value.specs.Value.{row_cmp}
use Rattle.ent_rel.specs.Numbered.{relation_of}
use Rattle.ent_ordinary.specs.Combined.{combined, shown_of}
use Rattle.ent_ordinary.specs.Tables.{rows_listed}
use Rattle.ent_ordinary.proofs.Combinations.{combined_is}
use Rattle.ent_ordinary.proofs.select.all.Goals as goal

pub returns : goal.returns
returns c =
    let select = c.args.select.now in
    let tables = map relation_of c.args.sources.now in
    c.from_vec.ensures ∙ c.in_ok-ascending.ensures
    ∙ ap (λ found. set.ascending (set.from_list {R = row_cmp} found))
    (c.in_ok-search.ensures
    ∙ ap (λ found. found ++ shown_of select.items select.tests (combined [] (rows_listed tables)))
    c.new-found.ensures.items
    ∙ ap (shown_of select.items select.tests) (combined_is tables))
