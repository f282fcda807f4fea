use Rattle.std.proofs.Common.{◌∙◌, ap, map}
use Rattle.std.proofs.lemmas.List.{with_items_is}
use Rattle.std.specs.Arc.{arc_value}
use Rattle.std.specs.Prelude.{slice_set}
use Rattle.std.specs.Vec.{with_items}
use Rattle.ent_tables.specs.Stored.{taken_back}
use Rattle.ent_tables.proofs.Changing.{still_of_tables, taken}
use Rattle.ent_tables.proofs.stored.StoredTables.take_back.Goals as goal

pub invariant_of-self : goal.invariant_of-self
invariant_of-self c =
    let value = c.as_mut_slice.ensures.value in
    let same = with_items_is c.self.inside.tables c.take_back.new.tables
    (c.take_back.auto.tables ∙ c.as_mut_slice.ensures.len) in
    still_of_tables (map arc_value c.self.inside.tables.items)
    (map arc_value (with_items c.self.inside.tables c.take_back.new.tables).items) c.self.inside.log
    c.take_back.new.self
    (λ none. let kept = c.take_back.ensures.same none in
    (kept.0, ap (map arc_value) same ∙ kept.1 ∙ ap (map arc_value) value))
    c.take_back.ensures.log
    (λ earlier newest is. ap (map arc_value) same ∙ c.take_back.ensures.tables earlier newest is
    ∙ (λ i. slice_set (map arc_value (value i)) newest.table newest.before))
    c.self.invariant

pub returns : goal.returns
returns c =
    let value = c.as_mut_slice.ensures.value in
    let same = with_items_is c.self.inside.tables c.take_back.new.tables
    (c.take_back.auto.tables ∙ c.as_mut_slice.ensures.len) in
    taken (map arc_value c.self.inside.tables.items)
    (map arc_value (with_items c.self.inside.tables c.take_back.new.tables).items) c.self.inside.log
    c.take_back.new.self
    (λ none. let kept = c.take_back.ensures.same none in
    (kept.0, ap (map arc_value) same ∙ kept.1 ∙ ap (map arc_value) value))
    c.take_back.ensures.log
    (λ earlier newest is. ap (map arc_value) same ∙ c.take_back.ensures.tables earlier newest is
    ∙ (λ i. slice_set (map arc_value (value i)) newest.table newest.before))
    c.self.invariant
    ∙ ap taken_back c.self.view_is
