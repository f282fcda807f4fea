use Rattle.std.proofs.Common.{◌∙◌, ap, map}
use Rattle.std.proofs.lemmas.List.{with_items_is}
use Rattle.std.specs.Arc.{arc_value}
use Rattle.std.specs.Vec.{with_items}
use Rattle.ent_undo.specs.Change.{rolled_back as rolled_back_noted}
use Rattle.ent_tables.proofs.Leaving.{changes_are_put_back, others_are_noted, rolls_back_with}
use Rattle.ent_tables.proofs.stored.StoredTables.roll_back.Goals as goal

pub invariant_of-self : goal.invariant_of-self
invariant_of-self c =
    let tables = map arc_value c.self.inside.tables.items in
    let log = c.self.inside.log in
    let same = with_items_is c.self.inside.tables c.roll_back.new.tables
    (c.roll_back.auto.tables ∙ c.as_mut_slice.ensures.len) in
    others_are_noted c.args.gone.now tables
    (map arc_value (with_items c.self.inside.tables c.roll_back.new.tables).items) log c.roll_back.new.self
    c.args.self.now
    c.self.view_is c.self.invariant (c.rollback_goes_newest_first.ensures c.args.gone.now log tables)
    (ap (map arc_value) same ∙ c.roll_back.ensures.tables
    ∙ ap (λ xs. rolled_back_noted c.args.gone.now log (map arc_value xs)) c.as_mut_slice.ensures.value)
    c.roll_back.ensures.log

pub returns-clause-numbers : goal.returns-clause-numbers
returns-clause-numbers c =
    let tables = map arc_value c.self.inside.tables.items in
    let log = c.self.inside.log in
    let same = with_items_is c.self.inside.tables c.roll_back.new.tables
    (c.roll_back.auto.tables ∙ c.as_mut_slice.ensures.len) in
    changes_are_put_back c.args.gone.now tables
    (map arc_value (with_items c.self.inside.tables c.roll_back.new.tables).items) log c.roll_back.new.self
    c.args.self.now
    c.self.view_is c.self.invariant (c.rollback_goes_newest_first.ensures c.args.gone.now log tables)
    (ap (map arc_value) same ∙ c.roll_back.ensures.tables
    ∙ ap (λ xs. rolled_back_noted c.args.gone.now log (map arc_value xs)) c.as_mut_slice.ensures.value)
    c.roll_back.ensures.log

pub returns-clause-members : goal.returns-clause-members
returns-clause-members c = λ members is.
    let tables = map arc_value c.self.inside.tables.items in
    let log = c.self.inside.log in
    let same = with_items_is c.self.inside.tables c.roll_back.new.tables
    (c.roll_back.auto.tables ∙ c.as_mut_slice.ensures.len) in
    changes_are_put_back c.args.gone.now tables
    (map arc_value (with_items c.self.inside.tables c.roll_back.new.tables).items) log c.roll_back.new.self
    c.args.self.now
    c.self.view_is c.self.invariant (c.rollback_goes_newest_first.ensures c.args.gone.now log tables)
    (ap (map arc_value) same ∙ c.roll_back.ensures.tables
    ∙ ap (λ xs. rolled_back_noted c.args.gone.now log (map arc_value xs)) c.as_mut_slice.ensures.value)
    c.roll_back.ensures.log
    ∙ rolls_back_with c.args.gone.now members c.args.self.now is
