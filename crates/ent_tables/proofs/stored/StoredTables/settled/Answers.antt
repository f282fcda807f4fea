use Rattle.std.proofs.Common.{◌≡◌, ◌∙◌, ap, sym, List, Option, Some, map, slice_get}
use Rattle.std.specs.Arc.{arc_value}
use Rattle.std.specs.Option.{option_map}
use Rattle.ent_rel.specs.Relation.{Relation}
use Rattle.ent_tables.proofs.Settled.{got_at, mapped_twice, noted_or, settled_kinds, settled_rows}
use Rattle.ent_tables.proofs.stored.StoredTables.settled.Goals as goal

pub returns-in-Some-clause-rows : goal.returns-in-Some-clause-rows
returns-in-Some-clause-rows c =
    let tables = map arc_value c.self.inside.tables.items in
    settled_rows tables c.self.inside.log c.args.self.now c.self.view_is c.self.invariant c.args.number
    (Some (arc_value c.in-Some.before.now))
    (ap (λ (found : Option Relation). noted_or found (slice_get tables c.args.number))
    (sym (ap (option_map (λ before. arc_value before.now)) c.in-Some.is) ∙ c.oldest_of.ensures))

pub returns-in-Some-clause-kinds : goal.returns-in-Some-clause-kinds
returns-in-Some-clause-kinds c =
    let tables = map arc_value c.self.inside.tables.items in
    settled_kinds tables c.self.inside.log c.args.self.now c.self.view_is c.self.invariant c.args.number
    (Some (arc_value c.in-Some.before.now))
    (ap (λ (found : Option Relation). noted_or found (slice_get tables c.args.number))
    (sym (ap (option_map (λ before. arc_value before.now)) c.in-Some.is) ∙ c.oldest_of.ensures))

pub returns-in-None-clause-rows : goal.returns-in-None-clause-rows
returns-in-None-clause-rows c =
    let tables = map arc_value c.self.inside.tables.items in
    let found = option_map (λ table. arc_value table.now) c.get.result in
    let present : found ≡ slice_get tables c.args.number =
    got_at c.deref.result.now c.args.number c.get.result c.get.ensures.lookup
    ∙ ap (λ (arcs : List _). slice_get (map arc_value arcs) c.args.number) c.deref.ensures.value in
    mapped_twice (λ (t : Relation). t.rows) (λ table. arc_value table.now) c.get.result
    ∙ settled_rows tables c.self.inside.log c.args.self.now c.self.view_is c.self.invariant c.args.number found
    (present ∙ ap (λ (noted : Option Relation). noted_or noted (slice_get tables c.args.number))
    (sym (ap (option_map (λ before. arc_value before.now)) c.in-None.is) ∙ c.oldest_of.ensures))

pub returns-in-None-clause-kinds : goal.returns-in-None-clause-kinds
returns-in-None-clause-kinds c =
    let tables = map arc_value c.self.inside.tables.items in
    let found = option_map (λ table. arc_value table.now) c.get.result in
    let present : found ≡ slice_get tables c.args.number =
    got_at c.deref.result.now c.args.number c.get.result c.get.ensures.lookup
    ∙ ap (λ (arcs : List _). slice_get (map arc_value arcs) c.args.number) c.deref.ensures.value in
    mapped_twice (λ (t : Relation). t.kinds) (λ table. arc_value table.now) c.get.result
    ∙ settled_kinds tables c.self.inside.log c.args.self.now c.self.view_is c.self.invariant c.args.number found
    (present ∙ ap (λ (noted : Option Relation). noted_or noted (slice_get tables c.args.number))
    (sym (ap (option_map (λ before. arc_value before.now)) c.in-None.is) ∙ c.oldest_of.ensures))
