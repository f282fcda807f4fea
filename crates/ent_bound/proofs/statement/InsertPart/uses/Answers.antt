use Rattle.std.proofs.Common.{ap, ◌∙◌}
use Rattle.std.proofs.lemmas.List.{map-id}
use Rattle.std.proofs.lemmas.List.Concat.{flat_map_single}
use Rattle.std.specs.List.{list_any}
use Rattle.ent_bound.specs.Values.{is_variable}
use Rattle.ent_bound.proofs.statement.InsertPart.uses.Goals as goal

pub returns : goal.returns
returns c =
    let values = c.args.self.now.values in
    c.uses.ensures
    ∙ ap (list_any (is_variable c.args.name.now)) (flat_map_single (λ value. value) values ∙ map-id values)
