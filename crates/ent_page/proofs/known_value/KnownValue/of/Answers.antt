use Rattle.ent_page.proofs.Cells.{cell_made, cell_value}
use Rattle.ent_page.proofs.known_value.KnownValue.of.Goals as goal

pub invariant_of-result : goal.invariant_of-result
invariant_of-result c =
    cell_made c.args.value.now c.kind.result c.in_ok-of_value.field-0 c.kind.ensures c.in_ok-of_value.ensures.key
    c.in_ok-of_value.ensures.stored

pub returns : goal.returns
returns c =
    cell_value c.args.value.now c.kind.result c.in_ok-of_value.field-0 c.kind.ensures c.in_ok-of_value.ensures.key
    c.in_ok-of_value.ensures.stored
