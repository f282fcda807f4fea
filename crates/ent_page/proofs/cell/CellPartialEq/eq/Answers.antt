use Rattle.std.proofs.Common.{ap, sym, ◌∙◌}
use Rattle.std.specs.Ordering.{is_eq}
use Rattle.std.proofs.lemmas.Map.Text.{is_eq-slice_cmp}
use Rattle.ent_page.proofs.Cells.{cells_compared}
use Rattle.ent_page.proofs.cell.CellPartialEq.eq.Goals as goal

pub returns-in-Int-kind : goal.returns-in-Int-kind
returns-in-Int-kind c =
    let mine = c.self.inside.bytes.now in
    let others = c.other.inside.bytes.now in
    c.are_same_bytes.ensures ∙ sym (is_eq-slice_cmp mine others)
    ∙ ap is_eq (cells_compared c.self.inside.kind c.other.inside.kind mine others c.args.self.now c.args.other.now
    (c.in-Int.is ∙ sym c.in-Int-kind.is) c.self.invariant c.other.invariant c.self.view_is c.other.view_is)

pub returns-in-Text-kind-2 : goal.returns-in-Text-kind-2
returns-in-Text-kind-2 c =
    let mine = c.self.inside.bytes.now in
    let others = c.other.inside.bytes.now in
    c.are_same_bytes-in-Text-kind-2.ensures ∙ sym (is_eq-slice_cmp mine others)
    ∙ ap is_eq (cells_compared c.self.inside.kind c.other.inside.kind mine others c.args.self.now c.args.other.now
    (c.in-Text.is ∙ sym c.in-Text-kind-2.is) c.self.invariant c.other.invariant c.self.view_is c.other.view_is)
