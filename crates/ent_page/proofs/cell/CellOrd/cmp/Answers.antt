use Rattle.std.proofs.Common.{sym, ◌∙◌}
use Rattle.ent_page.proofs.Cells.{cells_compared}
use Rattle.ent_page.proofs.cell.CellOrd.cmp.Goals as goal

pub returns-in-Int-kind : goal.returns-in-Int-kind
returns-in-Int-kind c =
    c.cmp.ensures
    ∙ cells_compared c.self.inside.kind c.other.inside.kind c.self.inside.bytes.now c.other.inside.bytes.now
    c.args.self.now c.args.other.now (c.in-Int.is
    ∙ sym c.in-Int-kind.is) c.self.invariant c.other.invariant c.self.view_is c.other.view_is

pub returns-in-Text-kind-2 : goal.returns-in-Text-kind-2
returns-in-Text-kind-2 c =
    c.cmp-in-Text-kind-2.ensures
    ∙ cells_compared c.self.inside.kind c.other.inside.kind c.self.inside.bytes.now c.other.inside.bytes.now
    c.args.self.now c.args.other.now (c.in-Text.is ∙ sym c.in-Text-kind-2.is)
    c.self.invariant c.other.invariant c.self.view_is c.other.view_is
