use Rattle.std.proofs.Common.{suc, [], length, get_or, ap, sym, ◌∙◌, arith}
use Rattle.std.specs.List.{between}
use Rattle.ent_page.specs.Layout.{start_of}
use Rattle.ent_page.proofs.Laid.{length-shown, piece_at, start_le, place_le}
use Rattle.ent_page.proofs.page.Page.key.Goals as goal

pub piece-requires-clause-within : goal.piece-requires-clause-within
piece-requires-clause-within c =
    let n = length-shown c.self.inside.bytes.items c.self.inside.ends.items c.args.self.now c.self.view_is in
    omega (arith, n, ap length c.deref-2.ensures.value)

pub piece-requires-clause-order : goal.piece-requires-clause-order
piece-requires-clause-order c =
    let n = length-shown c.self.inside.bytes.items c.self.inside.ends.items c.args.self.now c.self.view_is in
    rw c.deref-2.ensures.value
    (start_le c.self.inside.bytes.items c.self.inside.ends.items c.self.invariant c.args.index (omega (arith, n)))

pub piece-requires-clause-end_within : goal.piece-requires-clause-end_within
piece-requires-clause-end_within c =
    let n = length-shown c.self.inside.bytes.items c.self.inside.ends.items c.args.self.now c.self.view_is in
    rw (c.deref-2.ensures.value, c.deref.ensures.value)
    (place_le c.self.inside.bytes.items c.self.inside.ends.items c.self.invariant (suc c.args.index)
    (omega (arith, n)))

pub returns : goal.returns
returns c =
    let n = length-shown c.self.inside.bytes.items c.self.inside.ends.items c.args.self.now c.self.view_is in
    c.piece.ensures
    ∙ (λ i. between (start_of 0 (c.deref-2.ensures.value i) c.args.index)
    (get_or (c.deref-2.ensures.value i) c.args.index 0) (c.deref.ensures.value i))
    ∙ sym (piece_at c.self.inside.bytes.items 0 c.self.inside.ends.items c.args.index (omega (arith, n)))
    ∙ ap (λ ks. get_or ks c.args.index []) c.self.view_is
