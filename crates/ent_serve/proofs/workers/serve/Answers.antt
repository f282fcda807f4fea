use Rattle.std.proofs.Common.{◌-◌, arith}
use Rattle.ent_book.specs.Tables.{book_seen}
use Rattle.ent_serve.proofs.Serving.{same_by_place, served_by}
use Rattle.ent_serve.proofs.workers.serve.Goals as goal

pub returns-clause-served : goal.returns-clause-served
returns-clause-served g c =
    let held = c.in-Ok.opened.1 in
    let worked = c.in_ok-worked.worked in
    let e = c.in_ok-worked.ensures in
    served_by book_seen c.args.input (c.args.workers - 1) held.items worked.items c.close_all.result
    c.in-Ok.ensures.sessions
    (same_by_place held.items worked.items (omega (arith, e.len)) (λ i d low. e.each i d (omega (arith, low))))
    c.close_all.ensures.book
