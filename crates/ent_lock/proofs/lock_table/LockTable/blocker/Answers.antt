use Rattle.std.proofs.Common.{◌≡◌, ℕ, ◌+◌, List, [], ◌∷◌, ◌++◌, take, sym, ap, subst, ◌∙◌}
use Rattle.std.proofs.lemmas.List.{map-append, take_all, take_more}
use Rattle.ent_lock.specs.declared.mode.Mode.{Mode}
use Rattle.ent_lock.specs.Use.{Blocks, IsLeastIfAny, keyed}
use Rattle.ent_lock.proofs.Requests.{BlocksOne, least_of_one, least_of_more, nobody_blocks}
use Rattle.ent_lock.proofs.lock_table.LockTable.blocker.Goals as goal

pub loop-table-init : goal.loop-table-init
loop-table-init g c = nobody_blocks c.args.self.now c.args.tx c.args.pass.now

pub loop-table-preserved : goal.loop-table-preserved
loop-table-preserved g c =
    let held = c.args.self.now in
    let tx = c.args.tx in
    let pass = c.args.pass.now in
    let key = g.T.TableKey.key in
    let i = c.loop-table.table-index in
    let request = c.loop-table-item.result in
    let first = take i c.args.asked.now in
    let more : keyed key (take (i + 1) c.args.asked.now) ≡ keyed key first ++ (key request.0, request.1) ∷ [] =
    ap (keyed key) (take_more c.args.asked.now i request c.loop-table-test.true
    ∙ ap (λ u. first ++ u ∷ []) (sym c.loop-table-item.is))
    ∙ map-append (λ u. (key u.0, u.1)) first (request ∷ []) in
    let one : IsLeastIfAny (BlocksOne held tx (key request.0) request.1 pass) c.least_conflicting-holder.result =
    subst (IsLeastIfAny (BlocksOne held tx (key request.0) request.1 pass)) (sym c.least_conflicting-holder.ensures)
    (least_of_one held tx (key request.0) request.1 pass c.holders.result.now c.holders.ensures) in
    subst (λ (asked : List (List ℕ × Mode)). IsLeastIfAny (Blocks held tx asked pass) c.lesser-least.result) (sym more)
    (subst (IsLeastIfAny (Blocks held tx (keyed key first ++ (key request.0, request.1) ∷ []) pass))
    (sym c.lesser-least.ensures)
    (least_of_more held tx (key request.0, request.1) (keyed key first) pass c.loop-table.least
    c.least_conflicting-holder.result c.loop-table.invariant one))

pub returns : goal.returns
returns g c =
    let key = g.T.TableKey.key in
    subst (λ (asked : List (List ℕ × Mode)). IsLeastIfAny (Blocks c.args.self.now c.args.tx asked c.args.pass.now)
    c.loop-table.least)
    (ap (keyed key) (take_all c.loop-table.table-index c.args.asked.now c.loop-table-test.false)) c.loop-table.invariant
