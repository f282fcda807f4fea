use Rattle.std.proofs.Common.{◌≡◌, ◌+◌, List, map, drop, ap, sym, ◌∙◌, drop-drop}
use Rattle.std.proofs.lemmas.List.{drop-map}
use Rattle.indexmap.specs.IndexMap.{keys}
use Rattle.ent_protocol.specs.State.{Dormant}
use Rattle.ent_members.specs.TransactionTable.{TransactionTable, entrant_of, waiting}
use Rattle.ent_members.proofs.transaction_table.TransactionTable.take_first.Goals as goal

pub returns : goal.returns
returns c =
    let s = c.self.inside in
    let f = entrant_of s.live s.order in
    let behind : waiting s.live s.order (s.in_run + c.args.count)
    ≡ drop c.args.count (waiting s.live s.order s.in_run) =
    sym (drop-map f c.args.count (drop s.in_run (keys s.order))
    ∙ ap (map f) (drop-drop c.args.count s.in_run (keys s.order))) in
    ap (λ (dormant : List Dormant). record { dormant = dormant; fates = s.fates.items; known = s.known }) behind
    ∙ ap (λ (table : TransactionTable). record table { dormant = drop c.args.count table.dormant }) c.self.view_is
