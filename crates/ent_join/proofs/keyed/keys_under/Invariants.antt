use Rattle.std.proofs.Common.{◌≡◌, ◌++◌, drop}
use Rattle.std.specs.List.{filter, list_all}
use Rattle.ent_join.specs.Alone.{may_hold_in}
use Rattle.ent_join.specs.Keyed.{keys_under}
use Rattle.ent_join.proofs.keyed.keys_under.Given as goal

abbrev pub invariant-loop-row : goal.invariant-loop-row
invariant-loop-row l =
    l.keys.items
    ++ keys_under l.columns l.classes
    (filter (λ row. list_all (may_hold_in l.columns row) l.tests) (drop l.row-index l.rows))
    ≡ keys_under l.columns l.classes (filter (λ row. list_all (may_hold_in l.columns row) l.tests) l.rows)
