use Rattle.std.proofs.Common.{List, sym, subst}
use Rattle.std.specs.Prelude.{MatchOption}
use Rattle.ent_protocol.specs.State.{Use}
use Rattle.ent_members.specs.Conflict.{IsConflict, IsHeldAgainst, NoConflict, NoneHeldAgainst}
use Rattle.ent_members.specs.InRun.{uses_of}
use Rattle.ent_members.proofs.Conflicts.{AreHoldersOf, clashes_later, first_clashes}
use Rattle.ent_members.proofs.conflict.+first_conflict.Goals as goal

pub returns-in-Some : goal.returns-in-Some
returns-in-Some t c =
    let locks = c.args.locks.now in
    let tx = c.args.tx in
    let first = c.in_ok-first.first.now in
    let rest = c.in_ok-first.rest.now in
    let holders = c.holders-holders.result.now in
    let held = c.in-Some.held in
    let are : AreHoldersOf locks first.table holders = rw (sym c.table.ensures) c.holders-holders.ensures in
    let against : IsHeldAgainst holders tx first.mode held = rw (sym c.mode.ensures) c.in-Some.ensures in
    subst (λ (asked : List Use). IsConflict asked (uses_of locks tx)
    (record { table = c.table-in-Some.result; asked = c.mode-in-Some.result; held = held }))
    (sym c.in_ok-first.ensures.cases.0)
    (rw (c.table-in-Some.ensures, c.mode-in-Some.ensures)
    (first_clashes locks c.requires tx first rest holders are held against))

pub returns-in-None : goal.returns-in-None
returns-in-None t c =
    let locks = c.args.locks.now in
    let tx = c.args.tx in
    let first = c.in_ok-first.first.now in
    let rest = c.in_ok-first.rest.now in
    let holders = c.holders-holders.result.now in
    let are : AreHoldersOf locks first.table holders = rw (sym c.table.ensures) c.holders-holders.ensures in
    let none : NoneHeldAgainst holders tx first.mode = rw (sym c.mode.ensures) c.in-None.ensures in
    subst (λ (asked : List Use). MatchOption c.first_conflict.result (NoConflict asked (uses_of locks tx))
    (IsConflict asked (uses_of locks tx)))
    (sym c.in_ok-first.ensures.cases.0)
    (clashes_later locks c.requires tx first rest holders are none c.first_conflict.result c.first_conflict.ensures)
