use Rattle.std.proofs.Common.{◌≡◌, ◌<◌, true, false, length, map, sym, subst, arith, rules}
use Rattle.std.specs.Arc.{arc_value}
use Rattle.ent_form.specs.Tables.{database_of}
use Rattle.ent_ordinary.specs.Tables.{rows_in}
use Rattle.ent_check.proofs.Found.{ShownBehind, rows_right, shown_right, shown_whole, shown_wrong}
use Rattle.ent_check.proofs.table.tables_finding.Goals as goal

pub returns-then-not-alike : goal.returns-then-not-alike
returns-then-not-alike c =
    let database = database_of c.args.creates.now (rows_in (map arc_value c.args.tables.now)) in
    let low : c.loop-index.index < length c.args.shown.now = grind (arith, rules) in
    let is : rows_right database c.index-shown-index.result ≡ false = grind (arith, rules) in
    sym (shown_wrong database c.args.shown.now c.loop-index.index c.index-shown-index.result low
    c.index-shown-index.is is
    c.loop-index.invariant)

pub loop-index-preserved : goal.loop-index-preserved
loop-index-preserved c =
    let database = database_of c.args.creates.now (rows_in (map arc_value c.args.tables.now)) in
    let low : c.loop-index.index < length c.args.shown.now = grind (arith, rules) in
    let is : rows_right database c.index-shown-index.result ≡ true = grind (arith, rules) in
    shown_right database c.args.shown.now c.loop-index.index c.index-shown-index.result low c.index-shown-index.is is
    c.loop-index.invariant

pub returns : goal.returns
returns c =
    let database = database_of c.args.creates.now (rows_in (map arc_value c.args.tables.now)) in
    let whole : c.loop-index.index ≡ length c.args.shown.now = grind (arith, rules) in
    sym (shown_whole database c.args.shown.now
    (subst (ShownBehind database c.args.shown.now) whole c.loop-index.invariant))
