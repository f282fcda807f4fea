use Rattle.std.proofs.Common.{◌∷◌, [], ◌++◌, ◌∙◌, ap, List}
use Rattle.ent_value.specs.declared.value.Value.{Value}
use Rattle.ent_history.specs.declared.history.Shown.{Shown}
use Rattle.ent_history.specs.Tables.{with_table_row}
use Rattle.ent_report_reader.proofs.Ends.{put_last, put_none}
use Rattle.ent_report_reader.proofs.tables.put_table_row.Goals as goal

pub returns-in_ok-push-2 : goal.returns-in_ok-push-2
returns-in_ok-push-2 c =
    put_last (with_table_row c.args.row) c.args.tables.now c.push-in-Some.new.self c.take_last.new.list
    c.in-Some.shown c.in-Some.ensures.list
    (c.in_ok-push-2.ensures.ok
    ∙ ap (λ (rows : List (List Value)). let shown : Shown = record { name = c.in-Some.shown.name; rows = rows } in
    c.take_last.new.list ++ shown ∷ []) c.in_ok-push.ensures.ok)

pub returns-in_default : goal.returns-in_default
returns-in_default c =
    put_none (with_table_row c.args.row) c.args.tables.now c.take_last.new.list c.in_default.ensures.list
    c.in_default.ensures.none
