use Rattle.std.proofs.Common.{◌≡◌, ◌==◌, ◌∙◌, ap, sym, List, Option, find}
use Rattle.std.specs.Arc.{arc_value}
use Rattle.std.specs.Option.{option_copied, option_map}
use Rattle.ent_undo.specs.Change.{Change}
use Rattle.ent_undo.specs.declared.undo_log.UndoRecord.{UndoRecord}
use Rattle.ent_undo.proofs.Undoing.{oldest_seen}
use Rattle.ent_undo.proofs.undo_log.UndoLog.oldest_of.Goals as goal

pub returns-in-Some : goal.returns-in-Some
returns-in-Some c =
    ap (option_map (λ (undo : UndoRecord). arc_value undo.before))
    (sym (ap option_copied c.in-Some.is) ∙ c.first_of.ensures
    ∙ ap (find (λ (undo : UndoRecord). undo.table == c.args.table)) c.as_slice.ensures.value)
    ∙ oldest_seen c.args.table c.self.inside.records.items
    ∙ ap (λ (log : List Change). option_map (λ (change : Change). change.before)
    (find (λ (change : Change). change.table == c.args.table) log)) c.self.view_is

pub returns-in-None : goal.returns-in-None
returns-in-None c =
    ap (option_map (λ (undo : UndoRecord). arc_value undo.before))
    (sym (ap option_copied c.in-None.is) ∙ c.first_of.ensures
    ∙ ap (find (λ (undo : UndoRecord). undo.table == c.args.table)) c.as_slice.ensures.value)
    ∙ oldest_seen c.args.table c.self.inside.records.items
    ∙ ap (λ (log : List Change). option_map (λ (change : Change). change.before)
    (find (λ (change : Change). change.table == c.args.table) log)) c.self.view_is
