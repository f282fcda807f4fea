use Rattle.std.proofs.Common.{ap, sym, ◌∙◌}
use Rattle.ent_undo.specs.Change.{is_of_others, of_others}
use Rattle.ent_undo.specs.Records.{change_of, changes_in}
use Rattle.ent_undo.proofs.Lists.{filter-map}
use Rattle.ent_undo.proofs.undo_log.UndoLog.forget.Goals as goal

pub returns : goal.returns
returns c =
    ap changes_in c.remove_records.ensures
    ∙ sym (filter-map (is_of_others c.args.members.now) change_of c.self.inside.records.items)
    ∙ ap (of_others c.args.members.now) c.self.view_is
