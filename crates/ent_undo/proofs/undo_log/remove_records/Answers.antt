use Rattle.std.proofs.Common.{rules}
use Rattle.std.proofs.lemmas.Fn.{filter_same}
use Rattle.ent_undo.specs.Records.{is_record_of_others}
use Rattle.ent_undo.proofs.undo_log.remove_records.Goals as goal

pub returns : goal.returns
returns c = filter_same _ (is_record_of_others c.args.members.now) _ (λ x b f' k. search rules) _ _
    c.retain.ensures.filtered
