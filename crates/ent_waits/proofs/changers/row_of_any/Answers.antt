use Rattle.ent_lock.specs.declared.holders.Holder.{Holder}
use Rattle.ent_lock.specs.declared.mode.Mode.TheVariants.{Shared}
use Rattle.ent_waits.specs.Rows.{MarksGroupOf}
use Rattle.ent_waits.proofs.Holders.{any_marks, each_next, each_whole}
use Rattle.ent_waits.proofs.changers.row_of_any.Goals as goal

pub loop-held-preserved : goal.loop-held-preserved
loop-held-preserved c =
    let new = c.mark_group_of-marked in
    record {
      each = each_next (λ (held : Holder). MarksGroupOf c.args.run.now held.holder) c.holders-held-items.result.now
          c.loop-held.held-index (record { holder = 0; mode = Shared }) c.loop-held.marked.row new.result.row
          c.loop-held-test.true
          (λ held marks holder there own member is_there same place other stands is.
          new.ensures.kept place (marks holder there own member is_there same place other stands is))
          new.ensures.marked c.loop-held.invariant.each;
      last = new.ensures.last;
    }

pub returns : goal.returns
returns c =
    let holders = c.holders-held-items.result.now in
    any_marks c.args.run.now c.args.table holders c.loop-held.marked.row c.holders-held-items.ensures
    (each_whole (λ (held : Holder). MarksGroupOf c.args.run.now held.holder) holders c.loop-held.held-index
    c.loop-held.marked.row c.loop-held-test.false c.loop-held.invariant.each)
