use Rattle.std.proofs.Common.{ℕ, ◌+◌, get_or, take, sym, ap, subst, ◌∙◌, true≢false}
use Rattle.ent_lock.specs.declared.holders.Holder.{Holder}
use Rattle.ent_lock.specs.declared.mode.Mode.TheVariants.{Shared}
use Rattle.ent_lock.specs.Mode.{in_conflict}
use Rattle.ent_waits.specs.Rows.{HasLast, HasMarksOf}
use Rattle.ent_waits.specs.declared.rows.MarkedGroups.{MarkedGroups}
use Rattle.ent_waits.proofs.Holders.{AreHolders, ForEach, MarksHolder, each_next, each_whole, holders_marked}
use Rattle.ent_waits.proofs.rows.mark_holders.Goals.{then-in_conflict, else-in_conflict}
use Rattle.ent_waits.proofs.rows.mark_holders.Goals as goal

pub loop-held-preserved : goal.loop-held-preserved
loop-held-preserved c =
    let marks = MarksHolder c.args.run.now c.args.askers c.args.asked in
    let holders = c.holders-held-items.result.now in
    let at = c.loop-held.held-index in
    let none : Holder = record { holder = 0; mode = Shared } in
    let so_far = c.loop-held.invariant in
    let row = c.loop-held.marked.row in
    elim c.if-in_conflict.branch [
      | then-in_conflict w ↦
          let kept = w.mark_over-marked.ensures.kept in
          let new = w.mark_over-marked.result.row in
          record {
            kept = subst (λ (m : MarkedGroups). HasMarksOf m.row c.args.row) (sym w.marked-is)
                (λ place own. kept place (so_far.kept place own));
            each = subst (λ (m : MarkedGroups). ForEach marks (take (at + 1) holders) m.row) (sym w.marked-is)
                (each_next marks holders at none row new c.loop-held-test.true
                (λ held over conflict holder own unpassed place other stands waits.
                kept place (over conflict holder own unpassed place other stands waits))
                (λ conflict. w.mark_over-marked.ensures.marked) so_far.each);
            last = subst (HasLast c.args.run.now) (sym w.marked-is) w.mark_over-marked.ensures.last;
          }
      | else-in_conflict w ↦
          record {
            kept = subst (λ (m : MarkedGroups). HasMarksOf m.row c.args.row) (sym w.marked-is) so_far.kept;
            each = subst (λ (m : MarkedGroups). ForEach marks (take (at + 1) holders) m.row) (sym w.marked-is)
                (each_next marks holders at none row row c.loop-held-test.true (λ held over. over)
                (λ conflict. absurd (true≢false (sym conflict
                ∙ ap (in_conflict (get_or holders at none).mode) (sym c.mode.ensures)
                ∙ sym c.in_conflict.ensures.value ∙ w.if-in_conflict.false)))
                so_far.each);
            last = subst (HasLast c.args.run.now) (sym w.marked-is) so_far.last;
          }
    ]

pub returns-clause-marked : goal.returns-clause-marked
returns-clause-marked c =
    let holders = c.holders-held-items.result.now in
    let row = c.loop-held.marked.row in
    holders_marked c.args.run.now c.args.askers c.args.asked holders row
    (subst (λ (table : ℕ). AreHolders c.args.run.now table holders) c.table.ensures c.holders-held-items.ensures)
    (each_whole (MarksHolder c.args.run.now c.args.askers c.args.asked) holders c.loop-held.held-index row
    c.loop-held-test.false c.loop-held.invariant.each)
