use Rattle.std.proofs.Common.{not, ap, sym, ◌∙◌}
use Rattle.ent_lists.proofs.Options.{none_there}
use Rattle.ent_protocol.specs.Member.{is_lent}
use Rattle.ent_waits.specs.Waits.{state_with}
use Rattle.ent_waits.proofs.Moving.{nobody_blocks, waiting_is_idle}
use Rattle.ent_waits.proofs.free.is_free.Goals as goal

pub returns-then-is_waiting : goal.returns-then-is_waiting
returns-then-is_waiting c = λ s.
    let now = state_with c.args.run.now c.args.submitted.now c.args.lent.now s in
    let member = c.args.member.now in (
      λ none. record {
        idle = waiting_is_idle member.posted (is_lent now member.tx)
            (sym c.is_waiting.ensures ∙ c.if-is_waiting.true);
        unblocked = sym (c.blocker_of.ensures s) ∙ none_there c.blocker_of.result (c.is_none.ensures ∙ ap not none);
      },
      λ free. nobody_blocks c.blocker_of.result c.is_none.result c.is_none.ensures
          (c.blocker_of.ensures s ∙ free.unblocked),
    )
