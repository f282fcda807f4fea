use Rattle.std.proofs.Common.{subst, sym, List, []}
use Rattle.std.specs.FinSet as finite
use Rattle.ent_protocol.specs.State.{Member}
use Rattle.ent_run.specs.Grouped.{IsRunWith}
use Rattle.ent_run.proofs.Lookups.{fresh_in_runs, nobody_by_number}
use Rattle.ent_run.proofs.RunWith.{starts_with}
use Rattle.ent_run.proofs.run.Run.start.Goals as goal

pub invariant_of-result : goal.invariant_of-result
invariant_of-result c =
    rw (c.in_ok-members.ensures.prepared, c.in_ok-members.ensures.active, c.new.ensures) (
      subst (λ (ms : List Member). IsRunWith finite.empty c.each_alone.result [] ms)
          (sym (fresh_in_runs c.each_alone.result c.args.entrants.now c.each_alone.ensures))
          (starts_with c.args.entrants.now c.each_alone.result c.requires.bound c.requires.distinct
          c.each_alone.ensures),
      nobody_by_number,
    )

pub returns-clause-active : goal.returns-clause-active
returns-clause-active c =
    rw (c.in_ok-members.ensures.active, c.new.ensures)
    (fresh_in_runs c.each_alone.result c.args.entrants.now c.each_alone.ensures)
