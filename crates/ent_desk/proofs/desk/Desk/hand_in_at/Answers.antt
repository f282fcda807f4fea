use Rattle.std.proofs.Common.{◌≡◌, ◌||◌, Bool, Some, ap, refl, slice_get, subst, sym}
use Rattle.std.proofs.lemmas.Option.{slice_get_within}
use Rattle.ent_core.specs.Reply.{reply_seen}
use Rattle.ent_core.specs.Passed.{resolved_forms}
use Rattle.ent_protocol.specs.Job.{Done}
use Rattle.ent_protocol.specs.State.{State}
use Rattle.ent_desk.specs.Lending.{TakesIn, coming_in, is_single}
use Rattle.ent_desk.specs.Seen.{DeskState, LeadsOn}
use Rattle.ent_desk.proofs.Keeping.{kept_none, none_on, one_on}
use Rattle.ent_stamp.proofs.Knowing.{known_within}
use Rattle.ent_desk.proofs.Lent.{comes_left, comes_none}
use Rattle.ent_desk.proofs.desk.Desk.hand_in_at.Goals as goal

pub take_in-requires : goal.take_in-requires
take_in-requires g c =
    subst (λ (done : Done). slice_get c.self.inside.core.lent c.args.index ≡ Some done.job)
    (sym c.into_parts-done.ensures.done)
    (subst (λ (d : DeskState). slice_get d.core.lent c.args.index ≡ Some c.args.done.job) (sym c.self.view_is)
    c.requires)

pub keep_up-requires-clause-there : goal.keep_up-requires-clause-there
keep_up-requires-clause-there g c κs within =
    let i = c.self.inside in
    known_within i.known.older i.known.stamps.items i.core.lent c.args.index c.self.invariant.1
    (slice_get_within i.core.lent c.args.index c.args.done.job
    (subst (λ (d : DeskState). slice_get d.core.lent c.args.index ≡ Some c.args.done.job) (sym c.self.view_is)
    c.requires))

pub invariant_of-self : goal.invariant_of-self
invariant_of-self g c =
    let i = c.self.inside in
    let new = c.take_in.new.core in
    let done = c.into_parts-done.result.0 in
    let reply = reply_seen c.in-Ok.reply in
    let step = c.in-Ok.ensures.ok in
    let at = subst (λ (own : Done). slice_get i.core.lent c.args.index ≡ Some own.job)
    (sym c.into_parts-done.ensures.done)
    (subst (λ (d : DeskState). slice_get d.core.lent c.args.index ≡ Some c.args.done.job) (sym c.self.view_is)
    c.requires) in
    let once = c.lent_jobs_stand_once.ensures resolved_forms i.core c.is_reached.ensures.reached in
    let single = is_single done.job.work in (
      kept_none i.count i.scripts.total i.entries.total i.core new (coming_in done) reply c.self.invariant.0 step
          (comes_none i.core new done reply single step),
      c.keep_up.ensures.known i.core.lent (comes_left i.core new done reply c.args.index at once single step)
          c.self.invariant.1,
    )

pub returns-in-Ok-clause-ok : goal.returns-in-Ok-clause-ok
returns-in-Ok-clause-ok g c =
    let i = c.self.inside in
    let before : DeskState = record { core = i.core; count = i.count; left = i.left } in
    let new : DeskState =
    record { core = c.take_in.new.core; count = i.count; left = i.left || c.is_leaving.result } in
    subst (λ (d : DeskState). TakesIn d c.args.done new) c.self.view_is
    (subst (λ (done : Done). TakesIn before done new) c.into_parts-done.ensures.done
    (record {
      reply = reply_seen c.in-Ok.reply;
      step = c.in-Ok.ensures.ok;
      count = refl;
      left = ap (λ (leaves : Bool). i.left || leaves) c.is_leaving.ensures;
    }))

pub returns-in-Ok-clause-events : goal.returns-in-Ok-clause-events
returns-in-Ok-clause-events g c =
    let i = c.self.inside in
    let before : DeskState = record { core = i.core; count = i.count; left = i.left } in
    let new : DeskState =
    record { core = c.take_in.new.core; count = i.count; left = i.left || c.is_leaving.result } in
    subst (λ (old : DeskState). LeadsOn old new) c.self.view_is
    (one_on before new (coming_in c.into_parts-done.result.0) (reply_seen c.in-Ok.reply) c.in-Ok.ensures.ok refl
    (ap (λ (leaves : Bool). i.left || leaves) c.is_leaving.ensures))

pub returns-in-Err-clause-events : goal.returns-in-Err-clause-events
returns-in-Err-clause-events g c =
    let i = c.self.inside in
    let before : DeskState = record { core = i.core; count = i.count; left = i.left } in
    let new : DeskState = record { core = c.take_in.new.core; count = i.count; left = i.left } in
    let same = ap
    (λ (core : State). let desk : DeskState = record { core = core; count = i.count; left = i.left } in desk)
    c.in-Err.ensures.err in
    subst (λ (old : DeskState). LeadsOn old new) c.self.view_is (none_on before new same)
