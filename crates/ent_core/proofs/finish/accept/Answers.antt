use Rattle.std.proofs.Common.{◌≡◌, ◌∙◌, Some, ap, refl, subst, sym, slice_get}
use Rattle.std.proofs.lemmas.Option.{slice_get_within}
use Rattle.ent_job.specs.Work.{IsWork, work_seen}
use Rattle.ent_eval.specs.Result.{CanBeMade, alone_seen, outcome_seen}
use Rattle.ent_eval.specs.declared.outcome.JobOutcome.{JobOutcome}
use Rattle.ent_job.specs.declared.work.Work.{Work}
use Rattle.ent_protocol.specs.Job.{Job, One, Outcome}
use Rattle.ent_headline.specs.Resolved.{resolved_forms}
use Rattle.ent_core.specs.Finish.{StandsAt}
use Rattle.ent_core.proofs.Finishing.{accepted, out_change, out_unposted, out_member}
use Rattle.ent_core.proofs.finish.accept.Goals as goal

pub returns-in_default-clause-ok : goal.returns-in_default-clause-ok
returns-in_default-clause-ok c =
    (subst (StandsAt c.args.store.now c.args.done.now) c.in_default.is c.requires.stands, refl)

pub carry_out-requires-clause-lent : goal.carry_out-requires-clause-lent
carry_out-requires-clause-lent c =
    let s = c.args.store.now in
    let stands : StandsAt s c.args.done.now (Some c.in-Some.index) =
    subst (StandsAt s c.args.done.now) c.in-Some.is c.requires.stands in
    slice_get_within s.lent c.in-Some.index c.args.done.now.job stands.0

pub carry_out-requires-clause-there : goal.carry_out-requires-clause-there
carry_out-requires-clause-there c =
    let s = c.args.store.now in
    let job = c.args.done.now.job in
    let stands : StandsAt s c.args.done.now (Some c.in-Some.index) =
    subst (StandsAt s c.args.done.now) c.in-Some.is c.requires.stands in
    let there : slice_get s.lent c.in-Some.index ≡ Some job = stands.0 in
    let work : job.work ≡ One c.in-One.single =
    ap (λ (j : Job). j.work) (sym c.job.ensures) ∙ sym c.work.ensures.work
    ∙ ap (λ (w : Work). work_seen w) c.in-One.is in
    let present = c.resolved_jobs_are_present.ensures.present s c.requires.kept.formed c.requires.kept.reached in
    out_member s job c.in-One.single c.in-Some.index present there work

pub carry_out-requires-clause-unposted : goal.carry_out-requires-clause-unposted
carry_out-requires-clause-unposted c =
    let s = c.args.store.now in
    let job = c.args.done.now.job in
    let stands : StandsAt s c.args.done.now (Some c.in-Some.index) =
    subst (StandsAt s c.args.done.now) c.in-Some.is c.requires.stands in
    let work : job.work ≡ One c.in-One.single =
    ap (λ (j : Job). j.work) (sym c.job.ensures) ∙ sym c.work.ensures.work
    ∙ ap (λ (w : Work). work_seen w) c.in-One.is in
    let present = c.resolved_jobs_are_present.ensures.present s c.requires.kept.formed c.requires.kept.reached in
    out_unposted s job c.in-One.single c.in-Some.index present
    (c.members_stand_by_number.ensures resolved_forms s c.requires.kept.reached) stands.0 work

pub carry_out-requires-clause-may : goal.carry_out-requires-clause-may
carry_out-requires-clause-may c =
    let s = c.args.store.now in
    let job = c.args.done.now.job in
    let stands : StandsAt s c.args.done.now (Some c.in-Some.index) =
    subst (StandsAt s c.args.done.now) c.in-Some.is c.requires.stands in
    let there : slice_get s.lent c.in-Some.index ≡ Some job = stands.0 in
    let work : job.work ≡ One c.in-One.single =
    ap (λ (j : Job). j.work) (sym c.job.ensures) ∙ sym c.work.ensures.work
    ∙ ap (λ (w : Work). work_seen w) c.in-One.is in
    let present = c.resolved_jobs_are_present.ensures.present s c.requires.kept.formed c.requires.kept.reached in
    let declared = c.lent_tables_are_declared.ensures resolved_forms s c.requires.kept.reached in
    let fits : IsWork job.work job.tables =
    subst (λ (j : Job). IsWork j.work j.tables) c.job.ensures c.work.ensures.fits in
    let is : c.args.done.now.outcome ≡ alone_seen c.in-One-outcome.outcome =
    sym c.outcome.ensures.outcome ∙ ap (λ (o : JobOutcome). outcome_seen o) c.in-One-outcome.is in
    let made : CanBeMade job.tables (alone_seen c.in-One-outcome.outcome) =
    subst (λ (o : Outcome). CanBeMade job.tables o) is c.outcome.ensures.change in
    out_change s job c.in-One.single c.in-Some.index (alone_seen c.in-One-outcome.outcome) present declared
    (λ member statement next. c.used_tables_are_declared.ensures.changed s member statement c.requires.kept.reached
    next)
    there work fits made

pub returns-clause-ok : goal.returns-clause-ok
returns-clause-ok c =
    let s = c.args.store.now in
    let job = c.args.done.now.job in
    let stands : StandsAt s c.args.done.now (Some c.in-Some.index) =
    subst (StandsAt s c.args.done.now) c.in-Some.is c.requires.stands in
    let there : slice_get s.lent c.in-Some.index ≡ Some job = stands.0 in
    let work : job.work ≡ One c.in-One.single =
    ap (λ (j : Job). j.work) (sym c.job.ensures) ∙ sym c.work.ensures.work
    ∙ ap (λ (w : Work). work_seen w) c.in-One.is in
    let present = c.resolved_jobs_are_present.ensures.present s c.requires.kept.formed c.requires.kept.reached in
    let is : alone_seen c.in-One-outcome.outcome ≡ c.args.done.now.outcome =
    sym (ap (λ (o : JobOutcome). outcome_seen o) c.in-One-outcome.is) ∙ c.outcome.ensures.outcome in
    accepted s c.args.done.now c.in-One.single c.in-Some.index (alone_seen c.in-One-outcome.outcome) c.in_ok-how.how
    c.carry_out.new.store c.outcome.ensures.meaning there work
    (out_member s job c.in-One.single c.in-Some.index present there work) is c.in_ok-how.ensures.ok
