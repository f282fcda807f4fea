use Rattle.std.proofs.Common.{ℕ, ◌<◌, List, get_or, length, sym, ap, subst, ◌∙◌}
use Rattle.ent_protocol.specs.State.{Member}
use Rattle.ent_run.specs.Grouped.{IsRunOf}
use Rattle.ent_run.specs.InRuns.{in_runs}
use Rattle.ent_run.specs.Locks.{Locks}
use Rattle.ent_run.specs.Run.{Run}
use Rattle.ent_run.proofs.Lookups.{numbers_apart, within_own}
use Rattle.ent_run.proofs.Granted.{Granting, granted_prepared, posted_carried, posted_run}
use Rattle.ent_run.proofs.run.Run.post_at.Goals as goal
use Rattle.ent_run.proofs.run.Run.post_at.Goals.{After-post}

abbrev granting : After-post → Granting
granting c = record {
  locks = c.self.inside.locks;
  next = c.lock.new.locks;
  groups = c.self.inside.groups;
  prepared = c.self.inside.members.prepared;
  active = c.self.inside.members.active;
  place = c.args.place;
  asked = c.args.asked.now;
  member = c.at.result.now;
  run = c.self.invariant;
  within = within_own c.self.inside.locks c.self.inside.groups c.self.inside.members.active c.args.place
      (subst (λ (run : Run). c.args.place < length run.active) (sym c.self.view_is) c.requires);
  is = c.at.ensures c.at.result.now
      ∙ ap (λ (ms : List Member). get_or ms c.args.place c.at.result.now) c.active.ensures;
  more = subst (λ (n : ℕ). Locks n c.args.asked.now c.self.inside.locks c.lock.new.locks) c.tx-tx.ensures
      c.in_ok-lock.ensures.ok;
  still = c.in_ok-lock.ensures.by_number c.self.invariant.1;
}

pub post-requires-clause-within : goal.post-requires-clause-within
post-requires-clause-within c =
    let inside = c.self.inside in
    within_own inside.locks inside.groups inside.members.active c.args.place
    (subst (λ (run : Run). c.args.place < length run.active) (sym c.self.view_is) c.requires)

pub post-requires-clause-numbers : goal.post-requires-clause-numbers
post-requires-clause-numbers c =
    let inside = c.self.inside in
    numbers_apart inside.locks inside.groups inside.members c.self.invariant

pub invariant_of-self-2 : goal.invariant_of-self-2
invariant_of-self-2 c =
    let w = (goal.at.invariant_of-self-2 c).After-post in
    subst (λ (ms : List Member). IsRunOf c.lock.new.locks c.self.inside.groups ms c.post.new.members.active)
    (sym c.post.ensures.prepared)
    (posted_run (granting w) c.post.new.members.active c.post.ensures.changed c.post.ensures.numbers)

pub returns-clause-ok : goal.returns-clause-ok
returns-clause-ok c =
    let w = (goal.at.returns-clause-ok c).After-post in
    posted_carried (granting w) c.post.new.members.active c.post.ensures.changed c.post.ensures.numbers
    c.args.self.now.active (ap (λ (run : Run). run.active) c.self.view_is)

pub returns-clause-prepared : goal.returns-clause-prepared
returns-clause-prepared c =
    let w = (goal.at.returns-clause-prepared c).After-post in
    ap (in_runs c.lock.new.locks c.self.inside.groups) c.post.ensures.prepared ∙ granted_prepared (granting w)
    ∙ ap (λ (run : Run). run.prepared) c.self.view_is
