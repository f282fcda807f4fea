use Rattle.std.proofs.Common.{◌≡◌, ◌++◌, ℕ, List, filter, sym, ap, ◌∙◌}
use Rattle.ent_protocol.specs.State.{members}
use Rattle.ent_run.specs.Moves.{is_not_of}
use Rattle.ent_run.specs.Run.{Run, with_run}
use Rattle.ent_members.specs.RunAttempts.{numbers_in, run_attempts_in}
use Rattle.ent_members.proofs.ByNumber.{all_left, group_left}
use Rattle.ent_run.proofs.Moved.{filtered_out}
use Rattle.ent_run.specs.InRuns.{in_runs}
use Rattle.ent_run.proofs.Left.{Leaving, left_active, left_prepared, left_run}
use Rattle.ent_run.proofs.run.Run.remove.Goals as goal
use Rattle.ent_run.proofs.run.Run.remove.Goals.{After-leave}

abbrev leaving : After-leave → Leaving
leaving c = record {
  group = c.args.group;
  numbers = c.numbers-numbers.result;
  locks = c.self.inside.locks;
  next = c.drop_group.new.self;
  groups = c.self.inside.groups;
  left = c.leave.new.groups;
  prepared = c.self.inside.members.prepared;
  active = c.self.inside.members.active;
  run = c.self.invariant;
  are = c.numbers-numbers.ensures ∙ ap numbers_in (c.run_attempts-run_attempts.ensures
      ∙ ap (λ (run : Run). run_attempts_in c.args.group (run.prepared ++ run.active)) (sym c.self.view_is));
  drops = c.drop_group.ensures;
  leaves = c.leave.ensures;
}

stay_prepared : (c : After-leave) → in_runs c.drop_group.new.self c.leave.new.groups c.remove.new.self.prepared
    ≡ filter (is_not_of c.numbers-numbers.result) c.args.self.now.prepared
stay_prepared c =
    ap (in_runs c.drop_group.new.self c.leave.new.groups) c.remove.ensures.prepared ∙ left_prepared (leaving c)
    ∙ ap (λ (run : Run). filter (is_not_of c.numbers-numbers.result) run.prepared) c.self.view_is

stay_active : (c : After-leave) → in_runs c.drop_group.new.self c.leave.new.groups c.remove.new.self.active
    ≡ filter (is_not_of c.numbers-numbers.result) c.args.self.now.active
stay_active c =
    ap (in_runs c.drop_group.new.self c.leave.new.groups) c.remove.ensures.active ∙ left_active (leaving c)
    ∙ ap (λ (run : Run). filter (is_not_of c.numbers-numbers.result) run.active) c.self.view_is

pub invariant_of-self : goal.invariant_of-self
invariant_of-self c = rw (c.remove.ensures.prepared, c.remove.ensures.active) (left_run (leaving c))

pub returns-clause-group : goal.returns-clause-group
returns-clause-group c = λ s.
    group_left c.args.group (members (with_run c.args.self.now s)) c.run_attempts-run_attempts.result
    c.run_attempts-run_attempts.ensures

pub returns-clause-all : goal.returns-clause-all
returns-clause-all c = λ s.
    all_left c.args.group (members (with_run c.args.self.now s)) c.run_attempts-run_attempts.result
    c.run_attempts-run_attempts.ensures

pub returns-clause-prepared : goal.returns-clause-prepared
returns-clause-prepared c =
    stay_prepared c
    ∙ ap (λ (numbers : List ℕ). filter (is_not_of numbers) c.args.self.now.prepared) c.numbers-numbers.ensures

pub returns-clause-active : goal.returns-clause-active
returns-clause-active c =
    stay_active c
    ∙ ap (λ (numbers : List ℕ). filter (is_not_of numbers) c.args.self.now.active) c.numbers-numbers.ensures

pub returns-clause-leave : goal.returns-clause-leave
returns-clause-leave c = λ gone is. record {
  prepared = stay_prepared c
      ∙ ap (λ (numbers : List ℕ). filter (is_not_of numbers) c.args.self.now.prepared) (c.numbers-numbers.ensures ∙ is)
      ∙ filtered_out gone c.args.self.now.prepared;
  active = stay_active c
      ∙ ap (λ (numbers : List ℕ). filter (is_not_of numbers) c.args.self.now.active) (c.numbers-numbers.ensures ∙ is)
      ∙ filtered_out gone c.args.self.now.active;
}
