use Rattle.std.proofs.Common.{◌≡◌, List, ◌++◌, arith, length, map, not, refl, sym, ap, subst, ◌∙◌}
use Rattle.std.specs.Prelude.{filter}
use Rattle.std.specs.List.{list_any}
use Rattle.std.proofs.lemmas.List.{length-map}
use Rattle.ent_lists.specs.Elements.{shorter, turned}
use Rattle.ent_lock.specs.Use.{DropsUses}
use Rattle.ent_members.specs.InRun.{in_run}
use Rattle.ent_members.specs.Order.{tx_of}
use Rattle.ent_members.specs.RunAttempts.{run_attempt_of}
use Rattle.ent_protocol.specs.Commit.{entry_of}
use Rattle.ent_protocol.specs.Member.{is_of}
use Rattle.ent_protocol.specs.State.{Member}
use Rattle.ent_run.specs.Grouped.{IsRunOf}
use Rattle.ent_run.specs.InRuns.{in_runs, is_labelled, is_otherwise_labelled}
use Rattle.ent_run.specs.Moves.{is_of_another}
use Rattle.ent_run.specs.Run.{Run}
use Rattle.ent_run.proofs.InRuns.{filter_mapped}
use Rattle.ent_run.proofs.Left.{Committing, committed_active, committed_prepared, committed_run, told_of}
use Rattle.ent_run.proofs.Lookups.{numbers_apart, numbers_labelled}
use Rattle.ent_run.proofs.run.Run.commit.Goals as goal
use Rattle.ent_run.proofs.run.Run.commit.Goals.{After-remove_labelled}

-- those who commit are the labelled ones
taken : (c : After-remove_labelled) → c.take_group.new.taken.items
    ≡ filter (is_labelled c.self.inside.groups c.args.group) c.self.inside.members.prepared
taken c =
    c.take_group.ensures.taken
    ∙ ap (λ (ms : List Member). ms
    ++ filter (is_labelled c.self.inside.groups c.args.group) c.self.inside.members.prepared) c.requires.empty

abbrev committing : After-remove_labelled → Committing
committing c = record {
  group = c.args.group;
  locks = c.self.inside.locks;
  next = c.drop_group.new.self;
  groups = c.self.inside.groups;
  left = c.remove_labelled.new.groups;
  prepared = c.self.inside.members.prepared;
  active = c.self.inside.members.active;
  run = c.self.invariant;
  none = turned (list_any (is_of c.args.group)
      (in_runs c.self.inside.locks c.self.inside.groups c.self.inside.members.active))
      (sym (c.is_ready.ensures ∙ ap (λ (run : Run). not (list_any (is_of c.args.group) run.active))
      (sym c.self.view_is))
      ∙ c.if-not-is_ready.false);
  drops = subst (DropsUses c.self.inside.locks c.drop_group.new.self)
      (c.member_numbers.ensures ∙ ap (map tx_of) (c.as_slice.ensures.value ∙ taken c)
      ∙ numbers_labelled c.self.inside.locks c.self.inside.groups c.self.inside.members.prepared c.args.group)
      c.drop_group.ensures;
  leaves = c.remove_labelled.ensures;
}

pub invariant_of-self : goal.invariant_of-self
invariant_of-self c =
    subst (λ (ms : List Member). IsRunOf c.drop_group.new.self c.remove_labelled.new.groups ms
    c.take_group.new.self.active) (sym c.take_group.ensures.prepared)
    (subst (λ (ms : List Member). IsRunOf c.drop_group.new.self c.remove_labelled.new.groups
    (filter (is_otherwise_labelled c.self.inside.groups c.args.group) c.self.inside.members.prepared) ms)
    (sym c.take_group.ensures.active) (committed_run (committing c)))

pub take_group-requires-clause-numbers : goal.take_group-requires-clause-numbers
take_group-requires-clause-numbers c =
    numbers_apart c.self.inside.locks c.self.inside.groups c.self.inside.members c.self.invariant

pub returns-clause-prepared : goal.returns-clause-prepared
returns-clause-prepared c = λ _.
    ap (in_runs c.drop_group.new.self c.remove_labelled.new.groups) c.take_group.ensures.prepared
    ∙ committed_prepared (committing c)
    ∙ ap (λ (run : Run). filter (is_of_another c.args.group) run.prepared) c.self.view_is

pub returns-clause-active : goal.returns-clause-active
returns-clause-active c = λ _.
    ap (in_runs c.drop_group.new.self c.remove_labelled.new.groups) c.take_group.ensures.active
    ∙ committed_active (committing c) ∙ ap (λ (run : Run). run.active) c.self.view_is

-- they are those who are prepared and of the group
pub returns-clause-entries : goal.returns-clause-entries
returns-clause-entries c = λ s.
    let inside = c.self.inside in
    ap (map entry_of) (taken c)
    ∙ told_of entry_of inside.locks inside.groups (λ m. refl)
    (filter (is_labelled inside.groups c.args.group) inside.members.prepared)
    ∙ ap (map entry_of) (sym (filter_mapped (in_run inside.locks inside.groups) (is_of c.args.group)
    (is_labelled inside.groups c.args.group) (λ m. refl) inside.members.prepared))
    ∙ ap (λ (run : Run). map entry_of (filter (is_of c.args.group) run.prepared)) c.self.view_is

pub returns-clause-attempts : goal.returns-clause-attempts
returns-clause-attempts c = λ s.
    let inside = c.self.inside in
    ap (map run_attempt_of) (taken c)
    ∙ told_of run_attempt_of inside.locks inside.groups (λ m. refl)
    (filter (is_labelled inside.groups c.args.group) inside.members.prepared)
    ∙ ap (map run_attempt_of) (sym (filter_mapped (in_run inside.locks inside.groups) (is_of c.args.group)
    (is_labelled inside.groups c.args.group) (λ m. refl) inside.members.prepared))
    ∙ ap (λ (run : Run). map run_attempt_of (filter (is_of c.args.group) run.prepared)) c.self.view_is

pub member_numbers-requires : goal.member_numbers-requires
member_numbers-requires c =
    let inside = c.self.inside in
    omega (
      arith,
      ap (λ (ms : List Member). length ms) (c.as_slice.ensures.value ∙ c.take_group.ensures.taken
          ∙ ap (λ (ms : List Member). ms ++ filter (is_labelled inside.groups c.args.group) inside.members.prepared)
          c.requires.empty),
      shorter (is_labelled inside.groups c.args.group) inside.members.prepared,
      c.self.invariant.0.0.run.bound,
      length-map inside.members.prepared (in_run inside.locks inside.groups),
    )
