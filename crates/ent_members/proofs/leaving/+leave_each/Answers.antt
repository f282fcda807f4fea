use Rattle.std.proofs.Common.{◌==◌, ◌++◌, ◌∙◌, ℕ, List, ap, arith, length, map, nat_eq, reverse, subst, sym}
use Rattle.std.specs.List.{AllByRecursion, IsDistinct, filter_map}
use Rattle.ent_semantics.specs.declared.book.Fated.{Fated}
use Rattle.ent_members.specs.declared.run_attempts.RunAttempt.{RunAttempt}
use Rattle.ent_members.specs.RunAttempts.{numbers_in}
use Rattle.ent_protocol.specs.Rollback.{dormant_by, fated_by}
use Rattle.ent_protocol.specs.State.{Dormant}
use Rattle.ent_members.specs.ByNumber.{IsNumbered}
use Rattle.ent_members.specs.Cause.{cause_seen}
use Rattle.ent_members.specs.Leaving.{IsWithin, as_member}
use Rattle.ent_members.proofs.Apart.{awake_after, each_before, each_behind, not_before, unfinished_after}
use Rattle.ent_members.proofs.Lists.{list_any-map}
use Rattle.ent_members.proofs.leaving.+leave_each.Goals as goal

abbrev AreNumbered : ℕ → List RunAttempt → Type 0
AreNumbered known run_attempts =
    AllByRecursion (λ (run_attempt : RunAttempt). IsNumbered known run_attempt.tx) run_attempts

abbrev AreAwake : List Dormant → List RunAttempt → Type 0
AreAwake dormant run_attempts = IsDistinct nat_eq (map (λ own. own.tx) dormant ++ numbers_in run_attempts)

abbrev AreUnfinished : List Fated → List RunAttempt → Type 0
AreUnfinished fates run_attempts = IsDistinct nat_eq (map (λ fated. fated.tx) fates ++ numbers_in run_attempts)

pub leave_one-requires-clause-away : goal.leave_one-requires-clause-away
leave_one-requires-clause-away t c =
    let table = c.args.table.now in
    let whole = c.in-Some.ensures.cases.0 in
    let tx = c.in-Some.first.now.tx in
    let rest = numbers_in c.in-Some.rest.now in
    let numbers = subst (AreNumbered table.known) whole c.requires.numbers in
    let awake = subst (AreAwake table.dormant) whole c.requires.awake in
    let unfinished = subst (AreUnfinished table.fates) whole c.requires.unfinished in
    record {
      number = numbers.0;
      awake = sym (list_any-map (λ (own : Dormant). own.tx) (λ n. n == tx) table.dormant)
          ∙ not_before (map (λ (own : Dormant). own.tx) table.dormant) rest tx awake;
      unfinished = sym (list_any-map (λ (fated : Fated). fated.tx) (λ n. n == tx) table.fates)
          ∙ not_before (map (λ (fated : Fated). fated.tx) table.fates) rest tx unfinished;
    }

pub leave_each-requires : goal.leave_each-requires
leave_each-requires t c =
    let table = c.args.table.now in
    let whole = c.in-Some.ensures.cases.0 in
    let run_attempts = c.in-Some.rest.now in
    let rest = numbers_in run_attempts in
    let own = as_member c.in-Some.first.now in
    let shorter = ap (λ (all : List RunAttempt). length all) whole in
    let numbers = subst (AreNumbered table.known) whole c.requires.numbers in
    let within = subst (λ (all : List RunAttempt). AllByRecursion (IsWithin c.args.submitted.now) all) whole
    c.requires.within in
    let awake = subst (AreAwake table.dormant) whole c.requires.awake in
    let unfinished = subst (AreUnfinished table.fates) whole c.requires.unfinished in (
      omega (arith, shorter),
      (
        omega (arith, c.requires.room, c.leave_one.ensures.room, c.leave_one.ensures.known, shorter),
        (
          subst (λ (known : ℕ). AreNumbered known run_attempts) (sym c.leave_one.ensures.known) numbers.1,
          (
            within.1,
            (
              subst (λ (dormant : List Dormant). AreAwake dormant run_attempts) (sym c.leave_one.ensures.dormant)
                  (awake_after c.args.submitted.now (cause_seen c.args.cause) own table.dormant rest awake),
              subst (λ (fates : List Fated). AreUnfinished fates run_attempts) (sym c.leave_one.ensures.fates)
                  (unfinished_after c.args.submitted.now (cause_seen c.args.cause) own table.fates rest unfinished),
            ),
          ),
        ),
      ),
    )

pub returns-clause-dormant : goal.returns-clause-dormant
returns-clause-dormant t c =
    let before = c.args.table.now.dormant in
    let first = c.in-Some.first.now in
    let rest = c.in-Some.rest.now in
    let f = λ (run_attempt : RunAttempt). dormant_by c.args.submitted.now (cause_seen c.args.cause)
    (as_member run_attempt) in
    c.leave_each.ensures.dormant
    ∙ ap (λ (dormant : List Dormant). reverse (filter_map f rest) ++ dormant) c.leave_one.ensures.dormant
    ∙ each_before before (f first) (filter_map f rest)
    ∙ ap (λ (run_attempts : List RunAttempt). reverse (filter_map f run_attempts) ++ before)
    (sym c.in-Some.ensures.cases.0)

pub returns-clause-fates : goal.returns-clause-fates
returns-clause-fates t c =
    let before = c.args.table.now.fates in
    let first = c.in-Some.first.now in
    let rest = c.in-Some.rest.now in
    let f = λ (run_attempt : RunAttempt). fated_by c.args.submitted.now (cause_seen c.args.cause)
    (as_member run_attempt) in
    c.leave_each.ensures.fates
    ∙ ap (λ (fates : List Fated). fates ++ filter_map f rest) c.leave_one.ensures.fates
    ∙ each_behind before (f first) (filter_map f rest)
    ∙ ap (λ (run_attempts : List RunAttempt). before ++ filter_map f run_attempts) (sym c.in-Some.ensures.cases.0)
