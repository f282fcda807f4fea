use Rattle.std.proofs.Common.{◌≡◌, ◌+◌, ◌<◌, [], ◌∷◌, ◌++◌, ℕ, List, ap, arith, drop, length, map, sym, subst, ◌∙◌}
use Rattle.std.specs.List.{filter}
use Rattle.std.proofs.lemmas.List.{append-nil, drop_all, drop_more, length-append}
use Rattle.ent_protocol.specs.State.{Member}
use Rattle.ent_members.specs.InRun.{in_run}
use Rattle.ent_members.specs.Order.{IsAscending}
use Rattle.ent_members.specs.declared.run_attempts.RunAttempt.{RunAttempt}
use Rattle.ent_members.specs.RunAttempts.{is_within, run_attempt_of}
use Rattle.ent_members.proofs.InOrder.{gathered_in_order, one_passed, one_told}
use Rattle.ent_members.proofs.InRun.{numbers_in_run}
use Rattle.ent_run.proofs.gather.gather_by_number.Goals as goal
use Rattle.ent_run.proofs.gather.gather_by_number.Goals.{Joined-is_within, then-is_within, else-is_within}

pub returns-clause-list : goal.returns-clause-list
returns-clause-list c = λ locks.
    let told = c.loop-place.run_attempts in
    let groups = c.args.groups.now in
    let members = c.args.members.now in
    sym (append-nil told)
    ∙ ap (λ (ms : List Member). told ++ map run_attempt_of (filter (is_within c.args.group)
    (map (in_run locks groups) ms)))
    (sym (drop_all c.loop-place.place members (omega (arith, c.loop-place-test.false, c.len-place-end.ensures))))
    ∙ c.loop-place.invariant.list locks
    ∙ sym (gathered_in_order c.args.group (map (in_run locks groups) members)
    (subst IsAscending (sym (numbers_in_run locks groups members)) c.requires.ascending))

-- what is left begins with the member at the place
whole : (c : Joined-is_within) → drop c.loop-place.place c.args.members.now
    ≡ c.at-member.result.now ∷ drop (c.loop-place.place + 1) c.args.members.now
whole c =
    let members = c.args.members.now in
    let place = c.loop-place.place in
    drop_more members place c.at-member.result.now
    (subst (λ (n : ℕ). place < n) c.len-place-end.ensures c.loop-place-test.true)
    ∙ ap (λ (m : Member). m ∷ drop (place + 1) members) (sym (c.at-member.ensures c.at-member.result.now))

pub loop-place-preserved : goal.loop-place-preserved
loop-place-preserved c =
    let groups = c.args.groups.now in
    let first = c.at-member.result.now in
    let later = drop (c.loop-place.place + 1) c.args.members.now in
    let told = c.loop-place.run_attempts in
    elim c.if-is_within.branch [
      | then-is_within w ↦
          let more = w.push.ensures ∙ ap (λ (own : RunAttempt). told ++ own ∷ []) w.run_attempt_of.ensures in
          record {
            list = λ locks. ap (λ (all : List RunAttempt). all
                ++ map run_attempt_of (filter (is_within c.args.group) (map (in_run locks groups) later)))
                (w.run_attempts-is ∙ more)
                ∙ one_told c.args.group (in_run locks groups first) (map (in_run locks groups) later) told
                (sym (c.is_within.ensures locks) ∙ w.if-is_within.true)
                ∙ ap (λ (ms : List Member). told
                ++ map run_attempt_of (filter (is_within c.args.group) (map (in_run locks groups) ms)))
                (sym (whole c))
                ∙ c.loop-place.invariant.list locks;
            room = omega (
              arith,
              ap length (w.run_attempts-is ∙ more),
              length-append told (run_attempt_of first ∷ []),
              c.loop-place.invariant.room,
            );
            bound = c.loop-place.invariant.bound;
          }
      | else-is_within w ↦ record {
        list = λ locks. ap (λ (all : List RunAttempt). all
            ++ map run_attempt_of (filter (is_within c.args.group) (map (in_run locks groups) later)))
            w.run_attempts-is
            ∙ one_passed c.args.group (in_run locks groups first) (map (in_run locks groups) later) told
            (sym (c.is_within.ensures locks) ∙ w.if-is_within.false)
            ∙ ap (λ (ms : List Member). told
            ++ map run_attempt_of (filter (is_within c.args.group) (map (in_run locks groups) ms)))
            (sym (whole c))
            ∙ c.loop-place.invariant.list locks;
        room = omega (arith, ap length w.run_attempts-is, c.loop-place.invariant.room);
        bound = c.loop-place.invariant.bound;
      }
    ]
