-- Runs that start, and members that move, take answers or leave, with the lock table that has their uses.
use Rattle.std.proofs.Common.{◌≡◌, ◌⊎◌, inl, inr, ℕ, ◌<◌, ◌≤◌, Bool, true, false, not, ◌==◌, if◌then◌else◌}
use Rattle.std.proofs.Common.{List, [], ◌∷◌, ◌++◌, map, nat_eq, length, get_or, refl, sym, ap, subst, ◌∙◌, true≢false}
use Rattle.std.specs.Prelude.{Contains, filter, Result, Ok, Err, OnOk, OnErr}
use Rattle.std.specs.List.{list_any, IsDistinct, remove}
use Rattle.std.specs.FinSet as finite
use Rattle.std.proofs.lemmas.List.Elements.{Contains-append_cases}
use Rattle.std.proofs.lemmas.Bool.{both_ways, not-true}
use Rattle.ent_lists.specs.Elements.{number_itself, same_number}
use Rattle.ent_lock.specs.Use.{Uses, DropsUses, use_cmp, key_of_number}
use Rattle.ent_protocol.specs.Member.{is_of, is_tx}
use Rattle.ent_protocol.specs.PoolEvents.{in_joined_group}
use Rattle.ent_protocol.specs.Run.{fresh}
use Rattle.ent_protocol.specs.State.{Member, Dormant, Use, by_number}
use Rattle.ent_members.specs.Answered.{MemberAnswer}
use Rattle.ent_run.specs.Answered.{answered_from}
use Rattle.ent_members.specs.Changes.{stepping}
use Rattle.ent_run.specs.Locks.{AreLocked, IsHeld, IsLockedRun, use_of}
use Rattle.ent_run.specs.Moves.{is_not_of, is_of_another}
use Rattle.ent_members.specs.Order.{tx_of}
use Rattle.ent_run.specs.Run.{IsRun}
use Rattle.ent_run.proofs.Answered.{answered_tx}
use Rattle.ent_run.proofs.ByNumber.{no_member, starts}
use Rattle.ent_run.proofs.Distinct.{distinct_append, distinct_filter}
use Rattle.ent_run.proofs.HeldUses.{out_of_by_number}
use Rattle.ent_run.proofs.JoinedGroups.{run_joined}
use Rattle.ent_run.proofs.Lists.{contains_none, contains_cases, contains_first, into_among, into_filter, out_of_among}
use Rattle.ent_run.proofs.Lists.{out_of_filter, into_map, out_of_map}
use Rattle.ent_run.proofs.Locked.{held_by_either, held_by_one, one_member}
use Rattle.ent_run.proofs.Moved.{run_filtered, run_committed, run_prepared}
use Rattle.ent_run.proofs.OneMember.{removed_at, run_kept}

not_false : (b : Bool) → (b ≡ true → ⊥) → not b ≡ true
not_false true h = absurd (h refl)
not_false false h = refl

-- ---- a run that starts

none_held : (ms : List Member) → ((m : Member) → Contains ms m → m.uses ≡ []) → AreLocked finite.empty ms
none_held ms idle tx table mode = (
  λ holds. absurd (true≢false
      (sym holds ∙ finite.contains-empty use_cmp (record { holder = tx; table = key_of_number table; mode = mode }))),
  λ held. absurd (contains_none (use_of table mode)
      (subst (λ us. Contains us (use_of table mode)) (idle held.0 held.1) held.3)),
)

none_twice : IsDistinct nat_eq (map tx_of [])
unfolding IsDistinct
none_twice = tt

one_alone : (member : Member) → IsDistinct nat_eq (map tx_of (member ∷ []))
unfolding IsDistinct
one_alone member = (tt, tt)

pub nobody_runs : IsLockedRun finite.empty [] []
nobody_runs = record {
  run = no_member;
  once = none_twice;
  apart = λ tx there. absurd (contains_none tx there);
  locked = none_held [] (λ m there. absurd (contains_none m there));
}

fresh_idle : (entrants : List Dormant) (m : Member) → Contains (map fresh entrants) m → m.uses ≡ []
fresh_idle entrants m there =
    let one = out_of_map fresh entrants m there in
    ap (λ (k : Member). k.uses) (sym one.2)

pub run_starts : (entrants : List Dormant) → length entrants ≤ 64
    → IsDistinct nat_eq (map (λ (e : Dormant). e.tx) entrants)
    → IsLockedRun finite.empty [] (by_number tx_of (map fresh entrants))
run_starts entrants bound distinct = record {
  run = starts entrants bound distinct;
  once = none_twice;
  apart = λ tx there. absurd (contains_none tx there);
  locked = none_held (by_number tx_of (map fresh entrants))
      (λ m there. fresh_idle entrants m (out_of_by_number tx_of (map fresh entrants) m there));
}

-- ---- members that keep their numbers and their uses

module _ (f : Member → Member) (same : (m : Member) → (f m).tx ≡ m.tx) (uses : (m : Member) → (f m).uses ≡ m.uses) where
  pub mapped_numbers : (xs : List Member) → map tx_of (map f xs) ≡ map tx_of xs
  mapped_numbers [] = refl
  mapped_numbers (x ∷ xs) = λ i. same x i ∷ mapped_numbers xs i

  pub held_mapped : (xs : List Member) (tx : ℕ) (own : Use) → IsHeld xs tx own → IsHeld (map f xs) tx own
  held_mapped xs tx own (m, there, is, holds) =
      (f m, into_map f xs m there, same m ∙ is, subst (λ us. Contains us own) (sym (uses m)) holds)

  pub held_unmapped : (xs : List Member) (tx : ℕ) (own : Use) → IsHeld (map f xs) tx own → IsHeld xs tx own
  held_unmapped xs tx own (n, there, is, holds) =
      let from = out_of_map f xs n there in (
        from.0,
        from.1,
        sym (same from.0) ∙ ap tx_of from.2 ∙ is,
        subst (λ us. Contains us own) (uses from.0) (subst (λ (k : Member). Contains k.uses own) (sym from.2) holds),
      )

  -- those that aren't prepared
  pub run_active_mapped : (locks : Uses) (prepared active : List Member) → IsRun prepared (map f active)
      → IsLockedRun locks prepared active → IsLockedRun locks prepared (map f active)
  run_active_mapped locks prepared active kept run = record {
    run = kept;
    once = run.once;
    apart = λ tx there also. run.apart tx there (subst (λ ns. Contains ns tx) (mapped_numbers active) also);
    locked = λ tx table mode. (
      λ holds. held_by_either prepared (map f active) tx (use_of table mode)
          (elim (held_by_one prepared active tx (use_of table mode) ((run.locked tx table mode).0 holds)) [
            | inl first ↦ inl first
            | inr second ↦ inr (held_mapped active tx (use_of table mode) second)
          ]),
      λ held. (run.locked tx table mode).1 (held_by_either prepared active tx (use_of table mode)
          (elim (held_by_one prepared (map f active) tx (use_of table mode) held) [
            | inl first ↦ inl first
            | inr second ↦ inr (held_unmapped active tx (use_of table mode) second)
          ])),
    );
  }

  -- all of them
  pub run_mapped : (locks : Uses) (prepared active : List Member) → IsRun (map f prepared) (map f active)
      → IsLockedRun locks prepared active → IsLockedRun locks (map f prepared) (map f active)
  run_mapped locks prepared active kept run = record {
    run = kept;
    once = subst (IsDistinct nat_eq) (sym (mapped_numbers prepared)) run.once;
    apart = λ tx there also. run.apart tx (subst (λ ns. Contains ns tx) (mapped_numbers prepared) there)
        (subst (λ ns. Contains ns tx) (mapped_numbers active) also);
    locked = λ tx table mode. (
      λ holds. held_by_either (map f prepared) (map f active) tx (use_of table mode)
          (elim (held_by_one prepared active tx (use_of table mode) ((run.locked tx table mode).0 holds)) [
            | inl first ↦ inl (held_mapped prepared tx (use_of table mode) first)
            | inr second ↦ inr (held_mapped active tx (use_of table mode) second)
          ]),
      λ held. (run.locked tx table mode).1 (held_by_either prepared active tx (use_of table mode)
          (elim (held_by_one (map f prepared) (map f active) tx (use_of table mode) held) [
            | inl first ↦ inl (held_unmapped prepared tx (use_of table mode) first)
            | inr second ↦ inr (held_unmapped active tx (use_of table mode) second)
          ])),
    );
  }

pub run_locked_joined : (labels : List ℕ) (locks : Uses) (prepared active : List Member)
    → IsLockedRun locks prepared active
    → IsLockedRun locks (map (in_joined_group labels) prepared) (map (in_joined_group labels) active)
run_locked_joined labels locks prepared active run =
    run_mapped (in_joined_group labels) (λ m. refl) (λ m. refl) locks prepared active
    (run_joined labels prepared active run.run) run

-- ---- members that take their answers

pub answered_uses : (given : List MemberAnswer) (m : Member) → (answered_from given m).uses ≡ m.uses
answered_uses [] m = refl
answered_uses (own ∷ given) m = by_test (answered_uses given m) (is_tx own.tx m)
  where
    by_test : (answered_from given m).uses ≡ m.uses → (b : Bool)
        → (if b then stepping own.answer own.bound m else answered_from given m).uses ≡ m.uses
    by_test rest true = refl
    by_test rest false = rest

pub run_answered : (given : List MemberAnswer) (locks : Uses) (prepared active : List Member)
    → IsLockedRun locks prepared active → IsLockedRun locks prepared (map (answered_from given) active)
run_answered given locks prepared active run =
    run_active_mapped (answered_from given) (answered_tx given) (answered_uses given) locks prepared active
    (run_kept prepared active (map (answered_from given) active)
    (mapped_numbers (answered_from given) (answered_tx given) (answered_uses given) active) run.run) run

pub run_answered_or_not : {T E : Type 0} (r : Result T E) (given : List MemberAnswer) (locks : Uses)
    (prepared old new : List Member) → OnOk r (new ≡ map (answered_from given) old) → OnErr r (new ≡ old)
    → IsLockedRun locks prepared old → IsLockedRun locks prepared new
run_answered_or_not (Ok x) given locks prepared old new ok err run =
    subst (IsLockedRun locks prepared) (sym ok) (run_answered given locks prepared old run)
run_answered_or_not (Err e) given locks prepared old new ok err run = subst (IsLockedRun locks prepared) (sym err) run

-- ---- members that leave

numbers_filtered : (p : Member → Bool) (xs : List Member) (tx : ℕ) → Contains (map tx_of (filter p xs)) tx
    → Contains (map tx_of xs) tx
numbers_filtered p xs tx there =
    let m = out_of_map tx_of (filter p xs) tx there in
    subst (Contains (map tx_of xs)) m.2 (into_map tx_of xs m.0 (out_of_filter p xs m.0 m.1).0)

held_filtered : (numbers : List ℕ) (xs : List Member) (tx : ℕ) (own : Use)
    → IsHeld (filter (is_not_of numbers) xs) tx own
    → IsHeld xs tx own × ¬ Contains numbers tx
held_filtered numbers xs tx own (m, there, is, holds) =
    let inside = out_of_filter (is_not_of numbers) xs m there in (
      (m, inside.0, is, holds),
      λ gone. both_ways (list_any (λ n. n == m.tx) numbers) (not-true (list_any (λ n. n == m.tx) numbers) inside.1)
          (into_among numbers m.tx (subst (Contains numbers) (sym is) gone)),
    )

filtered_held : (numbers : List ℕ) (xs : List Member) (tx : ℕ) (own : Use) → ¬ Contains numbers tx → IsHeld xs tx own
    → IsHeld (filter (is_not_of numbers) xs) tx own
filtered_held numbers xs tx own stays (m, there, is, holds) = (
  m,
  into_filter (is_not_of numbers) xs m there (not_false (list_any (λ n. n == m.tx) numbers)
      (λ gone. stays (subst (Contains numbers) is (out_of_among numbers m.tx gone)))),
  is,
  holds,
)

pub run_left : (numbers : List ℕ) (locks next : Uses) (prepared active : List Member) → DropsUses locks next numbers
    → IsLockedRun locks prepared active
    → IsLockedRun next (filter (is_not_of numbers) prepared) (filter (is_not_of numbers) active)
run_left numbers locks next prepared active drops run = record {
  run = run_filtered (is_not_of numbers) prepared active run.run;
  once = distinct_filter (is_not_of numbers) prepared run.once;
  apart = λ tx there also. run.apart tx (numbers_filtered (is_not_of numbers) prepared tx there)
      (numbers_filtered (is_not_of numbers) active tx also);
  locked = λ tx table mode. (
    λ holds.
        let before = (drops tx (key_of_number table) mode).0 holds in
        held_by_either (filter (is_not_of numbers) prepared) (filter (is_not_of numbers) active) tx (use_of table mode)
        (elim (held_by_one prepared active tx (use_of table mode) ((run.locked tx table mode).0 before.0)) [
          | inl first ↦ inl (filtered_held numbers prepared tx (use_of table mode) before.1 first)
          | inr second ↦ inr (filtered_held numbers active tx (use_of table mode) before.1 second)
        ]),
    λ held. (drops tx (key_of_number table) mode).1
        (elim (held_by_one (filter (is_not_of numbers) prepared) (filter (is_not_of numbers) active) tx
        (use_of table mode) held) [
          | inl first ↦
              let was = held_filtered numbers prepared tx (use_of table mode) first in
              ((run.locked tx table mode).1 (held_by_either prepared active tx (use_of table mode) (inl was.0)), was.1)
          | inr second ↦
              let was = held_filtered numbers active tx (use_of table mode) second in
              ((run.locked tx table mode).1 (held_by_either prepared active tx (use_of table mode) (inr was.0)), was.1)
        ]),
  );
}

-- ---- a group that commits

pub run_left_by_group : (group : ℕ) (locks next : Uses) (prepared active : List Member)
    → DropsUses locks next (map tx_of (filter (is_of group) prepared)) → IsLockedRun locks prepared active
    → IsLockedRun next (filter (is_of_another group) prepared) active
run_left_by_group group locks next prepared active drops run = record {
  run = run_committed (is_of_another group) prepared active run.run;
  once = distinct_filter (is_of_another group) prepared run.once;
  apart = λ tx there. run.apart tx (numbers_filtered (is_of_another group) prepared tx there);
  locked = λ tx table mode. (
    λ holds.
        let before = (drops tx (key_of_number table) mode).0 holds in
        held_by_either (filter (is_of_another group) prepared) active tx (use_of table mode)
        (elim (held_by_one prepared active tx (use_of table mode) ((run.locked tx table mode).0 before.0)) [
          | inl first ↦ inl (stays tx (use_of table mode) before.1 first)
          | inr second ↦ inr second
        ]),
    λ held. (drops tx (key_of_number table) mode).1
        (elim (held_by_one (filter (is_of_another group) prepared) active tx (use_of table mode) held) [
          | inl first ↦ (
            (run.locked tx table mode).1 (held_by_either prepared active tx (use_of table mode)
                (inl (was_held tx (use_of table mode) first))),
            of_no_other tx (use_of table mode) first,
          )
          | inr second ↦ (
            (run.locked tx table mode).1 (held_by_either prepared active tx (use_of table mode) (inr second)),
            λ gone. run.apart tx (numbers_filtered (is_of group) prepared tx gone)
                (subst (Contains (map tx_of active)) second.2 (into_map tx_of active second.0 second.1)),
          )
        ]),
  );
}
  where
    stays : (tx : ℕ) (own : Use) → ¬ Contains (map tx_of (filter (is_of group) prepared)) tx → IsHeld prepared tx own
        → IsHeld (filter (is_of_another group) prepared) tx own
    stays tx own apart (m, there, is, holds) = (
      m,
      into_filter (is_of_another group) prepared m there (not_false (is_of group m) (λ own_group. apart
          (subst (Contains (map tx_of (filter (is_of group) prepared))) is
          (into_map tx_of (filter (is_of group) prepared) m (into_filter (is_of group) prepared m there own_group))))),
      is,
      holds,
    )

    was_held : (tx : ℕ) (own : Use) → IsHeld (filter (is_of_another group) prepared) tx own → IsHeld prepared tx own
    was_held tx own (m, there, is, holds) = (m, (out_of_filter (is_of_another group) prepared m there).0, is, holds)

    of_no_other : (tx : ℕ) (own : Use) → IsHeld (filter (is_of_another group) prepared) tx own
        → ¬ Contains (map tx_of (filter (is_of group) prepared)) tx
    of_no_other tx own (m, there, is, holds) gone =
        let inside = out_of_filter (is_of_another group) prepared m there in
        let other = out_of_map tx_of (filter (is_of group) prepared) tx gone in
        let committed = out_of_filter (is_of group) prepared other.0 other.1 in
        both_ways (is_of group m) (not-true (is_of group m) inside.1)
        (ap (λ (k : Member). k.group == group) (one_member prepared run.once m other.0 inside.0 committed.0
        (is ∙ sym other.2)) ∙ committed.1)

-- ---- a member that is prepared

pub run_locked_prepared : (locks : Uses) (prepared active : List Member) (i : ℕ) (member : Member) → i < length active
    → get_or active i member ≡ member → IsLockedRun locks prepared active
    → IsLockedRun locks (prepared ++ member ∷ []) (remove active i)
run_locked_prepared locks prepared active i member lt at run = record {
  run = run_prepared prepared active i member member lt run.run;
  once = distinct_append prepared (member ∷ []) run.once (one_alone member)
      (λ tx there last. run.apart tx there (subst (Contains (map tx_of active)) (is_number tx last) active_number));
  apart = λ tx there also. elsewhere tx (from_prepared tx there)
      (subst (λ ms. Contains (map tx_of ms) tx) rest_is also);
  locked = λ tx table mode. (
    λ holds. moved tx (use_of table mode) ((run.locked tx table mode).0 holds),
    λ held. (run.locked tx table mode).1 (moved_back tx (use_of table mode) held),
  );
}
  where
    there_before : Contains active member
    there_before = (i, lt, at)

    rest_is : remove active i ≡ filter (λ other. not (is_tx member.tx other)) active
    rest_is = removed_at active i member run.run.distinct lt
        ∙ ap (λ (m : Member). filter (λ other. not (is_tx m.tx other)) active) at

    is_last : (m : Member) → Contains (member ∷ []) m → member ≡ m
    is_last m there = elim (contains_cases member m [] there) [
      | inl same ↦ same
      | inr none ↦ absurd (contains_none m none)
    ]

    active_number : Contains (map tx_of active) member.tx
    active_number = into_map tx_of active member there_before

    is_number : (tx : ℕ) → Contains (member.tx ∷ []) tx → member.tx ≡ tx
    is_number tx there = elim (contains_cases member.tx tx [] there) [
      | inl same ↦ same
      | inr none ↦ absurd (contains_none tx none)
    ]

    from_prepared : (tx : ℕ) → Contains (map tx_of (prepared ++ member ∷ [])) tx
        → Contains (map tx_of prepared) tx ⊎ (member.tx ≡ tx)
    from_prepared tx there =
        let m = out_of_map tx_of (prepared ++ member ∷ []) tx there in
        elim (Contains-append_cases prepared (member ∷ []) m.0 m.1) [
          | inl a ↦ inl (subst (Contains (map tx_of prepared)) m.2 (into_map tx_of prepared m.0 a))
          | inr b ↦ inr (ap tx_of (is_last m.0 b) ∙ m.2)
        ]

    elsewhere : (tx : ℕ) → Contains (map tx_of prepared) tx ⊎ (member.tx ≡ tx)
        → Contains (map tx_of (filter (λ other. not (is_tx member.tx other)) active)) tx → ⊥
    elsewhere tx (inl a) also = run.apart tx a (numbers_filtered (λ other. not (is_tx member.tx other)) active tx also)
    elsewhere tx (inr same) also =
        let m = out_of_map tx_of (filter (λ other. not (is_tx member.tx other)) active) tx also in
        both_ways (is_tx member.tx m.0)
        (not-true (is_tx member.tx m.0)
        (out_of_filter (λ other. not (is_tx member.tx other)) active m.0 m.1).1)
        (ap (λ n. n == member.tx) (m.2 ∙ sym same) ∙ number_itself member.tx)

    to_last : (tx : ℕ) (own : Use) (m : Member) (b : Bool) → is_tx member.tx m ≡ b → Contains active m → m.tx ≡ tx
        → Contains m.uses own → IsHeld (prepared ++ member ∷ []) tx own ⊎ IsHeld (remove active i) tx own
    to_last tx own m true same there is holds =
        let one : m ≡ member =
        one_member active run.run.distinct m member there there_before (same_number m.tx member.tx same) in
        inl (held_by_either prepared (member ∷ []) tx own
        (inr (
          member,
          contains_first member [],
          ap tx_of (sym one)
              ∙ is,
          subst (λ (k : Member). Contains k.uses own) one holds,
        )))
    to_last tx own m false same there is holds =
        inr (
          m,
          subst (λ ms. Contains ms m) (sym rest_is)
              (into_filter (λ other. not (is_tx member.tx other)) active m there (ap not same)),
          is,
          holds,
        )

    moved : (tx : ℕ) (own : Use) → IsHeld (prepared ++ active) tx own
        → IsHeld ((prepared ++ member ∷ []) ++ remove active i) tx own
    moved tx own held = held_by_either (prepared ++ member ∷ []) (remove active i) tx own
        (elim (held_by_one prepared active tx own held) [
          | inl first ↦ inl (held_by_either prepared (member ∷ []) tx own (inl first))
          | inr second ↦ to_last tx own second.0 (is_tx member.tx second.0) refl second.1 second.2 second.3
        ])

    moved_back : (tx : ℕ) (own : Use) → IsHeld ((prepared ++ member ∷ []) ++ remove active i) tx own
        → IsHeld (prepared ++ active) tx own
    moved_back tx own held = held_by_either prepared active tx own
        (elim (held_by_one (prepared ++ member ∷ []) (remove active i) tx own held) [
          | inl first ↦ elim (held_by_one prepared (member ∷ []) tx own first) [
            | inl a ↦ inl a
            | inr b ↦ inr (
              member,
              there_before,
              ap tx_of (is_last b.0 b.1) ∙ b.2,
              subst (λ (k : Member). Contains k.uses own) (sym (is_last b.0 b.1)) b.3,
            )
          ]
          | inr second ↦ inr (
            second.0,
            (out_of_filter (λ other. not (is_tx member.tx other)) active second.0
                (subst (λ ms. Contains ms second.0) rest_is second.1)).0,
            second.2,
            second.3,
          )
        ])
