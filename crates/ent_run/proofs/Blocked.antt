-- Who blocks by the lock table is who is in conflict.
use Rattle.std.proofs.Common.{◌≡◌, ◌⊎◌, inl, inr, ℕ, Bool, true, false, not, ◌==◌}
use Rattle.std.proofs.Common.{List, ◌∷◌, ◌++◌, map, refl, sym, ap, subst, ◌∙◌}
use Rattle.std.specs.Prelude.{Contains, filter, Option}
use Rattle.std.specs.List.{list_any}
use Rattle.std.proofs.lemmas.List.Elements.{Contains-append_left, Contains-append_right, Contains-append_cases}
use Rattle.ent_lists.specs.Elements.{and_both, both_and, number_itself, same_number}
use Rattle.ent_lock.specs.declared.mode.Mode.{Mode}
use Rattle.ent_lock.specs.declared.mode.Mode.TheVariants.{Shared, Exclusive}
use Rattle.ent_lock.specs.Holders.{lesser}
use Rattle.ent_lock.specs.Mode.{in_conflict}
use Rattle.ent_lock.specs.Use.{Uses, InConflictAt, IsLeastIfAny, key_of_number}
use Rattle.ent_lock.proofs.Requests.{least_same, least_either}
use Rattle.ent_protocol.specs.State.{State, Member, Use}
use Rattle.ent_protocol.specs.Uses.{is_conflicting, uses_conflict, least, blocker}
use Rattle.ent_run.specs.Locks.{BlocksUses, IsLockedRun, use_of}
use Rattle.ent_run.specs.Moves.{run_of}
use Rattle.ent_run.specs.Passing.{TellsPassed}
use Rattle.ent_members.specs.Order.{tx_of}
use Rattle.ent_run.specs.Run.{with_run}
use Rattle.ent_run.proofs.LeastOf.{least_of_list, one_least}
use Rattle.ent_run.proofs.Lists.{contains_cases, contains_first, contains_later, any_of, some_of, into_filter}
use Rattle.ent_run.proofs.Lists.{out_of_filter, into_map, out_of_map}
use Rattle.ent_run.proofs.Locked.{either_member, is_not}

turned : (a b : Mode) → in_conflict a b ≡ true → in_conflict b a ≡ true
turned Shared Shared e = e
turned Shared Exclusive e = refl
turned Exclusive Shared e = refl
turned Exclusive Exclusive e = refl

-- ---- the uses that are asked for, one by one

-- a transaction that isn't passed holds a table in conflict with a use that is asked for
abbrev pub BlocksOne : Uses → Use → (ℕ → Bool) → ℕ → Type 0
BlocksOne locks own passes v = (passes v ≡ false) × InConflictAt locks v (key_of_number own.table) own.mode

pub least_of_more : (locks : Uses) (first : Use) (rest : List Use) (passes : ℕ → Bool) (a b : Option ℕ)
    → IsLeastIfAny (BlocksOne locks first passes) a → IsLeastIfAny (BlocksUses locks rest passes) b
    → IsLeastIfAny (BlocksUses locks (first ∷ rest) passes) (lesser a b)
least_of_more locks first rest passes a b one more =
    least_same (λ v. BlocksOne locks first passes v ⊎ BlocksUses locks rest passes v)
    (BlocksUses locks (first ∷ rest) passes) (lesser a b) into cases
    (least_either (BlocksOne locks first passes) (BlocksUses locks rest passes) a b one more)
  where
    into : (v : ℕ) → BlocksOne locks first passes v ⊎ BlocksUses locks rest passes v
        → BlocksUses locks (first ∷ rest) passes v
    into v (inl (apart, conflict)) = (apart, (first, contains_first first rest, conflict))
    into v (inr (apart, (own, there, conflict))) = (apart, (own, contains_later first own rest there, conflict))

    cases : (v : ℕ) → BlocksUses locks (first ∷ rest) passes v
        → BlocksOne locks first passes v ⊎ BlocksUses locks rest passes v
    cases v (apart, (own, there, conflict)) = elim (contains_cases first own rest there) [
      | inl same ↦ inl (
        apart,
        subst (λ (u : Use). InConflictAt locks v (key_of_number u.table) u.mode) (sym same) conflict,
      )
      | inr later ↦ inr (apart, (own, later, conflict))
    ]

-- ---- a member in conflict, and the uses in conflict

conflict_of : (asked : List Use) (holder : Member) → is_conflicting asked holder ≡ true
    → (own : Use) × Contains asked own
    × ((theirs : Mode) × Contains holder.uses (use_of own.table theirs) × (in_conflict theirs own.mode ≡ true))
conflict_of asked holder way =
    let own = some_of (λ own. list_any (uses_conflict own) holder.uses) asked way in
    let other = some_of (uses_conflict own.0) holder.uses own.2 in
    let parts = and_both (own.0.table == other.0.table) (in_conflict own.0.mode other.0.mode) other.2 in
    let same : other.0 ≡ use_of own.0.table other.0.mode =
    λ i. use_of (sym (same_number own.0.table other.0.table parts.0) i) other.0.mode in
    (own.0, own.1, (other.0.mode, subst (Contains holder.uses) same other.1, turned own.0.mode other.0.mode parts.1))

way_of : (asked : List Use) (holder : Member) (own : Use) (theirs : Mode) → Contains asked own
    → Contains holder.uses (use_of own.table theirs) → in_conflict theirs own.mode ≡ true
    → is_conflicting asked holder ≡ true
way_of asked holder own theirs there held conflict =
    any_of (λ u. list_any (uses_conflict u) holder.uses) asked own there
    (any_of (uses_conflict own) holder.uses (use_of own.table theirs) held
    (both_and (own.table == own.table) (in_conflict own.mode theirs) (number_itself own.table)
    (turned theirs own.mode conflict)))

-- ---- who is passed

module _ (locks : Uses) (prepared active : List Member) (run : IsLockedRun locks prepared active) (asker : Member)
    (test : ℕ → Bool) (tells : TellsPassed asker (run_of prepared active) test) where
  abbrev pub others : List Member
  others = filter (λ (holder : Member). not (holder.group == asker.group)) prepared
      ++ filter (λ (holder : Member). not (holder.tx == asker.tx)) active

  pub of_run : (m : Member) → Contains others m → Contains (prepared ++ active) m × (test m.tx ≡ false)
  of_run m there =
      by_cases (Contains-append_cases (filter (λ (holder : Member). not (holder.group == asker.group)) prepared)
      (filter (λ (holder : Member). not (holder.tx == asker.tx)) active) m there)
    where
      by_cases : Contains (filter (λ (holder : Member). not (holder.group == asker.group)) prepared) m
          ⊎ Contains (filter (λ (holder : Member). not (holder.tx == asker.tx)) active) m
          → Contains (prepared ++ active) m × (test m.tx ≡ false)
      by_cases (inl h) =
          let inside = out_of_filter (λ (holder : Member). not (holder.group == asker.group)) prepared m h in (
            either_member prepared active m (inl inside.0),
            tells.prepared m inside.0 ∙ is_not (m.group == asker.group) inside.1,
          )
      by_cases (inr h) =
          let inside = out_of_filter (λ (holder : Member). not (holder.tx == asker.tx)) active m h in (
            either_member prepared active m (inr inside.0),
            tells.active m inside.0 ∙ is_not (m.tx == asker.tx) inside.1,
          )

  to_others : (m : Member) → Contains (prepared ++ active) m → test m.tx ≡ false → Contains others m
  to_others m there apart = by_cases (Contains-append_cases prepared active m there)
    where
      by_cases : Contains prepared m ⊎ Contains active m → Contains others m
      by_cases (inl h) = Contains-append_left (filter (λ (holder : Member). not (holder.group == asker.group)) prepared)
          (filter (λ (holder : Member). not (holder.tx == asker.tx)) active) m
          (into_filter (λ (holder : Member). not (holder.group == asker.group)) prepared m h
          (ap not (sym (tells.prepared m h) ∙ apart)))
      by_cases (inr h) = Contains-append_right
          (filter (λ (holder : Member). not (holder.group == asker.group)) prepared)
          (filter (λ (holder : Member). not (holder.tx == asker.tx)) active) m
          (into_filter (λ (holder : Member). not (holder.tx == asker.tx)) active m h
          (ap not (sym (tells.active m h) ∙ apart)))

  -- ---- who blocks

  pub blocks_conflicting : (asked : List Use) (v : ℕ) → BlocksUses locks asked test v
      → Contains (map tx_of (filter (is_conflicting asked) others)) v
  blocks_conflicting asked v (apart, (own, there, (theirs, holds, conflict))) =
      let held = (run.locked v own.table theirs).0 holds in
      let m = held.0 in
      subst (Contains (map tx_of (filter (is_conflicting asked) others))) held.2
      (into_map tx_of (filter (is_conflicting asked) others) m
      (into_filter (is_conflicting asked) others m (to_others m held.1 (ap test held.2 ∙ apart))
      (way_of asked m own theirs there held.3 conflict)))

  pub conflicting_blocks : (asked : List Use) (v : ℕ) → Contains (map tx_of (filter (is_conflicting asked) others)) v
      → BlocksUses locks asked test v
  conflicting_blocks asked v there =
      let m = out_of_map tx_of (filter (is_conflicting asked) others) v there in
      let inside = out_of_filter (is_conflicting asked) others m.0 m.1 in
      let conflict = conflict_of asked m.0 inside.1 in
      let theirs = conflict.2.0 in
      let own = of_run m.0 inside.0 in (
        ap test (sym m.2) ∙ own.1,
        (
          conflict.0,
          conflict.1,
          (theirs, (run.locked v conflict.0.table theirs).1 (m.0, own.0, m.2, conflict.2.1), conflict.2.2),
        ),
      )

  pub blocker_is : (asked : List Use) (result : Option ℕ) (s : State)
      → IsLeastIfAny (BlocksUses locks asked test) result
      → result ≡ blocker (with_run (run_of prepared active) s) asker asked
  blocker_is asked result s is =
      one_least (Contains (map tx_of (filter (is_conflicting asked) others))) result
      (least (map tx_of (filter (is_conflicting asked) others)))
      (least_same (BlocksUses locks asked test) (Contains (map tx_of (filter (is_conflicting asked) others))) result
      (blocks_conflicting asked) (conflicting_blocks asked) is)
      (least_of_list (map tx_of (filter (is_conflicting asked) others)))
