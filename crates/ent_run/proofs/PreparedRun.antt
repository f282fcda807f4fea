-- A member that is prepared keeps what it has, its locks and its label.
use Rattle.std.proofs.Common.{◌≡◌, ℕ, ◌<◌, List, [], ◌∷◌, ◌++◌, not, length, get_or, filter, refl, sym, ap, subst, ◌∙◌}
use Rattle.std.proofs.Common.{arith}
use Rattle.std.specs.Prelude.{Result, Ok, Err, OnOk, OnErr}
use Rattle.std.proofs.lemmas.List.{map-append}
use Rattle.ent_group.specs.declared.groups.Membership.{Membership}
use Rattle.ent_lock.specs.Use.{Uses}
use Rattle.ent_members.specs.InRun.{in_run}
use Rattle.ent_members.specs.Order.{tx_of}
use Rattle.ent_protocol.specs.Member.{is_tx}
use Rattle.ent_protocol.specs.State.{Member}
use Rattle.ent_run.specs.Grouped.{IsRunOf, IsRunWith}
use Rattle.ent_run.specs.InRuns.{in_runs}
use Rattle.ent_run.specs.Moves.{Prepares, PreparesMember, run_of}
use Rattle.ent_run.specs.Places.{IsAt}
use Rattle.ent_run.proofs.Grouped.{grouped_prepared}
use Rattle.ent_run.proofs.InOrder.{found_here}
use Rattle.ent_run.proofs.InRuns.{filter_mapped}
use Rattle.ent_run.proofs.LockedRuns.{run_locked_prepared}
use Rattle.ent_run.proofs.Lookups.{get_in_runs, own_ascending}
use Rattle.ent_run.proofs.OneMember.{found_at, removed_at}
use Rattle.std.proofs.lemmas.List.{get_or_default, length-map}

module _ (locks : Uses) (groups : List Membership) (prepared active : List Member) (place : ℕ)
    (run : IsRunOf locks groups prepared active) (within : place < length active) where
  abbrev shown : List Member
  shown = in_runs locks groups active

  -- the member at the place, which has a number of its own
  own_at : (d : Member) → IsAt active (get_or active place d).tx place
  own_at d = record {
    in_range = within;
    first = λ e. found_here active place (get_or active place d).tx e
        (own_ascending locks groups active run.0.0.run.ascending) within
        (ap tx_of (get_or_default active place e d within));
  }

  shown_within : place < length shown
  shown_within = subst (λ n. place < n) (sym (length-map active (in_run locks groups))) within

  -- as lists of members in the run
  pub shown_prepared : (m : Member) (next_prepared next_active : List Member)
      → PreparesMember m (run_of prepared active) (run_of next_prepared next_active)
      → PreparesMember (in_run locks groups m) (run_of (in_runs locks groups prepared) shown)
      (run_of (in_runs locks groups next_prepared) (in_runs locks groups next_active))
  shown_prepared m next_prepared next_active is = record {
    prepared = ap (in_runs locks groups) is.prepared ∙ map-append (in_run locks groups) prepared (m ∷ []);
    active = ap (in_runs locks groups) is.active
        ∙ sym (filter_mapped (in_run locks groups) (λ other. not (is_tx m.tx other)) (λ other. not (is_tx m.tx other))
        (λ _. refl) active);
  }

  module _ (next_prepared next_active : List Member)
      (prepares : (tx : ℕ) → IsAt active tx place
      → Prepares tx (run_of prepared active) (run_of next_prepared next_active)) where
    by_own : (d : Member) → PreparesMember (get_or active place d) (run_of prepared active)
        (run_of next_prepared next_active)
    by_own d = prepares (get_or active place d).tx (own_at d) (get_or active place d) ((own_at d).first d)

    pub prepared_changes : (tx : ℕ) → IsAt shown tx place
        → Prepares tx (run_of (in_runs locks groups prepared) shown)
        (run_of (in_runs locks groups next_prepared) (in_runs locks groups next_active))
    prepared_changes tx at member is =
        let own = get_or active place member in
        let same : in_run locks groups own ≡ member =
        sym (get_in_runs locks groups active place member member within)
        ∙ found_at shown tx place member member at is in
        subst (λ (m : Member). PreparesMember m (run_of (in_runs locks groups prepared) shown)
        (run_of (in_runs locks groups next_prepared) (in_runs locks groups next_active))) same
        (shown_prepared own next_prepared next_active (by_own member))

    run_prepared : (d : Member) → IsRunWith locks groups (in_runs locks groups next_prepared)
        (in_runs locks groups next_active)
    run_prepared d =
        let own = get_or active place d in
        let one = in_run locks groups own in
        let is = shown_prepared own next_prepared next_active (by_own d) in
        let here : get_or shown place one ≡ one = get_in_runs locks groups active place one d within in
        let rest = removed_at shown place one run.0.0.run.distinct shown_within
        ∙ ap (λ (m : Member). filter (λ other. not (is_tx m.tx other)) shown) here ∙ sym is.active in
        subst (λ ms. IsRunWith locks groups ms (in_runs locks groups next_active)) (sym is.prepared)
        (subst (IsRunWith locks groups (in_runs locks groups prepared ++ one ∷ [])) rest (
          run_locked_prepared locks (in_runs locks groups prepared) shown place one shown_within here run.0.0,
          grouped_prepared groups (in_runs locks groups prepared) shown place one shown_within here
              run.0.0.run.distinct run.0.1,
        ))

    pub prepared_run : IsRunOf locks groups next_prepared next_active
    prepared_run = by_list active within refl
      where
        by_list : (xs : List Member) → place < length xs → xs ≡ active
            → IsRunOf locks groups next_prepared next_active
        by_list [] lt same = absurd (omega (arith, lt))
        by_list (x ∷ xs) lt same = (run_prepared x, run.1)

  pub prepared_or_not : {T E : Type 0} (r : Result T E) (next_prepared next_active : List Member)
      → ((tx : ℕ) → IsAt active tx place
      → OnOk r (Prepares tx (run_of prepared active) (run_of next_prepared next_active)))
      → OnErr r (next_prepared ≡ prepared) → OnErr r (next_active ≡ active)
      → IsRunOf locks groups next_prepared next_active
  prepared_or_not (Ok x) next_prepared next_active prepares same_prepared same_active =
      prepared_run next_prepared next_active prepares
  prepared_or_not (Err e) next_prepared next_active prepares same_prepared same_active =
      subst (λ ms. IsRunOf locks groups ms next_active) (sym same_prepared)
      (subst (IsRunOf locks groups prepared) (sym same_active) run)

  pub prepares_or_not : {T E : Type 0} (r : Result T E) (next_prepared next_active : List Member)
      → ((tx : ℕ) → IsAt active tx place
      → OnOk r (Prepares tx (run_of prepared active) (run_of next_prepared next_active)))
      → (tx : ℕ) → IsAt shown tx place → OnOk r (Prepares tx (run_of (in_runs locks groups prepared) shown)
      (run_of (in_runs locks groups next_prepared) (in_runs locks groups next_active)))
  prepares_or_not (Ok x) next_prepared next_active prepares tx at =
      prepared_changes next_prepared next_active prepares tx at
  prepares_or_not (Err e) next_prepared next_active prepares tx at = tt
