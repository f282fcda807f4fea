-- Who waits for whom: pairs made by holders are those made by who is waited for.
use Rattle.std.proofs.Common.{◌≡◌, ◌⊎◌, inl, inr, ℕ, Bool, true, false, not, ◌==◌}
use Rattle.std.proofs.Common.{if◌then◌else◌, List, [], ◌∷◌, ◌++◌, map, refl, sym, ap, subst, ◌∙◌}
use Rattle.std.specs.Prelude.{◌↔◌, Contains, IsTrue, Some, filter}
use Rattle.std.specs.List.{flat_map, list_any}
use Rattle.std.proofs.lemmas.List.Elements.{Contains-append_cases}
use Rattle.std.proofs.lemmas.Bool.{both_ways, not-true}
use Rattle.ent_lists.specs.Elements.{number_itself, same_number}
use Rattle.ent_protocol.specs.Member.{is_of}
use Rattle.ent_protocol.specs.State.{State, Member, Use}
use Rattle.ent_protocol.specs.Uses.{conflicting, is_conflicting, not_passed}
use Rattle.ent_protocol.specs.Waits.{awaited}
use Rattle.ent_group.specs.declared.groups.Membership.{Membership}
use Rattle.ent_group.specs.Groups.{group_of}
use Rattle.ent_lock.specs.Use.{Uses}
use Rattle.ent_members.specs.Order.{tx_of}
use Rattle.ent_run.specs.Grouped.{IsRunWith}
use Rattle.ent_run.specs.Moves.{run_of}
use Rattle.ent_run.specs.Passing.{TellsPassed}
use Rattle.ent_run.specs.Run.{with_run}
use Rattle.ent_run.specs.Waits.{IsMadeToWait, is_awaited, is_awaited_over, pairs_of, waits_by, waits_over}
use Rattle.ent_run.proofs.Blocked.{blocks_conflicting, conflicting_blocks, of_run, others}
use Rattle.ent_run.proofs.Lists.{contains_none, contains_cases, contains_first, into_filter, out_of_filter, any_of}
use Rattle.ent_run.proofs.Lists.{some_of, into_map, out_of_map, into_flat_map, out_of_flat_map}
use Rattle.ent_run.proofs.Locked.{true_both}

abbrev pair_with : ℕ → Member → ℕ × ℕ
pair_with tx other = (tx, other.tx)

abbrev pairs_over : State → Member → Member → List (ℕ × ℕ)
pairs_over s asker holder = map (λ other. (asker.tx, other.tx)) (awaited s asker holder)

own_is_active : (s : State) (asker holder : Member) (asked : List Use) → Contains (conflicting s asker asked) holder
    → (holder.group == asker.group) ≡ true → Contains s.active holder
own_is_active s asker holder asked there own =
    by_list (Contains-append_cases (filter (λ (h : Member). not (h.group == asker.group)) s.prepared)
    (filter (λ (h : Member). not (h.tx == asker.tx)) s.active) holder
    (out_of_filter (is_conflicting asked) (not_passed s asker) holder there).0)
  where
    by_list : Contains (filter (λ (h : Member). not (h.group == asker.group)) s.prepared) holder
        ⊎ Contains (filter (λ (h : Member). not (h.tx == asker.tx)) s.active) holder → Contains s.active holder
    by_list (inl first) = absurd
        (both_ways (holder.group == asker.group)
        (not-true (holder.group == asker.group)
        (out_of_filter (λ (h : Member). not (h.group == asker.group)) s.prepared holder first).1) own)
    by_list (inr second) = (out_of_filter (λ (h : Member). not (h.tx == asker.tx)) s.active holder second).0

awaited_is : (active : List Member) (holder other : Member) (b : Bool) → (b ≡ true → Contains active holder)
    → Contains (if b then holder ∷ [] else filter (is_of holder.group) active) other
    → Contains active other × ((if b then holder.tx == other.tx else (other.group == holder.group)) ≡ true)
awaited_is active holder other true there h = by_cases (contains_cases holder other [] h)
  where
    by_cases : (holder ≡ other) ⊎ Contains [] other → Contains active other × ((holder.tx == other.tx) ≡ true)
    by_cases (inl same) = (
      subst (Contains active) same (there refl),
      ap (λ (m : Member). holder.tx == m.tx) (sym same) ∙ number_itself holder.tx,
    )
    by_cases (inr none) = absurd (contains_none other none)
awaited_is active holder other false there h = out_of_filter (is_of holder.group) active other h

pub into_pairs : (s : State) (asker : Member) (asked : List Use) (pair : ℕ × ℕ)
    → Contains (flat_map (pairs_over s asker) (conflicting s asker asked)) pair → Contains (pairs_of s asker asked) pair
into_pairs s asker asked pair h =
    let way = conflicting s asker asked in
    let over = out_of_flat_map (pairs_over s asker) way pair h in
    let holder = over.0 in
    let one = out_of_map (pair_with asker.tx) (awaited s asker holder) pair over.2 in
    let other = one.0 in
    let found = awaited_is s.active holder other (holder.group == asker.group)
    (own_is_active s asker holder asked over.1) one.1 in
    subst (Contains (pairs_of s asker asked)) one.2
    (into_map (pair_with asker.tx) (filter (is_awaited s asker asked) s.active) other
    (into_filter (is_awaited s asker asked) s.active other found.0
    (any_of (waits_over asker.group other) way holder over.1 found.1)))

awaited_from : (active : List Member) (holder other : Member) (b : Bool) → Contains active other
    → (if b then holder.tx == other.tx else (other.group == holder.group)) ≡ true
    → (m : Member) × Contains (if b then holder ∷ [] else filter (is_of holder.group) active) m × (m.tx ≡ other.tx)
awaited_from active holder other true there is = (holder, contains_first holder [], same_number holder.tx other.tx is)
awaited_from active holder other false there is =
    (other, into_filter (is_of holder.group) active other there is, refl)

pub out_of_pairs : (s : State) (asker : Member) (asked : List Use) (pair : ℕ × ℕ)
    → Contains (pairs_of s asker asked) pair → Contains (flat_map (pairs_over s asker) (conflicting s asker asked)) pair
out_of_pairs s asker asked pair h =
    let way = conflicting s asker asked in
    let one = out_of_map (pair_with asker.tx) (filter (is_awaited s asker asked) s.active) pair h in
    let other = one.0 in
    let waits = out_of_filter (is_awaited s asker asked) s.active other one.1 in
    let over = some_of (waits_over asker.group other) way waits.1 in
    let holder = over.0 in
    let found = awaited_from s.active holder other (holder.group == asker.group) waits.0 over.2 in
    into_flat_map (pairs_over s asker) way holder pair over.1
    (subst (Contains (pairs_over s asker holder)) (ap (λ (n : ℕ). (asker.tx, n)) found.2 ∙ one.2)
    (into_map (pair_with asker.tx) (awaited s asker holder) found.0 found.1))

-- ---- the test

module _ (locks : Uses) (groups : List Membership) (prepared active : List Member)
    (run : IsRunWith locks groups prepared active) (asker : Member) (test : ℕ → Bool)
    (tells : TellsPassed asker (run_of prepared active) test) where
  label : (m : Member) → Contains (prepared ++ active) m → group_of groups m.tx ≡ Some m.group
  label m there = (run.1.labels m.tx m.group).1 (m, there, refl, refl)

  pub waits_as : (asked : List Use) (other : Member) (s : State) (b : Bool)
      → IsTrue b ↔ IsMadeToWait locks groups asked test asker.group other
      → b ≡ is_awaited (with_run (run_of prepared active) s) asker asked other
  waits_as asked other s b is = true_both b (list_any (waits_over asker.group other) way) into out
    where
      way : List Member
      way = filter (is_conflicting asked) (others locks prepared active run.0 asker test tells)

      into : b ≡ true → list_any (waits_over asker.group other) way ≡ true
      into holds =
          let over = is.0 holds in
          let one = out_of_map tx_of way over.0
          (blocks_conflicting locks prepared active run.0 asker test tells asked over.0 over.1) in
          let m = one.0 in
          let inside = (of_run locks prepared active run.0 asker test tells m
          (out_of_filter (is_conflicting asked) (others locks prepared active run.0 asker test tells) m one.1).0).0 in
          any_of (waits_over asker.group other) way m one.1
          (ap (waits_by asker.group other m.tx) (sym (label m inside))
          ∙ ap (λ (v : ℕ). is_awaited_over groups asker.group other v) one.2 ∙ over.2)

      out : list_any (waits_over asker.group other) way ≡ true → b ≡ true
      out any =
          let one = some_of (waits_over asker.group other) way any in
          let m = one.0 in
          let inside = (of_run locks prepared active run.0 asker test tells m
          (out_of_filter (is_conflicting asked) (others locks prepared active run.0 asker test tells) m one.1).0).0 in
          is.1 (
            m.tx,
            conflicting_blocks locks prepared active run.0 asker test tells asked m.tx (into_map tx_of way m one.1),
            ap (waits_by asker.group other m.tx) (label m inside) ∙ one.2,
          )
