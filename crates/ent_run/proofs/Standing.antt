-- Members by the groups' own list of them.
use Rattle.std.proofs.Common.{◌≡◌, ◌⊎◌, inl, inr, ℕ, zero, suc, ◌<◌, Bool, true, false, ◌==◌, ◌&&◌, if◌then◌else◌, List}
use Rattle.std.proofs.Common.{[], ◌∷◌, ◌++◌}
use Rattle.std.proofs.Common.{map, refl, sym, ap, subst, ◌∙◌, arith, true≢false}
use Rattle.std.specs.Prelude.{All, Contains, Option, None, Some}
use Rattle.std.specs.List.{AllByRecursion, list_any}
use Rattle.std.proofs.lemmas.List.Elements.{Contains-append_right}
use Rattle.std.proofs.lemmas.Option.{same_Some}
use Rattle.ent_group.specs.declared.groups.Membership.{Membership}
use Rattle.ent_group.specs.Groups.{IsByNumber, group_of, numbers_of}
use Rattle.ent_lists.specs.Elements.{and_both, both_and, number_itself, same_number}
use Rattle.ent_lists.proofs.Numbers.{eq_below}
use Rattle.ent_lock.specs.Use.{Uses}
use Rattle.ent_members.specs.InRun.{in_run}
use Rattle.ent_members.specs.Order.{IsAscending, tx_of}
use Rattle.ent_protocol.specs.Member.{is_of, is_tx}
use Rattle.ent_protocol.specs.State.{Member, by_number}
use Rattle.ent_run.specs.Grouped.{AreGrouped, IsRunWith, is_labelled_among}
use Rattle.ent_run.specs.InRuns.{in_runs}
use Rattle.ent_run.proofs.ByNumber.{ascending-by_number}
use Rattle.ent_run.proofs.Distinct.{distinct_append, same_ascending}
use Rattle.ent_run.proofs.Grouped.{label_of}
use Rattle.ent_run.proofs.HeldUses.{into_by_number, out_of_by_number}
use Rattle.ent_run.proofs.InRuns.{any_mapped}
use Rattle.ent_run.proofs.Lists.{any_of, contains_cases, contains_first, contains_later, contains_none, into_map}
use Rattle.ent_run.proofs.Lists.{out_of_map, some_of}
use Rattle.ent_run.proofs.Locked.{true_both}

-- ---- memberships by number

above_head : (m : Membership) (ms : List Membership) → IsByNumber (m ∷ ms) → (own : Membership) → Contains ms own
    → m.member < own.member
above_head m ms by own (i, within, is) =
    subst (λ (o : Membership). m.member < o.member) is (by 0 (suc i) own (omega arith) (omega (arith, within)))

-- a look-up finds each
pub found_label : (groups : List Membership) (own : Membership) → IsByNumber groups → Contains groups own
    → group_of groups own.member ≡ Some own.group
found_label [] own by there = absurd (contains_none own there)
found_label (m ∷ ms) own by there =
    by_cases (found_label ms own (λ i j d below within. by (suc i) (suc j) d (omega (arith, below))
    (omega (arith, within))))
    (contains_cases m own ms there)
  where
    by_cases : (Contains ms own → group_of ms own.member ≡ Some own.group) → (m ≡ own) ⊎ Contains ms own
        → group_of (m ∷ ms) own.member ≡ Some own.group
    by_cases rest (inl same) =
        ap (λ (o : Membership). group_of (m ∷ ms) o.member) (sym same)
        ∙ ap (λ b. if b then Some m.group else group_of ms m.member) (number_itself m.member)
        ∙ ap (λ (o : Membership). Some o.group) same
    by_cases rest (inr later) =
        ap (λ b. if b then Some m.group else group_of ms own.member)
        (eq_below m.member own.member (above_head m ms by own later)) ∙ rest later

-- what a look-up finds is there
pub label_there : (groups : List Membership) (tx group : ℕ) → group_of groups tx ≡ Some group
    → Contains groups (record { member = tx; group = group })
label_there [] tx group is = let e : None ≡ Some group = is in absurd cc
label_there (m ∷ ms) tx group is = by_test (m.member == tx) refl is (label_there ms tx group)
  where
    by_test : (b : Bool) → (m.member == tx) ≡ b → (if b then Some m.group else group_of ms tx) ≡ Some group
        → (group_of ms tx ≡ Some group → Contains ms (record { member = tx; group = group }))
        → Contains (m ∷ ms) (record { member = tx; group = group })
    by_test true same found rest =
        let number : m.member ≡ tx = same_number m.member tx same in
        let label : m.group ≡ group = same_Some m.group group found in
        subst (Contains (m ∷ ms)) (λ i. record { member = number i; group = label i }) (contains_first m ms)
    by_test false other found rest = contains_later m (record { member = tx; group = group }) ms (rest found)

-- ---- the members of a run

-- one of a group isn't prepared
pub any_of_group : (locks : Uses) (groups : List Membership) (prepared active : List Member) (group : ℕ)
    → IsByNumber groups → IsRunWith locks groups (in_runs locks groups prepared) (in_runs locks groups active)
    → list_any (is_labelled_among group active) groups ≡ list_any (is_of group) (in_runs locks groups active)
any_of_group locks groups prepared active group by run =
    true_both (list_any (is_labelled_among group active) groups) (list_any (is_of group) seen) into out
  where
    seen : List Member
    seen = in_runs locks groups active

    both : List Member
    both = in_runs locks groups prepared ++ seen

    into : list_any (is_labelled_among group active) groups ≡ true → list_any (is_of group) seen ≡ true
    into any =
        let one = some_of (is_labelled_among group active) groups any in
        let own = one.0 in
        let parts = and_both (own.group == group) (list_any (is_tx own.member) active) one.2 in
        let other = some_of (is_tx own.member) seen
        (any_mapped (in_run locks groups) (is_tx own.member) (is_tx own.member) (λ m. refl) active ∙ parts.1) in
        let m = other.0 in
        let same : m.tx ≡ own.member = same_number m.tx own.member other.2 in
        let label : m.group ≡ own.group = same_Some m.group own.group
        (sym (label_of groups both m run.1 (Contains-append_right (in_runs locks groups prepared) seen m other.1))
        ∙ ap (group_of groups) same ∙ found_label groups own by one.1) in
        any_of (is_of group) seen m other.1 (ap (λ n. n == group) label ∙ parts.0)

    out : list_any (is_of group) seen ≡ true → list_any (is_labelled_among group active) groups ≡ true
    out any =
        let one = some_of (is_of group) seen any in
        let m = one.0 in
        let own : Membership = record { member = m.tx; group = m.group } in
        any_of (is_labelled_among group active) groups own
        (label_there groups m.tx m.group
        (label_of groups both m run.1 (Contains-append_right (in_runs locks groups prepared) seen m one.1)))
        (both_and (m.group == group) (list_any (is_tx m.tx) active) one.2
        (sym (any_mapped (in_run locks groups) (is_tx m.tx) (is_tx m.tx) (λ k. refl) active)
        ∙ any_of (is_tx m.tx) seen m one.1 (number_itself m.tx)))

above_all : (n : ℕ) (ms : List Membership) → ((own : Membership) → Contains ms own → n < own.member)
    → AllByRecursion (λ k. n < k) (numbers_of ms)
above_all n [] above = tt
above_all n (m ∷ ms) above =
    (above m (contains_first m ms), above_all n ms (λ own there. above own (contains_later m own ms there)))

pub numbers_rise : (groups : List Membership) → IsByNumber groups → IsAscending (numbers_of groups)
numbers_rise [] by = tt
numbers_rise (m ∷ ms) by = (
  above_all m.member ms (above_head m ms by),
  numbers_rise ms (λ i j d below within. by (suc i) (suc j) d (omega (arith, below)) (omega (arith, within))),
)

-- the groups list all members, by number
pub numbers_told : (locks : Uses) (groups : List Membership) (prepared active : List Member) → IsByNumber groups
    → IsRunWith locks groups prepared active
    → numbers_of groups ≡ map tx_of (by_number tx_of (prepared ++ active))
numbers_told locks groups prepared active by run =
    same_ascending (numbers_of groups) (map tx_of (by_number tx_of (prepared ++ active))) (numbers_rise groups by)
    (ascending-by_number (prepared ++ active)
    (distinct_append prepared active run.0.once run.0.run.distinct run.0.apart))
    into out
  where
    into : (x : ℕ) → Contains (numbers_of groups) x → Contains (map tx_of (by_number tx_of (prepared ++ active))) x
    into x there =
        let one = out_of_map (λ (own : Membership). own.member) groups x there in
        let own = one.0 in
        let has = (run.1.labels own.member own.group).0 (found_label groups own by one.1) in
        subst (Contains (map tx_of (by_number tx_of (prepared ++ active)))) (has.2 ∙ one.2)
        (into_map tx_of (by_number tx_of (prepared ++ active)) has.0
        (into_by_number tx_of (prepared ++ active) has.0 has.1))

    out : (x : ℕ) → Contains (map tx_of (by_number tx_of (prepared ++ active))) x → Contains (numbers_of groups) x
    out x there =
        let one = out_of_map tx_of (by_number tx_of (prepared ++ active)) x there in
        let m = one.0 in
        subst (Contains (numbers_of groups)) one.2
        (into_map (λ (own : Membership). own.member) groups (record { member = m.tx; group = m.group })
        (label_there groups m.tx m.group
        (label_of groups (prepared ++ active) m run.1 (out_of_by_number tx_of (prepared ++ active) m one.1))))
