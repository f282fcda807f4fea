-- Members that are looked up: what is found has the locks and the label that the run gives it.
use Rattle.std.proofs.Common.{◌≡◌, ℕ, zero, suc, ◌<◌, nat_eq, List, [], ◌∷◌, ◌++◌, length, map, get_or, refl, sym}
use Rattle.std.proofs.Common.{ap, subst, ◌∙◌, arith}
use Rattle.std.specs.Prelude.{Contains, Some, None, filter}
use Rattle.std.specs.List.{IsDistinct}
use Rattle.std.specs.Option.{option_map}
use Rattle.std.specs.FinSet as finite
use Rattle.std.proofs.lemmas.List.{length-map, map-append}
use Rattle.std.proofs.lemmas.List.Elements.{filter-append}
use Rattle.ent_group.specs.declared.groups.Membership.{Membership}
use Rattle.ent_group.specs.Groups.{group_of}
use Rattle.ent_lock.specs.Use.{Uses, use_cmp}
use Rattle.ent_members.specs.InRun.{AreByNumber, in_run, label_or}
use Rattle.ent_members.specs.Order.{IsAscending, tx_of}
use Rattle.ent_members.proofs.InRun.{numbers_in_run}
use Rattle.ent_members.proofs.UsesOf.{uses_none}
use Rattle.ent_protocol.specs.Member.{is_of, is_tx}
use Rattle.ent_protocol.specs.Run.{fresh}
use Rattle.ent_protocol.specs.State.{Dormant, Member, by_number, first_of}
use Rattle.ent_run.specs.Grouped.{AreGrouped, IsRunOf}
use Rattle.ent_run.specs.InRuns.{in_runs, is_labelled}
use Rattle.ent_run.specs.MemberSlab.{AreDistinct}
use Rattle.ent_run.specs.Places.{IsAt, found}
use Rattle.ent_run.specs.Run.{Run}
use Rattle.ent_run.proofs.Distinct.{distinct_append}
use Rattle.ent_run.proofs.Grouped.{label_of}
use Rattle.ent_run.proofs.HeldUses.{out_of_by_number}
use Rattle.ent_run.proofs.InRuns.{filter_mapped, found_in_runs}
use Rattle.ent_run.proofs.Lists.{contains_first, contains_later, out_of_map}

module _ (locks : Uses) (groups : List Membership) (xs : List Member) where
  pub own_ascending : IsAscending (map tx_of (in_runs locks groups xs)) → IsAscending (map tx_of xs)
  own_ascending = subst IsAscending (numbers_in_run locks groups xs)

  pub own_distinct : IsDistinct nat_eq (map tx_of (in_runs locks groups xs)) → IsDistinct nat_eq (map tx_of xs)
  own_distinct = subst (IsDistinct nat_eq) (numbers_in_run locks groups xs)

  pub found_one : (tx : ℕ) (own : Member) → Some own ≡ found xs tx
      → Some (in_run locks groups own) ≡ found (in_runs locks groups xs) tx
  found_one tx own is = ap (option_map (in_run locks groups)) is ∙ sym (found_in_runs locks groups xs tx)

  pub found_nobody : (tx : ℕ) → None ≡ found xs tx → None ≡ found (in_runs locks groups xs) tx
  found_nobody tx is = ap (option_map (in_run locks groups)) is ∙ sym (found_in_runs locks groups xs tx)

  -- those of a group, by their labels
  pub numbers_labelled : (group : ℕ) → map tx_of (filter (is_labelled groups group) xs)
      ≡ map tx_of (filter (is_of group) (in_runs locks groups xs))
  numbers_labelled group =
      sym (ap (map tx_of) (filter_mapped (in_run locks groups) (is_of group) (is_labelled groups group) (λ m. refl) xs)
      ∙ numbers_in_run locks groups (filter (is_labelled groups group) xs))

-- no two members have one number
pub numbers_apart : (locks : Uses) (groups : List Membership) (members : Run)
    → IsRunOf locks groups members.prepared members.active → AreDistinct members
numbers_apart locks groups members run =
    subst (λ (ns : List ℕ). IsDistinct nat_eq ns)
    (ap (map tx_of) (sym (map-append (in_run locks groups) members.prepared members.active))
    ∙ numbers_in_run locks groups (members.prepared ++ members.active))
    (distinct_append (in_runs locks groups members.prepared) (in_runs locks groups members.active) run.0.0.once
    run.0.0.run.distinct run.0.0.apart)

pub get_in_runs : (locks : Uses) (groups : List Membership) (xs : List Member) (i : ℕ) (d e : Member) → i < length xs
    → get_or (in_runs locks groups xs) i d ≡ in_run locks groups (get_or xs i e)
get_in_runs locks groups [] i d e within = absurd (omega (arith, within))
get_in_runs locks groups (x ∷ xs) zero d e within = refl
get_in_runs locks groups (x ∷ xs) (suc i) d e within = get_in_runs locks groups xs i d e (omega (arith, within))

pub within_own : (locks : Uses) (groups : List Membership) (xs : List Member) (i : ℕ)
    → i < length (in_runs locks groups xs) → i < length xs
within_own locks groups xs i = subst (λ n. i < n) (length-map xs (in_run locks groups))

pub at_in_runs : (locks : Uses) (groups : List Membership) (xs : List Member) (tx i : ℕ) → IsAt xs tx i
    → IsAt (in_runs locks groups xs) tx i
at_in_runs locks groups xs tx i at = record {
  in_range = subst (λ n. i < n) (sym (length-map xs (in_run locks groups))) at.in_range;
  first = λ d. found_in_runs locks groups xs tx ∙ ap (option_map (in_run locks groups)) (at.first d)
      ∙ ap Some (sym (get_in_runs locks groups xs i d d at.in_range));
}

-- one of two lists
pub found_first : (xs ys : List Member) (tx : ℕ) (m : Member) → Some m ≡ found xs tx → Some m ≡ found (xs ++ ys) tx
found_first xs ys tx m is = is ∙ by_list (filter (is_tx tx) xs) is ∙ sym (ap first_of (filter-append (is_tx tx) xs ys))
  where
    by_list : (zs : List Member) → Some m ≡ first_of zs → first_of zs ≡ first_of (zs ++ filter (is_tx tx) ys)
    by_list [] none = let e : Some m ≡ None = none in absurd cc
    by_list (z ∷ zs) some = refl

pub found_second : (xs ys : List Member) (tx : ℕ) → None ≡ found xs tx → found ys tx ≡ found (xs ++ ys) tx
found_second xs ys tx is = by_list (filter (is_tx tx) xs) is ∙ sym (ap first_of (filter-append (is_tx tx) xs ys))
  where
    by_list : (zs : List Member) → None ≡ first_of zs
        → first_of (filter (is_tx tx) ys) ≡ first_of (zs ++ filter (is_tx tx) ys)
    by_list [] none = refl
    by_list (z ∷ zs) some = let e : None ≡ Some z = some in absurd cc

-- ---- a run that starts

pub nobody_by_number : AreByNumber (finite.empty {R = use_cmp})
nobody_by_number tx table mode holds =
    let e = sym (finite.contains-empty use_cmp (record { holder = tx; table = table; mode = mode }))
    ∙ holds in absurd cc

itself : (m : Member) (group : ℕ) → m.uses ≡ [] → group ≡ m.group → (groups : List Membership)
    → group_of groups m.tx ≡ Some m.group → in_run finite.empty groups m ≡ m
itself m group none same groups label = λ i. record m {
  group = ap (label_or m.tx) label i;
  uses = (uses_none m.tx ∙ sym none) i;
}

each_itself : (groups : List Membership) (xs : List Member)
    → ((m : Member) → Contains xs m → in_run finite.empty groups m ≡ m) → in_runs finite.empty groups xs ≡ xs
each_itself groups [] same = refl
each_itself groups (x ∷ xs) same = λ i.
    same x (contains_first x xs) i ∷ each_itself groups xs (λ m there. same m (contains_later x m xs there)) i

-- those who enter hold nothing, each in a group of its own
pub fresh_in_runs : (groups : List Membership) (entrants : List Dormant) → AreGrouped groups (map fresh entrants)
    → in_runs finite.empty groups (by_number tx_of (map fresh entrants)) ≡ by_number tx_of (map fresh entrants)
fresh_in_runs groups entrants grouped =
    each_itself groups (by_number tx_of (map fresh entrants)) (λ m there. alone m
    (out_of_by_number tx_of (map fresh entrants) m there))
  where
    alone : (m : Member) → Contains (map fresh entrants) m → in_run finite.empty groups m ≡ m
    alone m there =
        let one = out_of_map fresh entrants m there in
        itself m m.group (sym (ap (λ (k : Member). k.uses) one.2)) refl groups
        (label_of groups (map fresh entrants) m grouped there)
