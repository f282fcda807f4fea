-- Changes of a run's members, with their locks and their groups.
use Rattle.std.proofs.Common.{◌≡◌, ℕ, ◌≤◌, Bool, true, false, not, ◌==◌, ◌||◌, if◌then◌else◌, nat_eq, List, []}
use Rattle.std.proofs.Common.{◌∷◌, ◌++◌}
use Rattle.std.proofs.Common.{map, length, refl, sym, ap, subst, ◌∙◌, true≢false}
use Rattle.std.specs.Prelude.{Contains, Option, Some, None, IsSome, Result, Ok, Err, OnOk, OnErr, ◌↔◌, filter}
use Rattle.std.specs.List.{IsDistinct, list_any}
use Rattle.std.specs.List.Sorted.{IsStrictlyIncreasing}
use Rattle.std.specs.Option.{option_map}
use Rattle.std.specs.FinSet as finite
use Rattle.std.proofs.lemmas.List.{map-append}
use Rattle.std.proofs.lemmas.List.Elements.{Contains-append_right, filter-append}
use Rattle.ent_group.specs.declared.groups.Membership.{Membership}
use Rattle.ent_group.specs.Groups.{group_of}
use Rattle.ent_lists.specs.Elements.{number_itself, same_number}
use Rattle.ent_lists.proofs.Options.{some_value}
use Rattle.ent_lock.specs.Use.{Uses, DropsUses}
use Rattle.ent_protocol.specs.Begin.{replaced}
use Rattle.ent_protocol.specs.Member.{is_of}
use Rattle.ent_protocol.specs.PoolEvents.{in_joined_group, joined_label}
use Rattle.ent_protocol.specs.Run.{fresh}
use Rattle.ent_protocol.specs.State.{Member, Dormant, by_number}
use Rattle.ent_protocol.proofs.Numbers.{replaced_tx}
use Rattle.ent_members.specs.Answered.{MemberAnswer}
use Rattle.ent_run.specs.Answered.{answered_from}
use Rattle.ent_run.specs.Grouped.{AreGrouped, IsRunWith, unless_gone}
use Rattle.ent_run.specs.Joined.{is_one_of, labels_in}
use Rattle.ent_run.specs.Moves.{is_not_of, is_of_another}
use Rattle.ent_run.specs.Places.{Changes, found}
use Rattle.ent_members.specs.Order.{tx_of}
use Rattle.ent_members.specs.RunAttempts.{is_within, numbers_in, run_attempts_in}
use Rattle.ent_run.proofs.Answered.{answered_group, answered_tx}
use Rattle.ent_members.proofs.ByNumber.{run_attempt_numbers, run_attempts_are}
use Rattle.ent_run.proofs.ByNumber.{ascending-by_number}
use Rattle.ent_run.proofs.Distinct.{ascending_of, distinct_append, distinct_filter, same_ascending}
use Rattle.ent_run.proofs.Grouped.{grouped_left, grouped_mapped, label_of, nobody_grouped, one_label}
use Rattle.ent_run.proofs.Grouped.{regrouped, same_labels}
use Rattle.ent_run.proofs.HeldUses.{into_by_number, out_of_by_number}
use Rattle.ent_run.proofs.Lists.{contains_first, contains_later, into_among, into_filter, into_map, out_of_among}
use Rattle.ent_run.proofs.Lists.{out_of_filter, out_of_map}
use Rattle.ent_run.proofs.Locked.{found_there, run_stepped}
use Rattle.ent_run.proofs.LockedRuns.{nobody_runs, run_answered_or_not, run_left, run_left_by_group, run_locked_joined}
use Rattle.ent_run.proofs.LockedRuns.{run_starts}
use Rattle.ent_run.proofs.Merged.{grouped_joined}

-- ---- a run that starts

pub nobody_with : IsRunWith finite.empty [] [] []
nobody_with = (nobody_runs, nobody_grouped)

pub starts_with : (entrants : List Dormant) (groups : List Membership) → length entrants ≤ 64
    → IsDistinct nat_eq (map (λ (e : Dormant). e.tx) entrants) → AreGrouped groups (map fresh entrants)
    → IsRunWith finite.empty groups [] (by_number tx_of (map fresh entrants))
starts_with entrants groups bound distinct grouped = (
  run_starts entrants bound distinct,
  regrouped groups (map fresh entrants) (by_number tx_of (map fresh entrants))
      (λ tx group has. (has.0, into_by_number tx_of (map fresh entrants) has.0 has.1, has.2, has.3))
      (λ tx group has. (has.0, out_of_by_number tx_of (map fresh entrants) has.0 has.1, has.2, has.3)) grouped,
)

-- ---- one member is changed

replaced_group : (new m : Member) → (m.tx ≡ new.tx → new.group ≡ m.group) → (replaced new m).group ≡ m.group
replaced_group new m same = by_test (m.tx == new.tx) refl
  where
    by_test : (b : Bool) → (m.tx == new.tx) ≡ b → (replaced new m).group ≡ m.group
    by_test true is = ap (λ (b : Bool). (if b then new else m).group) is ∙ same (same_number m.tx new.tx is)
    by_test false is = ap (λ (b : Bool). (if b then new else m).group) is

-- it keeps its number and its label
pub grouped_changed : (groups : List Membership) (prepared old new : List Member) (change : Member → Member) (tx : ℕ)
    → ((m : Member) → (change m).tx ≡ m.tx) → ((m : Member) → (change m).group ≡ m.group) → IsSome (found old tx)
    → Changes change tx old new → AreGrouped groups (prepared ++ old) → AreGrouped groups (prepared ++ new)
grouped_changed groups prepared old new change tx numbers labels there changes grouped =
    let one = some_value (found old tx) there in
    let member : Member = one.0 in
    let inside : Contains (prepared ++ old) member =
    Contains-append_right prepared old member (found_there old tx member one.1) in
    subst (λ ms. AreGrouped groups (prepared ++ ms)) (sym (changes member one.1))
    (grouped_mapped (replaced (change member)) (replaced_tx (change member)) groups prepared old
    (λ m also. replaced_group (change member) m
    (λ same. labels member
    ∙ sym (one_label groups (prepared ++ old) m member grouped (Contains-append_right prepared old m also) inside
    (same ∙ numbers member)))) grouped)

pub stepped_with : {T E : Type 0} (r : Result T E) (locks : Uses) (groups : List Membership)
    (prepared old new : List Member) (change : Member → Member) → ((m : Member) → (change m).tx ≡ m.tx)
    → ((m : Member) → (change m).uses ≡ m.uses) → ((m : Member) → (change m).group ≡ m.group) → (tx : ℕ)
    → IsRunWith locks groups prepared old → IsSome (found old tx) → OnOk r (Changes change tx old new)
    → OnErr r (new ≡ old) → map tx_of new ≡ map tx_of old → IsRunWith locks groups prepared new
stepped_with r locks groups prepared old new change same uses labels tx run there ok err numbers = (
  run_stepped r locks prepared old new change same uses tx run.0 there ok err numbers,
  by_result r ok err,
)
  where
    by_result : {T E : Type 0} (r : Result T E) → OnOk r (Changes change tx old new) → OnErr r (new ≡ old)
        → AreGrouped groups (prepared ++ new)
    by_result (Ok x) changed kept = grouped_changed groups prepared old new change tx same labels there changed run.1
    by_result (Err e) changed kept = subst (λ ms. AreGrouped groups (prepared ++ ms)) (sym kept) run.1

-- ---- members take their answers

pub answered_with : {T E : Type 0} (r : Result T E) (given : List MemberAnswer) (locks : Uses)
    (groups : List Membership) (prepared old new : List Member) → OnOk r (new ≡ map (answered_from given) old)
    → OnErr r (new ≡ old) → IsRunWith locks groups prepared old → IsRunWith locks groups prepared new
answered_with r given locks groups prepared old new ok err run = (
  run_answered_or_not r given locks prepared old new ok err run.0,
  by_result r ok err,
)
  where
    by_result : {T E : Type 0} (r : Result T E) → OnOk r (new ≡ map (answered_from given) old) → OnErr r (new ≡ old)
        → AreGrouped groups (prepared ++ new)
    by_result (Ok x) answered kept =
        subst (λ ms. AreGrouped groups (prepared ++ ms)) (sym answered)
        (grouped_mapped (answered_from given) (answered_tx given) groups prepared old
        (λ m there. answered_group given m) run.1)
    by_result (Err e) answered kept = subst (λ ms. AreGrouped groups (prepared ++ ms)) (sym kept) run.1

-- ---- members that leave

each_filtered : (p q : Member → Bool) (xs : List Member) → ((m : Member) → Contains xs m → p m ≡ q m)
    → filter p xs ≡ filter q xs
each_filtered p q [] same = refl
each_filtered p q (x ∷ xs) same =
    ap (λ b. if b then x ∷ filter p xs else filter p xs) (same x (contains_first x xs))
    ∙ ap (λ ms. if q x then x ∷ ms else ms) (each_filtered p q xs (λ m there. same m (contains_later x m xs there)))

within_same : (group : Option ℕ) (m n : Member) → m.group ≡ n.group → is_within group m ≡ is_within group n
within_same None m n same = refl
within_same (Some label) m n same = ap (λ g. g == label) same

-- the numbers of those who leave tell the members of the group from the others
pub leaving_told : (group : Option ℕ) (numbers : List ℕ) (groups : List Membership) (members : List Member) (m : Member)
    → numbers ≡ numbers_in (run_attempts_in group members) → AreGrouped groups members → Contains members m
    → is_not_of numbers m ≡ not (is_within group m)
leaving_told group numbers groups members m is grouped there = ap not (by_test (is_within group m) refl)
  where
    leaving : List Member
    leaving = by_number tx_of (filter (is_within group) members)

    are : numbers ≡ map tx_of leaving
    are = is ∙ ap numbers_in (run_attempts_are group members) ∙ run_attempt_numbers leaving

    inside : is_within group m ≡ true → list_any (λ n. n == m.tx) numbers ≡ true
    inside within =
        into_among numbers m.tx
        (subst (λ ns. Contains ns m.tx) (sym are)
        (into_map tx_of leaving m (into_by_number tx_of (filter (is_within group) members) m
        (into_filter (is_within group) members m there within))))

    outside : list_any (λ n. n == m.tx) numbers ≡ true → is_within group m ≡ true
    outside any =
        let other = out_of_map tx_of leaving m.tx
        (subst (λ ns. Contains ns m.tx) are (out_of_among numbers m.tx any)) in
        let from = out_of_filter (is_within group) members other.0
        (out_of_by_number tx_of (filter (is_within group) members) other.0 other.1) in
        within_same group m other.0
        (one_label groups members m other.0 grouped there from.0 (sym other.2)) ∙ from.1

    by_test : (b : Bool) → is_within group m ≡ b → list_any (λ n. n == m.tx) numbers ≡ is_within group m
    by_test true within = inside within ∙ sym within
    by_test false apart = is_apart (list_any (λ n. n == m.tx) numbers) refl ∙ sym apart
      where
        is_apart : (b : Bool) → list_any (λ n. n == m.tx) numbers ≡ b → list_any (λ n. n == m.tx) numbers ≡ false
        is_apart true any = absurd (true≢false (sym (outside any) ∙ apart))
        is_apart false none = none

pub left_with : (group : Option ℕ) (numbers : List ℕ) (locks next : Uses) (groups left : List Membership)
    (prepared active : List Member) → numbers ≡ numbers_in (run_attempts_in group (prepared ++ active))
    → DropsUses locks next numbers
    → ((members : List Member) → AreGrouped groups members
    → AreGrouped left (filter (λ member. not (is_within group member)) members))
    → IsRunWith locks groups prepared active
    → IsRunWith next left (filter (is_not_of numbers) prepared) (filter (is_not_of numbers) active)
left_with group numbers locks next groups left prepared active is drops leaves run = (
  run_left numbers locks next prepared active drops run.0,
  subst (AreGrouped left)
      (each_filtered (λ member. not (is_within group member)) (is_not_of numbers) (prepared ++ active)
      (λ m there. sym (leaving_told group numbers groups (prepared ++ active) m is run.1 there))
      ∙ filter-append (is_not_of numbers) prepared active)
      (leaves (prepared ++ active) run.1),
)

-- ---- a group that commits

none_of : (group : ℕ) (xs : List Member) → list_any (is_of group) xs ≡ false → filter (is_of_another group) xs ≡ xs
none_of group [] none = refl
none_of group (x ∷ xs) none = by_test (is_of group x) refl none (none_of group xs)
  where
    by_test : (b : Bool) → is_of group x ≡ b → (b || list_any (is_of group) xs) ≡ false
        → (list_any (is_of group) xs ≡ false → filter (is_of_another group) xs ≡ xs)
        → filter (is_of_another group) (x ∷ xs) ≡ x ∷ xs
    by_test true is any rest = absurd (true≢false any)
    by_test false is any rest =
        ap (λ b. if not b then x ∷ filter (is_of_another group) xs else filter (is_of_another group) xs) is
        ∙ ap (λ ms. x ∷ ms) (rest any)

pub committed_with : (group : ℕ) (locks next : Uses) (groups left : List Membership) (prepared active : List Member)
    → list_any (is_of group) active ≡ false → DropsUses locks next (map tx_of (filter (is_of group) prepared))
    → ((x : ℕ) → group_of left x ≡ unless_gone group (group_of groups x)) → IsRunWith locks groups prepared active
    → IsRunWith next left (filter (is_of_another group) prepared) active
committed_with group locks next groups left prepared active none drops leaves run = (
  run_left_by_group group locks next prepared active drops run.0,
  subst (AreGrouped left)
      (filter-append (is_of_another group) prepared active
      ∙ ap (λ ms. filter (is_of_another group) prepared ++ ms) (none_of group active none))
      (grouped_left group groups left leaves (is_of_another group) (prepared ++ active) (λ m there. refl) run.1),
)

-- ---- the members of a group

pub group_told : (group : ℕ) (numbers : List ℕ) (locks : Uses) (groups : List Membership)
    (prepared active : List Member) → IsStrictlyIncreasing numbers
    → ((x : ℕ) → Contains numbers x ↔ (group_of groups x ≡ Some group)) → IsRunWith locks groups prepared active
    → numbers ≡ map tx_of (by_number tx_of (filter (is_of group) (prepared ++ active)))
group_told group numbers locks groups prepared active rising are run =
    same_ascending numbers (map tx_of (by_number tx_of own)) (ascending_of numbers rising)
    (ascending-by_number own (distinct_filter (is_of group) (prepared ++ active)
    (distinct_append prepared active run.0.once run.0.run.distinct run.0.apart)))
    into back
  where
    own : List Member
    own = filter (is_of group) (prepared ++ active)

    into : (x : ℕ) → Contains numbers x → Contains (map tx_of (by_number tx_of own)) x
    into x there =
        let has = (run.1.labels x group).0 ((are x).0 there) in
        subst (Contains (map tx_of (by_number tx_of own))) has.2
        (into_map tx_of (by_number tx_of own) has.0 (into_by_number tx_of own has.0
        (into_filter (is_of group) (prepared ++ active) has.0 has.1
        (ap (λ g. g == group) has.3 ∙ number_itself group))))

    back : (x : ℕ) → Contains (map tx_of (by_number tx_of own)) x → Contains numbers x
    back x there =
        let m = out_of_map tx_of (by_number tx_of own) x there in
        let from = out_of_filter (is_of group) (prepared ++ active) m.0 (out_of_by_number tx_of own m.0 m.1) in
        (are x).1 ((run.1.labels x group).1 (m.0, from.0, m.2, same_number m.0.group group from.1))

-- ---- members whose groups become one

pub unlabelled : (xs : List Member) → xs ≡ map (in_joined_group []) xs
unlabelled [] = refl
unlabelled (x ∷ xs) = ap (λ ms. x ∷ ms) (unlabelled xs)

-- groups of a run that became one: those of the members of these numbers
pub record Merging : Type 0 where
  pub numbers : List ℕ
  pub locks : Uses
  pub groups : List Membership
  pub new : List Membership
  pub prepared : List Member
  pub active : List Member
  pub labels : (x : ℕ) → group_of new x
      ≡ option_map (joined_label (labels_in numbers (prepared ++ active))) (group_of groups x)
  pub run : IsRunWith locks groups prepared active

module _ (merging : Merging) where
  abbrev members : List Member
  members = merging.prepared ++ merging.active

  -- the labels of the groups that became one
  abbrev pub own : List ℕ
  own = labels_in merging.numbers members

  after : (x : ℕ) (ls : List ℕ) → own ≡ ls
      → group_of merging.new x ≡ option_map (joined_label ls) (group_of merging.groups x)
  after x ls are =
      merging.labels x ∙ ap (λ (ls : List ℕ). option_map (joined_label ls) (group_of merging.groups x)) are

  label_is : (m : Member) → Contains members m → group_of merging.groups m.tx ≡ Some m.group
  label_is m there = label_of merging.groups members m merging.run.1 there

  first_is : (first : ℕ) (more : List ℕ) → own ≡ first ∷ more → group_of merging.groups first ≡ Some first
  first_is first more are =
      let m = out_of_map (λ (member : Member). member.group) (filter (is_one_of merging.numbers) members) first
      (subst (λ ls. Contains ls first) (sym are) (contains_first first more)) in
      let from = out_of_filter (is_one_of merging.numbers) members m.0 m.1 in
      subst (λ label. group_of merging.groups label ≡ Some label) m.2
      (merging.run.1.named m.0.tx m.0.group (label_is m.0 from.0))

  by_labels : (ls : List ℕ) → own ≡ ls
      → IsRunWith merging.locks merging.new (map (in_joined_group ls) merging.prepared)
      (map (in_joined_group ls) merging.active)
  by_labels [] are = (
    run_locked_joined [] merging.locks merging.prepared merging.active merging.run.0,
    subst (AreGrouped merging.new) (λ i. unlabelled merging.prepared i ++ unlabelled merging.active i)
        (same_labels merging.groups merging.new members
        (λ x. after x [] are ∙ as_it_was (group_of merging.groups x)) merging.run.1),
  )
    where
      as_it_was : (o : Option ℕ) → option_map (joined_label []) o ≡ o
      as_it_was None = refl
      as_it_was (Some label) = refl
  by_labels (first ∷ more) are = (
    run_locked_joined (first ∷ more) merging.locks merging.prepared merging.active merging.run.0,
    subst (AreGrouped merging.new) (map-append (in_joined_group (first ∷ more)) merging.prepared merging.active)
        (grouped_joined first more merging.groups merging.new (λ x. after x (first ∷ more) are) members
        (first_is first more are) merging.run.1),
  )

  pub joined_with : IsRunWith merging.locks merging.new (map (in_joined_group own) merging.prepared)
      (map (in_joined_group own) merging.active)
  joined_with = by_labels own refl
