-- The groups of members that start, move, join or leave.
use Rattle.std.proofs.Common.{◌≡◌, ◌⊎◌, inl, inr, ℕ, zero, suc, ◌+◌, ◌<◌, Bool, true, false, not, ◌==◌, if◌then◌else◌}
use Rattle.std.proofs.Common.{nat_eq, List, []}
use Rattle.std.proofs.Common.{◌∷◌, ◌++◌, map, length, take, get_or, refl, sym, ap, subst, ◌∙◌, arith, true≢false}
use Rattle.std.specs.Prelude.{Contains, filter, Option, Some, None}
use Rattle.std.specs.List.{AllByRecursion, IsDistinct, remove}
use Rattle.std.proofs.lemmas.List.{map-append, take_more}
use Rattle.std.proofs.lemmas.List.Elements.{Contains-append_left, Contains-append_right, Contains-append_cases}
use Rattle.std.proofs.lemmas.Option.{same_Some}
use Rattle.ent_group.specs.declared.groups.Membership.{Membership}
use Rattle.ent_group.specs.Groups.{group_of}
use Rattle.ent_lists.specs.Elements.{number_itself, same_number, turned}
use Rattle.ent_protocol.specs.Member.{is_tx}
use Rattle.ent_protocol.specs.Run.{fresh}
use Rattle.ent_protocol.specs.State.{Dormant, Member}
use Rattle.ent_run.specs.Grouped.{AreGrouped, IsLabelled, unless_gone}
use Rattle.ent_members.specs.Order.{tx_of}
use Rattle.ent_run.proofs.Lists.{contains_none, contains_cases, contains_first, into_filter, out_of_filter, into_map}
use Rattle.ent_run.proofs.Lists.{out_of_map}
use Rattle.ent_run.proofs.Locked.{one_member}
use Rattle.ent_run.proofs.OneMember.{removed_at}

-- ---- labels

pub none_is_some : (a : ℕ) → None ≡ Some a → ⊥
none_is_some a same = let is : None ≡ Some a = same in absurd cc

pub label_of : (groups : List Membership) (members : List Member) (member : Member) → AreGrouped groups members
    → Contains members member → group_of groups member.tx ≡ Some member.group
label_of groups members member grouped there = (grouped.labels member.tx member.group).1 (member, there, refl, refl)

-- members of one number have one label
pub one_label : (groups : List Membership) (members : List Member) (m n : Member) → AreGrouped groups members
    → Contains members m → Contains members n → m.tx ≡ n.tx → m.group ≡ n.group
one_label groups members m n grouped there also same =
    same_Some m.group n.group
    (sym (label_of groups members m grouped there) ∙ ap (group_of groups) same ∙ label_of groups members n grouped also)

-- other members of which each number has the label that it had
pub regrouped : (groups : List Membership) (old new : List Member)
    → ((tx group : ℕ) → IsLabelled old tx group → IsLabelled new tx group)
    → ((tx group : ℕ) → IsLabelled new tx group → IsLabelled old tx group)
    → AreGrouped groups old → AreGrouped groups new
regrouped groups old new into back grouped = record {
  labels = λ tx group. (
    λ is. into tx group ((grouped.labels tx group).0 is),
    λ has. (grouped.labels tx group).1 (back tx group has),
  );
  named = grouped.named;
}

-- groups in which each transaction has the label that it had
pub same_labels : (old new : List Membership) (members : List Member) → ((x : ℕ) → group_of new x ≡ group_of old x)
    → AreGrouped old members → AreGrouped new members
same_labels old new members same grouped = record {
  labels = λ tx group. (
    λ is. (grouped.labels tx group).0 (sym (same tx) ∙ is),
    λ has. same tx ∙ (grouped.labels tx group).1 has,
  );
  named = λ tx group is. same group ∙ grouped.named tx group (sym (same tx) ∙ is);
}

-- ---- a run that starts

pub nobody_grouped : AreGrouped [] []
nobody_grouped = record {
  labels = λ tx group. (
    λ is. absurd (none_is_some group is),
    λ has. absurd (contains_none has.0 has.1),
  );
  named = λ tx group is. absurd (none_is_some group is);
}

module _ (old new : List Membership) (one : Member) (alone : one.group ≡ one.tx) (apart : group_of old one.tx ≡ None)
    (added : (x : ℕ) → group_of new x ≡ (if one.tx == x then Some one.tx else group_of old x)) where
  added_if : (x : ℕ) (b : Bool) → (one.tx == x) ≡ b → group_of new x ≡ (if b then Some one.tx else group_of old x)
  added_if x b is = added x ∙ ap (λ t. if t then Some one.tx else group_of old x) is

  own_label : group_of new one.tx ≡ Some one.tx
  own_label = added_if one.tx true (number_itself one.tx)

  other_label : (x group : ℕ) → group_of old x ≡ Some group → group_of new x ≡ Some group
  other_label x group is = by_test (one.tx == x) refl
    where
      by_test : (b : Bool) → (one.tx == x) ≡ b → group_of new x ≡ Some group
      by_test true same =
          absurd (none_is_some group (sym apart ∙ ap (group_of old) (same_number one.tx x same) ∙ is))
      by_test false same = added_if x false same ∙ is

  label_cases : (x group : ℕ) → group_of new x ≡ Some group
      → ((one.tx ≡ x) × (one.tx ≡ group)) ⊎ (group_of old x ≡ Some group)
  label_cases x group is = by_test (one.tx == x) refl
    where
      by_test : (b : Bool) → (one.tx == x) ≡ b
          → ((one.tx ≡ x) × (one.tx ≡ group)) ⊎ (group_of old x ≡ Some group)
      by_test true same = inl (same_number one.tx x same, same_Some one.tx group (sym (added_if x true same) ∙ is))
      by_test false same = inr (sym (added_if x false same) ∙ is)

  pub grouped_more : (members : List Member) → AreGrouped old members → AreGrouped new (members ++ one ∷ [])
  grouped_more members grouped = record {
    labels = λ tx group. (
      λ is. elim (label_cases tx group is) [
        | inl own ↦ (one, Contains-append_right members (one ∷ []) one (contains_first one []), own.0, alone ∙ own.1)
        | inr before ↦
            let has = (grouped.labels tx group).0 before in
            (has.0, Contains-append_left members (one ∷ []) has.0 has.1, has.2, has.3)
      ],
      λ has. elim (Contains-append_cases members (one ∷ []) has.0 has.1) [
        | inl first ↦ other_label tx group ((grouped.labels tx group).1 (has.0, first, has.2, has.3))
        | inr last ↦ is_last tx group has.0 has.2 has.3 (contains_cases one has.0 [] last)
      ],
    );
    named = λ tx group is. elim (label_cases tx group is) [
      | inl own ↦ subst (λ g. group_of new g ≡ Some g) own.1 own_label
      | inr before ↦ other_label group group (grouped.named tx group before)
    ];
  }
    where
      is_last : (tx group : ℕ) (m : Member) → m.tx ≡ tx → m.group ≡ group → (one ≡ m) ⊎ Contains [] m
          → group_of new tx ≡ Some group
      is_last tx group m here labelled (inl same) =
          let tx_is : one.tx ≡ tx = ap (λ (k : Member). k.tx) same ∙ here in
          let group_is : one.tx ≡ group = sym alone ∙ ap (λ (k : Member). k.group) same ∙ labelled in
          ap (group_of new) (sym tx_is) ∙ own_label ∙ ap Some group_is
      is_last tx group m here labelled (inr none) = absurd (contains_none m none)

-- ---- those who enter, one after another

abbrev number_of : Dormant → ℕ
number_of entrant = entrant.tx

all_to : (P : ℕ → Type 0) (xs : List Dormant) (i : ℕ) (e : Dormant) → i < length xs → e ≡ get_or xs i e
    → AllByRecursion P (map number_of xs) → P e.tx
all_to P [] i e lt at all = absurd (omega (arith, lt))
all_to P (x ∷ xs) zero e lt at all = subst (λ (d : Dormant). P d.tx) (sym at) all.0
all_to P (x ∷ xs) (suc i) e lt at all = all_to P xs i e (omega (arith, lt)) at all.1

apart_before : (xs : List Dormant) (i : ℕ) (e other : Dormant) → i < length xs → e ≡ get_or xs i e
    → IsDistinct nat_eq (map number_of xs) → Contains (take i xs) other → other.tx ≡ e.tx → ⊥
unfolding IsDistinct
apart_before [] i e other lt at distinct there same = absurd (omega (arith, lt))
apart_before (x ∷ xs) zero e other lt at distinct there same = contains_none other there
apart_before (x ∷ xs) (suc i) e other lt at distinct there same =
    by_cases (λ later. apart_before xs i e other (omega (arith, lt)) at distinct.1 later same)
    (contains_cases x other (take i xs) there)
  where
    by_cases : (Contains (take i xs) other → ⊥) → (x ≡ other) ⊎ Contains (take i xs) other → ⊥
    by_cases rest (inl is) =
        true≢false (sym (ap (λ n. n == e.tx) (ap number_of is ∙ same) ∙ number_itself e.tx)
        ∙ all_to (λ n. nat_eq x.tx n ≡ false) xs i e (omega (arith, lt)) at distinct.0)
    by_cases rest (inr later) = rest later

-- whoever comes next isn't there yet
pub none_before : (groups : List Membership) (entrants : List Dormant) (i : ℕ) (e : Dormant) → i < length entrants
    → e ≡ get_or entrants i e → IsDistinct nat_eq (map number_of entrants)
    → AreGrouped groups (map fresh (take i entrants)) → group_of groups e.tx ≡ None
none_before groups entrants i e lt at distinct grouped = by_label (group_of groups e.tx) refl
  where
    by_label : (o : Option ℕ) → group_of groups e.tx ≡ o → group_of groups e.tx ≡ None
    by_label None is = is
    by_label (Some group) is =
        let has = (grouped.labels e.tx group).0 is in
        let from = out_of_map fresh (take i entrants) has.0 has.1 in
        absurd (apart_before entrants i e from.0 lt at distinct from.1 (ap tx_of from.2 ∙ has.2))

pub alone_more : (old new : List Membership) (entrants : List Dormant) (i : ℕ) (e : Dormant) (tx : ℕ)
    → i < length entrants → e ≡ get_or entrants i e → tx ≡ e.tx → IsDistinct nat_eq (map number_of entrants)
    → AreGrouped old (map fresh (take i entrants))
    → ((x : ℕ) → group_of new x ≡ (if tx == x then Some tx else group_of old x))
    → AreGrouped new (map fresh (take (i + 1) entrants))
alone_more old new entrants i e tx lt at is distinct grouped added =
    subst (AreGrouped new)
    (sym (ap (map fresh) (take_more entrants i e lt ∙ ap (λ d. take i entrants ++ d ∷ []) (sym at))
    ∙ map-append fresh (take i entrants) (e ∷ [])))
    (grouped_more old new (fresh e) refl (none_before old entrants i e lt at distinct grouped)
    (λ x. added x ∙ ap (λ n. if n == x then Some n else group_of old x) is) (map fresh (take i entrants)) grouped)

-- ---- members that keep their numbers and labels

module _ (f : Member → Member) (same : (m : Member) → (f m).tx ≡ m.tx) where
  -- each of them keeps its label
  pub grouped_mapped : (groups : List Membership) (prepared active : List Member)
      → ((m : Member) → Contains active m → (f m).group ≡ m.group)
      → AreGrouped groups (prepared ++ active) → AreGrouped groups (prepared ++ map f active)
  grouped_mapped groups prepared active kept grouped =
      regrouped groups (prepared ++ active) (prepared ++ map f active) into back grouped
    where
      into : (tx group : ℕ) → IsLabelled (prepared ++ active) tx group → IsLabelled (prepared ++ map f active) tx group
      into tx group has = elim (Contains-append_cases prepared active has.0 has.1) [
        | inl first ↦ (has.0, Contains-append_left prepared (map f active) has.0 first, has.2, has.3)
        | inr second ↦ (
          f has.0,
          Contains-append_right prepared (map f active) (f has.0) (into_map f active has.0 second),
          same has.0 ∙ has.2,
          kept has.0 second ∙ has.3,
        )
      ]

      back : (tx group : ℕ) → IsLabelled (prepared ++ map f active) tx group → IsLabelled (prepared ++ active) tx group
      back tx group has = elim (Contains-append_cases prepared (map f active) has.0 has.1) [
        | inl first ↦ (has.0, Contains-append_left prepared active has.0 first, has.2, has.3)
        | inr second ↦
            let from = out_of_map f active has.0 second in (
              from.0,
              Contains-append_right prepared active from.0 from.1,
              sym (same from.0) ∙ ap tx_of from.2 ∙ has.2,
              sym (kept from.0 from.1) ∙ ap (λ (k : Member). k.group) from.2 ∙ has.3,
            )
      ]

-- ---- a member that is prepared

pub grouped_prepared : (groups : List Membership) (prepared active : List Member) (i : ℕ) (member : Member)
    → i < length active → get_or active i member ≡ member → IsDistinct nat_eq (map tx_of active)
    → AreGrouped groups (prepared ++ active) → AreGrouped groups ((prepared ++ member ∷ []) ++ remove active i)
grouped_prepared groups prepared active i member lt at distinct grouped =
    regrouped groups (prepared ++ active) ((prepared ++ member ∷ []) ++ remove active i) into back grouped
  where
    there_before : Contains active member
    there_before = (i, lt, at)

    rest_is : remove active i ≡ filter (λ other. not (is_tx member.tx other)) active
    rest_is = removed_at active i member distinct lt
        ∙ ap (λ (m : Member). filter (λ other. not (is_tx m.tx other)) active) at

    to_last : (tx group : ℕ) (m : Member) (b : Bool) → is_tx member.tx m ≡ b → Contains active m → m.tx ≡ tx
        → m.group ≡ group → IsLabelled ((prepared ++ member ∷ []) ++ remove active i) tx group
    to_last tx group m true is there here labelled =
        let one : m ≡ member =
        one_member active distinct m member there there_before (same_number m.tx member.tx is) in (
          m,
          Contains-append_left (prepared ++ member ∷ []) (remove active i) m
              (Contains-append_right prepared (member ∷ [])
              m (subst (Contains (member ∷ [])) (sym one) (contains_first member []))),
          here,
          labelled,
        )
    to_last tx group m false is there here labelled = (
      m,
      Contains-append_right (prepared ++ member ∷ []) (remove active i) m (subst (λ ms. Contains ms m) (sym rest_is)
          (into_filter (λ other. not (is_tx member.tx other)) active m there (ap not is))),
      here,
      labelled,
    )

    into : (tx group : ℕ) → IsLabelled (prepared ++ active) tx group
        → IsLabelled ((prepared ++ member ∷ []) ++ remove active i) tx group
    into tx group has = elim (Contains-append_cases prepared active has.0 has.1) [
      | inl first ↦ (
        has.0,
        Contains-append_left (prepared ++ member ∷ []) (remove active i) has.0
            (Contains-append_left prepared (member ∷ []) has.0 first),
        has.2,
        has.3,
      )
      | inr second ↦ to_last tx group has.0 (is_tx member.tx has.0) refl second has.2 has.3
    ]

    back_there : (m : Member) → Contains ((prepared ++ member ∷ []) ++ remove active i) m
        → Contains (prepared ++ active) m
    back_there m there = elim (Contains-append_cases (prepared ++ member ∷ []) (remove active i) m there) [
      | inl first ↦ elim (Contains-append_cases prepared (member ∷ []) m first) [
        | inl a ↦ Contains-append_left prepared active m a
        | inr b ↦ elim (contains_cases member m [] b) [
          | inl same ↦ Contains-append_right prepared active m (subst (Contains active) same there_before)
          | inr none ↦ absurd (contains_none m none)
        ]
      ]
      | inr second ↦ Contains-append_right prepared active m
          (out_of_filter (λ other. not (is_tx member.tx other)) active
          m (subst (λ ms. Contains ms m) rest_is second)).0
    ]

    back : (tx group : ℕ) → IsLabelled ((prepared ++ member ∷ []) ++ remove active i) tx group
        → IsLabelled (prepared ++ active) tx group
    back tx group has = (has.0, back_there has.0 has.1, has.2, has.3)

-- ---- a group that leaves

gone_if : (gone group : ℕ) (b : Bool) → (group == gone) ≡ b
    → unless_gone gone (Some group) ≡ (if b then None else Some group)
gone_if gone group b is = ap (λ t. if t then None else Some group) is

module _ (gone : ℕ) (old new : List Membership)
    (left : (x : ℕ) → group_of new x ≡ unless_gone gone (group_of old x)) where
  stays : (x group : ℕ) → group_of old x ≡ Some group → (group == gone) ≡ false → group_of new x ≡ Some group
  stays x group is other = left x ∙ ap (unless_gone gone) is ∙ gone_if gone group false other

  was : (x group : ℕ) → group_of new x ≡ Some group → (group_of old x ≡ Some group) × ((group == gone) ≡ false)
  was x group is = by_label (group_of old x) refl
    where
      by_test : (before : ℕ) (b : Bool) → group_of old x ≡ Some before → (before == gone) ≡ b
          → (group_of old x ≡ Some group) × ((group == gone) ≡ false)
      by_test before true had same =
          absurd (none_is_some group (sym (left x ∙ ap (unless_gone gone) had ∙ gone_if gone before true same) ∙ is))
      by_test before false had same =
          let one : before ≡ group = same_Some before group (sym (stays x before had same) ∙ is) in
          (had ∙ ap Some one, ap (λ g. g == gone) (sym one) ∙ same)

      by_label : (o : Option ℕ) → group_of old x ≡ o → (group_of old x ≡ Some group) × ((group == gone) ≡ false)
      by_label None had = absurd (none_is_some group (sym (left x ∙ ap (unless_gone gone) had) ∙ is))
      by_label (Some before) had = by_test before (before == gone) had refl

  -- those of its label leave, and no others
  pub grouped_left : (p : Member → Bool) (members : List Member)
      → ((m : Member) → Contains members m → p m ≡ not (m.group == gone)) → AreGrouped old members
      → AreGrouped new (filter p members)
  grouped_left p members tells grouped = record {
    labels = λ tx group. (
      λ is.
          let before = was tx group is in
          let has = (grouped.labels tx group).0 before.0 in (
            has.0,
            into_filter p members has.0 has.1 (tells has.0 has.1 ∙ ap not (ap (λ g. g == gone) has.3 ∙ before.1)),
            has.2,
            has.3,
          ),
      λ has.
          let inside = out_of_filter p members has.0 has.1 in
          stays tx group ((grouped.labels tx group).1 (has.0, inside.0, has.2, has.3))
          (ap (λ g. g == gone) (sym has.3) ∙ turned (has.0.group == gone) (sym (tells has.0 inside.0) ∙ inside.1)),
    );
    named = λ tx group is.
        let before = was tx group is in
        stays group group (grouped.named tx group before.0) before.1;
  }

pub grouped_none : (p : Member → Bool) (members : List Member) → ((m : Member) → Contains members m → p m ≡ false)
    → AreGrouped [] (filter p members)
grouped_none p members gone = record {
  labels = λ tx group. (
    λ is. absurd (none_is_some group is),
    λ has.
        let inside = out_of_filter p members has.0 has.1 in
        absurd (true≢false (sym inside.1 ∙ gone has.0 inside.0)),
  );
  named = λ tx group is. absurd (none_is_some group is);
}
