-- Members that are answered together get one label.
use Rattle.std.proofs.Common.{◌≡◌, ◌≤◌, ◌+◌, ℕ, Bool, true, false, cond, ◌==◌, List, [], ◌∷◌}
use Rattle.std.proofs.Common.{◌++◌, map, length, refl, sym, ap, subst, ◌∙◌, inl, inr, arith}
use Rattle.std.specs.List.{filter, list_any}
use Rattle.ent_semantics.specs.declared.book.JointAnswer.{JointAnswer}
use Rattle.ent_semantics.specs.Entangled.{Valuation}
use Rattle.ent_semantics.specs.Form.{Tables}
use Rattle.ent_semantics.specs.Choice.{AreGroundings}
use Rattle.ent_semantics.specs.Pool.{Posted}
use Rattle.ent_protocol.specs.Job.{Job}
use Rattle.ent_protocol.specs.Member.{is_tx}
use Rattle.ent_protocol.specs.PoolEvents.{IsPresentComponent, joining, in_joined_group, answered_among, answered_by}
use Rattle.ent_protocol.specs.PoolEvents.{answered_groups, joint_answer}
use Rattle.ent_protocol.specs.State.{State, Member, members}
use Rattle.ent_protocol_laws.specs.Groups.{takes_part}
use Rattle.ent_protocol_laws.proofs.Asked.{asker_of}
use Rattle.ent_protocol_laws.proofs.Classes.{Labelled, LabelsRight}
use Rattle.ent_protocol_laws.proofs.Classes.{is_joined, relabelled, labels_joined}
use Rattle.ent_protocol_laws.proofs.Left.{tx_of, dormant_tx, fated_tx}
use Rattle.ent_lists.specs.Elements.{In, of_filter, to_filter, in_second, in_either, of_map, to_map, any_some, any_in}
use Rattle.ent_lists.specs.Elements.{same_number, number_itself, or_cases, or_first, or_second, map_joined}
use Rattle.ent_protocol_laws.proofs.Places.{Stands, within_once}
use Rattle.ent_protocol_laws.proofs.Times.{count, count_in}
use Rattle.ent_protocol_laws.proofs.Groups.{label_of, labels, GroupsRight, of_labels}
use Rattle.ent_protocol_laws.proofs.Places.{within, there_within}

answered_label : (asked : List Posted) (groundings : List Valuation) (m : Member)
    → label_of (answered_among asked groundings m) ≡ label_of m
answered_label [] groundings m = refl
answered_label (query ∷ asked) [] m = refl
answered_label (query ∷ asked) (values ∷ more) m = by (is_tx query.tx m) (answered_label asked more m)
  where
    by : (b : Bool) → label_of (answered_among asked more m) ≡ label_of m
        → label_of (cond b (answered_by query values m) (answered_among asked more m)) ≡ label_of m
    by true e = refl
    by false e = e

relabelled_members : (groups : List ℕ) (f : Member → Member) (ms : List Member)
    → ((m : Member) → label_of (f m) ≡ label_of m)
    → map label_of (map (λ m. in_joined_group groups (f m)) ms) ≡ map (relabelled groups) (map label_of ms)
relabelled_members groups f [] same = refl
relabelled_members groups f (m ∷ ms) same =
    let rest = relabelled_members groups f ms same in
    λ i. relabelled groups (same m i) ∷ rest i

-- who takes part in a joint answer asked for it
part_asked : (asked : List Posted) (groundings : List Valuation) (n : ℕ)
    → takes_part (joint_answer asked groundings) n ≡ true → (query : Posted) × In query asked × (query.tx ≡ n)
part_asked [] groundings n is = cc
part_asked (query ∷ asked) [] n is = cc
part_asked (query ∷ asked) (values ∷ more) n is =
    elim (or_cases (query.tx == n) (takes_part (joint_answer asked more) n) is) [
      | inl here ↦ (query, inl refl, same_number query.tx n here)
      | inr there ↦ let r = part_asked asked more n there in (r.0, inr r.1, r.2)
    ]

-- and each who asked takes part
asked_part : (tables : Tables) (asked : List Posted) (groundings : List Valuation)
    → AreGroundings tables asked groundings → (query : Posted) → In query asked
    → takes_part (joint_answer asked groundings) query.tx ≡ true
asked_part tables [] groundings grounded query at = absurd at
asked_part tables (first ∷ asked) [] grounded query at = absurd grounded
asked_part tables (first ∷ asked) (values ∷ more) grounded query (inl same) =
    or_first (first.tx == query.tx) (takes_part (joint_answer asked more) query.tx)
    (ap (λ (a : Posted). first.tx == a.tx) same ∙ number_itself first.tx)
asked_part tables (first ∷ asked) (values ∷ more) grounded query (inr at) =
    or_second (first.tx == query.tx) (takes_part (joint_answer asked more) query.tx)
    (asked_part tables asked more grounded.1 query at)

module _ (s : State) (left : List Job) (asked : List Posted) (groundings : List Valuation)
    (component : IsPresentComponent s asked) (tables : Tables)
    (grounded : AreGroundings tables asked groundings) (h : GroupsRight s) where
  abbrev groups : List ℕ
  groups = answered_groups s asked

  abbrev joint : JointAnswer
  joint = joint_answer asked groundings

  abbrev answers : Member → Bool
  answers member = list_any (λ query. is_tx query.tx member) asked

  group_in : (m : Member) → In m (members s) → takes_part joint m.tx ≡ true → is_joined groups m.group ≡ true
  group_in m at is =
      let a = part_asked asked groundings m.tx is in
      any_in (λ joined. joined == m.group) groups m.group
      (to_map (λ (x : Member). x.group) (filter answers (members s)) m
      (to_filter answers (members s) m at
      (any_in (λ (query : Posted). is_tx query.tx m) asked a.0 a.1
      (ap (λ n. m.tx == n) a.2 ∙ number_itself m.tx))))
      (number_itself m.group)

  asked_in : (x : Labelled) → In x (labels s) → takes_part joint x.0 ≡ true → is_joined groups x.1 ≡ true
  asked_in x at is =
      let r = of_labels s x at in
      ap (is_joined groups) (ap (λ (y : Labelled). y.1) r.2)
      ∙ group_in r.0 r.1 (ap (λ (y : Labelled). takes_part joint y.0) (sym r.2) ∙ is)

  owner : (group : ℕ) → In group groups
      → (x : Labelled) × In x (labels s) × (x.1 ≡ group) × (takes_part joint x.0 ≡ true)
  owner group at =
      let r = of_map (λ (x : Member). x.group) (filter answers (members s)) group at in
      let q = of_filter answers (members s) r.0 r.1 in
      let a = any_some (λ (query : Posted). is_tx query.tx r.0) asked q.1 in (
        label_of r.0,
        to_map label_of (members s) r.0 q.0,
        sym r.2,
        ap (takes_part joint) (same_number r.0.tx a.0.tx a.2) ∙ asked_part tables asked groundings grounded a.0 a.1,
      )

  labels_after : labels (joining (record s { lent = left }) asked groundings) ≡ map (relabelled groups) (labels s)
  labels_after =
      map_joined label_of (map (in_joined_group groups) s.prepared)
      (map (λ m. in_joined_group groups (answered_among asked groundings m)) s.active)
      ∙ (λ i. relabelled_members groups (λ m. m) s.prepared (λ m. refl) i
      ++ relabelled_members groups (answered_among asked groundings) s.active (answered_label asked groundings) i)
      ∙ sym (map_joined (relabelled groups) (map label_of s.prepared) (map label_of s.active))
      ∙ ap (map (relabelled groups)) (sym (map_joined label_of s.prepared s.active))

  -- who asked is a member, and so isn't dormant
  known_after : (n : ℕ) → takes_part joint n ≡ true
      → (1 ≤ n) × (n ≤ length s.submitted) × (count dormant_tx n s.dormant ≡ 0)
  known_after n is =
      let a = part_asked asked groundings n is in
      let asker = asker_of s asked component a.0 a.1 in
      let member : 1 ≤ count tx_of n (members s) =
      count_in tx_of n (members s) asker.member (in_second s.prepared s.active asker.member asker.at)
      (sym asker.own ∙ a.2) in
      let all = h.stands.once n in
      let low = within_once n (length s.submitted) in
      let bounds = there_within n (length s.submitted)
      (some_member (count tx_of n (members s)) (count dormant_tx n s.dormant + count fated_tx n s.fates)
      (within n (length s.submitted)) all member) in (
        bounds.0,
        bounds.1,
        no_other (count tx_of n (members s)) (count dormant_tx n s.dormant) (count fated_tx n s.fates)
            (within n (length s.submitted)) all member low,
      )
    where
      some_member : (m d w : ℕ) → m + d ≡ w → 1 ≤ m → 1 ≤ w
      some_member m d w e there = omega (arith, e, there)

      no_other : (m d f w : ℕ) → m + (d + f) ≡ w → 1 ≤ m → w ≤ 1 → d ≡ 0
      no_other m d f w e there low = omega (arith, e, there, low)

  pub joins : Stands (joining (record s { lent = left }) asked groundings)
      → GroupsRight (joining (record s { lent = left }) asked groundings)
  joins stands =
      record {
        stands = stands;
        known = λ other jt n is. elim (in_either s.joints (joint ∷ []) other jt) [
          | inl old ↦ h.known other old n is
          | inr new ↦ elim new [
            | inl same ↦ known_after n (ap (λ j. takes_part j n) (sym same) ∙ is)
            | inr bad ↦ absurd bad
          ]
        ];
        right = subst (λ all. LabelsRight all (s.joints ++ joint ∷ [])) (sym labels_after)
            (labels_joined (labels s) s.joints joint groups asked_in owner h.right);
      }
