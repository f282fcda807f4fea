-- Every event keeps that groups are the classes of joint answers.
use Rattle.std.proofs.Common.{◌≡◌, ◌≤◌, ◌+◌, ℕ, zero, suc, Bool, true, false, cond, not, ◌==◌, List, [], ◌∷◌}
use Rattle.std.proofs.Common.{◌++◌, map, length, take, drop, refl, sym, ap, subst, ◌∙◌, inl, inr, arith}
use Rattle.std.specs.List.{filter, filter_map, list_any}
use Rattle.std.proofs.lemmas.List.{take-append-drop}
use Rattle.ent_semantics.specs.declared.book.JointAnswer.{JointAnswer}
use Rattle.ent_semantics.specs.declared.book.Member.{Member as JointMember}
use Rattle.ent_group.specs.declared.members.TheConstants.{MOST_MEMBERS}
use Rattle.ent_protocol.specs.Begin.{replaced}
use Rattle.ent_protocol.specs.Commit.{preparing, committing}
use Rattle.ent_protocol.specs.Member.{is_of, is_tx}
use Rattle.ent_protocol.specs.Rollback.{Cause, rolled_back, group_members, is_among, is_joint_of}
use Rattle.ent_protocol.specs.Rollback.{NoOne, dormant_by, fated_by}
use Rattle.ent_protocol.specs.Run.{starting, fresh, ending}
use Rattle.ent_protocol.specs.State.{State, Member, Dormant, members, by_number}
use Rattle.ent_protocol_laws.specs.Groups.{takes_part}
use Rattle.ent_protocol_laws.proofs.Acts.{IsIdle}
use Rattle.ent_protocol_laws.proofs.Classes.{Labelled, LabelsRight, labels_moved, labels_left}
use Rattle.ent_protocol_laws.proofs.Classes.{labels_fresh}
use Rattle.ent_protocol_laws.proofs.Left.{tx_of, dormant_tx, fated_tx, among_passing, left_counted}
use Rattle.ent_protocol_laws.proofs.Left.{among_counted, counted_among}
use Rattle.ent_lists.specs.Elements.{In, of_filter, to_filter, in_first, in_second, in_either, of_map, to_map, any_some}
use Rattle.ent_lists.specs.Elements.{any_in, any_none, clash, not_so, turned, same_number, number_itself, map_joined}
use Rattle.ent_protocol_laws.specs.Numbered.{from_by_number}
use Rattle.ent_protocol_laws.proofs.Placed.{places_kept}
use Rattle.ent_protocol_laws.proofs.Places.{Stands, members_once}
use Rattle.ent_protocol_laws.proofs.Times.{one_of, count, count_in, in_count, count_joined, count_split}
use Rattle.ent_protocol_laws.proofs.Times.{count_by_number}

abbrev pub label_of : Member → Labelled
label_of member = (member.tx, member.group)

abbrev pub labels : State → List Labelled
labels s = map label_of (members s)

-- ---- members of a state

pub one_member : (s : State) → Stands s → (x y : Member) → In x (members s) → In y (members s) → x.tx ≡ y.tx → x ≡ y
one_member s h x y at bt same = one_of tx_of y.tx (members s) x y at bt same refl (members_once s h y.tx)

-- members that become others of their numbers, in their groups
labels_same : (f : Member → Member) (ms : List Member) → ((x : Member) → In x ms → label_of (f x) ≡ label_of x)
    → map label_of (map f ms) ≡ map label_of ms
labels_same f [] h = refl
labels_same f (x ∷ xs) h =
    let rest = labels_same f xs (λ y at. h y (inr at)) in
    λ i. h x (inl refl) i ∷ rest i

replaced_label : (new x : Member) → (x.tx ≡ new.tx → new.group ≡ x.group) → label_of (replaced new x) ≡ label_of x
replaced_label new x same = by (x.tx == new.tx) refl
  where
    by : (b : Bool) → (x.tx == new.tx) ≡ b → label_of (cond b new x) ≡ label_of x
    by true is =
        let own = same_number x.tx new.tx is in
        let group = same own in
        λ i. (sym own i, group i)
    by false is = refl

-- another in the place of a member, in its group
pub replaced_labels : (s : State) → Stands s → (new m : Member) → In m s.active → new.tx ≡ m.tx → new.group ≡ m.group
    → map label_of (s.prepared ++ map (replaced new) s.active) ≡ labels s
replaced_labels s h new m at own group =
    map_joined label_of s.prepared (map (replaced new) s.active)
    ∙ ap (λ more. map label_of s.prepared ++ more) (labels_same (replaced new) s.active (λ x xt.
    replaced_label new x (λ same. group ∙ ap (λ (y : Member). y.group)
    (one_member s h m x (in_second s.prepared s.active m at) (in_second s.prepared s.active x xt)
    (sym own ∙ sym same)))))
    ∙ sym (map_joined label_of s.prepared s.active)

-- a member with a label
pub of_labels : (s : State) (x : Labelled) → In x (labels s) → (m : Member) × In m (members s) × (x ≡ label_of m)
of_labels s x at = of_map label_of (members s) x at

-- ---- what is kept of joint answers

-- a transaction of a joint answer was submitted, and isn't dormant
abbrev pub Known : State → Type 0
Known s =
    (joint : JointAnswer) → In joint s.joints → (n : ℕ) → takes_part joint n ≡ true
    → (1 ≤ n) × (n ≤ length s.submitted) × (count dormant_tx n s.dormant ≡ 0)

pub record GroupsRight (s : State) : Type 0 where
  pub stands : Stands s
  pub known : Known s
  pub right : LabelsRight (labels s) s.joints

-- the labels and the joint answers are as they were
pub as_before : (s new : State) → Stands new → labels new ≡ labels s → new.joints ≡ s.joints → new.dormant ≡ s.dormant
    → new.submitted ≡ s.submitted → GroupsRight s → GroupsRight new
as_before s new stands same joints dormant submitted h =
    record {
      stands = stands;
      known = λ joint jt n is.
          let k = h.known joint (subst (In joint) joints jt) n is in (
            k.0,
            subst (λ all. n ≤ length all) (sym submitted) k.1,
            ap (count dormant_tx n) dormant ∙ k.2,
          );
      right = subst (λ all. LabelsRight all new.joints) (sym same)
          (subst (LabelsRight (labels s)) (sym joints) h.right);
    }

-- ---- a member prepares, and a group commits

-- the same members in another order
pub reordered : (s new : State) → Stands new → ((x : Member) → In x (members s) → In x (members new))
    → ((x : Member) → In x (members new) → In x (members s)) → new.joints ≡ s.joints → new.dormant ≡ s.dormant
    → new.submitted ≡ s.submitted → GroupsRight s → GroupsRight new
reordered s new stands into back joints dormant submitted h =
    record {
      stands = stands;
      known = λ joint jt n is.
          let k = h.known joint (subst (In joint) joints jt) n is in (
            k.0,
            subst (λ all. n ≤ length all) (sym submitted) k.1,
            ap (count dormant_tx n) dormant ∙ k.2,
          );
      right = subst (LabelsRight (labels new)) (sym joints)
          (labels_moved (labels s) (labels new) s.joints
          (λ x at.
          let r = of_labels s x at in
          subst (λ y. In y (labels new)) (sym r.2) (to_map label_of (members new) r.0 (into r.0 r.1)))
          (λ x at.
          let r = of_labels new x at in
          subst (λ y. In y (labels s)) (sym r.2) (to_map label_of (members s) r.0 (back r.0 r.1))) h.right);
    }

module _ (s : State) (m : Member) (idle : IsIdle s m) (h : GroupsRight s) where
  abbrev rest : List Member
  rest = filter (λ other. not (is_tx m.tx other)) s.active

  or_itself : (x : Member) → In x s.active → (b : Bool) → (x.tx == m.tx) ≡ b
      → In x ((s.prepared ++ m ∷ []) ++ rest)
  or_itself x b true is =
      in_first (s.prepared ++ m ∷ []) rest x (in_second s.prepared (m ∷ []) x
      (inl (one_member s h.stands x m (in_second s.prepared s.active x b)
      (in_second s.prepared s.active m idle.at) (same_number x.tx m.tx is))))
  or_itself x b false is =
      in_second (s.prepared ++ m ∷ []) rest x
      (to_filter (λ other. not (is_tx m.tx other)) s.active x b (ap not is))

  into : (x : Member) → In x (members s) → In x ((s.prepared ++ m ∷ []) ++ rest)
  into x at =
      elim (in_either s.prepared s.active x at) [
        | inl a ↦ in_first (s.prepared ++ m ∷ []) rest x (in_first s.prepared (m ∷ []) x a)
        | inr b ↦ or_itself x b (x.tx == m.tx) refl
      ]

  back : (x : Member) → In x ((s.prepared ++ m ∷ []) ++ rest) → In x (members s)
  back x at =
      elim (in_either (s.prepared ++ m ∷ []) rest x at) [
        | inl a ↦ elim (in_either s.prepared (m ∷ []) x a) [
          | inl p ↦ in_first s.prepared s.active x p
          | inr q ↦ elim q [
            | inl same ↦ subst (λ y. In y (members s)) (sym same) (in_second s.prepared s.active m idle.at)
            | inr bad ↦ absurd bad
          ]
        ]
        | inr b ↦ in_second s.prepared s.active x (of_filter (λ other. not (is_tx m.tx other)) s.active x b).0
      ]

  pub prepares : GroupsRight (preparing s m)
  prepares = reordered s (preparing s m) (places_kept.prepares s m idle h.stands) into back refl refl refl h

-- a part of the members, of whole groups, with the joint answers of which some are members
parted : (s new : State) → Stands new → ((x : Member) → In x (members new) → In x (members s))
    → ((joint : JointAnswer) → In joint new.joints → In joint s.joints)
    → ((joint : JointAnswer) (x : Member) → In joint s.joints → In x (members new) → takes_part joint x.tx ≡ true
    → In joint new.joints)
    → ((x y : Member) → In x (members new) → In y (members s) → x.group ≡ y.group → In y (members new))
    → Known new → GroupsRight s → GroupsRight new
parted s new stands back joints theirs whole known h =
    record {
      stands = stands;
      known = known;
      right = labels_left (labels s) (labels new) s.joints new.joints
          (λ x at.
          let r = of_labels new x at in
          subst (λ y. In y (labels s)) (sym r.2) (to_map label_of (members s) r.0 (back r.0 r.1)))
          joints
          (λ joint x jt at is.
          let r = of_labels new x at in
          theirs joint r.0 jt r.1 (ap (λ (y : Labelled). takes_part joint y.0) (sym r.2) ∙ is))
          (λ x y at bt same.
          let r = of_labels new x at in
          let q = of_labels s y bt in
          subst (λ z. In z (labels new)) (sym q.2) (to_map label_of (members new) q.0
          (whole r.0 q.0 r.1 q.1
          (ap (λ (z : Labelled). z.1) (sym r.2) ∙ same ∙ ap (λ (z : Labelled). z.1) q.2)))) h.right;
    }

pub commits : (s : State) (group : ℕ) → list_any (is_of group) s.active ≡ false → GroupsRight s
    → GroupsRight (committing s group)
commits s group ready h =
    parted s (committing s group) (places_kept.commits s group ready h.stands) back (λ joint jt. jt)
    (λ joint x jt at is. jt) whole h.known h
  where
    back : (x : Member) → In x (members (committing s group)) → In x (members s)
    back x at =
        elim (in_either (committing s group).prepared s.active x at) [
          | inl a ↦ in_first s.prepared s.active x (of_filter (λ member. not (is_of group member)) s.prepared x a).0
          | inr b ↦ in_second s.prepared s.active x b
        ]

    other_group : (x : Member) → In x (members (committing s group)) → is_of group x ≡ false
    other_group x at =
        elim (in_either (committing s group).prepared s.active x at) [
          | inl a ↦ turned (is_of group x) (of_filter (λ member. not (is_of group member)) s.prepared x a).1
          | inr b ↦ any_none (is_of group) s.active ready x b
        ]

    whole : (x y : Member) → In x (members (committing s group)) → In y (members s) → x.group ≡ y.group
        → In y (members (committing s group))
    whole x y at bt same =
        elim (in_either s.prepared s.active y bt) [
          | inl a ↦ in_first (committing s group).prepared s.active y
              (to_filter (λ member. not (is_of group member)) s.prepared y a
              (ap not (ap (λ n. n == group) (sym same) ∙ other_group x at)))
          | inr b ↦ in_second (committing s group).prepared s.active y b
        ]

-- ---- a group is rolled back

fewer_dormant : (s : State) (cause : Cause) (gone : List Member) (n : ℕ) → is_among gone n ≡ false
    → count dormant_tx n (filter_map (dormant_by s.submitted cause) (by_number tx_of gone)) ≡ 0
fewer_dormant s cause gone n is =
    none_of (count dormant_tx n (filter_map (dormant_by s.submitted cause) (by_number tx_of gone)))
    (count fated_tx n (filter_map (fated_by s.submitted cause) (by_number tx_of gone)))
    (count tx_of n gone)
    (left_counted s.submitted cause n (by_number tx_of gone) ∙ count_by_number tx_of n tx_of gone)
    (λ there. clash (is_among gone n) (counted_among gone n there) is)
  where
    none_of : (d f k : ℕ) → d + f ≡ k → (1 ≤ k → ⊥) → d ≡ 0
    none_of zero f k e none = refl
    none_of (suc d) f k e none = absurd (none (omega (arith, e)))

part_among : (gone : List Member) (joint : JointAnswer) (n : ℕ) → is_joint_of gone joint ≡ false
    → takes_part joint n ≡ true → is_among gone n ≡ false
part_among gone joint n apart is =
    let r = any_some (λ (part : JointMember). part.tx == n) joint.members is in
    ap (is_among gone) (sym (same_number r.0.tx n r.2))
    ∙ any_none (λ (part : JointMember). is_among gone part.tx) joint.members apart r.0 r.1

module _ (s : State) (group : ℕ) (cause : Cause) (h : GroupsRight s) where
  abbrev gone : List Member
  gone = group_members s group

  abbrev out : State
  out = rolled_back group cause s

  abbrev stays : Member → Bool
  stays member = not (is_among gone member.tx)

  told : (x : Member) → In x (members s) → is_among gone x.tx ≡ is_of group x
  told = among_passing (is_of group) (members s) (members_once s h.stands)

  out_back : (x : Member) → In x (members out) → In x (members s)
  out_back x at =
      elim (in_either (filter stays s.prepared) (filter stays s.active) x at) [
        | inl a ↦ in_first s.prepared s.active x (of_filter stays s.prepared x a).0
        | inr b ↦ in_second s.prepared s.active x (of_filter stays s.active x b).0
      ]

  out_stays : (x : Member) → In x (members out) → stays x ≡ true
  out_stays x at =
      elim (in_either (filter stays s.prepared) (filter stays s.active) x at) [
        | inl a ↦ (of_filter stays s.prepared x a).1
        | inr b ↦ (of_filter stays s.active x b).1
      ]

  other_group : (x : Member) → In x (members out) → is_of group x ≡ false
  other_group x at = sym (told x (out_back x at)) ∙ turned (is_among gone x.tx) (out_stays x at)

  -- no member of the group stands in a joint answer with one that stays
  theirs : (joint : JointAnswer) (x : Member) → In joint s.joints → In x (members out)
      → takes_part joint x.tx ≡ true → In joint out.joints
  theirs joint x jt at is =
      to_filter (λ joint. not (is_joint_of gone joint)) s.joints joint jt
      (ap not (not_so (is_joint_of gone joint) (λ both.
      let part = any_some (λ (part : JointMember). is_among gone part.tx) joint.members both in
      let c = in_count tx_of part.0.tx (filter (is_of group) (members s))
      (subst (λ k. 1 ≤ k) (count_by_number tx_of part.0.tx tx_of (filter (is_of group) (members s)))
      (among_counted gone part.0.tx part.2)) in
      let q = of_filter (is_of group) (members s) c.0 c.1 in
      let there : takes_part joint c.0.tx ≡ true =
      any_in (λ (other : JointMember). other.tx == c.0.tx) joint.members part.0 part.1
      (ap (λ n. part.0.tx == n) c.2 ∙ number_itself part.0.tx) in
      let same : x.group ≡ c.0.group =
      h.right.within joint jt (label_of x) (label_of c.0) (to_map label_of (members s) x (out_back x at))
      (to_map label_of (members s) c.0 q.0) is there in
      clash (is_of group x) (ap (λ n. n == group) same ∙ q.1) (other_group x at))))

  whole_out : (x y : Member) → In x (members out) → In y (members s) → x.group ≡ y.group → In y (members out)
  whole_out x y at bt same =
      let left : stays y ≡ true =
      ap not (told y bt ∙ ap (λ n. n == group) (sym same) ∙ other_group x at) in
      elim (in_either s.prepared s.active y bt) [
        | inl a ↦ in_first (filter stays s.prepared) (filter stays s.active) y (to_filter stays s.prepared y a left)
        | inr b ↦ in_second (filter stays s.prepared) (filter stays s.active) y (to_filter stays s.active y b left)
      ]

  known_out : Known out
  known_out joint jt n is =
      let r = of_filter (λ joint. not (is_joint_of gone joint)) s.joints joint jt in
      let k = h.known joint r.0 n is in
      let none = fewer_dormant s cause gone n (part_among gone joint n (turned (is_joint_of gone joint) r.1) is) in (
        k.0,
        k.1,
        count_joined dormant_tx n s.dormant (filter_map (dormant_by s.submitted cause) (by_number tx_of gone))
            ∙ (λ i. k.2 i + none i),
      )

  pub rolls_back : GroupsRight out
  rolls_back =
      parted s out (places_kept.rolls_back s group cause h.stands) out_back
      (λ joint jt. (of_filter (λ joint. not (is_joint_of gone joint)) s.joints joint jt).0) theirs whole_out known_out h

-- ---- runs end and start

no_labels : (joints : List JointAnswer) → LabelsRight [] joints
no_labels joints =
    record { within = λ joint jt one other at. absurd at; linked = λ one other at. absurd at }

-- no member is left
pub ends : (s : State) → GroupsRight s → GroupsRight (ending s)
ends s h =
    let stands = places_kept.ends s h.stands in
    let none = stands.idle refl in
    record {
      stands = stands;
      known = λ joint jt n is.
          let r = of_filter (λ joint. not (is_joint_of (members s) joint)) s.joints joint jt in
          let k = h.known joint r.0 n is in
          let less = fewer_dormant s NoOne (members s) n
          (part_among (members s) joint n (turned (is_joint_of (members s) joint) r.1) is) in (
            k.0,
            k.1,
            count_joined dormant_tx n s.dormant
                (filter_map (dormant_by s.submitted NoOne) (by_number tx_of (members s)))
                ∙ (λ i. k.2 i + less i),
          );
      right = subst (λ all. LabelsRight all (ending s).joints)
          (ap (map label_of) (λ i. sym none.0 i ++ sym none.1 i)) (no_labels (ending s).joints);
    }

first_counted : (all first rest : ℕ) → all ≡ first + rest → all ≡ 0 → rest ≡ 0
first_counted all first rest e none = omega (arith, e, none)

pub starts : (s : State) → s.running ≡ false → GroupsRight s → GroupsRight (starting s)
starts s off h =
    let stands = places_kept.starts s off h.stands in
    record {
      stands = stands;
      known = λ joint jt n is.
          let k = h.known joint jt n is in (
            k.0,
            k.1,
            first_counted (count dormant_tx n s.dormant) (count dormant_tx n (take MOST_MEMBERS s.dormant))
                (count dormant_tx n (drop MOST_MEMBERS s.dormant)) (count_split dormant_tx n MOST_MEMBERS s.dormant)
                k.2,
          );
      right = labels_fresh (labels (starting s)) s.joints
          (λ x at. let r = of_labels (starting s) x at in
          let d = fresh_of r.0 r.1 in
          ap (λ (y : Labelled). y.1) r.2 ∙ ap (λ (m : Member). m.group) d.2 ∙ ap (λ (m : Member). m.tx) (sym d.2)
          ∙ ap (λ (y : Labelled). y.0) (sym r.2))
          (λ joint x jt at. let r = of_labels (starting s) x at in
          let d = fresh_of r.0 r.1 in
          not_so (takes_part joint x.0) (λ is.
          let own : d.0.tx ≡ x.0 = ap (λ (m : Member). m.tx) (sym d.2) ∙ ap (λ (y : Labelled). y.0) (sym r.2) in
          let none = (h.known joint jt x.0 is).2 in
          let some = count_in dormant_tx x.0 s.dormant d.0 (taken s.dormant d.0 d.1) own in
          absurd (omega (arith, none, some))));
    }
  where
    taken : (ds : List Dormant) (d : Dormant) → In d (take MOST_MEMBERS ds) → In d ds
    taken ds d at =
        subst (In d) (take-append-drop MOST_MEMBERS ds)
        (in_first (take MOST_MEMBERS ds) (drop MOST_MEMBERS ds) d at)

    fresh_of : (m : Member) → In m (members (starting s))
        → (d : Dormant) × In d (take MOST_MEMBERS s.dormant) × (m ≡ fresh d)
    fresh_of m at =
        of_map fresh (take MOST_MEMBERS s.dormant) m
        (from_by_number tx_of (map fresh (take MOST_MEMBERS s.dormant)) m
        (subst (λ (ps : List Member). In m (ps ++ (starting s).active)) (h.stands.idle off).0 at))
