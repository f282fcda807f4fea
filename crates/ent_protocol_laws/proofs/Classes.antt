-- Numbers with labels, of which those are alike that joint answers link.
use Rattle.std.proofs.Common.{◌≡◌, ℕ, zero, suc, Bool, true, false, cond, ◌==◌, List, [], ◌∷◌, ◌++◌, map, refl, sym}
use Rattle.std.proofs.Common.{ap, subst, ◌∙◌, inl, inr}
use Rattle.std.specs.List.{list_any}
use Rattle.ent_semantics.specs.declared.book.JointAnswer.{JointAnswer}
use Rattle.ent_protocol.specs.PoolEvents.{joined_label}
use Rattle.ent_protocol_laws.specs.Groups.{takes_part}
use Rattle.ent_lists.specs.Elements.{In, in_first, in_second, in_either, of_map, to_map, clash, any_in, any_some}
use Rattle.ent_lists.specs.Elements.{same_number, number_itself}

-- a transaction, and the label of its group
abbrev pub Labelled : Type 0
Labelled = ℕ × ℕ

pub record Joined (joints : List JointAnswer) (first second : ℕ) : Type 0 where
  pub joint : JointAnswer
  pub at : In joint joints
  pub of_first : takes_part joint first ≡ true
  pub of_second : takes_part joint second ≡ true

abbrev pub LinkedIn : ℕ → List JointAnswer → List Labelled → Labelled → Labelled → Type 0
LinkedIn zero joints all first last = first ≡ last
LinkedIn (suc n) joints all first last =
    (next : Labelled) × In next all × Joined joints first.0 next.0 × LinkedIn n joints all next last

abbrev pub Linked : List JointAnswer → List Labelled → Labelled → Labelled → Type 0
Linked joints all first last = (n : ℕ) × LinkedIn n joints all first last

-- members of a joint answer have one label, and those of one label are linked
pub record LabelsRight (all : List Labelled) (joints : List JointAnswer) : Type 0 where
  pub within : (joint : JointAnswer) → In joint joints → (one other : Labelled) → In one all → In other all
      → takes_part joint one.0 ≡ true → takes_part joint other.0 ≡ true → one.1 ≡ other.1
  pub linked : (one other : Labelled) → In one all → In other all → one.1 ≡ other.1 → Linked joints all one other

linked_on : (joints : List JointAnswer) (all : List Labelled) (n : ℕ) (one middle other : Labelled)
    → LinkedIn n joints all one middle → Linked joints all middle other → Linked joints all one other
linked_on joints all zero one middle other same rest =
    subst (λ (x : Labelled). Linked joints all x other) (sym same) rest
linked_on joints all (suc n) one middle other step rest =
    let more = linked_on joints all n step.0 middle other step.3 rest in
    (suc more.0, (step.0, step.1, step.2, more.1))

-- ---- the same, in another order

pub labels_moved : (all others : List Labelled) (joints : List JointAnswer)
    → ((x : Labelled) → In x all → In x others) → ((x : Labelled) → In x others → In x all)
    → LabelsRight all joints → LabelsRight others joints
labels_moved all others joints into back h =
    record {
      within = λ joint jt one other at bt. h.within joint jt one other (back one at) (back other bt);
      linked = λ one other at bt same.
          let chain = h.linked one other (back one at) (back other bt) same in
          (chain.0, again chain.0 one other chain.1);
    }
  where
    again : (n : ℕ) (one other : Labelled) → LinkedIn n joints all one other → LinkedIn n joints others one other
    again zero one other same = same
    again (suc n) one other step = (step.0, into step.0 step.1, step.2, again n step.0 other step.3)

-- ---- a part, with whole groups and the joint answers that are theirs

pub labels_left : (all left : List Labelled) (joints others : List JointAnswer)
    → ((x : Labelled) → In x left → In x all) → ((joint : JointAnswer) → In joint others → In joint joints)
    → ((joint : JointAnswer) (x : Labelled) → In joint joints → In x left → takes_part joint x.0 ≡ true
    → In joint others)
    → ((x y : Labelled) → In x left → In y all → x.1 ≡ y.1 → In y left)
    → LabelsRight all joints → LabelsRight left others
labels_left all left joints others back of_others theirs whole h =
    record {
      within = λ joint jt one other at bt.
          h.within joint (of_others joint jt) one other (back one at) (back other bt);
      linked = λ one other at bt same.
          let chain = h.linked one other (back one at) (back other bt) same in
          (chain.0, again chain.0 one other at chain.1);
    }
  where
    again : (n : ℕ) (one other : Labelled) → In one left → LinkedIn n joints all one other
        → LinkedIn n others left one other
    again zero one other at same = same
    again (suc n) one other at step =
        let join = step.2 in
        let next : In step.0 left =
        whole one step.0 at step.1
        (h.within join.joint join.at one step.0 (back one at) step.1 join.of_first join.of_second) in (
          step.0,
          next,
          record {
            joint = join.joint;
            at = theirs join.joint one join.at at join.of_first;
            of_first = join.of_first;
            of_second = join.of_second;
          },
          again n step.0 other next step.3,
        )

-- ---- each alone

pub labels_fresh : (all : List Labelled) (joints : List JointAnswer)
    → ((x : Labelled) → In x all → x.1 ≡ x.0)
    → ((joint : JointAnswer) (x : Labelled) → In joint joints → In x all → takes_part joint x.0 ≡ false)
    → LabelsRight all joints
labels_fresh all joints own apart =
    record {
      within = λ joint jt one other at bt of_one of_other.
          clash (takes_part joint one.0) of_one (apart joint one jt at);
      linked = λ one other at bt same.
          let numbers : one.0 ≡ other.0 = sym (own one at) ∙ same ∙ own other bt in
          (0, λ i. (numbers i, same i));
    }

-- ---- groups that get one label together

abbrev pub is_joined : List ℕ → ℕ → Bool
is_joined groups group = list_any (λ joined. joined == group) groups

label_alike : (groups : List ℕ) (one other : ℕ) → is_joined groups one ≡ true → is_joined groups other ≡ true
    → joined_label groups one ≡ joined_label groups other
label_alike [] one other a b = cc
label_alike (first ∷ more) one other a b =
    ap (λ b. cond b first one) a ∙ sym (ap (λ c. cond c first other) b)

label_own : (groups : List ℕ) (one : ℕ) → is_joined groups one ≡ false → joined_label groups one ≡ one
label_own [] one a = refl
label_own (first ∷ more) one a = ap (λ b. cond b first one) a

label_joined : (groups : List ℕ) (one : ℕ) → is_joined groups one ≡ true
    → is_joined groups (joined_label groups one) ≡ true
label_joined [] one a = cc
label_joined (first ∷ more) one a =
    ap (is_joined (first ∷ more)) (ap (λ b. cond b first one) a)
    ∙ any_in (λ joined. joined == first) (first ∷ more) first (inl refl) (number_itself first)

abbrev pub relabelled : List ℕ → Labelled → Labelled
relabelled groups x = (x.0, joined_label groups x.1)

module _ (all : List Labelled) (joints : List JointAnswer) (joint : JointAnswer) (groups : List ℕ)
    (asked : (x : Labelled) → In x all → takes_part joint x.0 ≡ true → is_joined groups x.1 ≡ true)
    (owner : (group : ℕ) → In group groups
    → (x : Labelled) × In x all × (x.1 ≡ group) × (takes_part joint x.0 ≡ true))
    (h : LabelsRight all joints) where
  abbrev after : List Labelled
  after = map (relabelled groups) all

  abbrev with_joint : List JointAnswer
  with_joint = joints ++ joint ∷ []

  relink : (n : ℕ) (one other : Labelled) → LinkedIn n joints all one other
      → LinkedIn n with_joint after (relabelled groups one) (relabelled groups other)
  relink zero one other same = ap (relabelled groups) same
  relink (suc n) one other step =
      let join = step.2 in (
        relabelled groups step.0,
        to_map (relabelled groups) all step.0 step.1,
        record {
          joint = join.joint;
          at = in_first joints (joint ∷ []) join.joint join.at;
          of_first = join.of_first;
          of_second = join.of_second;
        },
        relink n step.0 other step.3,
      )

  -- of two whose groups are joined
  through : (one other : Labelled) → In one all → In other all → is_joined groups one.1 ≡ true
      → is_joined groups other.1 ≡ true
      → Linked with_joint after (relabelled groups one) (relabelled groups other)
  through one other at bt a b =
      let g = any_some (λ joined. joined == one.1) groups a in
      let k = any_some (λ joined. joined == other.1) groups b in
      let x = owner g.0 g.1 in
      let y = owner k.0 k.1 in
      let first = h.linked one x.0 at x.1 (sym (same_number g.0 one.1 g.2) ∙ sym x.2) in
      let last = h.linked y.0 other y.1 bt (y.2 ∙ same_number k.0 other.1 k.2) in
      linked_on with_joint after first.0 (relabelled groups one) (relabelled groups x.0) (relabelled groups other)
      (relink first.0 one x.0 first.1) (
        suc last.0,
        (
          relabelled groups y.0,
          to_map (relabelled groups) all y.0 y.1,
          record {
            joint = joint;
            at = in_second joints (joint ∷ []) joint (inl refl);
            of_first = x.3;
            of_second = y.3;
          },
          relink last.0 y.0 other last.1,
        ),
      )

  linked_after : (one other : Labelled) → In one all → In other all
      → joined_label groups one.1 ≡ joined_label groups other.1
      → Linked with_joint after (relabelled groups one) (relabelled groups other)
  linked_after one other at bt same = by (is_joined groups one.1) refl (is_joined groups other.1) refl
    where
      by : (b : Bool) → is_joined groups one.1 ≡ b → (c : Bool) → is_joined groups other.1 ≡ c
          → Linked with_joint after (relabelled groups one) (relabelled groups other)
      by true a true b = through one other at bt a b
      by true a false b =
          clash (is_joined groups other.1)
          (ap (is_joined groups) (sym (label_own groups other.1 b) ∙ sym same) ∙ label_joined groups one.1 a) b
      by false a true b =
          clash (is_joined groups one.1)
          (ap (is_joined groups) (sym (label_own groups one.1 a) ∙ same) ∙ label_joined groups other.1 b) a
      by false a false b =
          let chain = h.linked one other at bt
          (sym (label_own groups one.1 a) ∙ same ∙ label_own groups other.1 b) in
          (chain.0, relink chain.0 one other chain.1)

  pub labels_joined : LabelsRight after with_joint
  labels_joined =
      record {
        within = λ other jt one two at bt of_one of_two.
            let x = of_map (relabelled groups) all one at in
            let y = of_map (relabelled groups) all two bt in
            let p : takes_part other x.0.0 ≡ true =
            ap (λ (z : Labelled). takes_part other z.0) (sym x.2) ∙ of_one in
            let q : takes_part other y.0.0 ≡ true =
            ap (λ (z : Labelled). takes_part other z.0) (sym y.2) ∙ of_two in
            ap (λ (z : Labelled). z.1) x.2 ∙ same_label other jt x.0 y.0 x.1 y.1 p q
            ∙ ap (λ (z : Labelled). z.1) (sym y.2);
        linked = λ one other at bt same.
            let x = of_map (relabelled groups) all one at in
            let y = of_map (relabelled groups) all other bt in
            subst (λ (z : Labelled). Linked with_joint after z other) (sym x.2)
            (subst (λ (z : Labelled). Linked with_joint after (relabelled groups x.0) z) (sym y.2)
            (linked_after x.0 y.0 x.1 y.1
            (ap (λ (z : Labelled). z.1) (sym x.2) ∙ same ∙ ap (λ (z : Labelled). z.1) y.2)));
      }
    where
      same_label : (other : JointAnswer) → In other with_joint → (x y : Labelled) → In x all → In y all
          → takes_part other x.0 ≡ true → takes_part other y.0 ≡ true
          → joined_label groups x.1 ≡ joined_label groups y.1
      same_label other jt x y at bt of_x of_y =
          elim (in_either joints (joint ∷ []) other jt) [
            | inl old ↦ ap (joined_label groups) (h.within other old x y at bt of_x of_y)
            | inr new ↦ elim new [
              | inl is ↦ label_alike groups x.1 y.1
                  (asked x at (ap (λ j. takes_part j x.0) (sym is) ∙ of_x))
                  (asked y bt (ap (λ j. takes_part j y.0) (sym is) ∙ of_y))
              | inr bad ↦ absurd bad
            ]
          ]
