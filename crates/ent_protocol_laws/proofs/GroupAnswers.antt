-- Joint answers of members are good over what the members of their group did, run alone.
use Rattle.std.proofs.Common.{◌≡◌, ℕ, ◌==◌, true, List, [], ◌∷◌, ◌++◌, map, refl, sym, ap, subst, ◌∙◌, inl, inr}
use Rattle.std.proofs.Common.{Contains}
use Rattle.std.proofs.Common.{flat_map}
use Rattle.std.proofs.lemmas.Grind.{flat_map-append}
use Rattle.std.specs.List.{AllByRecursion, filter}
use Rattle.ent_tree.specs.declared.declaration.Create.{Create}
use Rattle.ent_semantics.specs.declared.book.JointAnswer.{JointAnswer}
use Rattle.ent_semantics.specs.declared.book.Member.{Member as JointMember}
use Rattle.ent_semantics.specs.Database.{Database, nothing_bound}
use Rattle.ent_semantics.specs.Joint.{IsGrounded}
use Rattle.ent_semantics.specs.Serial.{ReadView}
use Rattle.ent_protocol.specs.Member.{is_of, is_tx}
use Rattle.ent_protocol.specs.Reached.{IsReached, live_joints}
use Rattle.ent_protocol.specs.Rollback.{is_among, is_joint_of}
use Rattle.ent_protocol.specs.Run.{Forms}
use Rattle.ent_protocol.specs.State.{State, Member, members}
use Rattle.ent_protocol_laws.specs.Faithful.{AreFaithful}
use Rattle.ent_protocol_laws.specs.GoodAnswers.{histories_read_views}
use Rattle.ent_protocol_laws.specs.GroupAnswers.{history_read_views, group_read_views, IsOfGroup, HaveGroups}
use Rattle.ent_protocol_laws.specs.GroupAnswers.{GroupAnswers}
use Rattle.ent_protocol_laws.specs.GroupRuns.{GroupRuns, settled_database}
use Rattle.ent_protocol_laws.specs.History.{History, Replays}
use Rattle.ent_lists.specs.Elements.{contains_in, in_contains}
use Rattle.ent_protocol_laws.proofs.Asks.{Ask, ask_of, ask_member, history_asks, read_views_asks}
use Rattle.ent_protocol_laws.proofs.Frame.{Laws}
use Rattle.ent_protocol_laws.proofs.Good.{histories_ask, histories_grounded}
use Rattle.ent_protocol_laws.proofs.GoodOver.{good_over}
use Rattle.ent_protocol_laws.proofs.GroupRuns.{unprepared, group_runs, its_prepared, are_others}
use Rattle.ent_protocol_laws.proofs.Joints.{JointsRight, AsksOf, right_part, of_own}
use Rattle.ent_protocol_laws.proofs.SerialKept.{Kept}
use Rattle.ent_lists.specs.Elements.{In, all_joined, of_filter, to_filter, in_first, in_second, in_either, map_joined}
use Rattle.ent_lists.specs.Elements.{any_in, any_some, same_number, number_itself}
use Rattle.ent_protocol_laws.proofs.Reached.{reached_kept}
use Rattle.ent_protocol_laws.proofs.Runs.{member_history, history_member}

-- ---- what members see that run each from one database

abbrev Ran : List Create → Database → History → Type 0
Ran declared first history = (last : Database) × Replays declared history first last

each_asks : (declared : List Create) (first : Database) (histories : List History)
    → ((x : History) → In x histories → Ran declared first x)
    → map ask_of (flat_map (history_read_views declared first) histories) ≡ flat_map history_asks histories
each_asks declared first [] ran = refl
each_asks declared first (x ∷ xs) ran =
    let own = read_views_asks declared x.member.tx 1 x.operations first nothing_bound (_, (ran x (inl refl)).1.runs) in
    let rest = each_asks declared first xs (λ y at. ran y (inr at)) in
    map_joined ask_of (history_read_views declared first x) (flat_map (history_read_views declared first) xs)
    ∙ (λ i. own i ++ rest i)

each_grounded : (declared : List Create) (first : Database) (histories : List History)
    → ((x : History) → In x histories → Ran declared first x)
    → AllByRecursion (IsGrounded declared) (flat_map (history_read_views declared first) histories)
each_grounded declared first [] ran = tt
each_grounded declared first (x ∷ xs) ran =
    all_joined (IsGrounded declared) (history_read_views declared first x)
    (flat_map (history_read_views declared first) xs) (ran x (inl refl)).1.grounded
    (each_grounded declared first xs (λ y at. ran y (inr at)))

module _ {F : Type 0} (forms : Forms F) (laws : Laws) (s : State) (kept : Kept forms s) where
  live_in : (joint : JointAnswer) → Contains (live_joints s) joint
      → In joint s.joints × (is_joint_of (members s) joint ≡ true)
  live_in joint live = of_filter (is_joint_of (members s)) s.joints joint (contains_in (live_joints s) joint live)

  -- ---- the group of a joint answer

  have_groups : HaveGroups s
  have_groups joint live =
      let l = live_in joint live in
      let m = any_some (λ (m : JointMember). is_among (members s) m.tx) joint.members l.1 in
      let own = any_some (is_tx m.0.tx) (members s) m.2 in
      let y = member_history forms laws s kept own.0 own.1 in
      let y_tx : y.0.member.tx ≡ m.0.tx =
      ap (λ (n : Member). n.tx) (sym y.2) ∙ same_number own.0.tx m.0.tx own.2 in (
        y.0.member.group,
        λ asked at.
            let ask = kept.joined.right.down joint l.0 asked (contains_in joint.members asked at) in
            let x : History = ask.1.0 in
            let x_tx : x.member.tx ≡ asked.tx =
            sym (of_own x ask.0 ask.1.2) ∙ ap (λ (n : JointMember). n.tx) (sym ask.2) in
            elim (in_either kept.committed (kept.prepared ++ kept.others) x ask.1.1) [
              | inl c ↦
                  absurd (kept.joined.parted joint l.0 m.0 asked m.1 (contains_in joint.members asked at) y.0 x y.1 c
                  y_tx x_tx)
              | inr b ↦ (
                x.member,
                in_contains (members s) x.member (history_member forms laws s kept x b),
                x_tx,
                kept.joined.one_group joint l.0 asked m.0 (contains_in joint.members asked at) m.1 x y.0 b y.1 x_tx
                    y_tx,
              )
            ],
      )

  -- ---- the joint answers of a group

  module _ (group : ℕ) where
    abbrev runs : GroupRuns s group
    runs = group_runs forms laws s kept group

    abbrev others : List History
    others = unprepared forms laws s kept group

    -- what it did
    abbrev did : List History
    did = runs.prepared ++ others

    abbrev seen : List ReadView
    seen = group_read_views s group runs others

    ran : (x : History) → In x others → Ran s.opening.tables runs.start x
    ran x at =
        let r = (are_others forms laws s kept group).only x (in_contains others x at) in
        let from = runs.others r.0 r.1 r.2 in
        (from.last, subst (λ h. Replays s.opening.tables h runs.start from.last) (sym r.3) from.replays)

    asks_are : map ask_of seen ≡ flat_map history_asks did
    asks_are =
        let declared = s.opening.tables in
        let one = histories_ask declared runs.prepared (settled_database s) runs.start runs.runs in
        let other = each_asks declared runs.start others ran in
        map_joined ask_of (histories_read_views declared runs.prepared (settled_database s))
        (flat_map (history_read_views declared runs.start) others)
        ∙ (λ i. one i ++ other i)
        ∙ sym (flat_map-append history_asks runs.prepared others)

    grounded : AllByRecursion (IsGrounded s.opening.tables) seen
    grounded =
        let declared = s.opening.tables in
        all_joined (IsGrounded declared) (histories_read_views declared runs.prepared (settled_database s))
        (flat_map (history_read_views declared runs.start) others)
        (histories_grounded declared runs.prepared (settled_database s) runs.start runs.runs)
        (each_grounded declared runs.start others ran)

    did_in : (x : History) → In x did → In x (kept.prepared ++ kept.others) × (is_of group x.member ≡ true)
    did_in x at =
        elim (in_either runs.prepared others x at) [
          | inl a ↦
              let r = of_filter (λ (y : History). is_of group y.member) kept.prepared x
              (subst (In x) (its_prepared forms laws s kept group) a) in
              (in_first kept.prepared kept.others x r.0, r.1)
          | inr b ↦
              let r = of_filter (λ (y : History). is_of group y.member) kept.others x b in
              (in_second kept.prepared kept.others x r.0, r.1)
        ]

    in_did : (x : History) → In x (kept.prepared ++ kept.others) → is_of group x.member ≡ true → In x did
    in_did x at is =
        elim (in_either kept.prepared kept.others x at) [
          | inl a ↦
              in_first runs.prepared others x
              (subst (In x) (sym (its_prepared forms laws s kept group))
              (to_filter (λ (y : History). is_of group y.member) kept.prepared x a is))
          | inr b ↦
              in_second runs.prepared others x
              (to_filter (λ (y : History). is_of group y.member) kept.others x b is)
        ]

    abbrev own : List Member
    own = filter (is_of group) (members s)

    is_own : (member : Member) → In member (members s) → is_of group member ≡ true → (tx : ℕ) → member.tx ≡ tx
        → is_among own tx ≡ true
    is_own member at is tx same =
        any_in (is_tx tx) own member (to_filter (is_of group) (members s) member at is)
        (ap (λ n. n == tx) same ∙ number_itself tx)

    own_is : (tx : ℕ) → is_among own tx ≡ true
        → (y : History) × In y (kept.prepared ++ kept.others) × (is_of group y.member ≡ true) × (y.member.tx ≡ tx)
    own_is tx is =
        let m = any_some (is_tx tx) own is in
        let f = of_filter (is_of group) (members s) m.0 m.1 in
        let y = member_history forms laws s kept m.0 f.0 in (
          y.0,
          y.1,
          ap (is_of group) (sym y.2) ∙ f.1,
          ap (λ (n : Member). n.tx) (sym y.2) ∙ same_number m.0.tx tx m.2,
        )

    -- a joint answer of one of the group is of such alone
    whole : (joint : JointAnswer) → In joint s.joints → is_joint_of own joint ≡ true → (ask : Ask)
        → AsksOf (kept.committed ++ (kept.prepared ++ kept.others)) ask → In (ask_member ask) joint.members
        → AsksOf did ask
    whole joint jt is ask a mt =
        let m = any_some (λ (m : JointMember). is_among own m.tx) joint.members is in
        let y = own_is m.0.tx m.2 in
        let tx : a.0.member.tx ≡ ask.tx = sym (of_own a.0 ask a.2) in
        elim (in_either kept.committed (kept.prepared ++ kept.others) a.0 a.1) [
          | inl c ↦
              absurd (kept.joined.parted joint jt m.0 (ask_member ask) m.1 mt y.0 a.0 y.1 c y.3 tx)
          | inr b ↦
              let same = kept.joined.one_group joint jt (ask_member ask) m.0 mt m.1 a.0 y.0 b y.1 tx y.3 in
              (a.0, in_did a.0 b (ap (λ n. n == group) same ∙ y.2), a.2)
        ]

    its_right : JointsRight (AsksOf did) (filter (is_joint_of own) s.joints)
    its_right =
        right_part (AsksOf (kept.committed ++ (kept.prepared ++ kept.others))) (AsksOf did) (is_joint_of own) s.joints
        (λ ask a. (
          a.0,
          in_second kept.committed (kept.prepared ++ kept.others) a.0 (did_in a.0 a.1).0,
          a.2,
        )) whole
        (λ joint jt ask a mt.
        let d = did_in a.0 a.1 in
        any_in (λ (m : JointMember). is_among own m.tx) joint.members (ask_member ask) mt
        (is_own a.0.member (history_member forms laws s kept a.0 d.0) d.1 ask.tx (sym (of_own a.0 ask a.2))))
        kept.joined.right

    of_own_group : (joint : JointAnswer) → Contains (live_joints s) joint → IsOfGroup s group joint
        → In joint (filter (is_joint_of own) s.joints)
    of_own_group joint live of =
        let l = live_in joint live in
        let m = any_some (λ (m : JointMember). is_among (members s) m.tx) joint.members l.1 in
        let r = of m.0 (in_contains joint.members m.0 m.1) in
        to_filter (is_joint_of own) s.joints joint l.0
        (any_in (λ (m : JointMember). is_among own m.tx) joint.members m.0 m.1
        (is_own r.0 (contains_in (members s) r.0 r.1) (ap (λ n. n == group) r.3 ∙ number_itself group) m.0.tx r.2))

    group_answers : GroupAnswers s group
    group_answers =
        record {
          runs = runs;
          others = others;
          of_others = are_others forms laws s kept group;
          good = λ joint live of.
              good_over did seen asks_are (filter (is_joint_of own) s.joints) its_right s.opening.tables grounded joint
              (of_own_group joint live of);
        }

pub reached_answers : {F : Type 0} (forms : Forms F) (laws : Laws) (s : State) → AreFaithful forms s.opening
    → IsReached forms s → (group : ℕ) → GroupAnswers s group
reached_answers forms laws s faithful reached group =
    group_answers forms laws s (reached_kept forms laws s faithful reached) group

pub reached_groups : {F : Type 0} (forms : Forms F) (laws : Laws) (s : State) → AreFaithful forms s.opening
    → IsReached forms s → HaveGroups s
reached_groups forms laws s faithful reached =
    have_groups forms laws s (reached_kept forms laws s faithful reached)
