-- Joint answers that are whole and good, over some entangled statements that were answered.
use Rattle.std.proofs.Common.{◌≡◌, ◌⊎◌, Bool, true, false, List, [], ◌∷◌, ◌++◌, refl, sym, ap, subst, ◌∙◌, inl, inr}
use Rattle.std.proofs.Common.{cond, not, append_assoc, ℕ, append-nil}
use Rattle.std.specs.List.{filter}
use Rattle.ent_semantics.specs.declared.answer.Fact.{Fact}
use Rattle.ent_semantics.specs.declared.book.JointAnswer.{JointAnswer}
use Rattle.ent_semantics.specs.declared.book.Member.{Member as JointMember}
use Rattle.ent_semantics.specs.Book.{all_members, AreApart}
use Rattle.ent_semantics.specs.Database.{nothing_bound}
use Rattle.ent_protocol.specs.Rollback.{is_among, is_joint_of}
use Rattle.ent_protocol.specs.State.{Member}
use Rattle.ent_protocol_laws.specs.History.{History}
use Rattle.ent_lists.specs.Elements.{pairs_by, In, Pairs, in_first, in_second, in_either, of_filter, to_filter}
use Rattle.ent_lists.specs.Elements.{pairs_joined, pairs_first, pairs_second, pairs_across, any_none, any_some, clash}
use Rattle.ent_lists.specs.Elements.{turned, in_flat, to_flat}
use Rattle.ent_protocol_laws.proofs.Asks.{Ask, ask_member, ask_heads, ask_posts, history_asks, asks_tx}

abbrev pub OtherTx : JointMember → JointMember → Type 0
OtherTx one other = one.tx ≡ other.tx → ⊥

-- the entangled statements that some members passed
abbrev pub AsksOf : List History → Ask → Type 0
AsksOf all ask = (x : History) × In x all × In ask (history_asks x)

pub record JointsRight (A : Ask → Type 0) (joints : List JointAnswer) : Type 0 where
  pub up : (ask : Ask) → A ask → (joint : JointAnswer) × In joint joints × In (ask_member ask) joint.members
  pub down : (joint : JointAnswer) → In joint joints → (member : JointMember) → In member joint.members
      → (ask : Ask) × A ask × (member ≡ ask_member ask)
  pub once : Pairs AreApart (all_members joints)
  pub some : (joint : JointAnswer) → In joint joints → joint.members ≡ [] → ⊥
  pub distinct : (joint : JointAnswer) → In joint joints → Pairs OtherTx joint.members
  pub met : (joint : JointAnswer) → In joint joints → (ask : Ask) → A ask → In (ask_member ask) joint.members
      → (post : Fact) → In post (ask_posts ask)
      → (other : Ask) × A other × In (ask_member other) joint.members × In post (ask_heads other)

pub right_same : (A B : Ask → Type 0) (joints : List JointAnswer) → ((ask : Ask) → A ask → B ask)
    → ((ask : Ask) → B ask → A ask) → JointsRight A joints → JointsRight B joints
right_same A B joints f g right =
    record {
      up = λ a b. right.up a (g a b);
      down = λ j jt m mt. let r = right.down j jt m mt in (r.0, f r.0 r.1, r.2);
      once = right.once;
      some = right.some;
      distinct = right.distinct;
      met = λ j jt a b at post pt. let r = right.met j jt a (g a b) at post pt in (r.0, f r.0 r.1, r.2, r.3);
    }

-- the members of a joint answer
abbrev pub members_of : JointAnswer → List JointMember
members_of joint = joint.members

members_filtered : (p : JointAnswer → Bool) (joints : List JointAnswer) (m : JointMember)
    → In m (all_members (filter p joints)) → In m (all_members joints)
members_filtered p joints m at =
    let r = in_flat members_of (filter p joints) m at in
    to_flat members_of joints r.0 m (of_filter p joints r.0 r.1).0 r.2

once_filtered : (p : JointAnswer → Bool) (joints : List JointAnswer) → Pairs AreApart (all_members joints)
    → Pairs AreApart (all_members (filter p joints))
once_filtered p [] pairs = tt
once_filtered p (j ∷ js) pairs =
    by (p j) (once_filtered p js (pairs_second AreApart j.members (all_members js) pairs))
  where
    by : (b : Bool) → Pairs AreApart (all_members (filter p js))
        → Pairs AreApart (all_members (cond b (j ∷ filter p js) (filter p js)))
    by true rest =
        pairs_joined AreApart j.members (all_members (filter p js))
        (pairs_first AreApart j.members (all_members js) pairs) rest
        (λ m n mt nt. pairs_across AreApart j.members (all_members js) m n pairs mt (members_filtered p js n nt))
    by false rest = rest

-- a part of the statements, with the joint answers that are all theirs
pub right_part : (A B : Ask → Type 0) (p : JointAnswer → Bool) (joints : List JointAnswer)
    → ((ask : Ask) → B ask → A ask)
    → ((joint : JointAnswer) → In joint joints → p joint ≡ true → (ask : Ask) → A ask
    → In (ask_member ask) joint.members → B ask)
    → ((joint : JointAnswer) → In joint joints → (ask : Ask) → B ask → In (ask_member ask) joint.members
    → p joint ≡ true)
    → JointsRight A joints → JointsRight B (filter p joints)
right_part A B p joints f whole theirs right =
    record {
      up = λ a b.
          let r = right.up a (f a b) in
          (r.0, to_filter p joints r.0 r.1 (theirs r.0 r.1 a b r.2), r.2);
      down = λ j jt m mt.
          let at = of_filter p joints j jt in
          let r = right.down j at.0 m mt in
          (r.0, whole j at.0 at.1 r.0 r.1 (subst (λ x. In x j.members) r.2 mt), r.2);
      once = once_filtered p joints right.once;
      some = λ j jt. right.some j (of_filter p joints j jt).0;
      distinct = λ j jt. right.distinct j (of_filter p joints j jt).0;
      met = λ j jt a b mt post pt.
          let at = of_filter p joints j jt in
          let r = right.met j at.0 a (f a b) mt post pt in
          (r.0, whole j at.0 at.1 r.0 r.1 r.2, r.2, r.3);
    }

joined_members : (js ks : List JointAnswer) → all_members (js ++ ks) ≡ all_members js ++ all_members ks
joined_members [] ks = refl
joined_members (j ∷ js) ks =
    ap (λ more. j.members ++ more) (joined_members js ks)
    ∙ sym (append_assoc j.members (all_members js) (all_members ks))

-- two parts together
pub right_joined : (A B : Ask → Type 0) (js ks : List JointAnswer)
    → ((one other : Ask) → A one → B other → AreApart (ask_member one) (ask_member other))
    → JointsRight A js → JointsRight B ks → JointsRight (λ ask. A ask ⊎ B ask) (js ++ ks)
right_joined A B js ks apart left right =
    record {
      up = λ a at. elim at [
        | inl x ↦ let r = left.up a x in (r.0, in_first js ks r.0 r.1, r.2)
        | inr y ↦ let r = right.up a y in (r.0, in_second js ks r.0 r.1, r.2)
      ];
      down = λ j jt m mt. elim (in_either js ks j jt) [
        | inl x ↦ let r = left.down j x m mt in (r.0, inl r.1, r.2)
        | inr y ↦ let r = right.down j y m mt in (r.0, inr r.1, r.2)
      ];
      once = subst (Pairs AreApart) (sym (joined_members js ks))
          (pairs_joined AreApart (all_members js) (all_members ks) left.once right.once (λ m n mt nt.
          let j = in_flat members_of js m mt in
          let k = in_flat members_of ks n nt in
          let a = left.down j.0 j.1 m j.2 in
          let b = right.down k.0 k.1 n k.2 in
          subst (λ x. AreApart x n) (sym a.2) (subst (AreApart (ask_member a.0)) (sym b.2) (apart a.0 b.0 a.1 b.1))));
      some = λ j jt. elim (in_either js ks j jt) [
        | inl x ↦ left.some j x
        | inr y ↦ right.some j y
      ];
      distinct = λ j jt. elim (in_either js ks j jt) [
        | inl x ↦ left.distinct j x
        | inr y ↦ right.distinct j y
      ];
      met = λ j jt a at mt post pt. elim (in_either js ks j jt) [
        | inl x ↦
            let own : A a = elim at [
              | inl h ↦ h
              | inr h ↦
                  let r = left.down j x (ask_member a) mt in
                  absurd (apart r.0 a r.1 h (ap (λ (m : JointMember). m.tx) (sym r.2))
                  (ap (λ (m : JointMember). m.place) (sym r.2)))
            ] in
            let r = left.met j x a own mt post pt in
            (r.0, inl r.1, r.2, r.3)
        | inr y ↦
            let own : B a = elim at [
              | inr h ↦ h
              | inl h ↦
                  let r = right.down j y (ask_member a) mt in
                  absurd (apart a r.0 h r.1 (ap (λ (m : JointMember). m.tx) r.2)
                  (ap (λ (m : JointMember). m.place) r.2))
            ] in
            let r = right.met j y a own mt post pt in
            (r.0, inr r.1, r.2, r.3)
      ];
    }

-- a joint answer alone
pub right_one : (A : Ask → Type 0) (joint : JointAnswer)
    → ((ask : Ask) → A ask → In (ask_member ask) joint.members)
    → ((member : JointMember) → In member joint.members → (ask : Ask) × A ask × (member ≡ ask_member ask))
    → Pairs OtherTx joint.members → (joint.members ≡ [] → ⊥)
    → ((ask : Ask) → A ask → (post : Fact) → In post (ask_posts ask)
    → (other : Ask) × A other × In (ask_member other) joint.members × In post (ask_heads other))
    → JointsRight A (joint ∷ [])
right_one A joint up down apart some met =
    record {
      up = λ ask a. (joint, inl refl, up ask a);
      down = λ j jt m mt. down m (subst (λ (x : JointAnswer). In m x.members) (only j jt) mt);
      once = subst (Pairs AreApart) (sym (append-nil joint.members))
          (pairs_by OtherTx AreApart joint.members (λ a b h e. absurd (h e)) apart);
      some = λ j jt e. some (ap (λ (x : JointAnswer). x.members) (sym (only j jt)) ∙ e);
      distinct = λ j jt. subst (λ (x : JointAnswer). Pairs OtherTx x.members) (sym (only j jt)) apart;
      met = λ j jt ask a mt post pt.
          let r = met ask a post pt in (
            r.0,
            r.1,
            subst (λ (x : JointAnswer). In (ask_member r.0) x.members) (sym (only j jt)) r.2,
            r.3,
          );
    }
  where
    only : (j : JointAnswer) → In j (joint ∷ []) → j ≡ joint
    only j (inl same) = same
    only j (inr bad) = absurd bad

-- ---- joint answers of committed transactions and of members

-- members of one joint answer are of one group
abbrev pub OneGroup : List History → List JointAnswer → Type 0
OneGroup all joints =
    (joint : JointAnswer) → In joint joints → (one other : JointMember) → In one joint.members
    → In other joint.members → (x y : History) → In x all → In y all → x.member.tx ≡ one.tx
    → y.member.tx ≡ other.tx → x.member.group ≡ y.member.group

-- no joint answer is of a member and of a committed transaction
abbrev pub AreParted : List History → List History → List JointAnswer → Type 0
AreParted committed all joints =
    (joint : JointAnswer) → In joint joints → (one other : JointMember) → In one joint.members
    → In other joint.members → (x y : History) → In x all → In y committed → x.member.tx ≡ one.tx
    → y.member.tx ≡ other.tx → ⊥

pub record JointsStand (committed all : List History) (joints : List JointAnswer) : Type 0 where
  pub right : JointsRight (AsksOf (committed ++ all)) joints
  pub one_group : OneGroup all joints
  pub parted : AreParted committed all joints

-- a member now, and what it was
pub record Was (before : List History) (y : History) : Type 0 where
  pub old : History
  pub at : In old before
  pub asks : history_asks y ≡ history_asks old
  pub same_tx : y.member.tx ≡ old.member.tx
  pub same_group : y.member.group ≡ old.member.group

pub unchanged : {before : List History} (y : History) → In y before → Was before y
unchanged y at = record { old = y; at = at; asks = refl; same_tx = refl; same_group = refl }

pub of_own : (x : History) (ask : Ask) → In ask (history_asks x) → ask.tx ≡ x.member.tx
of_own x ask at = asks_tx x.member.tx 1 x.operations nothing_bound ask at

-- members that pass nothing
pub stand_moved : (committed before now : List History) (joints : List JointAnswer)
    → ((y : History) → In y now → Was before y)
    → ((x : History) → In x before → (y : History) × In y now × (history_asks y ≡ history_asks x))
    → JointsStand committed before joints → JointsStand committed now joints
stand_moved committed before now joints was is_now stand =
    record {
      right = right_same (AsksOf (committed ++ before)) (AsksOf (committed ++ now)) joints
          (λ ask a. elim (in_either committed before a.0 a.1) [
            | inl c ↦ (a.0, in_first committed now a.0 c, a.2)
            | inr b ↦ let z = is_now a.0 b in (z.0, in_second committed now z.0 z.1, subst (In ask) (sym z.2) a.2)
          ])
          (λ ask a. elim (in_either committed now a.0 a.1) [
            | inl c ↦ (a.0, in_first committed before a.0 c, a.2)
            | inr b ↦
                let w = was a.0 b in
                (w.old, in_second committed before w.old w.at, subst (In ask) w.asks a.2)
          ]) stand.right;
      one_group = λ joint jt one other ot pt x y xt yt e f.
          let u = was x xt in
          let v = was y yt in
          u.same_group
          ∙ stand.one_group joint jt one other ot pt u.old v.old u.at v.at (sym u.same_tx ∙ e) (sym v.same_tx ∙ f)
          ∙ sym v.same_group;
      parted = λ joint jt one other ot pt x y xt yt e f.
          let u = was x xt in
          stand.parted joint jt one other ot pt u.old y u.at yt (sym u.same_tx ∙ e) f;
    }

-- members that passed nothing, where there was none
pub stand_started : (committed before now : List History) (joints : List JointAnswer)
    → ((x : History) → In x before → ⊥) → ((y : History) → In y now → history_asks y ≡ [])
    → ((x y : History) → In x committed → In y now → y.member.tx ≡ x.member.tx → ⊥)
    → JointsStand committed before joints → JointsStand committed now joints
stand_started committed before now joints none passed apart stand =
    record {
      right = right_same (AsksOf (committed ++ before)) (AsksOf (committed ++ now)) joints
          (λ ask a. elim (in_either committed before a.0 a.1) [
            | inl c ↦ (a.0, in_first committed now a.0 c, a.2)
            | inr b ↦ absurd (none a.0 b)
          ])
          (λ ask a. elim (in_either committed now a.0 a.1) [
            | inl c ↦ (a.0, in_first committed before a.0 c, a.2)
            | inr b ↦ absurd (subst (In ask) (passed a.0 b) a.2)
          ]) stand.right;
      one_group = λ joint jt one other ot pt x y xt yt e f. absurd (no_one joint jt one ot x xt e);
      parted = λ joint jt one other ot pt x y xt yt e f. no_one joint jt one ot x xt e;
    }
  where
    no_one : (joint : JointAnswer) → In joint joints → (one : JointMember) → In one joint.members
        → (x : History) → In x now → x.member.tx ≡ one.tx → ⊥
    no_one joint jt one ot x xt e =
        let b = stand.right.down joint jt one ot in
        let y = b.1.0 in
        elim (in_either committed before y b.1.1) [
          | inl c ↦ apart y x c xt (e ∙ ap (λ (n : JointMember). n.tx) b.2 ∙ of_own y b.0 b.1.2)
          | inr bad ↦ none y bad
        ]

-- some of the members commit, with all of their groups
pub stand_committed : (committed all go stay : List History) (joints : List JointAnswer)
    → ((x : History) → In x all → In x go ⊎ In x stay)
    → ((x : History) → In x go → In x all) → ((x : History) → In x stay → In x all)
    → ((x y : History) → In x go → In y stay → y.member.group ≡ x.member.group → ⊥)
    → JointsStand committed all joints → JointsStand (committed ++ go) stay joints
stand_committed committed all go stay joints parts go_in stay_in apart stand =
    record {
      right = right_same (AsksOf (committed ++ all)) (AsksOf ((committed ++ go) ++ stay)) joints
          (λ ask a. elim (in_either committed all a.0 a.1) [
            | inl c ↦ (a.0, in_first (committed ++ go) stay a.0 (in_first committed go a.0 c), a.2)
            | inr b ↦ elim (parts a.0 b) [
              | inl g ↦ (a.0, in_first (committed ++ go) stay a.0 (in_second committed go a.0 g), a.2)
              | inr h ↦ (a.0, in_second (committed ++ go) stay a.0 h, a.2)
            ]
          ])
          (λ ask a. elim (in_either (committed ++ go) stay a.0 a.1) [
            | inl c ↦ elim (in_either committed go a.0 c) [
              | inl g ↦ (a.0, in_first committed all a.0 g, a.2)
              | inr h ↦ (a.0, in_second committed all a.0 (go_in a.0 h), a.2)
            ]
            | inr b ↦ (a.0, in_second committed all a.0 (stay_in a.0 b), a.2)
          ]) stand.right;
      one_group = λ joint jt one other ot pt x y xt yt e f.
          stand.one_group joint jt one other ot pt x y (stay_in x xt) (stay_in y yt) e f;
      parted = λ joint jt one other ot pt x y xt yt e f. elim (in_either committed go y yt) [
        | inl c ↦ stand.parted joint jt one other ot pt x y (stay_in x xt) c e f
        | inr g ↦
            apart y x g xt (stand.one_group joint jt one other ot pt x y (stay_in x xt) (go_in y g) e f)
      ];
    }

-- some of the members leave, with all of their groups
module _ (committed all stay : List History) (gone : List Member) (joints : List JointAnswer)
    (stay_in : (x : History) → In x stay → In x all × (is_among gone x.member.tx ≡ false))
    (to_stay : (x : History) → In x all → is_among gone x.member.tx ≡ false → In x stay)
    (closed : (x y : History) → In x all → In y all → x.member.group ≡ y.member.group
    → is_among gone x.member.tx ≡ true → is_among gone y.member.tx ≡ true)
    (of_members : (y : History) → In y committed → is_among gone y.member.tx ≡ false)
    (stand : JointsStand committed all joints) where
  -- a joint answer of one that leaves is of such alone
  joint_gone : (joint : JointAnswer) → In joint joints → (x : History) → In x (committed ++ all) → (ask : Ask)
      → In ask (history_asks x) → In (ask_member ask) joint.members
      → is_joint_of gone joint ≡ is_among gone x.member.tx
  joint_gone joint jt x xt ask at mt = by (is_joint_of gone joint) refl
    where
      by : (b : Bool) → is_joint_of gone joint ≡ b → b ≡ is_among gone x.member.tx
      by false is =
          sym (ap (is_among gone) (sym (of_own x ask at))
          ∙ any_none (λ (m : JointMember). is_among gone m.tx) joint.members is (ask_member ask) mt)
      by true is =
          let m = any_some (λ (m : JointMember). is_among gone m.tx) joint.members is in
          let b = stand.right.down joint jt m.0 m.1 in
          let y = b.1.0 in
          let tx : y.member.tx ≡ m.0.tx =
          sym (of_own y b.0 b.1.2) ∙ ap (λ (n : JointMember). n.tx) (sym b.2) in
          elim (in_either committed all y b.1.1) [
            | inl c ↦ clash (is_among gone y.member.tx) (ap (is_among gone) tx ∙ m.2) (of_members y c)
            | inr yt ↦ elim (in_either committed all x xt) [
              | inl c ↦
                  absurd (stand.parted joint jt m.0 (ask_member ask) m.1 mt y x yt c tx (sym (of_own x ask at)))
              | inr live ↦
                  sym (closed y x yt live
                  (stand.one_group joint jt m.0 (ask_member ask) m.1 mt y x yt live tx (sym (of_own x ask at)))
                  (ap (is_among gone) tx ∙ m.2))
            ]
          ]

  in_before : (x : History) → In x (committed ++ stay) → In x (committed ++ all)
  in_before x at =
      elim (in_either committed stay x at) [
        | inl c ↦ in_first committed all x c
        | inr b ↦ in_second committed all x (stay_in x b).0
      ]

  stays_so : (x : History) → In x (committed ++ stay) → is_among gone x.member.tx ≡ false
  stays_so x at =
      elim (in_either committed stay x at) [
        | inl c ↦ of_members x c
        | inr b ↦ (stay_in x b).1
      ]

  goes_on : (x : History) → In x (committed ++ all) → is_among gone x.member.tx ≡ false → In x (committed ++ stay)
  goes_on x at is =
      elim (in_either committed all x at) [
        | inl c ↦ in_first committed stay x c
        | inr b ↦ in_second committed stay x (to_stay x b is)
      ]

  pub stand_left : JointsStand committed stay (filter (λ joint. not (is_joint_of gone joint)) joints)
  stand_left =
      record {
        right = right_part (AsksOf (committed ++ all)) (AsksOf (committed ++ stay))
            (λ joint. not (is_joint_of gone joint)) joints (λ ask a. (a.0, in_before a.0 a.1, a.2))
            (λ joint jt is ask a mt. (
              a.0,
              goes_on a.0 a.1
                  (sym (joint_gone joint jt a.0 a.1 ask a.2 mt) ∙ turned (is_joint_of gone joint) is),
              a.2,
            ))
            (λ joint jt ask a mt.
            ap not (joint_gone joint jt a.0 (in_before a.0 a.1) ask a.2 mt ∙ stays_so a.0 a.1)) stand.right;
        one_group = λ joint jt one other ot pt x y xt yt e f.
            stand.one_group joint (of_filter (λ j. not (is_joint_of gone j)) joints joint jt).0 one other ot pt x y
            (stay_in x xt).0 (stay_in y yt).0 e f;
        parted = λ joint jt one other ot pt x y xt yt e f.
            stand.parted joint (of_filter (λ j. not (is_joint_of gone j)) joints joint jt).0 one other ot pt x y
            (stay_in x xt).0 yt e f;
      }

-- ---- members are answered together

-- a member now, and what it was: it has passed some entangled statements more, and its group has another label
pub record Went (N : Ask → Type 0) (label : ℕ → ℕ) (before : List History) (y : History) : Type 0 where
  pub old : History
  pub at : In old before
  pub same_tx : y.member.tx ≡ old.member.tx
  pub group : y.member.group ≡ label old.member.group
  pub asks : (ask : Ask) → In ask (history_asks y) → In ask (history_asks old) ⊎ N ask

module _ (committed before now : List History) (joints : List JointAnswer) (new : JointAnswer) (N : Ask → Type 0)
    (label : ℕ → ℕ) (went : (y : History) → In y now → Went N label before y)
    (on : (x : History) → In x before → (y : History) × In y now
    × ((ask : Ask) → In ask (history_asks x) → In ask (history_asks y)))
    (passed : (ask : Ask) → N ask → AsksOf now ask)
    (apart : (one other : Ask) → AsksOf (committed ++ before) one → N other
    → AreApart (ask_member one) (ask_member other))
    (one_label : (one other : JointMember) → In one new.members → In other new.members → (x y : History)
    → In x before → In y before → x.member.tx ≡ one.tx → y.member.tx ≡ other.tx
    → label x.member.group ≡ label y.member.group)
    (live : (other : JointMember) → In other new.members → (y : History) → In y committed
    → y.member.tx ≡ other.tx → ⊥)
    (new_right : JointsRight N (new ∷ [])) (stand : JointsStand committed before joints) where
  right_now : JointsRight (AsksOf (committed ++ now)) (joints ++ new ∷ [])
  right_now =
      right_same (λ ask. AsksOf (committed ++ before) ask ⊎ N ask) (AsksOf (committed ++ now)) (joints ++ new ∷ [])
      (λ ask a. elim a [
        | inl h ↦ elim (in_either committed before h.0 h.1) [
          | inl c ↦ (h.0, in_first committed now h.0 c, h.2)
          | inr b ↦ let z = on h.0 b in (z.0, in_second committed now z.0 z.1, z.2 ask h.2)
        ]
        | inr n ↦ let z = passed ask n in (z.0, in_second committed now z.0 z.1, z.2)
      ])
      (λ ask a. elim (in_either committed now a.0 a.1) [
        | inl c ↦ inl (a.0, in_first committed before a.0 c, a.2)
        | inr b ↦
            let w = went a.0 b in
            elim (w.asks ask a.2) [
              | inl p ↦ inl (w.old, in_second committed before w.old w.at, p)
              | inr n ↦ inr n
            ]
      ])
      (right_joined (AsksOf (committed ++ before)) N joints (new ∷ []) apart stand.right new_right)

  one_group_now : OneGroup now (joints ++ new ∷ [])
  one_group_now joint jt one other ot pt x y xt yt e f =
      let u = went x xt in
      let v = went y yt in
      let eu = sym u.same_tx ∙ e in
      let ev = sym v.same_tx ∙ f in
      u.group
      ∙ elim (in_either joints (new ∷ []) joint jt) [
        | inl a ↦ ap label (stand.one_group joint a one other ot pt u.old v.old u.at v.at eu ev)
        | inr b ↦ elim b [
          | inl same ↦ one_label one other (subst (λ (j : JointAnswer). In one j.members) same ot)
              (subst (λ (j : JointAnswer). In other j.members) same pt) u.old v.old u.at v.at eu ev
          | inr bad ↦ absurd bad
        ]
      ]
      ∙ sym v.group

  pub stand_joined : JointsStand committed now (joints ++ new ∷ [])
  stand_joined =
      record {
        right = right_now;
        one_group = one_group_now;
        parted = λ joint jt one other ot pt x y xt yt e f. elim (in_either joints (new ∷ []) joint jt) [
          | inl a ↦
              let u = went x xt in
              stand.parted joint a one other ot pt u.old y u.at yt (sym u.same_tx ∙ e) f
          | inr b ↦ elim b [
            | inl same ↦ live other (subst (λ (j : JointAnswer). In other j.members) same pt) y yt f
            | inr bad ↦ absurd bad
          ]
        ];
      }
