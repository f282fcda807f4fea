-- A group commits; members are taken out.
use Rattle.std.proofs.Common.{suc, length, ◌≡◌, ◌⊎◌, ℕ, Bool, true, false, not, List, ◌++◌, map, refl, sym, ap, subst}
use Rattle.std.proofs.Common.{◌∙◌, inl, inr, Some}
use Rattle.std.specs.List.{filter, list_any, filter_map}
use Rattle.std.proofs.lemmas.Simd.{map-map}
use Rattle.ent_semantics.specs.Database.{opening_database}
use Rattle.ent_semantics.specs.Serial.{numbered}
use Rattle.ent_semantics.specs.declared.book.Fated.{Fated}
use Rattle.ent_protocol.specs.Commit.{committing, committing_members, commit_fates, entry_of}
use Rattle.ent_protocol.specs.Job.{Job, Work, One, Joint}
use Rattle.ent_protocol.specs.Member.{is_of, is_single_of}
use Rattle.ent_protocol.specs.Rollback.{Cause, fated_by, is_among, goes_with, dormant_by, taken_out, put_back}
use Rattle.ent_protocol.specs.Run.{Forms}
use Rattle.ent_protocol.specs.State.{State, Submitted, Member, Dormant, members, by_number}
use Rattle.ent_protocol_laws.proofs.Left.{in_among}
use Rattle.ent_protocol_laws.proofs.Members.{among_in}
use Rattle.ent_protocol_laws.specs.History.{History}
use Rattle.ent_protocol_laws.specs.SerialState.{Follows, IsWhole}
use Rattle.ent_protocol_laws.specs.Faithful.{is_used}
use Rattle.ent_lists.specs.Elements.{In, Pairs, Same, of_all, to_all, all_joined, all_first, all_second, all_filtered}
use Rattle.ent_lists.specs.Elements.{of_filter, to_filter, in_either, in_first, any_none, of_map}
use Rattle.ent_lists.specs.Elements.{pairs_at, pairs_joined, pairs_filtered, pairs_across, clash, turned, pairs_map}
use Rattle.ent_lists.specs.Elements.{pairs_by, pairs_first, not_so, map_joined, map_filtered, same_filtered}
use Rattle.ent_lists.specs.Elements.{filter_same, in_second, same_number, differ}
use Rattle.ent_protocol_laws.proofs.Frame.{Laws, Apart, serial_joined}
use Rattle.ent_protocol_laws.proofs.Sound.{Fit, fit_turned, leaves, stays, HaveLeft, sound_committed, sound_taken}
use Rattle.ent_protocol_laws.proofs.Sound.{restored_used}
use Rattle.ent_protocol_laws.proofs.Outcomes.{SameAt}
use Rattle.ent_protocol_laws.proofs.Locks.{by_number_same, by_number_pairs}
use Rattle.ent_protocol_laws.proofs.Jobs.{OtherJob, jobs_moved, stays_as_is}
use Rattle.ent_protocol_laws.proofs.SerialKept.{Kept, PostedHolds, OtherMember, OtherFated, OtherDormant, member_of}
use Rattle.ent_protocol_laws.proofs.SerialKept.{entry_from}
use Rattle.ent_protocol_laws.proofs.SerialKept.{history_of, active_at, prepared_at, one_history, in_all}
use Rattle.ent_protocol_laws.proofs.Joints.{JointsStand, stand_committed, stand_left}
use Rattle.ent_protocol_laws.proofs.Fates.{of_dormant, dormant_pairs, of_commit, to_commit, commit_pairs, of_fated}
use Rattle.ent_protocol_laws.proofs.Fates.{fated_pairs, fate_or_dormant}

module _ {F : Type 0} (forms : Forms F) (laws : Laws) (s : State) (kept : Kept forms s) where
  abbrev all : List History
  all = kept.prepared ++ kept.others

  -- of two in it, one that leaves and one that stays are of two groups, or are one
  pub fit_at : (x y : History) → In x all → In y all → (x ≡ y) ⊎ Fit x y
  fit_at x y at bt = pairs_at Fit fit_turned all x y kept.sound.fit at bt

  -- a committed transaction isn't among members
  pub committed_stays : (gone : List Member) → ((m : Member) → In m gone → In m (members s)) → (y : History)
      → In y kept.committed → is_among gone y.member.tx ≡ false
  committed_stays gone of_state y yt =
      not_so (is_among gone y.member.tx) (λ is.
      let m = among_in gone y.member.tx is in
      let f = kept.committed_fated y yt in
      elim (in_either s.prepared s.active m.0 (of_state m.0 m.1)) [
        | inl p ↦ kept.fated_not_prepared f.0 m.0 f.1 p (m.2 ∙ sym f.2)
        | inr q ↦ kept.fated_not_active f.0 m.0 f.1 q (m.2 ∙ sym f.2)
      ])

  -- ---- commit

  module _ (group : ℕ) (ready : list_any (is_of group) s.active ≡ false) (on : s.running ≡ false → ⊥) where
    abbrev gone : ℕ → Bool
    gone = is_among (committing_members s group)

    gone_is : (x : History) → In x kept.prepared → gone x.member.tx ≡ is_of group x.member
    gone_is x at = by (is_of group x.member) refl
      where
        by : (b : Bool) → is_of group x.member ≡ b → is_among (committing_members s group) x.member.tx ≡ b
        by true is =
            in_among (committing_members s group) x.member
            (to_filter (is_of group) s.prepared x.member (prepared_at forms s kept x at) is)
        by false is =
            not_so (is_among (committing_members s group) x.member.tx) (λ among.
            let r = among_in (committing_members s group) x.member.tx among in
            let f = of_filter (is_of group) s.prepared r.0 r.1 in
            let y = of_map member_of kept.prepared r.0 (subst (In r.0) (sym kept.of_prepared) f.0) in
            let same = one_history all x y.0 kept.sound.fit (in_first kept.prepared kept.others x at)
            (in_first kept.prepared kept.others y.0 y.1) (sym r.2 ∙ ap (λ (m : Member). m.tx) y.2) in
            clash (is_of group x.member) (ap (is_of group) (ap member_of same ∙ sym y.2) ∙ f.1) is)

    not_gone : (x : History) → In x kept.others → gone x.member.tx ≡ false
    not_gone x at =
        not_so (gone x.member.tx) (λ among.
        let r = among_in (committing_members s group) x.member.tx among in
        let f = of_filter (is_of group) s.prepared r.0 r.1 in
        let y = of_map member_of kept.prepared r.0 (subst (In r.0) (sym kept.of_prepared) f.0) in
        (pairs_across Fit kept.prepared kept.others y.0 x kept.sound.fit y.1 at).distinct
        (ap (λ (m : Member). m.tx) (sym y.2) ∙ r.2))

    of_group : (x : History) → In x all → gone x.member.tx ≡ true → x.member.group ≡ group
    of_group x at is =
        elim (in_either kept.prepared kept.others x at) [
          | inl a ↦ same_number x.member.group group (sym (gone_is x a) ∙ is)
          | inr b ↦ clash (gone x.member.tx) is (not_gone x b)
        ]

    not_of_group : (x : History) → In x all → gone x.member.tx ≡ false → x.member.group ≡ group → ⊥
    not_of_group x at is =
        elim (in_either kept.prepared kept.others x at) [
          | inl a ↦ differ x.member.group group (sym (gone_is x a) ∙ is)
          | inr b ↦ differ x.member.group group
              (any_none (is_of group) s.active ready x.member (active_at forms s kept x b))
        ]

    divided : (x y : History) → In x all → In y all → gone x.member.tx ≡ true → gone y.member.tx ≡ false
        → Apart x.member y.member
    divided x y at bt here there =
        elim (fit_at x y at bt) [
          | inl same ↦ clash (gone x.member.tx) here (ap (λ (h : History). gone h.member.tx) same ∙ there)
          | inr fit ↦ fit.groups (λ e. not_of_group y bt there (sym e ∙ of_group x at here))
        ]

    have_left : HaveLeft s.opening.tables kept.base kept.prepared kept.others s.tables s.changes gone
    have_left =
        sound_committed s.opening.tables laws kept.base kept.prepared kept.others s.tables s.changes kept.sound gone
        divided not_gone

    prepared_left : (p : Member → Bool) (q : ℕ → Bool)
        → ((x : History) → In x kept.prepared → q x.member.tx ≡ p x.member)
        → map member_of (filter (λ x. q x.member.tx) kept.prepared) ≡ filter p s.prepared
    prepared_left p q same =
        ap (map member_of) (filter_same (λ x. q x.member.tx) (λ x. p x.member) kept.prepared same)
        ∙ map_filtered member_of p kept.prepared ∙ ap (filter p) kept.of_prepared

    joined_commit : JointsStand (kept.committed ++ filter (leaves gone) kept.prepared)
        (filter (stays gone) kept.prepared ++ kept.others) s.joints
    joined_commit =
        stand_committed kept.committed all (filter (leaves gone) kept.prepared)
        (filter (stays gone) kept.prepared ++ kept.others) s.joints parts
        (λ x at. in_first kept.prepared kept.others x (of_filter (leaves gone) kept.prepared x at).0)
        (λ x at. (from_stay x at).0)
        (λ x y at bt same.
        let f = of_filter (leaves gone) kept.prepared x at in
        let g = from_stay y bt in
        not_of_group y g.0 g.1 (same ∙ of_group x (in_first kept.prepared kept.others x f.0) f.1)) kept.joined
      where
        parts : (x : History) → In x all
            → In x (filter (leaves gone) kept.prepared) ⊎ In x (filter (stays gone) kept.prepared ++ kept.others)
        parts x at =
            elim (in_either kept.prepared kept.others x at) [
              | inl a ↦ by (gone x.member.tx) refl a
              | inr b ↦ inr (in_second (filter (stays gone) kept.prepared) kept.others x b)
            ]
          where
            by : (c : Bool) → is_among (committing_members s group) x.member.tx ≡ c → In x kept.prepared
                → In x (filter (leaves gone) kept.prepared)
                ⊎ In x (filter (stays gone) kept.prepared ++ kept.others)
            by true is a = inl (to_filter (leaves gone) kept.prepared x a is)
            by false is a =
                inr (in_first (filter (stays gone) kept.prepared) kept.others x
                (to_filter (stays gone) kept.prepared x a (ap not is)))

        from_stay : (y : History) → In y (filter (stays gone) kept.prepared ++ kept.others)
            → In y all × (gone y.member.tx ≡ false)
        from_stay y yt =
            elim (in_either (filter (stays gone) kept.prepared) kept.others y yt) [
              | inl p ↦
                  let f = of_filter (stays gone) kept.prepared y p in
                  (in_first kept.prepared kept.others y f.0, turned (gone y.member.tx) f.1)
              | inr q ↦ (in_second kept.prepared kept.others y q, not_gone y q)
            ]

    committing_apart : Pairs OtherMember (committing_members s group)
    committing_apart =
        pairs_filtered OtherMember (is_of group) s.prepared (subst (Pairs OtherMember) kept.of_prepared
        (pairs_map member_of OtherMember kept.prepared (pairs_by Fit (λ x y. OtherMember x.member y.member)
        kept.prepared (λ x y fit. fit.distinct) (pairs_first Fit kept.prepared kept.others kept.sound.fit))))

    pub commits : Kept forms (committing s group)
    commits =
        record {
          committed = kept.committed ++ filter (leaves gone) kept.prepared;
          prepared = filter (stays gone) kept.prepared;
          others = kept.others;
          base = have_left.next;
          journal = map_joined entry_from kept.committed (filter (leaves gone) kept.prepared)
              ∙ (λ i. kept.journal i ++ entries i);
          of_prepared = prepared_left (λ m. not (is_of group m)) (λ tx. not (gone tx))
              (λ x at. ap not (gone_is x at));
          same = kept.same;
          settles = serial_joined s.opening.tables laws kept.committed (filter (leaves gone) kept.prepared)
              (opening_database s.opening) kept.base have_left.next kept.settles have_left.group;
          sound = have_left.left;
          whole = all_joined (IsWhole s.submitted) (kept.committed ++ filter (leaves gone) kept.prepared)
              (filter (stays gone) kept.prepared)
              (all_joined (IsWhole s.submitted) kept.committed (filter (leaves gone) kept.prepared)
              (all_first (IsWhole s.submitted) kept.committed kept.prepared kept.whole)
              (all_filtered (IsWhole s.submitted) (leaves gone) kept.prepared
              (all_second (IsWhole s.submitted) kept.committed kept.prepared kept.whole)))
              (all_filtered (IsWhole s.submitted) (stays gone) kept.prepared
              (all_second (IsWhole s.submitted) kept.committed kept.prepared kept.whole));
          follow = kept.follow;
          resolved = kept.resolved;
          faithful = kept.faithful;
          posted = kept.posted;
          jobs = kept.jobs;
          jobs_apart = kept.jobs_apart;
          idle = λ off. absurd (on off);
          active_apart = kept.active_apart;
          dormant = kept.dormant;
          not_prepared = λ d m dt mt e.
              kept.not_prepared d m dt (of_filter (λ x. not (is_of group x)) s.prepared m mt).0 e;
          not_active = kept.not_active;
          scripts = kept.scripts;
          joined = joined_commit;
          committed_fated = λ h ht.
              elim (in_either kept.committed (filter (leaves gone) kept.prepared) h ht) [
                | inl p ↦
                    let r = kept.committed_fated h p in (
                      r.0,
                      in_first s.fates (commit_fates (suc (length s.journal)) (committing_members s group)) r.0 r.1,
                      r.2,
                    )
                | inr q ↦
                    let f = of_filter (leaves gone) kept.prepared h q in
                    let r = to_commit (suc (length s.journal)) (committing_members s group) h.member
                    (to_filter (is_of group) s.prepared h.member (prepared_at forms s kept h f.0)
                    (sym (gone_is h f.0) ∙ f.1)) in (
                      r.0,
                      in_second s.fates (commit_fates (suc (length s.journal)) (committing_members s group)) r.0 r.1,
                      r.2,
                    )
              ];
          fated = pairs_joined OtherFated s.fates (commit_fates (suc (length s.journal)) (committing_members s group))
              kept.fated (commit_pairs (suc (length s.journal)) (committing_members s group) committing_apart)
              (λ f g ft gt e.
              let r = of_commit (suc (length s.journal)) (committing_members s group) g gt in
              kept.fated_not_prepared f r.0 ft (of_filter (is_of group) s.prepared r.0 r.1).0 (sym r.2 ∙ sym e));
          fated_not_prepared = λ f m ft mt e.
              let stay = of_filter (λ x. not (is_of group x)) s.prepared m mt in
              elim (in_either s.fates (commit_fates (suc (length s.journal)) (committing_members s group)) f ft) [
                | inl a ↦ kept.fated_not_prepared f m a stay.0 e
                | inr b ↦
                    let r = of_commit (suc (length s.journal)) (committing_members s group) f b in
                    let y = of_map member_of kept.prepared m (subst (In m) (sym kept.of_prepared) stay.0) in
                    clash (gone y.0.member.tx)
                    (ap (λ n. is_among (committing_members s group) n)
                    (ap (λ (z : Member). z.tx) (sym y.2) ∙ e ∙ r.2) ∙ in_among (committing_members s group) r.0 r.1)
                    (gone_is y.0 y.1 ∙ ap (is_of group) (sym y.2) ∙ turned (is_of group m) stay.1)
              ];
          fated_not_active = λ f m ft mt e.
              elim (in_either s.fates (commit_fates (suc (length s.journal)) (committing_members s group)) f ft) [
                | inl a ↦ kept.fated_not_active f m a mt e
                | inr b ↦
                    let r = of_commit (suc (length s.journal)) (committing_members s group) f b in
                    let y = history_of forms s kept m mt in
                    clash (gone y.0.member.tx)
                    (ap (λ n. is_among (committing_members s group) n)
                    (ap (λ (z : Member). z.tx) (sym y.2) ∙ e ∙ r.2) ∙ in_among (committing_members s group) r.0 r.1)
                    (not_gone y.0 y.1)
              ];
          fated_not_dormant = λ f d ft dt e.
              elim (in_either s.fates (commit_fates (suc (length s.journal)) (committing_members s group)) f ft) [
                | inl a ↦ kept.fated_not_dormant f d a dt e
                | inr b ↦
                    let r = of_commit (suc (length s.journal)) (committing_members s group) f b in
                    kept.not_prepared d r.0 dt (of_filter (is_of group) s.prepared r.0 r.1).0 (sym r.2 ∙ sym e)
              ];
          fated_scripts = all_joined (λ (f : Fated). (o : Submitted) × (numbered s.submitted f.tx ≡ Some o)) s.fates
              (commit_fates (suc (length s.journal)) (committing_members s group)) kept.fated_scripts
              (to_all (λ (f : Fated). (o : Submitted) × (numbered s.submitted f.tx ≡ Some o))
              (commit_fates (suc (length s.journal)) (committing_members s group)) (λ f ft.
              let r = of_commit (suc (length s.journal)) (committing_members s group) f ft in
              let y = of_map member_of kept.prepared r.0 (subst (In r.0) (sym kept.of_prepared)
              (of_filter (is_of group) s.prepared r.0 r.1).0) in
              let w = of_all (IsWhole s.submitted) kept.prepared y.0
              (all_second (IsWhole s.submitted) kept.committed kept.prepared kept.whole) y.1 in (
                w.own,
                ap (numbered s.submitted) (r.2 ∙ ap (λ (z : Member). z.tx) y.2) ∙ w.submitted,
              )));
        }
      where
        entries : map entry_from (filter (leaves gone) kept.prepared) ≡ map entry_of (committing_members s group)
        entries =
            sym (map-map entry_of member_of (filter (leaves gone) kept.prepared))
            ∙ ap (map entry_of) (prepared_left (is_of group) gone gone_is)

  -- ---- members are taken out

  module _ (gone : List Member) (cause : Cause) (apart_members : Pairs (λ (a b : Member). a.tx ≡ b.tx → ⊥) gone)
      (of_state : (m : Member) → In m gone → In m (members s))
      (parted : (x y : History) → In x all → In y all → is_among gone x.member.tx ≡ true
      → is_among gone y.member.tx ≡ false → Apart x.member y.member)
      (closed : (x y : History) → In x all → In y all → x.member.group ≡ y.member.group
      → is_among gone x.member.tx ≡ true → is_among gone y.member.tx ≡ true) where
    abbrev out : Member → Bool
    out m = not (is_among gone m.tx)

    goes_one : (job : Job) (tx : ℕ) → goes_with gone job ≡ false → is_single_of tx job ≡ true
        → is_among gone tx ≡ false
    goes_one job tx stay is = by job.work stay is
      where
        by : (w : Work) → goes_with gone (record { work = w; tables = job.tables }) ≡ false
            → is_single_of tx (record { work = w; tables = job.tables }) ≡ true → is_among gone tx ≡ false
        by (One single) g h = ap (is_among gone) (sym (same_number single.tx tx h)) ∙ g
        by (Joint asked) g h = cc (g)

    same_used : (m : Member) → In m s.active → is_among gone m.tx ≡ false
        → SameAt m.uses s.tables (put_back (filter (λ c. is_among gone c.tx) s.changes) s.tables)
    same_used m mt is table used =
        let x = history_of forms s kept m mt in
        sym (restored_used s.opening.tables laws kept.base kept.prepared kept.others s.tables s.changes kept.sound
        (is_among gone) parted x.0 (in_all forms s kept x.0 x.1)
        (ap (λ (y : Member). is_among gone y.tx) (sym x.2) ∙ is) table
        (subst (λ (y : Member). is_used y.uses table ≡ true) x.2 used))

    from_gone : (d : Dormant) → In d (filter_map (dormant_by s.submitted cause) (by_number (λ (m : Member). m.tx) gone))
        → (m : Member) × In m gone × (d.tx ≡ m.tx)
    from_gone d dt =
        let r = of_dormant s.submitted cause (by_number (λ (m : Member). m.tx) gone) d dt in
        (r.0, (by_number_same (λ (m : Member). m.tx) gone r.0).0 r.1, r.2)

    -- a member that stays isn't one that goes to the dormant list
    not_gone_dormant : (d : Dormant) (m : Member)
        → In d (filter_map (dormant_by s.submitted cause) (by_number (λ (m : Member). m.tx) gone))
        → out m ≡ true → m.tx ≡ d.tx → ⊥
    not_gone_dormant d m dt stay e =
        let r = from_gone d dt in
        clash (is_among gone m.tx) (ap (is_among gone) (e ∙ r.2) ∙ in_among gone r.0 r.1)
        (turned (is_among gone m.tx) stay)

    own_of : (m : Member) → In m (members s) → (own : Submitted) × (numbered s.submitted m.tx ≡ Some own)
    own_of m mt =
        elim (in_either s.prepared s.active m mt) [
          | inl a ↦
              let y = of_map member_of kept.prepared m (subst (In m) (sym kept.of_prepared) a) in
              let w = of_all (IsWhole s.submitted) kept.prepared y.0
              (all_second (IsWhole s.submitted) kept.committed kept.prepared kept.whole) y.1 in
              (w.own, ap (λ (z : Member). numbered s.submitted z.tx) y.2 ∙ w.submitted)
          | inr b ↦
              let y = history_of forms s kept m b in
              let w = of_all (Follows s.submitted) kept.others y.0 kept.follow y.1 in
              (w.own, ap (λ (z : Member). numbered s.submitted z.tx) y.2 ∙ w.submitted)
        ]

    dormant_apart : (d e : Dormant) → In d s.dormant
        → In e (filter_map (dormant_by s.submitted cause) (by_number (λ (m : Member). m.tx) gone)) → OtherDormant d e
    dormant_apart d e dt et same =
        let r = from_gone e et in
        elim (in_either s.prepared s.active r.0 (of_state r.0 r.1)) [
          | inl a ↦ kept.not_prepared d r.0 dt a (sym r.2 ∙ sym same)
          | inr b ↦ kept.not_active d r.0 dt b (sym r.2 ∙ sym same)
        ]

    abbrev gone_fated : List Fated
    gone_fated = filter_map (fated_by s.submitted cause) (by_number (λ (m : Member). m.tx) gone)

    gone_apart : Pairs OtherMember (by_number (λ (m : Member). m.tx) gone)
    gone_apart = by_number_pairs (λ (m : Member). m.tx) OtherMember (λ a b h e. h (sym e)) gone apart_members

    fated_from : (f : Fated) → In f gone_fated → (m : Member) × In m gone × (f.tx ≡ m.tx)
    fated_from f ft =
        let r = of_fated s.submitted cause (by_number (λ (m : Member). m.tx) gone) f ft in
        (r.0, (by_number_same (λ (m : Member). m.tx) gone r.0).0 r.1, r.2)

    not_gone_fated : (f : Fated) (m : Member) → In f gone_fated → out m ≡ true → m.tx ≡ f.tx → ⊥
    not_gone_fated f m ft stay e =
        let r = fated_from f ft in
        clash (is_among gone m.tx) (ap (is_among gone) (e ∙ r.2) ∙ in_among gone r.0 r.1)
        (turned (is_among gone m.tx) stay)

    abbrev left_all : List History
    left_all = filter (stays (is_among gone)) kept.prepared ++ filter (stays (is_among gone)) kept.others

    from_left : (y : History) → In y left_all → In y all × (is_among gone y.member.tx ≡ false)
    from_left y yt =
        elim (in_either (filter (stays (is_among gone)) kept.prepared)
        (filter (stays (is_among gone)) kept.others) y yt) [
          | inl p ↦
              let f = of_filter (stays (is_among gone)) kept.prepared y p in
              (in_first kept.prepared kept.others y f.0, turned (is_among gone y.member.tx) f.1)
          | inr q ↦
              let f = of_filter (stays (is_among gone)) kept.others y q in
              (in_second kept.prepared kept.others y f.0, turned (is_among gone y.member.tx) f.1)
        ]

    to_left : (y : History) → In y all → is_among gone y.member.tx ≡ false → In y left_all
    to_left y yt is =
        elim (in_either kept.prepared kept.others y yt) [
          | inl p ↦ in_first (filter (stays (is_among gone)) kept.prepared)
              (filter (stays (is_among gone)) kept.others) y
              (to_filter (stays (is_among gone)) kept.prepared y p (ap not is))
          | inr q ↦ in_second (filter (stays (is_among gone)) kept.prepared)
              (filter (stays (is_among gone)) kept.others) y
              (to_filter (stays (is_among gone)) kept.others y q (ap not is))
        ]

    pub takes_out : Kept forms (taken_out gone cause s)
    takes_out =
        record {
          committed = kept.committed;
          prepared = filter (stays (is_among gone)) kept.prepared;
          others = filter (stays (is_among gone)) kept.others;
          base = kept.base;
          journal = kept.journal;
          of_prepared = map_filtered member_of out kept.prepared ∙ ap (filter out) kept.of_prepared;
          same = subst (λ ms. Same ms (filter out s.active)) (sym (map_filtered member_of out kept.others))
              (same_filtered out (map member_of kept.others) s.active kept.same);
          settles = kept.settles;
          sound = sound_taken s.opening.tables laws kept.base kept.prepared kept.others s.tables s.changes kept.sound
              (is_among gone) parted;
          whole = all_joined (IsWhole s.submitted) kept.committed (filter (stays (is_among gone)) kept.prepared)
              (all_first (IsWhole s.submitted) kept.committed kept.prepared kept.whole)
              (all_filtered (IsWhole s.submitted) (stays (is_among gone)) kept.prepared
              (all_second (IsWhole s.submitted) kept.committed kept.prepared kept.whole));
          follow = all_filtered (Follows s.submitted) (stays (is_among gone)) kept.others kept.follow;
          resolved = kept.resolved;
          faithful = kept.faithful;
          posted = all_filtered (PostedHolds s.submitted) out s.active kept.posted;
          jobs = jobs_moved s.submitted s.active (filter out s.active) s.tables
              (put_back (filter (λ c. is_among gone c.tx) s.changes) s.tables) s.lent
              (filter (λ job. not (goes_with gone job)) s.lent)
              (λ job jt. (of_filter (λ j. not (goes_with gone j)) s.lent job jt).0)
              (λ other ot.
              let r = of_filter out s.active other ot in (
                other,
                r.0,
                inl (stays_as_is s.tables (put_back (filter (λ c. is_among gone c.tx) s.changes) s.tables) other
                    (same_used other r.0 (turned (is_among gone other.tx) r.1))),
              ))
              (λ one ot is has.
              let r = of_filter (λ j. not (goes_with gone j)) s.lent has.0 has.1 in
              let stay = goes_one has.0 one.tx (turned (goes_with gone has.0) r.1) has.2 in (
                one,
                to_filter out s.active one ot (ap not stay),
                stays_as_is s.tables (put_back (filter (λ c. is_among gone c.tx) s.changes) s.tables) one
                    (same_used one ot stay),
                is,
              )) kept.jobs;
          jobs_apart = pairs_filtered OtherJob (λ job. not (goes_with gone job)) s.lent kept.jobs_apart;
          idle = λ off.
              let h = kept.idle off in
              (ap (filter out) h.0, ap (filter out) h.1, ap (filter (λ job. not (goes_with gone job))) h.2);
          active_apart = pairs_filtered OtherMember out s.active kept.active_apart;
          dormant = pairs_joined OtherDormant s.dormant
              (filter_map (dormant_by s.submitted cause) (by_number (λ (m : Member). m.tx) gone)) kept.dormant
              (dormant_pairs s.submitted cause (by_number (λ (m : Member). m.tx) gone)
              (by_number_pairs (λ (m : Member). m.tx) (λ (a b : Member). a.tx ≡ b.tx → ⊥) (λ a b h e. h (sym e)) gone
              apart_members)) dormant_apart;
          not_prepared = λ d m dt mt e.
              let r = of_filter out s.prepared m mt in
              elim (in_either s.dormant
              (filter_map (dormant_by s.submitted cause) (by_number (λ (m : Member). m.tx) gone)) d dt) [
                | inl a ↦ kept.not_prepared d m a r.0 e
                | inr b ↦ not_gone_dormant d m b r.1 e
              ];
          not_active = λ d m dt mt e.
              let r = of_filter out s.active m mt in
              elim (in_either s.dormant
              (filter_map (dormant_by s.submitted cause) (by_number (λ (m : Member). m.tx) gone)) d dt) [
                | inl a ↦ kept.not_active d m a r.0 e
                | inr b ↦ not_gone_dormant d m b r.1 e
              ];
          scripts = all_joined (λ (d : Dormant). (own : Submitted) × (numbered s.submitted d.tx ≡ Some own)) s.dormant
              (filter_map (dormant_by s.submitted cause) (by_number (λ (m : Member). m.tx) gone)) kept.scripts
              (to_all (λ (d : Dormant). (own : Submitted) × (numbered s.submitted d.tx ≡ Some own))
              (filter_map (dormant_by s.submitted cause) (by_number (λ (m : Member). m.tx) gone)) (λ d dt.
              let r = from_gone d dt in
              let own = own_of r.0 (of_state r.0 r.1) in
              (own.0, ap (numbered s.submitted) r.2 ∙ own.1)));
          joined = stand_left kept.committed all left_all gone s.joints from_left to_left closed
              (committed_stays gone of_state) kept.joined;
          committed_fated = λ h ht.
              let r = kept.committed_fated h ht in
              (r.0, in_first s.fates gone_fated r.0 r.1, r.2);
          fated = pairs_joined OtherFated s.fates gone_fated kept.fated
              (fated_pairs s.submitted cause (by_number (λ (m : Member). m.tx) gone) gone_apart)
              (λ f g ft gt e.
              let r = fated_from g gt in
              elim (in_either s.prepared s.active r.0 (of_state r.0 r.1)) [
                | inl a ↦ kept.fated_not_prepared f r.0 ft a (sym r.2 ∙ sym e)
                | inr b ↦ kept.fated_not_active f r.0 ft b (sym r.2 ∙ sym e)
              ]);
          fated_not_prepared = λ f m ft mt e.
              let r = of_filter out s.prepared m mt in
              elim (in_either s.fates gone_fated f ft) [
                | inl a ↦ kept.fated_not_prepared f m a r.0 e
                | inr b ↦ not_gone_fated f m b r.1 e
              ];
          fated_not_active = λ f m ft mt e.
              let r = of_filter out s.active m mt in
              elim (in_either s.fates gone_fated f ft) [
                | inl a ↦ kept.fated_not_active f m a r.0 e
                | inr b ↦ not_gone_fated f m b r.1 e
              ];
          fated_not_dormant = λ f d ft dt e.
              elim (in_either s.dormant
              (filter_map (dormant_by s.submitted cause) (by_number (λ (m : Member). m.tx) gone)) d dt) [
                | inl old ↦ elim (in_either s.fates gone_fated f ft) [
                  | inl a ↦ kept.fated_not_dormant f d a old e
                  | inr b ↦
                      let r = fated_from f b in
                      elim (in_either s.prepared s.active r.0 (of_state r.0 r.1)) [
                        | inl p ↦ kept.not_prepared d r.0 old p (sym r.2 ∙ sym e)
                        | inr q ↦ kept.not_active d r.0 old q (sym r.2 ∙ sym e)
                      ]
                ]
                | inr new ↦ elim (in_either s.fates gone_fated f ft) [
                  | inl a ↦
                      let r = from_gone d new in
                      elim (in_either s.prepared s.active r.0 (of_state r.0 r.1)) [
                        | inl p ↦ kept.fated_not_prepared f r.0 a p (sym r.2 ∙ e)
                        | inr q ↦ kept.fated_not_active f r.0 a q (sym r.2 ∙ e)
                      ]
                  | inr b ↦
                      fate_or_dormant s.submitted cause (by_number (λ (m : Member). m.tx) gone) gone_apart f d b new e
                ]
              ];
          fated_scripts = all_joined (λ (f : Fated). (own : Submitted) × (numbered s.submitted f.tx ≡ Some own)) s.fates
              gone_fated kept.fated_scripts
              (to_all (λ (f : Fated). (own : Submitted) × (numbered s.submitted f.tx ≡ Some own)) gone_fated (λ f ft.
              let r = fated_from f ft in
              let own = own_of r.0 (of_state r.0 r.1) in
              (own.0, ap (numbered s.submitted) r.2 ∙ own.1)));
        }
