-- A member takes the uses of its next statement.
use Rattle.std.proofs.Common.{◌≡◌, ◌⊎◌, ◌<◌, ℕ, ◌==◌, Bool, true, false, List, ◌++◌, map, length, refl, sym, ap}
use Rattle.std.proofs.Common.{subst, ◌∙◌, inl, inr, None}
use Rattle.std.specs.List.{AllByRecursion}
use Rattle.ent_semantics.specs.Database.{Database}
use Rattle.ent_semantics.specs.Uses.{Covers}
use Rattle.ent_form.specs.Tables.{database_of}
use Rattle.ent_protocol.specs.Begin.{replaced, holding}
use Rattle.ent_protocol.specs.Job.{Job}
use Rattle.ent_protocol.specs.Member.{is_single_of, is_lent}
use Rattle.ent_protocol.specs.Run.{Forms}
use Rattle.ent_protocol.specs.State.{State, Member, Use}
use Rattle.ent_protocol.specs.Uses.{blocker}
use Rattle.ent_protocol_laws.proofs.Lent.{replaced_here}
use Rattle.ent_protocol_laws.specs.Faithful.{table_number, is_used, is_owned}
use Rattle.ent_protocol_laws.specs.History.{History, Replays}
use Rattle.ent_protocol_laws.specs.SerialState.{Follows, IsWhole}
use Rattle.ent_lists.specs.Elements.{In, Pairs, of_all, to_all, all_by, in_first, in_second, in_either, of_map, to_map}
use Rattle.ent_lists.specs.Elements.{clash, any_none, pairs_across, map_joined, same_number, other_number}
use Rattle.ent_protocol.proofs.Numbers.{replaced_tx}
use Rattle.ent_protocol_laws.proofs.Frame.{Laws, IsCovered, apart_turned, WritesWithin, held}
use Rattle.ent_protocol_laws.proofs.Sound.{Fit, AreApart, fit_turned}
use Rattle.ent_protocol_laws.proofs.SerialActs.{Keeps}
use Rattle.ent_protocol_laws.proofs.Locks.{holds_more, used_from, free_active, free_prepared, apart_holding}
use Rattle.ent_protocol_laws.proofs.Jobs.{JobRight, OtherJob, Stays, jobs_moved, stays_as_is}
use Rattle.ent_protocol_laws.proofs.Asks.{history_asks}
use Rattle.ent_protocol_laws.proofs.Joints.{JointsStand, stand_moved}
use Rattle.ent_protocol_laws.proofs.SerialKept.{Kept, PostedHolds, member_of, kept_mapped, replaced_other}
use Rattle.ent_protocol_laws.proofs.SerialKept.{map_unchanged, one_history, active_at, prepared_at, in_all}
use Rattle.ent_protocol_laws.proofs.SerialKept.{one_member}

-- a member that takes uses, and is posted or not
abbrev pub taking : Member → List Use → Bool → Member
taking member asked posted = record (holding member asked) { posted = posted }

abbrev entered : Member → History → History
entered new x = record { member = replaced new x.member; operations = x.operations }

module _ {F : Type 0} (forms : Forms F) (laws : Laws) (s : State) (kept : Kept forms s) (x : History)
    (at : In x kept.others) (asked : List Use) (posted : Bool) (free : blocker s x.member asked ≡ None)
    (low : (table : ℕ) → is_used asked table ≡ true → table < length s.opening.tables) where
  abbrev new : Member
  new = taking x.member asked posted

  abbrev next : History
  next = record { member = new; operations = x.operations }

  abbrev all : List History
  all = kept.prepared ++ kept.others

  one_or_other : (y : History) → In y all → (y ≡ x) × (entered new y ≡ next) ⊎ (entered new y ≡ y)
  one_or_other y bt = by (y.member.tx == x.member.tx) refl
    where
      by : (b : Bool) → (y.member.tx == x.member.tx) ≡ b
          → (y ≡ x) × (entered (taking x.member asked posted) y
          ≡ record { member = taking x.member asked posted; operations = x.operations })
          ⊎ (entered (taking x.member asked posted) y ≡ y)
      by true is =
          let same = same_number y.member.tx x.member.tx is in
          let one = one_history (kept.prepared ++ kept.others) y x kept.sound.fit bt (in_all forms s kept x at) same in
          inl (
            one,
            λ i. record {
              member = replaced_here (taking x.member asked posted) y.member same i;
              operations = (one i).operations;
            },
          )
      by false is =
          inr (λ i. record {
            member = replaced_other (taking x.member asked posted) y.member is i;
            operations =
                y.operations;
          })

  free_fit : (y : History) → In y all → Fit x y → Fit next y
  free_fit y bt fit =
      record {
        distinct = fit.distinct;
        groups = λ d. apart_holding x.member y.member asked
            (elim (in_either kept.prepared kept.others y bt) [
              | inl a ↦ free_prepared s x.member asked free y.member (prepared_at forms s kept y a) (λ e. d (sym e))
              | inr b ↦
                  free_active s x.member asked free y.member (active_at forms s kept y b) (λ e. fit.distinct (sym e))
            ]) (fit.groups d);
      }

  covers : IsCovered s.opening.tables x → IsCovered s.opening.tables next
  covers covered =
      record {
        reads = all_by (λ operation. Covers (held s.opening.tables x.member.uses) operation.statement)
            (λ operation. Covers (held s.opening.tables new.uses) operation.statement) x.operations
            (λ operation c name used. (holds_more x.member asked (table_number s.opening.tables name)).0 (c name used))
            covered.reads;
        writes = all_by (WritesWithin s.opening.tables x.member.uses) (WritesWithin s.opening.tables new.uses)
            x.operations
            (λ operation c name used. (holds_more x.member asked (table_number s.opening.tables name)).1 (c name used))
            covered.writes;
        within = λ table used. elim (used_from asked x.member.uses table used) [
          | inl a ↦ low table a
          | inr b ↦ covered.within table b
        ];
      }

  replays : (before after : Database) → Replays s.opening.tables x before after
      → Replays s.opening.tables next before after
  replays before after r = record { runs = r.runs; grounded = r.grounded }

  -- what holds of the one and of the others holds of each
  each : (P : History → History → Type 0) → ((y : History) → P y y) → P x next → (y : History) → In y all
      → P y (entered new y)
  each P same one y bt =
      elim (one_or_other y bt) [
        | inl r ↦ subst (λ z. P y z) (sym r.1) (subst (λ z. P z next) (sym r.0) one)
        | inr e ↦ subst (λ z. P y z) (sym e) (same y)
      ]

  not_itself : {A : Type 0} → Fit x x → A
  not_itself fit = absurd (fit.distinct refl)

  fits : (y z : History) → In y all → In z all → Fit y z → Fit (entered new y) (entered new z)
  fits y z bt ct fit =
      elim (one_or_other y bt) [
        | inl a ↦ elim (one_or_other z ct) [
          | inl b ↦ not_itself (subst (λ v. Fit v x) a.0 (subst (Fit y) b.0 fit))
          | inr f ↦ subst (λ v. Fit v (entered new z)) (sym a.1) (subst (Fit next) (sym f)
              (free_fit z ct (subst (λ v. Fit v z) a.0 fit)))
        ]
        | inr e ↦ elim (one_or_other z ct) [
          | inl b ↦ subst (λ v. Fit v (entered new z)) (sym e) (subst (Fit y) (sym b.1)
              (fit_turned next y (free_fit y bt (fit_turned y x (subst (Fit y) b.0 fit)))))
          | inr f ↦ subst (λ v. Fit v (entered new z)) (sym e) (subst (Fit y) (sym f) fit)
        ]
      ]

  -- an unprepared one stays apart from the others
  apart_next : (y : History) → In y kept.others → (y.member.tx ≡ x.member.tx → ⊥) → AreApart x y → AreApart next y
  apart_next y bt differs apart =
      apart_holding x.member y.member asked
      (free_active s x.member asked free y.member (active_at forms s kept y bt) differs) apart

  aparts : (y z : History) → In y kept.others → In z kept.others → Fit y z → AreApart y z
      → AreApart (entered new y) (entered new z)
  aparts y z bt ct fit apart =
      elim (one_or_other y (in_all forms s kept y bt)) [
        | inl a ↦ elim (one_or_other z (in_all forms s kept z ct)) [
          | inl b ↦ not_itself (subst (λ v. Fit v x) a.0 (subst (Fit y) b.0 fit))
          | inr f ↦
              let fits_x = subst (λ v. Fit v z) a.0 fit in
              subst (λ v. AreApart v (entered new z)) (sym a.1) (subst (AreApart next) (sym f)
              (apart_next z ct (λ e. fits_x.distinct (sym e)) (subst (λ v. AreApart v z) a.0 apart)))
        ]
        | inr e ↦ elim (one_or_other z (in_all forms s kept z ct)) [
          | inl b ↦
              let fits_x = subst (Fit y) b.0 fit in
              subst (λ v. AreApart v (entered new z)) (sym e) (subst (AreApart y) (sym b.1)
              (apart_turned new y.member (apart_next y bt fits_x.distinct
              (apart_turned y.member x.member (subst (AreApart y) b.0 apart)))))
          | inr f ↦ subst (λ v. AreApart v (entered new z)) (sym e) (subst (AreApart y) (sym f) apart)
        ]
      ]

  keeps : Keeps s.opening.tables kept.prepared kept.others (database_of s.opening.tables s.tables) (entered new)
  keeps =
      record {
        prepared = λ y bt before after r.
            each (λ u v. Replays s.opening.tables u before after → Replays s.opening.tables v before after) (λ u h. h)
            (replays before after) y (in_first kept.prepared kept.others y bt) r;
        others = λ y bt before after agree r.
            each (λ u v. Replays s.opening.tables u before after → Replays s.opening.tables v before after) (λ u h. h)
            (replays before after) y (in_second kept.prepared kept.others y bt) r;
        covers = λ y bt c.
            each (λ u v. IsCovered s.opening.tables u → IsCovered s.opening.tables v) (λ u h. h) covers y bt c;
        fits = fits;
        aparts = aparts;
        same = λ y bt. replaced_tx new y.member;
        owns = λ y bt table owned.
            each (λ u v. is_owned u.member.uses table ≡ true → is_owned v.member.uses table ≡ true) (λ u h. h)
            (holds_more x.member asked table).1 y bt owned;
      }

  -- ---- the state

  abbrev change : Member → Member
  change = replaced new

  whole_same : (y : History) → In y all → IsWhole s.submitted y → IsWhole s.submitted (entered new y)
  whole_same y bt w =
      each (λ u v. IsWhole s.submitted u → IsWhole s.submitted v) (λ u h. h)
      (λ h. record {
        own = h.own;
        submitted = h.submitted;
        whole = h.whole;
        commits = h.commits;
        oracled = h.oracled;
      }) y bt w

  follows_same : (y : History) → In y all → Follows s.submitted y → Follows s.submitted (entered new y)
  follows_same y bt w =
      each (λ u v. Follows s.submitted u → Follows s.submitted v) (λ u h. h)
      (λ h. record {
        own = h.own;
        submitted = h.submitted;
        beginning = h.beginning;
        place = h.place;
        oracled = h.oracled;
      }) y bt w

  -- an active member is the one that begins, or stays as it is
  changed_or_not : (m : Member) → In m s.active → (m ≡ x.member) × (change m ≡ new) ⊎ (change m ≡ m)
  changed_or_not m mt = by (m.tx == x.member.tx) refl
    where
      by : (b : Bool) → (m.tx == x.member.tx) ≡ b
          → (m ≡ x.member) × (replaced (taking x.member asked posted) m ≡ taking x.member asked posted)
          ⊎ (replaced (taking x.member asked posted) m ≡ m)
      by true is =
          let same = same_number m.tx x.member.tx is in
          inl (
            one_member forms s kept m x.member mt (active_at forms s kept x at) same,
            replaced_here (taking x.member asked posted) m same,
          )
      by false is = inr (replaced_other (taking x.member asked posted) m is)

  prepared_same : map (λ m. replaced new m) s.prepared ≡ s.prepared
  prepared_same =
      map_unchanged (replaced new) s.prepared (λ m mt.
      let y = of_map member_of kept.prepared m (subst (In m) (sym kept.of_prepared) mt) in
      replaced_other new m (other_number m.tx x.member.tx (λ e.
      (pairs_across Fit kept.prepared kept.others y.0 x kept.sound.fit y.1 at).distinct
      (ap (λ (z : Member). z.tx) (sym y.2) ∙ e))))

  stays : (x.member.posted ≡ true → posted ≡ true) → Stays s.tables s.tables x.member new
  stays posts =
      record {
        tx = refl;
        place = refl;
        bound = refl;
        posts = posts;
        holds = holds_more x.member asked;
        alike = λ table used. refl;
      }

  stayed : (x.member.posted ≡ true → posted ≡ true) → (m : Member) → In m s.active
      → Stays s.tables s.tables m (change m)
  stayed posts m mt =
      elim (changed_or_not m mt) [
        | inl r ↦ subst (Stays s.tables s.tables m) (sym r.1)
            (subst (λ z. Stays s.tables s.tables z new) (sym r.0) (stays posts))
        | inr e ↦ subst (Stays s.tables s.tables m) (sym e) (stays_as_is s.tables s.tables m (λ table used. refl))
      ]

  module _ (unposted : x.member.posted ≡ false) (idle : is_lent s x.member.tx ≡ false) where
    posts : x.member.posted ≡ true → posted ≡ true
    posts is = clash x.member.posted is unposted

    -- the jobs that were lent
    pub jobs_begun : AllByRecursion (JobRight s.submitted (map change s.active) s.tables) s.lent
    jobs_begun =
        jobs_moved s.submitted s.active (map change s.active) s.tables s.tables s.lent s.lent (λ job jt. jt)
        (λ other ot.
        let r = of_map change s.active other ot in
        (r.0, r.1, inl (subst (Stays s.tables s.tables r.0) (sym r.2) (stayed posts r.0 r.1))))
        (λ one ot is has. (
          change one,
          to_map change s.active one ot,
          stayed posts one ot,
          elim (changed_or_not one ot) [
            | inl r ↦ clash (is_single_of x.member.tx has.0)
                (ap (λ (m : Member). is_single_of m.tx has.0) (sym r.0) ∙ has.2)
                (any_none (is_single_of x.member.tx) s.lent idle has.0 has.1)
            | inr e ↦ ap (λ (m : Member). m.posted) e ∙ is
          ],
        )) kept.jobs

    pub new_at : In new (map change s.active)
    new_at =
        subst (λ m. In m (map change s.active)) (replaced_here new x.member refl)
        (to_map change s.active x.member (active_at forms s kept x at))

    posted_begun : PostedHolds s.submitted new → AllByRecursion (PostedHolds s.submitted) (map change s.active)
    posted_begun own =
        to_all (PostedHolds s.submitted) (map change s.active) (λ other ot.
        let r = of_map change s.active other ot in
        subst (PostedHolds s.submitted) (sym r.2)
        (elim (changed_or_not r.0 r.1) [
          | inl e ↦ subst (PostedHolds s.submitted) (sym e.1) own
          | inr e ↦ subst (PostedHolds s.submitted) (sym e)
              (of_all (PostedHolds s.submitted) s.active r.0 kept.posted r.1)
        ]))

    on : s.running ≡ false → ⊥
    on off = subst (In x.member) (kept.idle off).1 (active_at forms s kept x at)

    asks_entered : (y : History) → In y all → history_asks (entered new y) ≡ history_asks y
    asks_entered y bt =
        each (λ u v. history_asks v ≡ history_asks u) (λ u. refl) refl y bt

    abbrev mapped : List History
    mapped = map (entered new) kept.prepared ++ map (entered new) kept.others

    -- one of the members now, and what it was
    was : (z : History) → In z mapped → (y : History) × In y all × (z ≡ entered new y)
    was z zt =
        of_map (entered new) all z
        (subst (In z) (sym (map_joined (entered new) kept.prepared kept.others)) zt)

    group_entered : (y : History) → In y all → (entered new y).member.group ≡ y.member.group
    group_entered y bt = each (λ u v. v.member.group ≡ u.member.group) (λ u. refl) refl y bt

    joined_begun : JointsStand kept.committed mapped s.joints
    joined_begun =
        stand_moved kept.committed all mapped s.joints
        (λ z zt.
        let y = was z zt in
        record {
          old = y.0;
          at = y.1;
          asks = ap history_asks y.2 ∙ asks_entered y.0 y.1;
          same_tx = ap (λ (h : History). h.member.tx) y.2 ∙ replaced_tx new y.0.member;
          same_group = ap (λ (h : History). h.member.group) y.2 ∙ group_entered y.0 y.1;
        })
        (λ y bt. (
          entered new y,
          subst (In (entered new y)) (map_joined (entered new) kept.prepared kept.others)
              (to_map (entered new) all y bt),
          asks_entered y bt,
        )) kept.joined

    pub kept_begun : PostedHolds s.submitted new → (lent : List Job)
        → AllByRecursion (JobRight s.submitted (map change s.active) s.tables) lent → Pairs OtherJob lent
        → Kept forms (record s { active = map change s.active; lent = lent })
    kept_begun own lent jobs apart =
        subst (λ ms. Kept forms (record s { prepared = ms; active = map change s.active; lent = lent })) prepared_same
        (kept_mapped forms laws s kept (entered new) change change (λ y bt. refl) (λ y bt. refl) keeps
        (λ y bt w. whole_same y (in_first kept.prepared kept.others y bt) w)
        (λ y bt w. follows_same y (in_second kept.prepared kept.others y bt) w)
        s.joints lent joined_begun (posted_begun own) jobs apart on (λ m mt. replaced_tx new m)
        (λ m mt. replaced_tx new m))
