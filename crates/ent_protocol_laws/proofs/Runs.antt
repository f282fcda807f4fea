-- Scripts come, and runs start and end.
use Rattle.std.proofs.Common.{Bool, ◌≡◌, ◌≤◌, ℕ, suc, ◌==◌, true, false, not, List, [], ◌∷◌, ◌++◌, map, length, take}
use Rattle.std.proofs.Common.{drop, refl, sym, ap, subst, ◌∙◌, inl, inr, arith, Some, Ok, take-append-drop}
use Rattle.std.specs.List.{AllByRecursion, filter}
use Rattle.std.proofs.lemmas.Simd.{map-map}
use Rattle.ent_tree.specs.declared.declaration.Create.{Create}
use Rattle.ent_tree.specs.declared.declaration.Opening.{Opening}
use Rattle.ent_tree.specs.declared.script.Script.{Script}
use Rattle.ent_semantics.specs.Database.{Database, opening_database}
use Rattle.ent_semantics.specs.Serial.{numbered}
use Rattle.ent_semantics.specs.declared.book.Fated.{Fated}
use Rattle.ent_semantics.specs.declared.operand.Known.{Known}
use Rattle.ent_semantics.specs.declared.statement.Statement.{Statement}
use Rattle.ent_semantics.specs.Form.{Tables}
use Rattle.ent_protocol.specs.Job.{Work, One, Joint, tables_of}
use Rattle.ent_protocol.specs.Member.{next_in, is_of}
use Rattle.ent_protocol.specs.Reached.{opened}
use Rattle.ent_protocol.specs.Rollback.{Cause, NoOne, is_among, taken_out, rolled_back, group_members}
use Rattle.ent_protocol.specs.Run.{Forms, submitting, starting, ending, fresh}
use Rattle.ent_protocol.specs.State.{State, Submitted, Dormant, Member, members, by_number}
use Rattle.ent_protocol_laws.proofs.Left.{in_among}
use Rattle.ent_protocol_laws.proofs.Found.{numbered_on}
use Rattle.ent_protocol_laws.proofs.Members.{among_in}
use Rattle.ent_protocol_laws.specs.Faithful.{AreFaithful}
use Rattle.ent_protocol_laws.specs.History.{History, AreSerial}
use Rattle.ent_protocol_laws.specs.SerialState.{Follows, IsWhole}
use Rattle.ent_group.specs.declared.members.TheConstants.{MOST_MEMBERS}
use Rattle.ent_lists.specs.Elements.{In, Pairs, of_all, to_all, all_by, all_joined, all_second, all_map, in_first}
use Rattle.ent_lists.specs.Elements.{in_second, in_either, of_map, nobody, pairs_joined, pairs_first, pairs_second}
use Rattle.ent_lists.specs.Elements.{pairs_across, pairs_map, pairs_by, pairs_of, pairs_filtered, of_filter, to_filter}
use Rattle.ent_lists.specs.Elements.{filter_empty, clash, same_number, number_itself}
use Rattle.ent_lists.proofs.Lists.{got_last}
use Rattle.ent_semantics.proofs.Numbered.{numbered_low}
use Rattle.ent_protocol_laws.proofs.Frame.{Laws, IsCovered}
use Rattle.ent_protocol_laws.proofs.Sound.{Fit, AreApart, Sound, IsOwner}
use Rattle.ent_protocol_laws.proofs.Locks.{by_number_same, by_number_pairs}
use Rattle.ent_protocol_laws.proofs.Jobs.{JobRight, WorkRight}
use Rattle.ent_protocol_laws.proofs.SerialKept.{Kept, PostedHolds, OtherDormant, OtherMember, member_of, history_of}
use Rattle.ent_protocol_laws.proofs.SerialKept.{active_at, prepared_at, one_history}
use Rattle.ent_protocol_laws.proofs.SerialLeft.{takes_out, fit_at}
use Rattle.ent_protocol_laws.proofs.Asks.{history_asks}
use Rattle.ent_protocol_laws.proofs.Joints.{JointsStand, stand_started}

-- ---- a script comes

too_low : (n m : ℕ) → n ≤ m → n ≡ suc m → ⊥
too_low n m low e = omega (arith, low, e)

module _ {F : Type 0} (forms : Forms F) (s : State) (kept : Kept forms s) (script : Script)
    (form : List (Statement Known)) (is : forms.resolve s.opening script ≡ Ok form) where
  abbrev own : Submitted
  own = record { script = script; form = form }

  abbrev more : List Submitted
  more = s.submitted ++ own ∷ []

  follows_more : (x : History) → Follows s.submitted x → Follows more x
  follows_more x f =
      record {
        own = f.own;
        submitted = numbered_on s.submitted (own ∷ []) x.member.tx f.own f.submitted;
        beginning = f.beginning;
        place = f.place;
        oracled = f.oracled;
      }

  whole_more : (x : History) → IsWhole s.submitted x → IsWhole more x
  whole_more x f =
      record {
        own = f.own;
        submitted = numbered_on s.submitted (own ∷ []) x.member.tx f.own f.submitted;
        whole = f.whole;
        commits = f.commits;
        oracled = f.oracled;
      }

  -- the script of an unprepared member
  same_script : (m : Member) → In m s.active → numbered more m.tx ≡ numbered s.submitted m.tx
  same_script m at =
      let x = history_of forms s kept m at in
      let f = of_all (Follows s.submitted) kept.others x.0 kept.follow x.1 in
      let here : numbered s.submitted m.tx ≡ Some f.own =
      ap (λ (z : Member). numbered s.submitted z.tx) x.2 ∙ f.submitted in
      numbered_on s.submitted (own ∷ []) m.tx f.own here ∙ sym here

  job_more : (seen : Tables) (work : Work) → WorkRight s.submitted s.active s.tables seen work
      → WorkRight more s.active s.tables seen work
  job_more seen (Joint asked) right = right
  job_more seen (One single) right =
      record {
        member = right.member;
        at = right.at;
        tx = right.tx;
        unposted = right.unposted;
        next = ap (λ o. next_in o right.member) (same_script right.member right.at) ∙ right.next;
        holds = right.holds;
        alike = right.alike;
        room = right.room;
      }

  low_member : (tx : ℕ) (found : Submitted) → numbered s.submitted tx ≡ Some found → tx ≡ suc (length s.submitted) → ⊥
  low_member tx found e same = too_low tx (length s.submitted) (numbered_low s.submitted tx found e) same

  pub submits : Kept forms (submitting s script form)
  submits =
      record {
        committed = kept.committed;
        prepared = kept.prepared;
        others = kept.others;
        base = kept.base;
        journal = kept.journal;
        of_prepared = kept.of_prepared;
        same = kept.same;
        settles = kept.settles;
        sound = kept.sound;
        whole = all_by (IsWhole s.submitted) (IsWhole more) (kept.committed ++ kept.prepared) whole_more kept.whole;
        follow = all_by (Follows s.submitted) (Follows more) kept.others follows_more kept.follow;
        resolved = all_joined (λ o. forms.resolve s.opening o.script ≡ Ok o.form) s.submitted (own ∷ []) kept.resolved
            (is, tt);
        faithful = kept.faithful;
        posted = to_all (PostedHolds more) s.active (λ m at posted asked next.
            of_all (PostedHolds s.submitted) s.active m kept.posted at posted asked
            (ap (λ o. next_in o m) (sym (same_script m at)) ∙ next));
        jobs = all_by (JobRight s.submitted s.active s.tables) (JobRight more s.active s.tables) s.lent
            (λ job right. job_more (tables_of job.tables) job.work right) kept.jobs;
        jobs_apart = kept.jobs_apart;
        idle = kept.idle;
        active_apart = kept.active_apart;
        dormant = pairs_joined OtherDormant s.dormant (record { tx = suc (length s.submitted); runs = 0 } ∷ [])
            kept.dormant (tt, tt) (λ d e dt et same. elim et [
              | inl is_new ↦
                  let r = of_all (λ (x : Dormant). (o : Submitted) × (numbered s.submitted x.tx ≡ Some o)) s.dormant d
                  kept.scripts dt in
                  low_member d.tx r.0 r.1 (same ∙ ap (λ (x : Dormant). x.tx) is_new)
              | inr bad ↦ absurd bad
            ]);
        not_prepared = λ d m dt mt e.
            elim (in_either s.dormant (record { tx = suc (length s.submitted); runs = 0 } ∷ []) d dt) [
              | inl a ↦ kept.not_prepared d m a mt e
              | inr b ↦ elim b [
                | inl is_new ↦
                    let y = of_map member_of kept.prepared m (subst (In m) (sym kept.of_prepared) mt) in
                    let w = of_all (IsWhole s.submitted) kept.prepared y.0
                    (all_second (IsWhole s.submitted) kept.committed kept.prepared kept.whole) y.1 in
                    low_member y.0.member.tx w.own w.submitted
                    (ap (λ (z : Member). z.tx) (sym y.2) ∙ e ∙ ap (λ (x : Dormant). x.tx) is_new)
                | inr bad ↦ absurd bad
              ]
            ];
        not_active = λ d m dt mt e.
            elim (in_either s.dormant (record { tx = suc (length s.submitted); runs = 0 } ∷ []) d dt) [
              | inl a ↦ kept.not_active d m a mt e
              | inr b ↦ elim b [
                | inl is_new ↦
                    let y = history_of forms s kept m mt in
                    let w = of_all (Follows s.submitted) kept.others y.0 kept.follow y.1 in
                    low_member y.0.member.tx w.own w.submitted
                    (ap (λ (z : Member). z.tx) (sym y.2) ∙ e ∙ ap (λ (x : Dormant). x.tx) is_new)
                | inr bad ↦ absurd bad
              ]
            ];
        scripts = all_joined (λ (d : Dormant). (o : Submitted) × (numbered more d.tx ≡ Some o)) s.dormant
            (record { tx = suc (length s.submitted); runs = 0 } ∷ [])
            (all_by (λ (d : Dormant). (o : Submitted) × (numbered s.submitted d.tx ≡ Some o))
            (λ (d : Dormant). (o : Submitted) × (numbered more d.tx ≡ Some o)) s.dormant
            (λ d r. (r.0, numbered_on s.submitted (own ∷ []) d.tx r.0 r.1)) kept.scripts)
            ((own, got_last s.submitted own), tt);
        joined = kept.joined;
        committed_fated = kept.committed_fated;
        fated = kept.fated;
        fated_not_prepared = kept.fated_not_prepared;
        fated_not_active = kept.fated_not_active;
        fated_not_dormant = λ f d ft dt e.
            elim (in_either s.dormant (record { tx = suc (length s.submitted); runs = 0 } ∷ []) d dt) [
              | inl a ↦ kept.fated_not_dormant f d ft a e
              | inr b ↦ elim b [
                | inl is_new ↦
                    let r = of_all (λ (x : Fated). (o : Submitted) × (numbered s.submitted x.tx ≡ Some o)) s.fates f
                    kept.fated_scripts ft in
                    low_member f.tx r.0 r.1 (sym e ∙ ap (λ (x : Dormant). x.tx) is_new)
                | inr bad ↦ absurd bad
              ]
            ];
        fated_scripts = all_by (λ (f : Fated). (o : Submitted) × (numbered s.submitted f.tx ≡ Some o))
            (λ (f : Fated). (o : Submitted) × (numbered more f.tx ≡ Some o)) s.fates
            (λ f r. (r.0, numbered_on s.submitted (own ∷ []) f.tx r.0 r.1)) kept.fated_scripts;
      }

-- ---- a run starts

abbrev begun : Dormant → History
begun d = record { member = fresh d; operations = [] }

fresh_serial : (declared : List Create) (ds : List Dormant) (database : Database)
    → AreSerial declared (map begun ds) database database
fresh_serial declared [] database = refl
fresh_serial declared (d ∷ ds) database =
    (database, record { runs = refl; grounded = tt }, fresh_serial declared ds database)

fresh_covered : (declared : List Create) (d : Dormant) → IsCovered declared (begun d)
fresh_covered declared d = record { reads = tt; writes = tt; within = λ table used. cc (used) }

fresh_apart : (d e : Dormant) → AreApart (begun d) (begun e)
fresh_apart d e table = (λ owned. refl, λ owned. refl)

module _ {F : Type 0} (forms : Forms F) (s : State) (kept : Kept forms s) (off : s.running ≡ false) where
  abbrev firsts : List Dormant
  firsts = take MOST_MEMBERS s.dormant

  abbrev later : List Dormant
  later = drop MOST_MEMBERS s.dormant

  whole_list : firsts ++ later ≡ s.dormant
  whole_list = take-append-drop MOST_MEMBERS s.dormant

  dormant_pairs : Pairs OtherDormant (firsts ++ later)
  dormant_pairs = subst (Pairs OtherDormant) (sym whole_list) kept.dormant

  first_in : (d : Dormant) → In d firsts → In d s.dormant
  first_in d at = subst (In d) whole_list (in_first firsts later d at)

  later_in : (d : Dormant) → In d later → In d s.dormant
  later_in d at = subst (In d) whole_list (in_second firsts later d at)

  no_prepared : kept.prepared ≡ []
  no_prepared =
      nobody kept.prepared (λ x at. subst (In x.member) (kept.idle off).0 (prepared_at forms s kept x at))

  no_others : kept.others ≡ []
  no_others = nobody kept.others (λ x at. subst (In x.member) (kept.idle off).1 (active_at forms s kept x at))

  old : Sound s.opening.tables kept.base [] [] s.tables s.changes
  old =
      subst (λ us. Sound s.opening.tables kept.base [] us s.tables s.changes) no_others
      (subst (λ ps. Sound s.opening.tables kept.base ps kept.others s.tables s.changes) no_prepared kept.sound)

  new_sound : Sound s.opening.tables kept.base [] (map begun firsts) s.tables s.changes
  new_sound =
      record {
        serial = subst (AreSerial s.opening.tables (map begun firsts) kept.base) old.serial
            (fresh_serial s.opening.tables firsts kept.base);
        covered = all_map begun (IsCovered s.opening.tables) firsts
            (to_all (λ d. IsCovered s.opening.tables (begun d)) firsts (λ d at. fresh_covered s.opening.tables d));
        fit = pairs_map begun Fit firsts (pairs_by OtherDormant (λ d e. Fit (begun d) (begun e)) firsts
            (λ d e differs. record { distinct = differs; groups = λ g. fresh_apart d e })
            (pairs_first OtherDormant firsts later dormant_pairs));
        apart = pairs_map begun AreApart firsts
            (pairs_of (λ d e. AreApart (begun d) (begun e)) firsts (λ d e at bt. fresh_apart d e));
        undo = old.undo;
        owners = to_all (IsOwner (map begun firsts)) s.changes (λ change at.
            absurd ((of_all (IsOwner []) s.changes change old.owners at).at));
        wide = old.wide;
        before = old.before;
      }

  active_of : (m : Member) → In m (by_number (λ (x : Member). x.tx) (map fresh firsts))
      → (d : Dormant) × In d firsts × (m ≡ fresh d)
  active_of m at = of_map fresh firsts m ((by_number_same (λ (x : Member). x.tx) (map fresh firsts) m).0 at)

  no_history : (x : History) → In x (kept.prepared ++ kept.others) → ⊥
  no_history x at =
      elim (in_either kept.prepared kept.others x at) [
        | inl a ↦ subst (In x) no_prepared a
        | inr b ↦ subst (In x) no_others b
      ]

  new_history : (y : History) → In y (kept.prepared ++ map begun firsts)
      → (d : Dormant) × In d firsts × (y ≡ begun d)
  new_history y at =
      elim (in_either kept.prepared (map begun firsts) y at) [
        | inl a ↦ absurd (subst (In y) no_prepared a)
        | inr b ↦ of_map begun firsts y b
      ]

  joined_started : JointsStand kept.committed (kept.prepared ++ map begun firsts) s.joints
  joined_started =
      stand_started kept.committed (kept.prepared ++ kept.others) (kept.prepared ++ map begun firsts) s.joints
      no_history
      (λ y yt. ap history_asks (new_history y yt).2)
      (λ x y xt yt same.
      let d = new_history y yt in
      let f = kept.committed_fated x xt in
      kept.fated_not_dormant f.0 d.0 f.1 (first_in d.0 d.1)
      (ap (λ (h : History). h.member.tx) (sym d.2) ∙ same ∙ sym f.2)) kept.joined

  pub starts : Kept forms (starting s)
  starts =
      record {
        committed = kept.committed;
        prepared = kept.prepared;
        others = map begun firsts;
        base = kept.base;
        journal = kept.journal;
        of_prepared = kept.of_prepared;
        same = λ m.
            let e = map-map member_of begun firsts in (
              λ at. (by_number_same (λ (x : Member). x.tx) (map fresh firsts) m).1 (subst (In m) e at),
              λ at. subst (In m) (sym e) ((by_number_same (λ (x : Member). x.tx) (map fresh firsts) m).0 at),
            );
        settles = kept.settles;
        sound = subst (λ ps. Sound s.opening.tables kept.base ps (map begun firsts) s.tables s.changes)
            (sym no_prepared) new_sound;
        whole = kept.whole;
        follow = all_map begun (Follows s.submitted) firsts (to_all (λ d. Follows s.submitted (begun d)) firsts
            (λ d at.
            let r = of_all (λ (x : Dormant). (o : Submitted) × (numbered s.submitted x.tx ≡ Some o)) s.dormant d
            kept.scripts (first_in d at) in
            record { own = r.0; submitted = r.1; beginning = refl; place = refl; oracled = tt }));
        resolved = kept.resolved;
        faithful = kept.faithful;
        posted = to_all (PostedHolds s.submitted) (by_number (λ (x : Member). x.tx) (map fresh firsts)) (λ m at is.
            let r = active_of m at in
            clash m.posted is (ap (λ (x : Member). x.posted) r.2));
        jobs = subst (λ lent. AllByRecursion (JobRight s.submitted
            (by_number (λ (x : Member). x.tx) (map fresh firsts)) s.tables) lent) (sym (kept.idle off).2) tt;
        jobs_apart = kept.jobs_apart;
        idle = λ bad. absurd (on bad);
        active_apart = by_number_pairs (λ (x : Member). x.tx) OtherMember (λ a b h e. h (sym e)) (map fresh firsts)
            (pairs_map fresh OtherMember firsts (pairs_first OtherDormant firsts later dormant_pairs));
        dormant = pairs_second OtherDormant firsts later dormant_pairs;
        not_prepared = λ d m dt mt e. kept.not_prepared d m (later_in d dt) mt e;
        not_active = λ d m dt mt e.
            let r = active_of m mt in
            pairs_across OtherDormant firsts later r.0 d dormant_pairs r.1 dt
            (ap (λ (x : Member). x.tx) (sym r.2) ∙ e);
        scripts = to_all (λ (d : Dormant). (o : Submitted) × (numbered s.submitted d.tx ≡ Some o)) later (λ d dt.
            of_all (λ (d : Dormant). (o : Submitted) × (numbered s.submitted d.tx ≡ Some o)) s.dormant d kept.scripts
            (later_in d dt));
        joined = joined_started;
        committed_fated = kept.committed_fated;
        fated = kept.fated;
        fated_not_prepared = kept.fated_not_prepared;
        fated_not_active = λ f m ft mt e.
            let r = active_of m mt in
            kept.fated_not_dormant f r.0 ft (first_in r.0 r.1) (ap (λ (x : Member). x.tx) (sym r.2) ∙ e);
        fated_not_dormant = λ f d ft dt e. kept.fated_not_dormant f d ft (later_in d dt) e;
        fated_scripts = kept.fated_scripts;
      }
    where
      on : true ≡ false → ⊥
      on e = cc

-- ---- groups are rolled back, and a run ends

module _ {F : Type 0} (forms : Forms F) (laws : Laws) (s : State) (kept : Kept forms s) where
  -- members are distinct
  pub members_apart : Pairs OtherMember (members s)
  members_apart =
      pairs_joined OtherMember s.prepared s.active
      (subst (Pairs OtherMember) kept.of_prepared
      (pairs_map member_of OtherMember kept.prepared (pairs_by Fit (λ x y. OtherMember x.member y.member) kept.prepared
      (λ x y fit. fit.distinct) (pairs_first Fit kept.prepared kept.others kept.sound.fit))))
      kept.active_apart
      (λ a b at bt e.
      let x = of_map member_of kept.prepared a (subst (In a) (sym kept.of_prepared) at) in
      let y = history_of forms s kept b bt in
      (pairs_across Fit kept.prepared kept.others x.0 y.0 kept.sound.fit x.1 y.1).distinct
      (ap (λ (m : Member). m.tx) (sym x.2) ∙ e ∙ ap (λ (m : Member). m.tx) y.2))

  -- each member has a history
  pub member_history : (m : Member) → In m (members s)
      → (x : History) × In x (kept.prepared ++ kept.others) × (m ≡ x.member)
  member_history m at =
      elim (in_either s.prepared s.active m at) [
        | inl a ↦
            let x = of_map member_of kept.prepared m (subst (In m) (sym kept.of_prepared) a) in
            (x.0, in_first kept.prepared kept.others x.0 x.1, x.2)
        | inr b ↦
            let x = history_of forms s kept m b in
            (x.0, in_second kept.prepared kept.others x.0 x.1, x.2)
      ]

  pub history_member : (x : History) → In x (kept.prepared ++ kept.others) → In x.member (members s)
  history_member x at =
      elim (in_either kept.prepared kept.others x at) [
        | inl a ↦ in_first s.prepared s.active x.member (prepared_at forms s kept x a)
        | inr b ↦ in_second s.prepared s.active x.member (active_at forms s kept x b)
      ]

  module _ (group : ℕ) (cause : Cause) where
    of_group : (m : Member) → In m (group_members s group) → In m (members s) × (is_of group m ≡ true)
    of_group m at =
        of_filter (is_of group) (members s) m
        ((by_number_same (λ (x : Member). x.tx) (filter (is_of group) (members s)) m).0 at)

    gone_group : (x : History) → In x (kept.prepared ++ kept.others)
        → is_among (group_members s group) x.member.tx ≡ true
        → x.member.group ≡ group
    gone_group x at is =
        let r = among_in (group_members s group) x.member.tx is in
        let g = of_group r.0 r.1 in
        let y = member_history r.0 g.0 in
        let same = one_history (kept.prepared ++ kept.others) x y.0 kept.sound.fit at y.1
        (sym r.2 ∙ ap (λ (m : Member). m.tx) y.2) in
        same_number x.member.group group
        (ap (is_of group) (ap member_of same ∙ sym y.2) ∙ g.1)

    stays_group : (x : History) → In x (kept.prepared ++ kept.others)
        → is_among (group_members s group) x.member.tx ≡ false → x.member.group ≡ group → ⊥
    stays_group x at is same =
        clash (is_among (group_members s group) x.member.tx)
        (in_among (group_members s group) x.member
        ((by_number_same (λ (y : Member). y.tx) (filter (is_of group) (members s)) x.member).1
        (to_filter (is_of group) (members s) x.member (history_member x at)
        (ap (λ n. n == group) same ∙ number_itself group)))) is

    closed_group : (x y : History) → In x (kept.prepared ++ kept.others) → In y (kept.prepared ++ kept.others)
        → x.member.group ≡ y.member.group → is_among (group_members s group) x.member.tx ≡ true
        → is_among (group_members s group) y.member.tx ≡ true
    closed_group x y xt yt same is = by (is_among (group_members s group) y.member.tx) refl
      where
        by : (b : Bool) → is_among (group_members s group) y.member.tx ≡ b → b ≡ true
        by true e = refl
        by false e = absurd (stays_group y yt e (sym same ∙ gone_group x xt is))

    pub rolls_back : Kept forms (rolled_back group cause s)
    rolls_back =
        takes_out forms laws s kept (group_members s group) cause
        (by_number_pairs (λ (x : Member). x.tx) OtherMember (λ a b h e. h (sym e)) (filter (is_of group) (members s))
        (pairs_filtered OtherMember (is_of group) (members s) members_apart))
        (λ m at. (of_group m at).0)
        (λ x y at bt here there.
        elim (fit_at forms laws s kept x y at bt) [
          | inl same ↦ clash (is_among (group_members s group) x.member.tx) here
              (ap (λ (h : History). is_among (group_members s group) h.member.tx) same ∙ there)
          | inr fit ↦ fit.groups (λ e. stays_group y bt there (sym e ∙ gone_group x at here))
        ]) closed_group

  pub everyone : (m : Member) → In m (members s) → is_among (members s) m.tx ≡ true
  everyone m at = in_among (members s) m at

  all_out : Kept forms (taken_out (members s) NoOne s)
  all_out =
      takes_out forms laws s kept (members s) NoOne members_apart (λ m at. at)
      (λ x y at bt here there. clash (is_among (members s) y.member.tx)
      (everyone y.member (history_member y bt)) there)
      (λ x y xt yt same is. everyone y.member (history_member y yt))

  pub ends : Kept forms (ending s)
  ends =
      let out = all_out in
      record {
        committed = out.committed;
        prepared = out.prepared;
        others = out.others;
        base = out.base;
        journal = out.journal;
        of_prepared = out.of_prepared;
        same = out.same;
        settles = out.settles;
        sound = out.sound;
        whole = out.whole;
        follow = out.follow;
        resolved = out.resolved;
        faithful = out.faithful;
        posted = out.posted;
        jobs = tt;
        jobs_apart = tt;
        idle = λ off. (
          filter_empty (λ m. not (is_among (members s) m.tx)) s.prepared
              (λ m at. ap not (everyone m (in_first s.prepared s.active m at))),
          filter_empty (λ m. not (is_among (members s) m.tx)) s.active
              (λ m at. ap not (everyone m (in_second s.prepared s.active m at))),
          refl,
        );
        active_apart = out.active_apart;
        dormant = out.dormant;
        not_prepared = out.not_prepared;
        not_active = out.not_active;
        scripts = out.scripts;
        joined = out.joined;
        committed_fated = out.committed_fated;
        fated = out.fated;
        fated_not_prepared = out.fated_not_prepared;
        fated_not_active = out.fated_not_active;
        fated_not_dormant = out.fated_not_dormant;
        fated_scripts = out.fated_scripts;
      }

-- ---- the opening's own state

pub kept_opened : {F : Type 0} (forms : Forms F) (opening : Opening) → AreFaithful forms opening
    → Kept forms (opened opening)
kept_opened forms opening faithful =
    record {
      committed = [];
      prepared = [];
      others = [];
      base = opening_database opening;
      journal = refl;
      of_prepared = refl;
      same = λ m. (λ at. at, λ at. at);
      settles = refl;
      sound = record {
        serial = sym faithful.opens;
        covered = tt;
        fit = tt;
        apart = tt;
        undo = faithful.opens;
        owners = tt;
        wide = faithful.wide;
        before = tt;
      };
      whole = tt;
      follow = tt;
      resolved = tt;
      faithful = faithful;
      posted = tt;
      jobs = tt;
      jobs_apart = tt;
      idle = λ off. (refl, refl, refl);
      active_apart = tt;
      dormant = tt;
      not_prepared = λ d m dt mt e. dt;
      not_active = λ d m dt mt e. dt;
      scripts = tt;
      joined = record {
        right = record {
          up = λ a at. absurd at.1;
          down = λ j jt m mt. absurd jt;
          once = tt;
          some = λ j jt e. jt;
          distinct = λ j jt. absurd jt;
          met = λ j jt a at mt post pt. absurd jt;
        };
        one_group = λ j jt one other ot pt x y xt yt e f. absurd jt;
        parted = λ j jt one other ot pt x y xt yt e f. jt;
      };
      committed_fated = λ h at. absurd at;
      fated = tt;
      fated_not_prepared = λ f m ft mt e. ft;
      fated_not_active = λ f m ft mt e. ft;
      fated_not_dormant = λ f d ft dt e. ft;
      fated_scripts = tt;
    }
