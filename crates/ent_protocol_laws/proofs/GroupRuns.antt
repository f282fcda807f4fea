-- What the members of a group did, run alone from the settled database, leaves the tables that they use as they stand.
use Rattle.std.proofs.Common.{◌≡◌, ℕ, Bool, true, false, not, ◌==◌, List, ◌∷◌, ◌++◌, refl, sym, ap, subst}
use Rattle.std.proofs.Common.{◌∙◌, inl, inr, Contains}
use Rattle.std.specs.List.{AllByRecursion, filter}
use Rattle.ent_semantics.specs.Database.{Name, Database}
use Rattle.ent_protocol.specs.Member.{is_of}
use Rattle.ent_protocol.specs.Reached.{IsReached}
use Rattle.ent_protocol.specs.Run.{Forms}
use Rattle.ent_protocol.specs.State.{State, Member, members}
use Rattle.ent_protocol_laws.specs.Faithful.{AreFaithful, table_number, is_used}
use Rattle.ent_protocol_laws.specs.GroupRuns.{HasUsed, NotOwned, present_database, settled_database, RunsFrom}
use Rattle.ent_protocol_laws.specs.GroupRuns.{GroupRuns}
use Rattle.ent_protocol_laws.specs.GroupRuns.{UnownedIsSettled}
use Rattle.ent_protocol_laws.specs.GroupAnswers.{AreOthers}
use Rattle.ent_protocol_laws.specs.History.{History, Replays, AreSerial}
use Rattle.ent_protocol_laws.specs.SerialState.{Follows, IsWhole}
use Rattle.ent_lists.specs.Elements.{contains_in, in_contains, same_number, number_itself, other_number}
use Rattle.ent_protocol_laws.proofs.Frame.{Laws, IsCovered, Apart, apart_turned, gather, serial_joined, serial_parts}
use Rattle.ent_protocol_laws.proofs.Frame.{serial_kept, owned, unowned}
use Rattle.ent_protocol_laws.proofs.SerialKept.{Kept, history_of, active_at, in_all, one_history}
use Rattle.ent_protocol_laws.proofs.SerialLeft.{fit_at}
use Rattle.ent_lists.specs.Elements.{In, Pairs, of_all, all_first, all_second, all_joined, all_filtered, of_filter}
use Rattle.ent_lists.specs.Elements.{to_filter, in_first, in_second, in_either, pairs_of, pairs_filtered, pairs_joined}
use Rattle.ent_lists.specs.Elements.{pairs_first, pairs_second, pairs_across, pairs_at, map_filtered, clash, turned}
use Rattle.ent_protocol_laws.proofs.Reached.{reached_kept}
use Rattle.ent_protocol_laws.proofs.Runs.{member_history, history_member}
use Rattle.ent_protocol_laws.proofs.Sound.{Fit, has_tx, alone}

module _ {F : Type 0} (forms : Forms F) (laws : Laws) (s : State) (kept : Kept forms s) where
  abbrev own : History → Member
  own history = history.member

  abbrev covered_all : AllByRecursion (IsCovered s.opening.tables) (kept.prepared ++ kept.others)
  covered_all = kept.sound.covered

  settles_there : kept.base ≡ settled_database s
  settles_there = sym kept.sound.undo

  -- of two groups
  groups_apart : (x y : History) → In x (kept.prepared ++ kept.others) → In y (kept.prepared ++ kept.others)
      → (x.member.group ≡ y.member.group → ⊥) → Apart x.member y.member
  groups_apart x y at bt differ_so =
      elim (fit_at forms laws s kept x y at bt) [
        | inl same ↦ absurd (differ_so (ap (λ (h : History). h.member.group) same))
        | inr fit ↦ fit.groups differ_so
      ]

  -- ---- a table that nobody owns

  unowned_settled : UnownedIsSettled s
  unowned_settled name nobody =
      serial_kept s.opening.tables laws (kept.prepared ++ kept.others) kept.base (present_database s) name covered_all
      kept.sound.serial
      (λ x at. nobody x.member (in_contains (members s) x.member (history_member forms laws s kept x at)))
      ∙ ap (λ (d : Database). d name) settles_there

  -- ---- a group

  module _ (group : ℕ) where
    abbrev pub in_group : History → Bool
    in_group history = is_of group history.member

    abbrev pub first_ones : List History
    first_ones = filter in_group kept.prepared

    abbrev other_ones : List History
    other_ones = filter (λ x. not (in_group x)) kept.prepared

    abbrev rest : List History
    rest = other_ones ++ kept.others

    rest_in : (x : History) → In x rest → In x (kept.prepared ++ kept.others)
    rest_in x at =
        elim (in_either other_ones kept.others x at) [
          | inl a ↦ in_first kept.prepared kept.others x (of_filter (λ y. not (in_group y)) kept.prepared x a).0
          | inr b ↦ in_second kept.prepared kept.others x b
        ]

    rest_covered : AllByRecursion (IsCovered s.opening.tables) rest
    rest_covered =
        all_joined (IsCovered s.opening.tables) other_ones kept.others
        (all_filtered (IsCovered s.opening.tables) (λ x. not (in_group x)) kept.prepared
        (all_first (IsCovered s.opening.tables) kept.prepared kept.others covered_all))
        (all_second (IsCovered s.opening.tables) kept.prepared kept.others covered_all)

    rest_fit : Pairs Fit rest
    rest_fit =
        pairs_joined Fit other_ones kept.others
        (pairs_filtered Fit (λ x. not (in_group x)) kept.prepared
        (pairs_first Fit kept.prepared kept.others kept.sound.fit))
        (pairs_second Fit kept.prepared kept.others kept.sound.fit)
        (λ x y at bt. pairs_across Fit kept.prepared kept.others x y kept.sound.fit
        (of_filter (λ z. not (in_group z)) kept.prepared x at).0 bt)

    -- one that isn't of the group
    differs : (x y : History) → in_group x ≡ false → in_group y ≡ true → x.member.group ≡ y.member.group → ⊥
    differs x y out of_group same =
        clash (in_group x) (ap (λ n. n == group) same ∙ of_group) out

    -- those of the group first, then the others
    record Begun : Type 0 where
      pub start : Database
      pub runs : AreSerial s.opening.tables first_ones kept.base start
      pub goes_on : AreSerial s.opening.tables rest start (present_database s)

    begun : Begun
    begun =
        let declared = s.opening.tables in
        let parts = serial_parts declared laws kept.prepared kept.others kept.base (present_database s)
        kept.sound.serial in
        let moved : AreSerial declared (first_ones ++ other_ones) kept.base parts.0 =
        gather declared laws in_group kept.prepared kept.base parts.0
        (all_first (IsCovered declared) kept.prepared kept.others covered_all)
        (pairs_of (λ x y. in_group x ≡ false → in_group y ≡ true → Apart x.member y.member) kept.prepared
        (λ x y at bt out of_group.
        groups_apart x y (in_first kept.prepared kept.others x at) (in_first kept.prepared kept.others y bt)
        (differs x y out of_group))) parts.1 in
        let both = serial_parts declared laws first_ones other_ones kept.base parts.0 moved in
        record {
          start = both.0;
          runs = both.1;
          goes_on = serial_joined declared laws other_ones kept.others both.0 parts.0 (present_database s) both.2
              parts.2;
        }

    -- ---- a member that isn't prepared

    module _ (x : History) (at : In x kept.others) (of_group : in_group x ≡ true) where
      abbrev is_it : History → Bool
      is_it y = has_tx x.member.tx y

      -- any other of the rest is apart from it
      apart_from : (y : History) → In y rest → is_it y ≡ false → Apart y.member x.member
      apart_from y bt other =
          elim (in_either other_ones kept.others y bt) [
            | inl a ↦
                let r = of_filter (λ z. not (in_group z)) kept.prepared y a in
                groups_apart y x (in_first kept.prepared kept.others y r.0)
                (in_second kept.prepared kept.others x at)
                (differs y x (turned (in_group y) r.1) of_group)
            | inr b ↦ elim (pairs_at (λ (u v : History). Apart u.member v.member)
                (λ u v. apart_turned u.member v.member) kept.others y x kept.sound.apart b at) [
                  | inl same ↦ clash (is_it y) (ap is_it same ∙ number_itself x.member.tx) other
                  | inr apart ↦ apart
                ]
          ]

      -- a history of its number is its own
      is_own : (y : History) → In y rest → is_it y ≡ true → y ≡ x
      is_own y bt same =
          elim (pairs_at Fit (λ u v fit. record {
            distinct = λ e. fit.distinct (sym e);
            groups = λ d. apart_turned u.member v.member (fit.groups (λ e. d (sym e)));
          }) rest y x rest_fit bt (in_second other_ones kept.others x at)) [
            | inl e ↦ e
            | inr fit ↦ absurd (fit.distinct (same_number y.member.tx x.member.tx same))
          ]

      record Ran : Type 0 where
        pub last : Database
        pub replays : Replays s.opening.tables x begun.start last
        pub after : AreSerial s.opening.tables (filter (λ y. not (is_it y)) rest) last (present_database s)

      ran : Ran
      ran =
          let declared = s.opening.tables in
          let later = filter (λ y. not (is_it y)) rest in
          let moved = gather declared laws is_it rest begun.start (present_database s) rest_covered
          (pairs_of (λ u v. is_it u ≡ false → is_it v ≡ true → Apart u.member v.member) rest
          (λ u v ut vt out is.
          subst (λ (z : History). Apart u.member z.member) (sym (is_own v vt is)) (apart_from u ut out)))
          begun.goes_on in
          let first : AreSerial declared (x ∷ later) begun.start (present_database s) =
          subst (λ (front : List History). AreSerial declared (front ++ later) begun.start (present_database s))
          (alone is_it x rest rest_fit (in_second other_ones kept.others x at) (number_itself x.member.tx)
          (λ y other. other_number y.member.tx x.member.tx other)) moved in
          record { last = first.0; replays = first.1; after = first.2 }

      stands_so : (name : Name) → is_used x.member.uses (table_number s.opening.tables name) ≡ true
          → present_database s name ≡ ran.last name
      stands_so name used =
          serial_kept s.opening.tables laws (filter (λ y. not (is_it y)) rest) ran.last (present_database s) name
          (all_filtered (IsCovered s.opening.tables) (λ y. not (is_it y)) rest rest_covered) ran.after
          (λ y bt.
          let r = of_filter (λ z. not (is_it z)) rest y bt in
          unowned x.member y.member (table_number s.opening.tables name)
          (apart_turned y.member x.member (apart_from y r.0 (turned (is_it y) r.1))) used)

    runs_from : (member : Member) → Contains s.active member → member.group ≡ group
        → RunsFrom s begun.start member
    runs_from member there same =
        let h = history_of forms s kept member (contains_in s.active member there) in
        let x : History = h.0 in
        let of_group : in_group x ≡ true =
        ap (λ (m : Member). m.group == group) (sym h.2) ∙ ap (λ n. n == group) same ∙ number_itself group in
        record {
          history = x;
          own = sym h.2;
          follows = of_all (Follows s.submitted) kept.others x kept.follow h.1;
          last = (ran x h.1 of_group).last;
          replays = (ran x h.1 of_group).replays;
          present = λ name used.
              stands_so x h.1 of_group name
              (ap (λ (m : Member). is_used m.uses (table_number s.opening.tables name)) (sym h.2) ∙ used);
        }

    left_as : (user : Member) (name : Name) → Contains (members s) user → user.group ≡ group → HasUsed s user name
        → ((member : Member) → Contains s.active member → member.group ≡ group → NotOwned s member name)
        → present_database s name ≡ begun.start name
    left_as user name there same used nobody =
        let u = member_history forms laws s kept user (contains_in (members s) user there) in
        let x : History = u.0 in
        let of_group : in_group x ≡ true =
        ap (λ (m : Member). m.group == group) (sym u.2) ∙ ap (λ n. n == group) same ∙ number_itself group in
        let uses : is_used x.member.uses (table_number s.opening.tables name) ≡ true =
        ap (λ (m : Member). is_used m.uses (table_number s.opening.tables name)) (sym u.2) ∙ used in
        serial_kept s.opening.tables laws rest begun.start (present_database s) name rest_covered begun.goes_on
        (λ y yt. by x u.1 of_group uses y yt (in_group y) refl)
      where
        by : (x : History) → In x (kept.prepared ++ kept.others) → in_group x ≡ true
            → is_used x.member.uses (table_number s.opening.tables name) ≡ true → (y : History) → In y rest
            → (b : Bool) → in_group y ≡ b → owned s.opening.tables y.member.uses name ≡ false
        by x xt of_group uses y yt false out =
            unowned x.member y.member (table_number s.opening.tables name)
            (groups_apart x y xt (rest_in y yt) (λ e. differs y x out of_group (sym e))) uses
        by x xt of_group uses y yt true is =
            elim (in_either other_ones kept.others y yt) [
              | inl a ↦ clash (in_group y) is
                  (turned (in_group y) (of_filter (λ z. not (in_group z)) kept.prepared y a).1)
              | inr b ↦ nobody y.member (in_contains s.active y.member (active_at forms s kept y b))
                  (same_number y.member.group group is)
            ]

    pub group_runs : GroupRuns s group
    group_runs =
        record {
          prepared = first_ones;
          of_prepared = map_filtered own (is_of group) kept.prepared ∙ ap (filter (is_of group)) kept.of_prepared;
          whole = all_filtered (IsWhole s.submitted) in_group kept.prepared
              (all_second (IsWhole s.submitted) kept.committed kept.prepared kept.whole);
          start = begun.start;
          runs = subst (λ d. AreSerial s.opening.tables first_ones d begun.start) settles_there begun.runs;
          others = runs_from;
          present = left_as;
        }

    -- the histories of its members that aren't prepared
    abbrev pub unprepared : List History
    unprepared = filter in_group kept.others

    pub its_prepared : group_runs.prepared ≡ first_ones
    unfolding group_runs
    its_prepared = refl

    pub are_others : AreOthers s group group_runs unprepared
    unfolding group_runs runs_from
    are_others =
        record {
          all = λ member there same.
              let h = history_of forms s kept member (contains_in s.active member there) in
              in_contains unprepared h.0 (to_filter in_group kept.others h.0 h.1
              (ap (λ (m : Member). m.group == group) (sym h.2) ∙ ap (λ n. n == group) same ∙ number_itself group));
          only = λ x at.
              let r = of_filter in_group kept.others x (contains_in unprepared x at) in
              let there : Contains s.active x.member =
              in_contains s.active x.member (active_at forms s kept x r.0) in
              let h = history_of forms s kept x.member (contains_in s.active x.member there) in (
                x.member,
                there,
                same_number x.member.group group r.1,
                one_history (kept.prepared ++ kept.others) x h.0 kept.sound.fit (in_all forms s kept x r.0)
                    (in_all forms s kept h.0 h.1) (ap (λ (m : Member). m.tx) h.2),
              );
        }

pub reached_group_runs : {F : Type 0} (forms : Forms F) (laws : Laws) (s : State) → AreFaithful forms s.opening
    → IsReached forms s → (group : ℕ) → GroupRuns s group
reached_group_runs forms laws s faithful reached group =
    group_runs forms laws s (reached_kept forms laws s faithful reached) group

pub reached_settled : {F : Type 0} (forms : Forms F) (laws : Laws) (s : State) → AreFaithful forms s.opening
    → IsReached forms s → UnownedIsSettled s
reached_settled forms laws s faithful reached =
    unowned_settled forms laws s (reached_kept forms laws s faithful reached)
