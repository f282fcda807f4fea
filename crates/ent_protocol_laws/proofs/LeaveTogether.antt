-- Members of a group leave the run together.
use Rattle.std.proofs.Common.{◌≡◌, inl, inr, ℕ, Bool, true, false, not, ◌==◌, List, [], ◌∷◌, ◌++◌, map, refl, sym}
use Rattle.std.proofs.Common.{ap, subst, ◌∙◌}
use Rattle.std.proofs.lemmas.List.{map-id}
use Rattle.std.specs.List.{filter, list_any}
use Rattle.ent_value.specs.declared.value.Value.{Value}
use Rattle.ent_semantics.specs.Entangled.{Valuation}
use Rattle.ent_semantics.specs.declared.statement.Statement.{Statement}
use Rattle.ent_semantics.specs.Pool.{Posted}
use Rattle.ent_protocol.specs.Begin.{lending, posting, replaced}
use Rattle.ent_protocol.specs.Commit.{committing, is_ready, preparing}
use Rattle.ent_protocol.specs.Event.{Event, Reply}
use Rattle.ent_protocol.specs.Finish.{finished}
use Rattle.ent_protocol.specs.Job.{Job, Outcome, Shown, Changed, Bound, Choice, Fault}
use Rattle.ent_protocol.specs.Member.{is_of, is_tx}
use Rattle.ent_protocol.specs.PoolEvents.{answered_among, answered_groups, in_joined_group, joining}
use Rattle.ent_protocol.specs.PoolEvents.{joint_job}
use Rattle.ent_protocol.specs.Rollback.{Cause, group_members, is_among, rolled_back}
use Rattle.ent_protocol.specs.Run.{Forms, ending, starting, submitting}
use Rattle.ent_protocol.specs.State.{State, Member, by_number, members}
use Rattle.ent_protocol.specs.Step.{Step}
use Rattle.ent_protocol.specs.Tidy.{IsTidy, is_member}
use Rattle.ent_protocol_laws.specs.ByNumber.{StandByNumber}
use Rattle.ent_protocol_laws.proofs.Leaves.{Leaves, left_behind}
use Rattle.ent_lists.specs.Elements.{In, clash, in_either, in_first, in_second, not_so, of_filter, same_number, to_map}
use Rattle.ent_lists.specs.Elements.{any_none, number_itself, to_filter, turned}
use Rattle.ent_protocol.proofs.Numbers.{answered_tx, replaced_tx}
use Rattle.ent_protocol_laws.specs.Numbered.{from_by_number, to_by_number}
use Rattle.ent_protocol_laws.proofs.Left.{in_among, tx_of}
use Rattle.ent_protocol_laws.proofs.Members.{among_in, is_in_run, of_run, same_member}

-- where one leaves, the others of its group do
abbrev LeaveTogether : State → Bool → State → Type 0
LeaveTogether s rolled new =
    (one other : Member) → In one (members s) → In other (members s) → one.group ≡ other.group
    → is_member new one.tx ≡ false → is_member new other.tx ≡ false

-- a member of the same number
abbrev Stays : State → Member → Type 0
Stays new m = (x : Member) × In x (members new) × (x.tx ≡ m.tx)

there : (new : State) (m : Member) → Stays new m → is_member new m.tx ≡ true
there new m h = ap (is_member new) (sym h.2) ∙ is_in_run new h.0 h.1

all_stay : (s new : State) (rolled : Bool) → ((m : Member) → In m (members s) → Stays new m)
    → LeaveTogether s rolled new
all_stay s new rolled stay one other at bt group gone = clash (is_member new one.tx) (there new one (stay one at)) gone

not_there : (new : State) (m : Member) → (Stays new m → ⊥) → is_member new m.tx ≡ false
not_there new m none = not_so (is_member new m.tx) (λ is. none (of_run new m.tx is))

-- ---- members that go on

-- others of their numbers in their places
mapped : (s new : State) (f g : Member → Member) → ((m : Member) → (f m).tx ≡ m.tx) → ((m : Member) → (g m).tx ≡ m.tx)
    → new.prepared ≡ map f s.prepared → new.active ≡ map g s.active → (m : Member) → In m (members s) → Stays new m
mapped s new f g of_f of_g prepared active m at =
    elim (in_either s.prepared s.active m at) [
      | inl a ↦ (
        f m,
        in_first new.prepared new.active (f m)
            (subst (In (f m)) (sym prepared) (to_map f s.prepared m a)),
        of_f m,
      )
      | inr b ↦ (
        g m,
        in_second new.prepared new.active (g m)
            (subst (In (g m)) (sym active) (to_map g s.active m b)),
        of_g m,
      )
    ]

one_replaced : (s new : State) (member : Member) (rolled : Bool) → new.prepared ≡ s.prepared
    → new.active ≡ map (replaced member) s.active → LeaveTogether s rolled new
one_replaced s new member rolled prepared active =
    all_stay s new rolled
    (mapped s new (λ m. m) (replaced member) (λ m. refl) (replaced_tx member)
    (prepared ∙ sym (map-id s.prepared)) active)

finishes : (s : State) (m : Member) (c : Statement Value) (outcome : Outcome)
    → LeaveTogether s false (finished s m c outcome)
finishes s m c (Changed count removed added) =
    one_replaced s (finished s m c (Changed count removed added)) _ false refl refl
finishes s m c (Bound value) = one_replaced s (finished s m c (Bound value)) _ false refl refl
finishes s m c (Shown rows) = one_replaced s (finished s m c (Shown rows)) _ false refl refl
finishes s m c (Choice groundings) = all_stay s s false (λ x at. (x, at, refl))
finishes s m c (Fault failure) = all_stay s s false (λ x at. (x, at, refl))

joins : (s : State) (left : List Job) (asked : List Posted) (groundings : List Valuation)
    → LeaveTogether s false (joining (record s { lent = left }) asked groundings)
joins s left asked groundings =
    let groups = answered_groups (record s { lent = left }) asked in
    all_stay s (joining (record s { lent = left }) asked groundings) false
    (mapped s (joining (record s { lent = left }) asked groundings) (in_joined_group groups)
    (λ m. in_joined_group groups (answered_among asked groundings m)) (λ m. refl) (answered_tx asked groundings) refl
    refl)

-- ---- a member prepares, and its group commits

prepares : (s : State) (m : Member) → (x : Member) → In x (members s) → Stays (preparing s m) x
prepares s m x at =
    elim (in_either s.prepared s.active x at) [
      | inl a ↦ (x, in_first (s.prepared ++ m ∷ []) (preparing s m).active x (in_first s.prepared (m ∷ []) x a), refl)
      | inr b ↦ by (x.tx == m.tx) refl b
    ]
  where
    by : (b : Bool) → (x.tx == m.tx) ≡ b → In x s.active → Stays (preparing s m) x
    by true is b = (
      m,
      in_first (s.prepared ++ m ∷ []) (preparing s m).active m (in_second s.prepared (m ∷ []) m (inl refl)),
      sym (same_number x.tx m.tx is),
    )
    by false is b = (
      x,
      in_second (s.prepared ++ m ∷ []) (preparing s m).active x
          (to_filter (λ other. not (is_tx m.tx other)) s.active x b (ap not is)),
      refl,
    )

module _ (s : State) (by_number : StandByNumber s) (m : Member) (at : In m s.active)
    (ready : is_ready (preparing s m) m.group ≡ true) where
  abbrev committed : State
  committed = committing (preparing s m) m.group

  -- whoever is of another group stays
  others_stay : (one : Member) → In one (members s) → is_of m.group one ≡ false → Stays committed one
  others_stay one there other =
      elim (in_either s.prepared s.active one there) [
        | inl a ↦ (
          one,
          in_first committed.prepared committed.active one
              (to_filter (λ x. not (is_of m.group x)) (s.prepared ++ m ∷ []) one (in_first s.prepared (m ∷ []) one a)
              (ap not other)),
          refl,
        )
        | inr b ↦ by (one.tx == m.tx) refl b
      ]
    where
      by : (b : Bool) → (one.tx == m.tx) ≡ b → In one s.active → Stays committed one
      by true is b =
          let same = same_member s by_number one m there (in_second s.prepared s.active m at)
          (same_number one.tx m.tx is) in
          clash (is_of m.group one) (ap (is_of m.group) same ∙ number_itself m.group) other
      by false is b = (
        one,
        in_second committed.prepared committed.active one
            (to_filter (λ x. not (is_tx m.tx x)) s.active one b (ap not is)),
        refl,
      )

  -- nobody of the group does
  none_stays : (other : Member) → In other (members s) → other.group ≡ m.group → Stays committed other → ⊥
  none_stays other bt group h =
      elim (in_either committed.prepared committed.active h.0 h.1) [
        | inl a ↦
            let q = of_filter (λ x. not (is_of m.group x)) (s.prepared ++ m ∷ []) h.0 a in
            clash (is_of m.group h.0) (own (of_prepared q.0)) (turned (is_of m.group h.0) q.1)
        | inr b ↦
            let q = of_filter (λ x. not (is_tx m.tx x)) s.active h.0 b in
            clash (is_of m.group h.0) (own (in_second s.prepared s.active h.0 q.0))
            (any_none (is_of m.group) committed.active
            (turned (list_any (is_of m.group) committed.active) ready) h.0 b)
      ]
    where
      of_prepared : In h.0 (s.prepared ++ m ∷ []) → In h.0 (members s)
      of_prepared there =
          elim (in_either s.prepared (m ∷ []) h.0 there) [
            | inl a ↦ in_first s.prepared s.active h.0 a
            | inr b ↦ elim b [
              | inl same ↦ subst (λ x. In x (members s)) (sym same) (in_second s.prepared s.active m at)
              | inr bad ↦ absurd bad
            ]
          ]

      own : In h.0 (members s) → is_of m.group h.0 ≡ true
      own there =
          let same = same_member s by_number h.0 other there bt h.2 in
          ap (is_of m.group) same ∙ ap (λ n. n == m.group) group ∙ number_itself m.group

  commits : LeaveTogether s false committed
  commits one other there bt group gone =
      not_there committed other (none_stays other bt (sym group ∙ of_group (is_of m.group one) refl))
    where
      of_group : (b : Bool) → is_of m.group one ≡ b → one.group ≡ m.group
      of_group true is = same_number one.group m.group is
      of_group false is =
          clash (is_member committed one.tx) (there_still (others_stay one there is)) gone
        where
          there_still : Stays committed one → is_member committed one.tx ≡ true
          there_still h = ap (is_member committed) (sym h.2) ∙ is_in_run committed h.0 h.1

-- ---- a group is rolled back

module _ (s : State) (by_number : StandByNumber s) (left : List Job) (group : ℕ) (cause : Cause) where
  abbrev rolled : State
  rolled = rolled_back group cause (record s { lent = left })

  abbrev gone_with : List Member
  gone_with = group_members s group

  stays_unless : (one : Member) → In one (members s) → is_among gone_with one.tx ≡ false → Stays rolled one
  stays_unless one at among =
      elim (in_either s.prepared s.active one at) [
        | inl a ↦ (
          one,
          in_first rolled.prepared rolled.active one
              (to_filter (λ x. not (is_among gone_with x.tx)) s.prepared one a (ap not among)),
          refl,
        )
        | inr b ↦ (
          one,
          in_second rolled.prepared rolled.active one
              (to_filter (λ x. not (is_among gone_with x.tx)) s.active one b (ap not among)),
          refl,
        )
      ]

  is_gone : (other : Member) → In other (members s) → other.group ≡ group → is_among gone_with other.tx ≡ true
  is_gone other bt own =
      in_among gone_with other
      (to_by_number tx_of (filter (is_of group) (members s)) other
      (to_filter (is_of group) (members s) other bt (ap (λ n. n == group) own ∙ number_itself group)))

  none_is_left : (other : Member) → is_among gone_with other.tx ≡ true → Stays rolled other → ⊥
  none_is_left other among h =
      elim (in_either rolled.prepared rolled.active h.0 h.1) [
        | inl a ↦ bad (of_filter (λ x. not (is_among gone_with x.tx)) s.prepared h.0 a).1
        | inr b ↦ bad (of_filter (λ x. not (is_among gone_with x.tx)) s.active h.0 b).1
      ]
    where
      bad : not (is_among gone_with h.0.tx) ≡ true → ⊥
      bad stays =
          clash (is_among gone_with h.0.tx) (ap (is_among gone_with) h.2 ∙ among)
          (turned (is_among gone_with h.0.tx) stays)

  rolls_back : LeaveTogether s true rolled
  rolls_back one other at bt same gone =
      not_there rolled other
      (none_is_left other (is_gone other bt (sym same ∙ of_group (is_among gone_with one.tx) refl)))
    where
      of_group : (b : Bool) → is_among gone_with one.tx ≡ b → one.group ≡ group
      of_group true is =
          let r = among_in gone_with one.tx is in
          let q = of_filter (is_of group) (members s) r.0
          (from_by_number tx_of (filter (is_of group) (members s)) r.0 r.1) in
          let one_is = same_member s by_number one r.0 at q.0 (sym r.2) in
          ap (λ (x : Member). x.group) one_is ∙ same_number r.0.group group q.1
      of_group false is = clash (is_member rolled one.tx) (there rolled one (stays_unless one at is)) gone

ends : (s : State) → LeaveTogether s true (ending s)
ends s one other at bt same gone = not_there (ending s) other none
  where
    bad : (x : Member) → In x (members s) → not (is_among (members s) x.tx) ≡ true → ⊥
    bad x there stays =
        clash (is_among (members s) x.tx) (in_among (members s) x there) (turned (is_among (members s) x.tx) stays)

    none : Stays (ending s) other → ⊥
    none h =
        elim (in_either (ending s).prepared (ending s).active h.0 h.1) [
          | inl a ↦
              let q = of_filter (λ x. not (is_among (members s) x.tx)) s.prepared h.0 a in
              bad h.0 (in_first s.prepared s.active h.0 q.0) q.1
          | inr b ↦
              let q = of_filter (λ x. not (is_among (members s) x.tx)) s.active h.0 b in
              bad h.0 (in_second s.prepared s.active h.0 q.0) q.1
        ]

-- ---- all events

starts : (s new : State) → IsTidy s → s.running ≡ false → LeaveTogether s false new
starts s new tidy off one other at bt same gone =
    absurd (subst (In one) (λ i. tidy.no_prepared off i ++ tidy.no_active off i) at)

abbrev IsLeftTogether : State → Bool → Bool → List Job → State → Type 0
IsLeftTogether s added rolled jobs new = LeaveTogether s rolled new

leaves_together : (s : State) → StandByNumber s → IsTidy s → Leaves s (IsLeftTogether s)
leaves_together s by_number tidy =
    record {
      same = all_stay s s false (λ x at. (x, at, refl));
      submits = λ script form. all_stay s (submitting s script form) false (λ x at. (x, at, refl));
      starts = λ first more off asleep. starts s (starting s) tidy off;
      lends = λ m c at. one_replaced s (lending s m c) _ false refl refl;
      posts = λ m c at. one_replaced s (posting s m c) _ false refl refl;
      prepares = λ m at. all_stay s (preparing s m) false (prepares s m);
      commits = commits s by_number;
      rolls_back = rolls_back s by_number s.lent;
      fails = λ left group cause back. rolls_back s by_number left group cause;
      finishes = λ left m c outcome back at. finishes (record s { lent = left }) m c outcome;
      picks = λ asked.
          all_stay s (record s { lent = s.lent ++ joint_job s asked ∷ [] }) false (λ x at. (x, at, refl));
      joins = λ left asked groundings back. joins s left asked groundings;
      tries = λ left asked back.
          all_stay s (record s { lent = left; tried = asked ∷ s.tried }) false (λ x at. (x, at, refl));
      ends = λ on. ends s;
      recalls = all_stay s (record s { lent = [] }) false (λ x at. (x, at, refl));
    }

pub all_together : {F : Type 0} (forms : Forms F) (s : State) (event : Event) (reply : Reply F) (new : State)
    (one other : Member) → StandByNumber s → IsTidy s → Step forms s event reply new → In one (members s)
    → In other (members s) → one.group ≡ other.group → is_member new one.tx ≡ false → is_member new other.tx ≡ false
all_together forms s event reply new one other by_number tidy step =
    left_behind s (IsLeftTogether s) (leaves_together s by_number tidy) forms event reply new step one other
