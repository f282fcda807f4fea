-- A member makes its ordinary statement: the result of its job is accepted.
use Rattle.std.proofs.Common.{◌≡◌, ◌⊎◌, ◌<◌, ℕ, suc, ◌==◌, Bool, true, false, not, List, [], ◌∷◌, ◌++◌, map, refl}
use Rattle.std.proofs.Common.{sym, ap, subst, ◌∙◌, inl, inr, arith, Ok, append-nil, length}
use Rattle.std.specs.List.{filter}
use Rattle.ent_value.specs.declared.value.Value.{Value}
use Rattle.ent_semantics.specs.declared.answer.Answer.{Answer}
use Rattle.ent_semantics.specs.declared.answer.Answer.TheVariants as answers
use Rattle.ent_semantics.specs.Serial.{Operation}
use Rattle.ent_semantics.specs.Database.{Environment, nothing_bound}
use Rattle.ent_semantics.specs.Form.{Tables, closed_worth, form_meaning}
use Rattle.ent_semantics.specs.FormKinds.{changed_tables}
use Rattle.ent_semantics.specs.declared.statement.Statement.{Statement}
use Rattle.ent_form.specs.Tables.{database_of}
use Rattle.ent_protocol.specs.Begin.{replaced}
use Rattle.ent_protocol.specs.Finish.{variable_of, with_change, with_bound, noted, stepped, finished}
use Rattle.ent_protocol.specs.Job.{Job, Outcome, Shown, Changed, Bound, Choice, Fault}
use Rattle.ent_protocol.specs.Member.{Ordinary, next_of, environment_of, is_single_of}
use Rattle.ent_protocol.specs.Run.{Forms}
use Rattle.ent_protocol.specs.State.{State, Member}
use Rattle.ent_protocol.specs.Uses.{statement_uses}
use Rattle.ent_protocol_laws.proofs.Lent.{replaced_here}
use Rattle.ent_protocol_laws.specs.Faithful.{is_used, is_owned, AreFaithful}
use Rattle.ent_protocol_laws.specs.History.{History}
use Rattle.ent_protocol_laws.specs.SerialState.{Follows}
use Rattle.ent_lists.specs.Elements.{In, Same, of_all, to_all, all_joined, all_filtered, of_filter, to_filter}
use Rattle.ent_lists.specs.Elements.{in_either, in_first, in_second, of_map, to_map, map_joined, clash, turned}
use Rattle.ent_lists.specs.Elements.{pairs_at, pairs_map, pairs_by, same_number, other_number, differ}
use Rattle.ent_protocol.proofs.Numbers.{replaced_tx}
use Rattle.ent_protocol_laws.proofs.Frame.{Laws, apart_turned}
use Rattle.ent_protocol_laws.proofs.Undo.{at_number, set_elsewhere}
use Rattle.ent_protocol_laws.proofs.Sound.{AreApart, has_tx, last}
use Rattle.ent_protocol_laws.proofs.SerialActs.{OwnsFirst, Makes, sound_made}
use Rattle.ent_protocol_laws.proofs.Outcomes.{SameAt, Lands}
use Rattle.ent_protocol_laws.proofs.Operations.{HoldsUses, with_operation, owns_table, follows_pushed, ordinary_makes}
use Rattle.ent_protocol_laws.proofs.Operations.{ordinary_oracled}
use Rattle.ent_protocol_laws.proofs.Operations.{values_bound, ordinary_asks}
use Rattle.ent_protocol_laws.proofs.Jobs.{Stays, Moves, jobs_moved, stays_as_is}
use Rattle.ent_protocol_laws.proofs.Asks.{asks_at, asks_of, history_asks, asks_pushed, replays_in}
use Rattle.ent_protocol_laws.proofs.Joints.{Was, stand_moved, unchanged}
use Rattle.ent_protocol_laws.proofs.SerialKept.{Kept, OtherMember, PostedHolds, member_of, history_of, active_at, in_all}
use Rattle.ent_protocol_laws.proofs.SerialKept.{one_history, one_member, replaced_other}
use Rattle.ent_protocol_laws.proofs.Stands.{ordinary_next, follows_of}

module _ {F : Type 0} (forms : Forms F) (laws : Laws) (s : State) (kept : Kept forms s) (x : History)
    (at : In x kept.others) (member : Member) (operation : Operation) (table : List ℕ)
    (removed added : List (List Value))
    (tx : member.tx ≡ x.member.tx) (place : member.place ≡ suc x.member.place) (unposted : member.posted ≡ false)
    (follows : Follows s.submitted (with_operation x member operation))
    (makes : Makes s.opening.tables x (with_operation x member operation) s.tables
    (with_change table removed added s.tables) table
    removed added)
    (none : (job : Job) → In job s.lent → is_single_of x.member.tx job ≡ false)
    (plain : (number index : ℕ) (environment : Environment)
    → asks_at number index operation.statement operation.valuation environment ≡ []) where
  abbrev rest : List History
  rest = filter (λ y. not (has_tx x.member.tx y)) kept.others

  abbrev new : Tables
  new = with_change table removed added s.tables

  one_of_two : (m : Member) → In m s.active
      → (m ≡ x.member) × (replaced member m ≡ member)
      ⊎ ((m.tx ≡ x.member.tx → ⊥) × (replaced member m ≡ m))
  one_of_two m mt = by (m.tx == x.member.tx) refl
    where
      by : (b : Bool) → (m.tx == x.member.tx) ≡ b → (m ≡ x.member) × (replaced member m ≡ member)
          ⊎ ((m.tx ≡ x.member.tx → ⊥) × (replaced member m ≡ m))
      by true is =
          let same = same_number m.tx x.member.tx is in
          inl (
            one_member forms s kept m x.member mt (active_at forms s kept x at) same,
            replaced_here member m (same ∙ sym tx),
          )
      by false is =
          inr (
            differ m.tx x.member.tx is,
            replaced_other member m (ap (λ n. m.tx == n) tx ∙ is),
          )

  -- what another unprepared member uses is as it was
  used_same : (m : Member) → In m s.active → (m.tx ≡ x.member.tx → ⊥) → SameAt m.uses s.tables new
  used_same m mt differs number used =
      let y = history_of forms s kept m mt in
      elim (pairs_at AreApart (λ a b. apart_turned a.member b.member) kept.others x y.0 kept.sound.apart at y.1) [
        | inl same ↦ absurd (differs (ap (λ (z : Member). z.tx) y.2 ∙ ap (λ (h : History). h.member.tx) (sym same)))
        | inr apart ↦
            elsewhere table makes.one (λ owned.
            clash (is_used m.uses number) used
            (ap (λ (z : Member). is_used z.uses number) y.2 ∙ (apart number).0 owned))
      ]
    where
      elsewhere : (tables_of : List ℕ) → OwnsFirst x.member.uses tables_of
          → (is_owned x.member.uses number ≡ true → ⊥)
          → at_number s.tables number ≡ at_number (with_change tables_of removed added s.tables) number
      elsewhere [] owns unowned = refl
      elsewhere (first ∷ more) owns unowned =
          sym (set_elsewhere s.tables first number _ (other_number first number (λ same.
          unowned (subst (λ n. is_owned x.member.uses n ≡ true) same owns))))

  members_same : Same (map member_of (rest ++ with_operation x member operation ∷ [])) (map (replaced member) s.active)
  members_same z = (
    λ zt. elim (in_either (map member_of rest) (member ∷ []) z
        (subst (In z) (map_joined member_of rest (with_operation x member operation ∷ [])) zt)) [
          | inl a ↦
              let y = of_map member_of rest z a in
              let f = of_filter (λ y. not (has_tx x.member.tx y)) kept.others y.0 y.1 in
              let stay = replaced_other member y.0.member
              (ap (λ n. y.0.member.tx == n) tx ∙ turned (y.0.member.tx == x.member.tx) f.1) in
              subst (λ m. In m (map (replaced member) s.active)) (stay ∙ sym y.2)
              (to_map (replaced member) s.active y.0.member (active_at forms s kept y.0 f.0))
          | inr b ↦ elim b [
            | inl same ↦
                subst (λ m. In m (map (replaced member) s.active)) (replaced_here member x.member (sym tx) ∙ sym same)
                (to_map (replaced member) s.active x.member (active_at forms s kept x at))
            | inr bad ↦ absurd bad
          ]
        ],
    λ zt.
        let m = of_map (replaced member) s.active z zt in
        subst (In z) (sym (map_joined member_of rest (with_operation x member operation ∷ [])))
        (elim (one_of_two m.0 m.1) [
          | inl one ↦ in_second (map member_of rest) (member ∷ []) z (inl (m.2 ∙ one.1))
          | inr other ↦
              let y = history_of forms s kept m.0 m.1 in
              in_first (map member_of rest) (member ∷ []) z
              (subst (λ w. In w (map member_of rest)) (sym (m.2 ∙ other.1 ∙ y.2))
              (to_map member_of rest y.0 (to_filter (λ h. not (has_tx x.member.tx h)) kept.others y.0 y.1
              (ap not (other_number y.0.member.tx x.member.tx (λ e.
              other.0 (ap (λ (w : Member). w.tx) y.2 ∙ e)))))))
        ]),
  )

  abbrev old : List History
  old = kept.prepared ++ kept.others

  abbrev now : List History
  now = kept.prepared ++ (rest ++ with_operation x member operation ∷ [])

  asks_same : history_asks (with_operation x member operation) ≡ history_asks x
  asks_same =
      let r = replays_in s.opening.tables old kept.base (database_of s.opening.tables s.tables) kept.sound.serial x
      (in_all forms s kept x at) in
      ap (λ n. asks_of n 1 (x.operations ++ operation ∷ []) nothing_bound) tx
      ∙ asks_pushed s.opening.tables x r.0 r.1 operation r.2
      ∙ ap (λ more. history_asks x ++ more) (plain x.member.tx (suc (length x.operations)) (environment_of x.member))
      ∙ append-nil (history_asks x)

  was : (y : History) → In y now → Was old y
  was y yt =
      elim (in_either kept.prepared (rest ++ with_operation x member operation ∷ []) y yt) [
        | inl a ↦ unchanged y (in_first kept.prepared kept.others y a)
        | inr b ↦ elim (in_either rest (with_operation x member operation ∷ []) y b) [
          | inl c ↦ unchanged y
              (in_second kept.prepared kept.others y
              (of_filter (λ y. not (has_tx x.member.tx y)) kept.others y c).0)
          | inr d ↦ elim d [
            | inl same ↦ record {
              old = x;
              at = in_all forms s kept x at;
              asks = ap history_asks same ∙ asks_same;
              same_tx = ap (λ (h : History). h.member.tx) same ∙ tx;
              same_group = ap (λ (h : History). h.member.group) same ∙ makes.group;
            }
            | inr bad ↦ absurd bad
          ]
        ]
      ]

  is_now : (y : History) → In y old → (z : History) × In z now × (history_asks z ≡ history_asks y)
  is_now y yt =
      elim (in_either kept.prepared kept.others y yt) [
        | inl a ↦ (y, in_first kept.prepared (rest ++ with_operation x member operation ∷ []) y a, refl)
        | inr b ↦ by (has_tx x.member.tx y) refl b
      ]
    where
      by : (c : Bool) → has_tx x.member.tx y ≡ c → In y kept.others
          → (z : History) × In z now × (history_asks z ≡ history_asks y)
      by true is b =
          let same = one_history old y x kept.sound.fit (in_all forms s kept y b) (in_all forms s kept x at)
          (same_number y.member.tx x.member.tx is) in (
            with_operation x member operation,
            in_second kept.prepared (rest ++ with_operation x member operation ∷ []) (with_operation x member operation)
                (in_second rest (with_operation x member operation ∷ []) (with_operation x member operation)
                (inl refl)),
            asks_same ∙ ap history_asks (sym same),
          )
      by false is b = (
        y,
        in_second kept.prepared (rest ++ with_operation x member operation ∷ []) y
            (in_first rest (with_operation x member operation ∷ []) y
            (to_filter (λ y. not (has_tx x.member.tx y)) kept.others y b (ap not is))),
        refl,
      )

  pub made : Kept forms (record s {
    active = map (replaced member) s.active;
    tables = with_change table removed added s.tables;
    changes = noted x.member.tx table s.tables s.changes;
  })
  made =
      record {
        committed = kept.committed;
        prepared = kept.prepared;
        others = rest ++ with_operation x member operation ∷ [];
        base = kept.base;
        journal = kept.journal;
        of_prepared = kept.of_prepared;
        same = members_same;
        settles = kept.settles;
        sound = sound_made s.opening.tables laws kept.base kept.prepared rest x (with_operation x member operation)
            s.tables new
            s.changes table removed added
            (last s.opening.tables laws kept.base kept.prepared kept.others s.tables s.changes kept.sound x at) makes;
        whole = kept.whole;
        follow = all_joined (Follows s.submitted) rest (with_operation x member operation ∷ [])
            (all_filtered (Follows s.submitted) (λ y. not (has_tx x.member.tx y)) kept.others kept.follow)
            (follows, tt);
        resolved = kept.resolved;
        faithful = kept.faithful;
        posted = to_all (PostedHolds s.submitted) (map (replaced member) s.active) (λ other ot.
            let m = of_map (replaced member) s.active other ot in
            subst (PostedHolds s.submitted) (sym m.2) (elim (one_of_two m.0 m.1) [
              | inl one ↦ subst (PostedHolds s.submitted) (sym one.1) (λ is. clash member.posted is unposted)
              | inr stay ↦ subst (PostedHolds s.submitted) (sym stay.1)
                  (of_all (PostedHolds s.submitted) s.active m.0 kept.posted m.1)
            ]));
        jobs = jobs_moved s.submitted s.active (map (replaced member) s.active) s.tables new s.lent s.lent
            (λ job jt. jt)
            (λ other ot.
            let m = of_map (replaced member) s.active other ot in (
              m.0,
              m.1,
              elim (one_of_two m.0 m.1) [
                | inl one ↦
                    inr (subst (Moves m.0) (sym (m.2 ∙ one.1)) (subst (λ w. Moves w member) (sym one.0)
                    (tx, further x.member.place member.place place)))
                | inr stay ↦
                    inl (subst (Stays s.tables new m.0) (sym (m.2 ∙ stay.1))
                    (stays_as_is s.tables new m.0 (used_same m.0 m.1 stay.0)))
              ],
            ))
            (λ one ot is has.
            elim (one_of_two one ot) [
              | inl same ↦
                  clash (is_single_of x.member.tx has.0)
                  (ap (λ (w : Member). is_single_of w.tx has.0) (sym same.0) ∙ has.2) (none has.0 has.1)
              | inr stay ↦ (
                replaced member one,
                to_map (replaced member) s.active one ot,
                subst (Stays s.tables new one) (sym stay.1)
                    (stays_as_is s.tables new one (used_same one ot stay.0)),
                ap (λ (w : Member). w.posted) stay.1 ∙ is,
              )
            ]) kept.jobs;
        jobs_apart = kept.jobs_apart;
        idle = λ off. absurd (subst (In x.member) (kept.idle off).1 (active_at forms s kept x at));
        active_apart = pairs_map (replaced member) OtherMember s.active
            (pairs_by OtherMember (λ a b. OtherMember (replaced member a) (replaced member b)) s.active
            (λ a b h e. h (sym (replaced_tx member a) ∙ e ∙ replaced_tx member b)) kept.active_apart);
        dormant = kept.dormant;
        not_prepared = kept.not_prepared;
        not_active = λ d m dt mt e.
            let r = of_map (replaced member) s.active m mt in
            kept.not_active d r.0 dt r.1
            (sym (replaced_tx member r.0) ∙ ap (λ (w : Member). w.tx) (sym r.2) ∙ e);
        scripts = kept.scripts;
        joined = stand_moved kept.committed old now s.joints was is_now kept.joined;
        committed_fated = kept.committed_fated;
        fated = kept.fated;
        fated_not_prepared = kept.fated_not_prepared;
        fated_not_active = λ d m dt mt e.
            let r = of_map (replaced member) s.active m mt in
            kept.fated_not_active d r.0 dt r.1
            (sym (replaced_tx member r.0) ∙ ap (λ (w : Member). w.tx) (sym r.2) ∙ e);
        fated_not_dormant = kept.fated_not_dormant;
        fated_scripts = kept.fated_scripts;
      }
    where
      further : (a b : ℕ) → b ≡ suc a → a < b
      further a b e = omega (arith, e)

module _ {F : Type 0} (forms : Forms F) (laws : Laws) (s : State) (kept : Kept forms s)
    (faithful : AreFaithful forms s.opening) (x : History) (at : In x kept.others)
    (c : Statement Value) (next : next_of s x.member ≡ Ordinary c)
    (holds : HoldsUses x.member (statement_uses c))
    (none : (job : Job) → In job s.lent → is_single_of x.member.tx job ≡ false) where
  follows : Follows s.submitted x
  follows = follows_of forms laws s kept faithful x at

  -- one that answers this, and leaves this
  finishes_as : (member : Member) (answer : Answer) (table : List ℕ) (removed added : List (List Value))
      → member.tx ≡ x.member.tx → member.group ≡ x.member.group → member.uses ≡ x.member.uses
      → member.place ≡ suc x.member.place → member.posted ≡ false
      → member.answers ≡ x.member.answers ++ answer ∷ [] → OwnsFirst x.member.uses table
      → form_meaning closed_worth c [] s.tables (environment_of x.member)
      ≡ Ok (record {
        database = with_change table removed added s.tables;
        environment = environment_of member;
        answer = answer;
      })
      → Kept forms (record s {
        active = map (replaced member) s.active;
        tables = with_change table removed added s.tables;
        changes = noted x.member.tx table s.tables s.changes;
      })
  finishes_as member answer table removed added tx group uses place unposted told owns meaning =
      let n = ordinary_next forms s kept faithful x follows c next in
      let operation : Operation = record { statement = n.0.statement; valuation = [] } in
      let new = with_change table removed added s.tables in
      made forms laws s kept x at member operation table removed added tx place unposted
      (follows_pushed s.submitted x member operation follows tx place
      (ordinary_oracled s.opening.tables laws x member n.0.statement n.0.form c n.0.faithful n.0.closes n.1 holds uses
      tx
      group s.tables new answer told kept.sound.wide meaning) n.0.at)
      (ordinary_makes s.opening.tables laws x member n.0.statement n.0.form c n.0.faithful n.0.closes n.1 holds uses tx
      group s.tables new answer told kept.sound.wide meaning table removed added refl owns) none
      (ordinary_asks s.opening.tables laws x member n.0.statement n.0.form c n.0.faithful n.0.closes n.1 holds uses tx
      group s.tables new answer told kept.sound.wide meaning)

  pub finishes_by : (outcome : Outcome)
      → Lands c s.tables (environment_of x.member)
      (form_meaning closed_worth c [] s.tables (environment_of x.member)) outcome
      → Kept forms (finished s x.member c outcome)
  finishes_by (Shown rows) lands_so =
      finishes_as (stepped (answers.Rows rows) x.member) (answers.Rows rows) [] [] [] refl refl refl refl refl refl tt
      lands_so
  finishes_by (Changed count removed added) lands_so =
      finishes_as (stepped (answers.Count count) x.member) (answers.Count count) (changed_tables c) removed added refl
      refl refl refl refl refl (owns_table c x.member holds) lands_so
  finishes_by (Bound value) lands_so =
      let bound = values_bound (variable_of c) value x.member.bound in
      finishes_as (stepped (answers.Value value)
      (record x.member { bound = with_bound (variable_of c) value x.member.bound })) (answers.Value value) [] [] [] refl
      refl refl refl refl refl tt
      (lands_so ∙ (λ i. Ok (record {
        database = s.tables;
        environment = sym bound i;
        answer = answers.Value value;
      })))
  finishes_by (Choice groundings) lands_so = kept
  finishes_by (Fault failure) lands_so = kept
