-- Members are answered together, and their groups become one.
use Rattle.std.proofs.Common.{◌≡◌, ◌⊎◌, ◌<◌, ℕ, suc, true, false, List, [], ◌∷◌, ◌++◌, map, length, refl, sym, ap}
use Rattle.std.proofs.Common.{subst, ◌∙◌, inl, inr, arith, Some, append-nil, slice_get}
use Rattle.std.specs.List.{AllByRecursion}
use Rattle.ent_protocol_laws.proofs.JoinedLabels.{label_same}
use Rattle.ent_tree.specs.declared.entangled.Entangled.{Entangled as TreeEntangled}
use Rattle.ent_tree.specs.declared.script.Statement.{Statement as TreeStatement}
use Rattle.ent_tree.specs.declared.script.Statement.TheVariants as tree
use Rattle.ent_semantics.specs.declared.answer.Answer.TheVariants as answers
use Rattle.ent_semantics.specs.Database.{Database, nothing_bound}
use Rattle.ent_semantics.specs.Entangled.{Valuation, written_variables}
use Rattle.ent_semantics.specs.Serial.{numbered}
use Rattle.ent_semantics.specs.declared.book.JointAnswer.{JointAnswer}
use Rattle.ent_semantics.specs.Uses.{Agree, Covers}
use Rattle.ent_semantics.specs.declared.answer.Fact.{Fact}
use Rattle.ent_semantics.specs.declared.book.Member.{Member as JointMember}
use Rattle.ent_semantics.specs.Book.{AreApart as AreApartMembers}
use Rattle.ent_semantics.specs.Closing.{closed, closed_entangled}
use Rattle.ent_semantics.specs.Form.{Tables, form_heads, is_form_grounding, form_posts}
use Rattle.ent_semantics.specs.declared.entangled.Entangled.{Entangled}
use Rattle.ent_semantics.specs.declared.operand.Known.{Known}
use Rattle.ent_semantics.specs.declared.statement.Statement.TheVariants as statements
use Rattle.ent_semantics.specs.Choice.{AreGroundings, all_posts, all_heads}
use Rattle.ent_form.specs.Tables.{database_of}
use Rattle.ent_semantics.specs.Pool.{Posted}
use Rattle.ent_protocol.specs.Job.{Job}
use Rattle.ent_protocol.specs.Member.{next_of, environment_of}
use Rattle.ent_protocol.specs.PoolEvents.{answered_by, answered_among, joined_label, in_joined_group, joint_members}
use Rattle.ent_protocol.specs.PoolEvents.{joint_answer}
use Rattle.ent_protocol.specs.Run.{Forms}
use Rattle.ent_protocol.specs.State.{State, Member}
use Rattle.ent_protocol.specs.Uses.{statement_uses, entangled_uses}
use Rattle.ent_protocol_laws.specs.Faithful.{table_number, is_used, is_owned, IsFaithful, IsFaithfulEntangled}
use Rattle.ent_protocol_laws.specs.Faithful.{AreFaithful}
use Rattle.ent_protocol_laws.specs.History.{History, Replays}
use Rattle.ent_protocol_laws.specs.SerialState.{Follows, IsWhole, IsOracled}
use Rattle.ent_lists.specs.Elements.{In, Pairs, of_all, in_either, of_map, to_map, pairs_across, pairs_at, in_first}
use Rattle.ent_lists.specs.Elements.{in_second, map_joined}
use Rattle.ent_protocol_laws.proofs.Frame.{Laws, IsCovered, held}
use Rattle.ent_protocol_laws.proofs.Sound.{Fit, AreApart}
use Rattle.ent_protocol_laws.proofs.SerialActs.{Keeps}
use Rattle.ent_protocol_laws.proofs.Outcomes.{grounding_same}
use Rattle.ent_protocol_laws.proofs.Scripts.{replays_pushed}
use Rattle.ent_protocol_laws.proofs.Operations.{HoldsUses, with_operation, covers_pushed, follows_pushed, IsPair}
use Rattle.ent_protocol_laws.proofs.Operations.{pair_of}
use Rattle.ent_protocol_laws.proofs.Operations.{asked_meaning, asked_grounds, asked_length}
use Rattle.ent_protocol_laws.proofs.Jobs.{OtherJob, PostedQueryRight, StillAsks, Moves}
use Rattle.ent_protocol_laws.proofs.Asks.{Ask, ask_member, ask_heads, ask_posts, asks_at, asks_place, history_asks}
use Rattle.ent_protocol_laws.proofs.Asks.{asks_pushed, replays_in}
use Rattle.ent_protocol_laws.proofs.Answered.{answered_keeps, operation_at, operations_among, statement_operation}
use Rattle.ent_protocol_laws.proofs.Answered.{joint_member}
use Rattle.ent_protocol_laws.proofs.Answered.{IsAnswered}
use Rattle.ent_protocol_laws.proofs.Answered.{IsLeft, answered_or_left, nonempty, from_joint, from_heads, joint_pairs}
use Rattle.ent_protocol_laws.proofs.Answered.{OtherPostedQuery, IsPresent}
use Rattle.ent_protocol_laws.proofs.Joints.{JointsRight, JointsStand, AsksOf, OtherTx, right_one, stand_joined}
use Rattle.ent_protocol_laws.proofs.Joints.{of_own}
use Rattle.ent_protocol_laws.proofs.SerialKept.{Kept, member_of, kept_mapped, history_of, active_at, one_member}
use Rattle.ent_protocol_laws.proofs.SerialKept.{map_alike, in_all, one_history, committed_apart}
use Rattle.ent_protocol_laws.proofs.Moved.{posted_joined, jobs_joined}
use Rattle.ent_protocol_laws.proofs.Stands.{IsNext, posting_next, follows_of}

module _ {F : Type 0} (forms : Forms F) (laws : Laws) (s : State) (kept : Kept forms s)
    (faithful : AreFaithful forms s.opening) (asked : List Posted) (groundings : List Valuation) (seen : Tables)
    (groups : List ℕ) (good : AreGroundings seen asked groundings)
    (present : AllByRecursion (IsPresent s) asked)
    (right : AllByRecursion (PostedQueryRight s.active s.tables seen) asked) where
  abbrev change : Member → Member
  change m = in_joined_group groups (answered_among asked groundings m)

  abbrev entered : History → History
  entered x =
      record {
        member = in_joined_group groups (answered_among asked groundings x.member);
        operations = x.operations ++ operations_among s.submitted asked groundings x.member;
      }

  abbrev regrouped : History → History
  regrouped x = record { member = in_joined_group groups x.member; operations = x.operations }

  tx_kept : (m : Member) → (change m).tx ≡ m.tx
  tx_kept m = answered_keeps (λ (x : Member). x.tx) (λ a v x. refl) asked groundings m

  uses_kept : (m : Member) → (change m).uses ≡ m.uses
  uses_kept m = answered_keeps (λ (x : Member). x.uses) (λ a v x. refl) asked groundings m

  group_kept : (m : Member) → (change m).group ≡ joined_label groups m.group
  group_kept m = ap (joined_label groups) (answered_keeps (λ (x : Member). x.group) (λ a v x. refl) asked groundings m)

  -- one that isn't answered
  left_is : (x : History) → IsLeft s.submitted asked groundings x.member → entered x ≡ regrouped x
  left_is x r =
      λ i. record {
        member = in_joined_group groups (r.member i);
        operations = (ap (λ ds. x.operations ++ ds) r.operations ∙ append-nil x.operations) i;
      }

  -- the member of a statement of the answer
  present_of : (m : Member) (a : Posted) → In m s.active → In a asked → m.tx ≡ a.tx
      → (p : IsPresent s a) × (p.member ≡ m)
  present_of m a mt at same =
      let p = of_all (IsPresent s) asked a present at in
      (p, one_member forms s kept p.member m p.at mt (sym p.tx ∙ sym same))

  -- what holds of a member that is answered
  record Answering (x : History) : Type 0 where
    pub answered : IsAnswered s.submitted seen asked groundings x.member
    pub follows : Follows s.submitted x
    pub next : IsNext forms s x follows (statements.Entangled answered.query.statement)
    pub pair : IsPair s.opening.tables next.statement next.form (environment_of x.member) answered.query.statement
    pub asks : StillAsks s.tables seen answered.query x.member
    pub is : entered x
        ≡ with_operation x (in_joined_group groups (answered_by answered.query answered.values x.member))
        (record { statement = next.statement; valuation = answered.values })

  operation_is : (x : History) (values : Valuation) (follows : Follows s.submitted x) (st : TreeStatement)
      → slice_get follows.own.script.statements (length x.operations) ≡ Some st
      → operation_at x.member values (numbered s.submitted x.member.tx)
      ≡ record { statement = st; valuation = values } ∷ []
  operation_is x values follows st at =
      ap (operation_at x.member values) follows.submitted
      ∙ ap (λ n. statement_operation values (numbered follows.own.script.statements n)) follows.place
      ∙ ap (statement_operation values) at

  answering : (x : History) → In x kept.others → IsAnswered s.submitted seen asked groundings x.member → Answering x
  answering x at r =
      let p = present_of x.member r.query (active_at forms s kept x at) r.at r.tx in
      let follows = follows_of forms laws s kept faithful x at in
      let next = posting_next forms s kept faithful x follows r.query.statement
      (ap (next_of s) (sym p.1) ∙ p.0.next) in
      let still = of_all (PostedQueryRight s.active s.tables seen) asked r.query right r.at x.member
      (active_at forms s kept x at) r.tx in
      record {
        answered = r;
        follows = follows;
        next = next;
        pair = pair_of s.opening.tables next.statement next.form (environment_of x.member) r.query.statement
            next.faithful.alike next.closes;
        asks = still.1 (ap (λ (m : Member). m.place) (sym p.1) ∙ sym p.0.place);
        is = λ i. record {
          member = in_joined_group groups (r.member i);
          operations = x.operations ++ (r.operations ∙ operation_is x r.values follows next.statement next.at) i;
        };
      }

  abbrev of_answer : (x : History) → Answering x → History
  of_answer x r =
      with_operation x (in_joined_group groups (answered_by r.answered.query r.answered.values x.member))
      (record { statement = r.next.statement; valuation = r.answered.values })

  holds_next : (x : History) (r : Answering x)
      → HoldsUses x.member (statement_uses (closed (environment_of x.member) r.next.form))
  holds_next x r =
      subst (λ st. HoldsUses x.member (statement_uses st)) (sym r.next.closes) r.asks.holds

  replays_pair : (x : History) (r : Answering x) (entangled : TreeEntangled) (form : Entangled Known)
      → IsFaithful s.opening.tables (tree.Entangled entangled) (statements.Entangled form)
      → IsFaithfulEntangled s.opening.tables entangled form
      → closed_entangled (environment_of x.member) form ≡ r.answered.query.statement → (before after : Database)
      → Agree (held s.opening.tables x.member.uses) (database_of s.opening.tables s.tables) after
      → Replays s.opening.tables x before after
      → Replays s.opening.tables
      (with_operation x (in_joined_group groups (answered_by r.answered.query r.answered.values x.member))
      (record { statement = tree.Entangled entangled; valuation = r.answered.values })) before after
  replays_pair x r entangled form faith pair closes before after agree replays =
      let asks_for = r.answered.query.statement in
      let values = r.answered.values in
      let grounds : is_form_grounding (λ value. value) s.tables asks_for values ≡ true =
      sym (grounding_same seen s.tables asks_for values r.asks.alike) ∙ r.answered.grounds in
      let covers : Covers (held s.opening.tables x.member.uses) (tree.Entangled entangled) =
      λ name used. (r.asks.holds (table_number s.opening.tables name)).0
      (subst (λ e. is_used (entangled_uses e) (table_number s.opening.tables name) ≡ true) closes
      (faith.reads (environment_of x.member) name used)) in
      replays_pushed s.opening.tables laws x
      (with_operation x (in_joined_group groups (answered_by r.answered.query values x.member))
      (record { statement = tree.Entangled entangled; valuation = values }))
      (record { statement = tree.Entangled entangled; valuation = values }) before after after
      (answers.Heads (form_heads (λ value. value) asks_for values)) refl refl refl
      (asked_meaning s.opening.tables laws x asks_for values entangled form faith pair closes s.tables kept.sound.wide
      grounds after)
      (λ place. (
        sym (laws.grounds (held s.opening.tables x.member.uses) s.opening.tables (environment_of x.member) entangled
            values (database_of s.opening.tables s.tables) after covers agree)
            ∙ asked_grounds s.opening.tables laws x asks_for values entangled form faith pair closes s.tables
            kept.sound.wide grounds,
        tt,
      )) replays

  replays_answer : (x : History) (r : Answering x) (before after : Database)
      → Agree (held s.opening.tables x.member.uses) (database_of s.opening.tables s.tables) after
      → Replays s.opening.tables x before after → Replays s.opening.tables (of_answer x r) before after
  replays_answer x r before after agree replays =
      let pair = r.pair in
      let faith : IsFaithful s.opening.tables (tree.Entangled pair.entangled) (statements.Entangled pair.form) =
      subst (IsFaithful s.opening.tables (tree.Entangled pair.entangled)) pair.form_is
      (subst (λ st. IsFaithful s.opening.tables st r.next.form) pair.is r.next.faithful) in
      subst (λ st. Replays s.opening.tables
      (with_operation x (in_joined_group groups (answered_by r.answered.query r.answered.values x.member))
      (record { statement = st; valuation = r.answered.values })) before after) (sym pair.is)
      (replays_pair x r pair.entangled pair.form faith pair.faithful pair.closes before after agree replays)

  -- ---- each in the place of another

  case_of : (x : History) → In x kept.others → Answering x ⊎ IsLeft s.submitted asked groundings x.member
  case_of x at =
      elim (answered_or_left s.submitted seen asked groundings x.member good) [
        | inl r ↦ inl (answering x at r)
        | inr l ↦ inr l
      ]

  -- a prepared one isn't answered
  prepared_left : (x : History) → In x kept.prepared → IsLeft s.submitted asked groundings x.member
  prepared_left x at =
      elim (answered_or_left s.submitted seen asked groundings x.member good) [
        | inl r ↦
            let p = of_all (IsPresent s) asked r.query present r.at in
            let y = history_of forms s kept p.member p.at in
            absurd ((pairs_across Fit kept.prepared kept.others x y.0 kept.sound.fit at y.1).distinct
            (r.tx ∙ p.tx ∙ ap (λ (m : Member). m.tx) y.2))
        | inr l ↦ l
      ]

  case_all : (x : History) → In x (kept.prepared ++ kept.others)
      → Answering x ⊎ IsLeft s.submitted asked groundings x.member
  case_all x at =
      elim (in_either kept.prepared kept.others x at) [
        | inl a ↦ inr (prepared_left x a)
        | inr b ↦ case_of x b
      ]

  regrouped_replays : (x : History) (before after : Database) → Replays s.opening.tables x before after
      → Replays s.opening.tables (regrouped x) before after
  regrouped_replays x before after r = record { runs = r.runs; grounded = r.grounded }

  apart_entered : (x y : History) → AreApart x y → AreApart (entered x) (entered y)
  apart_entered x y apart table =
      let ux = uses_kept x.member in
      let uy = uses_kept y.member in (
        λ owned. ap (λ us. is_used us table) uy
            ∙ (apart table).0 (sym (ap (λ us. is_owned us table) ux) ∙ owned),
        λ owned. ap (λ us. is_used us table) ux
            ∙ (apart table).1 (sym (ap (λ us. is_owned us table) uy) ∙ owned),
      )

  fit_entered : (x y : History) → Fit x y → Fit (entered x) (entered y)
  fit_entered x y fit =
      record {
        distinct = λ e. fit.distinct (sym (tx_kept x.member) ∙ e ∙ tx_kept y.member);
        groups = λ d. apart_entered x y (fit.groups (λ e.
            d (group_kept x.member ∙ ap (joined_label groups) e ∙ sym (group_kept y.member))));
      }

  covers_entered : (x : History) → Answering x ⊎ IsLeft s.submitted asked groundings x.member
      → IsCovered s.opening.tables x → IsCovered s.opening.tables (entered x)
  covers_entered x (inl r) covered =
      subst (IsCovered s.opening.tables) (sym r.is)
      (covers_pushed s.opening.tables x
      (in_joined_group groups (answered_by r.answered.query r.answered.values x.member)) r.next.statement r.next.form
      r.answered.values r.next.faithful (holds_next x r) refl covered)
  covers_entered x (inr l) covered =
      subst (IsCovered s.opening.tables) (sym (left_is x l))
      (record { reads = covered.reads; writes = covered.writes; within = covered.within })

  keeps : Keeps s.opening.tables kept.prepared kept.others (database_of s.opening.tables s.tables) entered
  keeps =
      record {
        prepared = λ x at before after r.
            subst (λ y. Replays s.opening.tables y before after) (sym (left_is x (prepared_left x at)))
            (regrouped_replays x before after r);
        others = λ x at before after agree r. elim (case_of x at) [
          | inl a ↦ subst (λ y. Replays s.opening.tables y before after) (sym a.is)
              (replays_answer x a before after agree r)
          | inr l ↦ subst (λ y. Replays s.opening.tables y before after) (sym (left_is x l))
              (regrouped_replays x before after r)
        ];
        covers = λ x at covered. covers_entered x (case_all x at) covered;
        fits = λ x y at bt fit. fit_entered x y fit;
        aparts = λ x y at bt fit apart. apart_entered x y apart;
        same = λ x at. tx_kept x.member;
        owns = λ x at table owned. ap (λ us. is_owned us table) (uses_kept x.member) ∙ owned;
      }

  follows_entered : (x : History) → In x kept.others → Follows s.submitted x → Follows s.submitted (entered x)
  follows_entered x at follows =
      elim (case_of x at) [
        | inl r ↦ subst (Follows s.submitted) (sym r.is)
            (follows_pushed s.submitted x
            (in_joined_group groups (answered_by r.answered.query r.answered.values x.member))
            (record { statement = r.next.statement; valuation = r.answered.values }) r.follows refl refl
            (subst (λ st. IsOracled (record { statement = st; valuation = r.answered.values })) (sym r.pair.is) tt)
            r.next.at)
        | inr l ↦ subst (Follows s.submitted) (sym (left_is x l))
            (record {
              own = follows.own;
              submitted = follows.submitted;
              beginning = follows.beginning;
              place = follows.place;
              oracled = follows.oracled;
            })
      ]

  whole_entered : (x : History) → In x kept.prepared → IsWhole s.submitted x → IsWhole s.submitted (entered x)
  whole_entered x at w =
      subst (IsWhole s.submitted) (sym (left_is x (prepared_left x at)))
      (record { own = w.own; submitted = w.submitted; whole = w.whole; commits = w.commits; oracled = w.oracled })

  prepared_change : map change s.prepared ≡ map (in_joined_group groups) s.prepared
  prepared_change =
      map_alike change (in_joined_group groups) s.prepared (λ m mt.
      let y = of_map member_of kept.prepared m (subst (In m) (sym kept.of_prepared) mt) in
      let l = prepared_left y.0 y.1 in
      ap (in_joined_group groups)
      (ap (answered_among asked groundings) y.2 ∙ l.member ∙ sym y.2))

  -- members: one that is answered goes on, one that is left stays
  moves_or_stays : (m : Member) → In m s.active
      → (Moves m (change m) × (m.posted ≡ true) × ((change m).posted ≡ false))
      ⊎ (change m ≡ in_joined_group groups m)
  moves_or_stays m mt =
      let y = history_of forms s kept m mt in
      elim (case_of y.0 y.1) [
        | inl r ↦ inl (subst (λ z. Moves z (change z) × (z.posted ≡ true) × ((change z).posted ≡ false)) (sym y.2)
            (subst (λ h. Moves y.0.member h.member × (y.0.member.posted ≡ true) × (h.member.posted ≡ false)) (sym r.is)
            ((refl, further y.0.member.place), r.asks.posted, refl)))
        | inr l ↦ inr (ap change y.2 ∙ ap (in_joined_group groups) (l.member ∙ sym y.2))
      ]
    where
      further : (n : ℕ) → n < suc n
      further n = omega arith

  long : (x : History) (r : Answering x) → length r.answered.values ≡ length (written_variables r.pair.entangled)
  long x r =
      let pair = r.pair in
      let faith : IsFaithful s.opening.tables (tree.Entangled pair.entangled) (statements.Entangled pair.form) =
      subst (IsFaithful s.opening.tables (tree.Entangled pair.entangled)) pair.form_is
      (subst (λ st. IsFaithful s.opening.tables st r.next.form) pair.is r.next.faithful) in
      asked_length s.opening.tables laws x r.answered.query.statement r.answered.values pair.entangled pair.form faith
      pair.faithful pair.closes s.tables kept.sound.wide
      (sym (grounding_same seen s.tables r.answered.query.statement r.answered.values r.asks.alike)
      ∙ r.answered.grounds)

  -- ---- the joint answer

  abbrev new_ask : (x : History) → Answering x → Ask
  new_ask x r =
      record {
        tx = x.member.tx;
        place = suc (length x.operations);
        valuation = r.answered.values;
        entangled = r.pair.entangled;
        environment = environment_of x.member;
      }

  -- an entangled statement that is answered now
  abbrev NewAsk : Ask → Type 0
  NewAsk ask = (x : History) × In x kept.others × (r : Answering x) × (ask ≡ new_ask x r)

  new_member : (x : History) → In x kept.others → (r : Answering x)
      → ask_member (new_ask x r) ≡ joint_member r.answered.query r.answered.values
  new_member x at r =
      let p = present_of x.member r.answered.query (active_at forms s kept x at) r.answered.at r.answered.tx in
      let place : suc (length x.operations) ≡ r.answered.query.place =
      sym r.follows.place ∙ ap (λ (m : Member). m.place) (sym p.1) ∙ sym p.0.place in
      λ i. record { tx = r.answered.tx i; place = place i; grounding = r.answered.values }

  asks_answered : (x : History) → In x kept.others → (r : Answering x)
      → history_asks (entered x) ≡ history_asks x ++ new_ask x r ∷ []
  asks_answered x at r =
      let run = replays_in s.opening.tables (kept.prepared ++ kept.others) kept.base
      (database_of s.opening.tables s.tables) kept.sound.serial x (in_all forms s kept x at) in
      ap history_asks r.is
      ∙ asks_pushed s.opening.tables x run.0 run.1
      (record { statement = r.next.statement; valuation = r.answered.values }) run.2
      ∙ ap (λ st. history_asks x
      ++ asks_at x.member.tx (suc (length x.operations)) st r.answered.values (environment_of x.member)) r.pair.is

  asks_left : (x : History) → IsLeft s.submitted asked groundings x.member → history_asks (entered x) ≡ history_asks x
  asks_left x l = ap history_asks (left_is x l)

  -- the one that a statement of the answer is of
  answering_of : (a : Posted) → In a asked → (x : History) × In x kept.others × (r : Answering x) × (x.member.tx ≡ a.tx)
  answering_of a at =
      let p = of_all (IsPresent s) asked a present at in
      let y = history_of forms s kept p.member p.at in
      let tx : y.0.member.tx ≡ a.tx = ap (λ (m : Member). m.tx) (sym y.2) ∙ sym p.tx in
      elim (case_of y.0 y.1) [
        | inl r ↦ (y.0, y.1, r, tx)
        | inr l ↦ absurd (l.none a at tx)
      ]

  module _ (apart : Pairs OtherPostedQuery asked) (some : asked ≡ [] → ⊥)
      (choice : (post : Fact) → In post (all_posts asked groundings)
      → In post (all_heads asked groundings))
      (grouped : (a : Posted) → In a asked → (x : History) → In x (kept.prepared ++ kept.others)
      → x.member.tx ≡ a.tx → In x.member.group groups) where
    joint_apart : Pairs OtherTx (joint_members asked groundings)
    joint_apart = joint_pairs asked groundings apart

    -- a place of the answer is that of the member that is answered there
    same_place : (m : JointMember) → In m (joint_members asked groundings) → (x : History) → In x kept.others
        → (r : Answering x) → x.member.tx ≡ m.tx → m ≡ ask_member (new_ask x r)
    same_place m mt x at r tx =
        elim (pairs_at OtherTx (λ a b h e. h (sym e)) (joint_members asked groundings) m
        (joint_member r.answered.query r.answered.values) joint_apart mt r.answered.in_joint) [
          | inl e ↦ e ∙ sym (new_member x at r)
          | inr differ_so ↦ absurd (differ_so (sym tx ∙ r.answered.tx))
        ]

    posts_are : (x : History) (r : Answering x)
        → ask_posts (new_ask x r) ≡ form_posts (λ value. value) r.answered.query.statement r.answered.values
    posts_are x r =
        r.pair.faithful.demands (environment_of x.member) r.answered.values (long x r)
        ∙ sym (laws.closes_posts (environment_of x.member) r.pair.form r.answered.values)
        ∙ ap (λ e. form_posts (λ value. value) e r.answered.values) r.pair.closes

    heads_are : (x : History) (r : Answering x)
        → ask_heads (new_ask x r) ≡ form_heads (λ value. value) r.answered.query.statement r.answered.values
    heads_are x r =
        r.pair.faithful.offers (environment_of x.member) r.answered.values (long x r)
        ∙ sym (laws.closes_heads (environment_of x.member) r.pair.form r.answered.values)
        ∙ ap (λ e. form_heads (λ value. value) e r.answered.values) r.pair.closes

    same_query : (a : Posted) → In a asked → (x : History) (r : Answering x) → x.member.tx ≡ a.tx
        → a ≡ r.answered.query
    same_query a at x r tx =
        elim (pairs_at OtherPostedQuery (λ u v h e. h (sym e)) asked a r.answered.query apart at r.answered.at) [
          | inl e ↦ e
          | inr differ_so ↦ absurd (differ_so (sym tx ∙ r.answered.tx))
        ]

    -- what a place of the answer offers is offered by a statement that is answered now
    offered : (a : Posted) (v : Valuation) → In a asked → In (joint_member a v) (joint_members asked groundings)
        → (post : Fact) → In post (form_heads (λ value. value) a.statement v)
        → (other : Ask) × NewAsk other × In (ask_member other) (joint_members asked groundings)
        × In post (ask_heads other)
    offered a v at mt post pt = by (answering_of a at)
      where
        by : (x : History) × In x kept.others × (r : Answering x) × (x.member.tx ≡ a.tx)
            → (other : Ask) × NewAsk other × In (ask_member other) (joint_members asked groundings)
            × In post (ask_heads other)
        by y =
            let place = same_place (joint_member a v) mt y.0 y.1 y.2 y.3 in (
              new_ask y.0 y.2,
              (y.0, y.1, y.2, refl),
              subst (λ n. In n (joint_members asked groundings)) place mt,
              subst (In post) (sym (heads_are y.0 y.2))
                  (subst (λ w. In post (form_heads (λ value. value) y.2.answered.query.statement w))
                  (ap (λ (n : JointMember). n.grounding) place)
                  (subst (λ (z : Posted). In post (form_heads (λ value. value) z.statement v))
                  (same_query a at y.0 y.2 y.3) pt)),
            )

    -- what a statement demands that is answered now is offered by one
    met_now : (ask : Ask) → NewAsk ask → (post : Fact) → In post (ask_posts ask)
        → (other : Ask) × NewAsk other × In (ask_member other) (joint_members asked groundings)
        × In post (ask_heads other)
    met_now ask a post pt =
        let f = from_heads asked groundings post
        (choice post (a.2.answered.demands post (subst (In post) (ap ask_posts a.3 ∙ posts_are a.0 a.2) pt))) in
        offered f.0 f.1 f.2 f.3 post f.4

    down_now : (m : JointMember) → In m (joint_members asked groundings)
        → (ask : Ask) × NewAsk ask × (m ≡ ask_member ask)
    down_now m mt =
        let f = from_joint asked groundings m mt in
        let y = answering_of f.0 f.2 in (
          new_ask y.0 y.2,
          (y.0, y.1, y.2, refl),
          same_place m mt y.0 y.1 y.2 (y.3 ∙ ap (λ (n : JointMember). n.tx) (sym f.3)),
        )

    new_right : JointsRight NewAsk (joint_answer asked groundings ∷ [])
    new_right =
        right_one NewAsk (joint_answer asked groundings)
        (λ ask a.
        subst (λ m. In m (joint_members asked groundings)) (sym (ap ask_member a.3 ∙ new_member a.0 a.1 a.2))
        a.2.answered.in_joint) down_now joint_apart (nonempty seen asked groundings good some) met_now

    -- ---- the joint answers with it

    abbrev now : List History
    now = map entered kept.prepared ++ map entered kept.others

    abbrev answered_now : List JointAnswer
    answered_now = s.joints ++ joint_answer asked groundings ∷ []

    entered_of : (y : History) → In y now → (x : History) × In x (kept.prepared ++ kept.others) × (y ≡ entered x)
    entered_of y yt =
        of_map entered (kept.prepared ++ kept.others) y
        (subst (In y) (sym (map_joined entered kept.prepared kept.others)) yt)

    entered_now : (x : History) → In x (kept.prepared ++ kept.others) → In (entered x) now
    entered_now x at =
        subst (In (entered x)) (map_joined entered kept.prepared kept.others)
        (to_map entered (kept.prepared ++ kept.others) x at)

    -- what a member passed is what it had passed, and what is answered now
    asks_now : (x : History) → In x (kept.prepared ++ kept.others) → (ask : Ask)
        → In ask (history_asks (entered x)) → In ask (history_asks x) ⊎ NewAsk ask
    asks_now x xt ask at =
        elim (in_either kept.prepared kept.others x xt) [
          | inl p ↦ inl (subst (In ask) (asks_left x (prepared_left x p)) at)
          | inr q ↦ elim (case_of x q) [
            | inl r ↦ elim (in_either (history_asks x) (new_ask x r ∷ []) ask
                (subst (In ask) (asks_answered x q r) at)) [
                  | inl a ↦ inl a
                  | inr b ↦ elim b [
                    | inl same ↦ inr (x, q, r, same)
                    | inr bad ↦ absurd bad
                  ]
                ]
            | inr l ↦ inl (subst (In ask) (asks_left x l) at)
          ]
        ]

    asks_before : (x : History) → In x (kept.prepared ++ kept.others) → (ask : Ask) → In ask (history_asks x)
        → In ask (history_asks (entered x))
    asks_before x xt ask at =
        elim (in_either kept.prepared kept.others x xt) [
          | inl p ↦ subst (In ask) (sym (asks_left x (prepared_left x p))) at
          | inr q ↦ elim (case_of x q) [
            | inl r ↦ subst (In ask) (sym (asks_answered x q r))
                (in_first (history_asks x) (new_ask x r ∷ []) ask at)
            | inr l ↦ subst (In ask) (sym (asks_left x l)) at
          ]
        ]

    asks_new : (ask : Ask) (n : NewAsk ask) → In ask (history_asks (entered n.0))
    asks_new ask n =
        subst (In ask) (sym (asks_answered n.0 n.1 n.2))
        (in_second (history_asks n.0) (new_ask n.0 n.2 ∷ []) ask (inl n.3))

    new_apart : (one other : Ask) → AsksOf (kept.committed ++ (kept.prepared ++ kept.others)) one → NewAsk other
        → AreApartMembers (ask_member one) (ask_member other)
    new_apart one other a n same place =
        let x = n.0 in
        let xt = in_all forms s kept x n.1 in
        let tx : x.member.tx ≡ a.0.member.tx =
        ap (λ (k : Ask). k.tx) (sym n.3) ∙ sym same ∙ of_own a.0 one a.2 in
        elim (in_either kept.committed (kept.prepared ++ kept.others) a.0 a.1) [
          | inl c ↦ committed_apart forms s kept a.0 x c xt tx
          | inr b ↦
              let same_one = one_history (kept.prepared ++ kept.others) x a.0 kept.sound.fit xt b tx in
              let low = asks_place x.member.tx 1 x.operations nothing_bound one
              (subst (λ (h : History). In one (history_asks h)) (sym same_one) a.2) in
              let high : one.place ≡ suc (length x.operations) = place ∙ ap (λ (k : Ask). k.place) n.3 in
              absurd (omega (low, high, arith))
        ]

    -- one that is answered is of a group that is joined
    joins_groups : (one : JointMember) → In one (joint_members asked groundings) → (x : History)
        → In x (kept.prepared ++ kept.others) → x.member.tx ≡ one.tx → In x.member.group groups
    joins_groups one ot x xt tx =
        let a = from_joint asked groundings one ot in
        grouped a.0 a.2 x xt (tx ∙ ap (λ (m : JointMember). m.tx) a.3)

    joined_now : JointsStand kept.committed now answered_now
    joined_now =
        stand_joined kept.committed (kept.prepared ++ kept.others) now s.joints (joint_answer asked groundings) NewAsk
        (joined_label groups)
        (λ y yt.
        let x = entered_of y yt in
        record {
          old = x.0;
          at = x.1;
          same_tx = ap (λ (h : History). h.member.tx) x.2 ∙ tx_kept x.0.member;
          group = ap (λ (h : History). h.member.group) x.2 ∙ group_kept x.0.member;
          asks = λ ask at. asks_now x.0 x.1 ask (subst (λ (h : History). In ask (history_asks h)) x.2 at);
        })
        (λ x xt. (entered x, entered_now x xt, asks_before x xt))
        (λ ask n. (entered n.0, entered_now n.0 (in_all forms s kept n.0 n.1), asks_new ask n)) new_apart
        (λ one other ot pt x y xt yt e f.
        label_same groups x.member.group y.member.group (joins_groups one ot x xt e) (joins_groups other pt y yt f))
        (λ other ot y yt e.
        let a = from_joint asked groundings other ot in
        let z = answering_of a.0 a.2 in
        committed_apart forms s kept y z.0 yt (in_all forms s kept z.0 z.1)
        (z.3 ∙ ap (λ (m : JointMember). m.tx) (sym a.3) ∙ sym e)) new_right kept.joined

    pub joins : (left : List Job) → ((job : Job) → In job left → In job s.lent) → Pairs OtherJob left
        → (s.running ≡ false → ⊥)
        → Kept forms (record s {
          prepared = map (in_joined_group groups) s.prepared;
          active = map (λ m. in_joined_group groups (answered_among asked groundings m)) s.active;
          joints = answered_now;
          lent = left;
        })
    joins left fewer jobs_apart on =
        subst (λ ms. Kept forms (record s {
          prepared = ms;
          active = map change s.active;
          joints = answered_now;
          lent = left;
        })) prepared_change
        (kept_mapped forms laws s kept entered change change (λ x at. refl) (λ x at. refl) keeps whole_entered
        follows_entered answered_now left
        joined_now
        (posted_joined forms s kept groups change moves_or_stays)
        (jobs_joined forms s kept groups change moves_or_stays left fewer) jobs_apart on (λ m mt. tx_kept m)
        (λ m mt. tx_kept m))
