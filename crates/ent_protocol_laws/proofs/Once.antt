-- Each entangled statement that was passed stands in exactly one joint answer, and nothing else does.
use Rattle.std.proofs.Common.{◌≡◌, ◌<◌, ◌+◌, ℕ, zero, suc, ◌==◌, true, ◌&&◌, List, [], ◌∷◌, ◌++◌}
use Rattle.std.proofs.Common.{map, length, take, refl, sym, ap, subst, ◌∙◌, inl, inr, arith, Some, slice_get}
use Rattle.std.proofs.lemmas.Option.{same_Some}
use Rattle.ent_tree.specs.declared.entangled.Entangled.{Entangled}
use Rattle.ent_tree.specs.declared.script.Statement.{Statement}
use Rattle.ent_tree.specs.declared.script.Statement.TheVariants as statements
use Rattle.ent_semantics.specs.declared.book.JointAnswer.{JointAnswer}
use Rattle.ent_semantics.specs.declared.book.Member.{Member as JointMember}
use Rattle.ent_semantics.specs.Book.{AreApart, all_members}
use Rattle.ent_semantics.specs.Database.{Environment, nothing_bound}
use Rattle.ent_semantics.specs.Entangled.{Valuation}
use Rattle.ent_semantics.specs.Serial.{Operation, numbered}
use Rattle.ent_protocol.specs.Reached.{IsReached}
use Rattle.ent_protocol.specs.Run.{Forms}
use Rattle.ent_protocol.specs.State.{State, Submitted, Member}
use Rattle.ent_protocol_laws.specs.Answered.{HasAsked, stands_in, IsAnsweredOnce, NothingElse}
use Rattle.ent_protocol_laws.specs.Faithful.{AreFaithful}
use Rattle.ent_protocol_laws.specs.History.{History}
use Rattle.ent_protocol_laws.specs.SerialState.{Follows, IsWhole}
use Rattle.ent_lists.specs.Elements.{contains_in, in_contains, same_number, number_itself}
use Rattle.ent_protocol_laws.proofs.Asks.{Ask, ask_member, asks_at, asks_of, history_asks, next_environment}
use Rattle.ent_protocol_laws.proofs.Frame.{Laws}
use Rattle.ent_protocol_laws.proofs.Joints.{members_of, of_own}
use Rattle.ent_protocol_laws.proofs.SerialKept.{Kept, entry_from, member_of, history_of, active_at, prepared_at}
use Rattle.ent_lists.specs.Elements.{In, Pairs, of_all, to_all, in_first, in_second, in_either, of_map, to_map, any_in}
use Rattle.ent_lists.specs.Elements.{any_some, pairs_second, pairs_across}
use Rattle.ent_lists.specs.Elements.{NotBoth, and_both, both_and, only_one, to_flat}
use Rattle.ent_lists.proofs.Numbers.{plus_zero, plus_suc}
use Rattle.ent_protocol_laws.proofs.Reached.{reached_kept}

-- ---- the joint answers of a statement

module _ (tx place : ℕ) where
  member_there : (joint : JointAnswer) → stands_in tx place joint ≡ true
      → (member : JointMember) × In member joint.members × (member.tx ≡ tx) × (member.place ≡ place)
  member_there joint is =
      let r = any_some (λ (member : JointMember). (member.tx == tx) && (member.place == place)) joint.members is in
      let both = and_both (r.0.tx == tx) (r.0.place == place) r.2 in
      (r.0, r.1, same_number r.0.tx tx both.0, same_number r.0.place place both.1)

  there_member : (joint : JointAnswer) (member : JointMember) → In member joint.members → member.tx ≡ tx
      → member.place ≡ place → stands_in tx place joint ≡ true
  there_member joint member at own here =
      any_in (λ (other : JointMember). (other.tx == tx) && (other.place == place)) joint.members member at
      (both_and (member.tx == tx) (member.place == place) (ap (λ n. n == tx) own ∙ number_itself tx)
      (ap (λ n. n == place) here ∙ number_itself place))

  not_both : (joints : List JointAnswer) → Pairs AreApart (all_members joints)
      → Pairs (NotBoth (stands_in tx place)) joints
  not_both [] pairs = tt
  not_both (joint ∷ more) pairs = (
    to_all (NotBoth (stands_in tx place) joint) more (λ other at one two.
        let a = member_there joint one in
        let b = member_there other two in
        pairs_across AreApart joint.members (all_members more) a.0 b.0 pairs a.1
        (to_flat members_of more other b.0 at b.1)
        (a.2 ∙ sym b.2) (a.3 ∙ sym b.3)),
    not_both more (pairs_second AreApart joint.members (all_members more) pairs),
  )

-- ---- what a transaction asked

record AsksAt (tx place : ℕ) (asks : List Ask) : Type 0 where
  pub ask : Ask
  pub at : In ask asks
  pub own : ask.tx ≡ tx
  pub here : ask.place ≡ place

asks_now : (tx place : ℕ) (statement : Statement) (entangled : Entangled) (valuation : Valuation)
    (environment : Environment) (more : List Ask) → statement ≡ statements.Entangled entangled
    → AsksAt tx place (asks_at tx place statement valuation environment ++ more)
asks_now tx place statement entangled valuation environment more is =
    subst (λ st. AsksAt tx place (asks_at tx place st valuation environment ++ more)) (sym is)
    (record {
      ask = record {
        tx = tx;
        place = place;
        valuation = valuation;
        entangled = entangled;
        environment = environment;
      };
      at = inl refl;
      own = refl;
      here = refl;
    })

asks_there : (tx first : ℕ) (operations : List Operation) (environment : Environment) (k : ℕ) (entangled : Entangled)
    → slice_get (map (λ operation. operation.statement) operations) k ≡ Some (statements.Entangled entangled)
    → AsksAt tx (first + k) (asks_of tx first operations environment)
asks_there tx first [] environment k entangled is = cc (is)
asks_there tx first (operation ∷ more) environment zero entangled is =
    subst (λ place. AsksAt tx place (asks_of tx first (operation ∷ more) environment)) (plus_zero first)
    (asks_now tx first operation.statement entangled operation.valuation environment
    (asks_of tx (suc first) more (next_environment operation.statement operation.valuation environment))
    (same_Some operation.statement (statements.Entangled entangled) is))
asks_there tx first (operation ∷ more) environment (suc k) entangled is =
    let next = next_environment operation.statement operation.valuation environment in
    let rest = asks_there tx (suc first) more next k entangled is in
    record {
      ask = rest.ask;
      at = in_second (asks_at tx first operation.statement operation.valuation environment)
          (asks_of tx (suc first) more next)
          rest.ask rest.at;
      own = rest.own;
      here = rest.here ∙ plus_suc first k;
    }

-- what is asked stands where it is asked
record AskedAt (first : ℕ) (operations : List Operation) (ask : Ask) : Type 0 where
  pub before : ℕ
  pub place : ask.place ≡ first + before
  pub low : before < length operations
  pub there : slice_get (map (λ operation. operation.statement) operations) before ≡ Some
      (statements.Entangled ask.entangled)

asked_now : (tx place : ℕ) (statement : Statement) (valuation : Valuation) (environment : Environment) (ask : Ask)
    → In ask (asks_at tx place statement valuation environment)
    → (ask.place ≡ place) × (statement ≡ statements.Entangled ask.entangled)
asked_now tx place (statements.Entangled entangled) valuation environment ask (inl same) = (
  ap (λ (a : Ask). a.place) same,
  ap (λ (a : Ask). statements.Entangled a.entangled) (sym same),
)
asked_now tx place (statements.Entangled entangled) valuation environment ask (inr bad) = absurd bad
asked_now tx place (statements.Set set) valuation environment ask at = absurd at
asked_now tx place (statements.Select select) valuation environment ask at = absurd at
asked_now tx place (statements.Insert insert) valuation environment ask at = absurd at
asked_now tx place (statements.Delete delete) valuation environment ask at = absurd at
asked_now tx place (statements.Update update) valuation environment ask at = absurd at

asked_at : (tx first : ℕ) (operations : List Operation) (environment : Environment) (ask : Ask)
    → In ask (asks_of tx first operations environment) → AskedAt first operations ask
asked_at tx first [] environment ask at = absurd at
asked_at tx first (operation ∷ more) environment ask at =
    let now = asks_at tx first operation.statement operation.valuation environment in
    let next = next_environment operation.statement operation.valuation environment in
    elim (in_either now (asks_of tx (suc first) more next) ask at) [
      | inl here ↦
          let two = asked_now tx first operation.statement operation.valuation environment ask here in
          record { before = 0; place = two.0 ∙ plus_zero first; low = omega arith; there = ap Some two.1 }
      | inr later ↦
          let rest = asked_at tx (suc first) more next ask later in
          let low = rest.low in
          record {
            before = suc rest.before;
            place = rest.place ∙ plus_suc first rest.before;
            low = omega (arith, low);
            there = rest.there;
          }
    ]

one_more : (k : ℕ) → 1 + k ≡ suc k
one_more k = omega arith

-- what stands at a place of what was done stands there in the script
asks_numbered : (tx : ℕ) (operations : List Operation) (place k : ℕ) (entangled : Entangled) → place ≡ suc k
    → slice_get (map (λ operation. operation.statement) operations) k ≡ Some (statements.Entangled entangled)
    → AsksAt tx place (asks_of tx 1 operations nothing_bound)
asks_numbered tx operations place k entangled same is =
    subst (λ place. AsksAt tx place (asks_of tx 1 operations nothing_bound)) (one_more k ∙ sym same)
    (asks_there tx 1 operations nothing_bound k entangled is)

-- a place counts from 1
record Counted {X : Type 0} (xs : List X) (place : ℕ) (x : X) : Type 0 where
  pub before : ℕ
  pub place_is : place ≡ suc before
  pub there : slice_get xs before ≡ Some x

counted : {X : Type 0} (xs : List X) (place : ℕ) (x : X) → numbered xs place ≡ Some x → Counted xs place x
counted xs zero x is = cc (is)
counted xs (suc k) x is = record { before = k; place_is = refl; there = is }

numbered_so : {X : Type 0} (xs : List X) (place k : ℕ) (x : X) → place ≡ suc k → slice_get xs k ≡ Some x
    → numbered xs place ≡ Some x
numbered_so xs place k x same is = ap (numbered xs) same ∙ is

taken_get : {X : Type 0} (n k : ℕ) (xs : List X) → k < n → slice_get (take n xs) k ≡ slice_get xs k
taken_get zero k xs low = absurd (omega (arith, low))
taken_get (suc n) k [] low = refl
taken_get (suc n) zero (x ∷ xs) low = refl
taken_get (suc n) (suc k) (x ∷ xs) low = taken_get n k xs (omega (arith, low))

-- ---- of a state that is reached

one_submitted : (x y : Submitted) → Some x ≡ Some y → x ≡ y
one_submitted x y e = cc

place_low : (place k n member : ℕ) → place ≡ suc k → member ≡ suc n → place < member → k < n
place_low place k n member a b low = omega (arith, a, b, low)

low_place : (place k n member : ℕ) → place ≡ 1 + k → member ≡ suc n → k < n → place < member
low_place place k n member a b low = omega (arith, a, b, low)

module _ {F : Type 0} (forms : Forms F) (s : State) (kept : Kept forms s) where
  abbrev everyone : List History
  everyone = kept.committed ++ (kept.prepared ++ kept.others)

  whole_one : (x : History) → In x (kept.committed ++ kept.prepared) → IsWhole s.submitted x
  whole_one x at = of_all (IsWhole s.submitted) (kept.committed ++ kept.prepared) x kept.whole at

  -- what one who did it all asked there
  whole_asks : (x : History) → In x (kept.committed ++ kept.prepared) → (tx place : ℕ) → HasAsked s tx place
      → x.member.tx ≡ tx → AsksAt x.member.tx place (asks_of x.member.tx 1 x.operations nothing_bound)
  whole_asks x at tx place asked own =
      let whole = whole_one x at in
      let script : whole.own ≡ asked.submitted =
      one_submitted whole.own asked.submitted (sym whole.submitted ∙ ap (numbered s.submitted) own ∙ asked.of_tx) in
      let c = counted asked.submitted.script.statements place (statements.Entangled asked.entangled) asked.at_place in
      asks_numbered x.member.tx x.operations place c.before asked.entangled c.place_is
      (ap (λ xs. slice_get xs c.before)
      (whole.whole ∙ ap (λ (y : Submitted). y.script.statements) script) ∙ c.there)

  -- and one who goes on
  part_asks : (x : History) → In x kept.others → (tx place : ℕ) → HasAsked s tx place → x.member.tx ≡ tx
      → place < x.member.place → AsksAt x.member.tx place (asks_of x.member.tx 1 x.operations nothing_bound)
  part_asks x at tx place asked own behind =
      let follows = of_all (Follows s.submitted) kept.others x kept.follow at in
      let script : follows.own ≡ asked.submitted =
      one_submitted follows.own asked.submitted
      (sym follows.submitted ∙ ap (numbered s.submitted) own ∙ asked.of_tx) in
      let c = counted asked.submitted.script.statements place (statements.Entangled asked.entangled) asked.at_place in
      asks_numbered x.member.tx x.operations place c.before asked.entangled c.place_is
      (ap (λ xs. slice_get xs c.before) follows.beginning
      ∙ taken_get (length x.operations) c.before follows.own.script.statements
      (place_low place c.before (length x.operations) x.member.place c.place_is follows.place behind)
      ∙ ap (λ (y : Submitted). slice_get y.script.statements c.before) script ∙ c.there)

  record Asker (tx place : ℕ) : Type 0 where
    pub history : History
    pub at : In history everyone
    pub own : history.member.tx ≡ tx
    pub asks : AsksAt history.member.tx place (asks_of history.member.tx 1 history.operations nothing_bound)

  asker : (tx place : ℕ) → HasAsked s tx place → Asker tx place
  asker tx place asked =
      elim asked.past [
        | inl entry ↦
            let r = of_map entry_from kept.committed entry.0
            (subst (In entry.0) (sym kept.journal) (contains_in s.journal entry.0 entry.1)) in
            let own : r.0.member.tx ≡ tx = ap (λ entry. entry.tx) (sym r.2) ∙ entry.2 in
            record {
              history = r.0;
              at = in_first kept.committed (kept.prepared ++ kept.others) r.0 r.1;
              own = own;
              asks = whole_asks r.0 (in_first kept.committed kept.prepared r.0 r.1) tx place asked own;
            }
        | inr running ↦ elim running [
          | inl member ↦
              let r = of_map member_of kept.prepared member.0
              (subst (In member.0) (sym kept.of_prepared) (contains_in s.prepared member.0 member.1)) in
              let own : r.0.member.tx ≡ tx = ap (λ (m : Member). m.tx) (sym r.2) ∙ member.2 in
              record {
                history = r.0;
                at = in_second kept.committed (kept.prepared ++ kept.others) r.0
                    (in_first kept.prepared kept.others r.0 r.1);
                own = own;
                asks = whole_asks r.0 (in_second kept.committed kept.prepared r.0 r.1) tx place asked own;
              }
          | inr member ↦
              let r = history_of forms s kept member.0 (contains_in s.active member.0 member.1) in
              let own : r.0.member.tx ≡ tx = ap (λ (m : Member). m.tx) (sym r.2) ∙ member.2 in
              record {
                history = r.0;
                at = in_second kept.committed (kept.prepared ++ kept.others) r.0
                    (in_second kept.prepared kept.others r.0 r.1);
                own = own;
                asks = part_asks r.0 r.1 tx place asked own
                    (subst (λ (m : Member). place < m.place) r.2 member.3);
              }
        ]
      ]

  asked_once : (tx place : ℕ) → HasAsked s tx place → IsAnsweredOnce s tx place
  asked_once tx place asked =
      let by = asker tx place asked in
      let joint = kept.joined.right.up by.asks.ask (by.history, by.at, by.asks.at) in (
        joint.0,
        only_one (stands_in tx place) s.joints joint.0 (not_both tx place s.joints kept.joined.right.once) joint.1
            (there_member tx place joint.0 (ask_member by.asks.ask) joint.2 (by.asks.own ∙ by.own) by.asks.here),
      )

  -- ---- nothing else

  committed_asked : (x : History) → In x kept.committed → (ask : Ask) → In ask (history_asks x)
      → HasAsked s ask.tx ask.place
  committed_asked x at ask there =
      let whole = whole_one x (in_first kept.committed kept.prepared x at) in
      let own = of_own x ask there in
      let a = asked_at x.member.tx 1 x.operations nothing_bound ask there in
      record {
        past = inl (
          entry_from x,
          in_contains s.journal (entry_from x)
              (subst (In (entry_from x)) kept.journal (to_map entry_from kept.committed x at)),
          sym own,
        );
        submitted = whole.own;
        of_tx = ap (numbered s.submitted) own ∙ whole.submitted;
        entangled = ask.entangled;
        at_place = numbered_so whole.own.script.statements ask.place a.before (statements.Entangled ask.entangled)
            (a.place ∙ one_more a.before) (ap (λ xs. slice_get xs a.before) (sym whole.whole) ∙ a.there);
      }

  prepared_asked : (x : History) → In x kept.prepared → (ask : Ask) → In ask (history_asks x)
      → HasAsked s ask.tx ask.place
  prepared_asked x at ask there =
      let whole = whole_one x (in_second kept.committed kept.prepared x at) in
      let own = of_own x ask there in
      let a = asked_at x.member.tx 1 x.operations nothing_bound ask there in
      record {
        past = inr (inl (x.member, in_contains s.prepared x.member (prepared_at forms s kept x at), sym own));
        submitted = whole.own;
        of_tx = ap (numbered s.submitted) own ∙ whole.submitted;
        entangled = ask.entangled;
        at_place = numbered_so whole.own.script.statements ask.place a.before (statements.Entangled ask.entangled)
            (a.place ∙ one_more a.before) (ap (λ xs. slice_get xs a.before) (sym whole.whole) ∙ a.there);
      }

  active_asked : (x : History) → In x kept.others → (ask : Ask) → In ask (history_asks x)
      → HasAsked s ask.tx ask.place
  active_asked x at ask there =
      let follows = of_all (Follows s.submitted) kept.others x kept.follow at in
      let own = of_own x ask there in
      let a = asked_at x.member.tx 1 x.operations nothing_bound ask there in
      record {
        past = inr (inr (
          x.member,
          in_contains s.active x.member (active_at forms s kept x at),
          sym own,
          low_place ask.place a.before (length x.operations) x.member.place a.place follows.place a.low,
        ));
        submitted = follows.own;
        of_tx = ap (numbered s.submitted) own ∙ follows.submitted;
        entangled = ask.entangled;
        at_place = numbered_so follows.own.script.statements ask.place a.before
            (statements.Entangled ask.entangled) (a.place ∙ one_more a.before)
            (sym (taken_get (length x.operations) a.before follows.own.script.statements a.low)
            ∙ ap (λ xs. slice_get xs a.before) (sym follows.beginning) ∙ a.there);
      }

  nothing_else : NothingElse s
  nothing_else joint member jt mt =
      let r = kept.joined.right.down joint (contains_in s.joints joint jt) member
      (contains_in joint.members member mt) in
      let x : History = r.1.0 in
      let asked : HasAsked s r.0.tx r.0.place =
      elim (in_either kept.committed (kept.prepared ++ kept.others) x r.1.1) [
        | inl a ↦ committed_asked x a r.0 r.1.2
        | inr b ↦ elim (in_either kept.prepared kept.others x b) [
          | inl p ↦ prepared_asked x p r.0 r.1.2
          | inr q ↦ active_asked x q r.0 r.1.2
        ]
      ] in
      subst (λ (m : JointMember). HasAsked s m.tx m.place) (sym r.2) asked

pub reached_once : {F : Type 0} (forms : Forms F) (laws : Laws) (s : State) → AreFaithful forms s.opening
    → IsReached forms s → (tx place : ℕ) → HasAsked s tx place → IsAnsweredOnce s tx place
reached_once forms laws s faithful reached = asked_once forms s (reached_kept forms laws s faithful reached)

pub reached_no_other : {F : Type 0} (forms : Forms F) (laws : Laws) (s : State) → AreFaithful forms s.opening
    → IsReached forms s → NothingElse s
reached_no_other forms laws s faithful reached = nothing_else forms s (reached_kept forms laws s faithful reached)
