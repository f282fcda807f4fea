-- Members of joint answers, and the statements that they are.
use Rattle.std.proofs.Common.{◌≡◌, ℕ, zero, suc, ◌+◌, ◌==◌, Bool, true, false, not, ◌||◌, ◌&&◌, List, [], ◌∷◌}
use Rattle.std.proofs.Common.{◌++◌, map, refl, sym, ap, subst, ◌∙◌, inl, inr, arith, Option, Some, None, flat_map}
use Rattle.std.proofs.Common.{slice_get, append_assoc}
use Rattle.std.proofs.lemmas.Bool.{not_from_false}
use Rattle.std.specs.List.{list_all, list_any}
use Rattle.ent_tree.specs.declared.declaration.Create.{Create}
use Rattle.ent_tree.specs.declared.script.Statement.{Statement}
use Rattle.ent_semantics.specs.declared.book.JointAnswer.{JointAnswer}
use Rattle.ent_semantics.specs.declared.book.Member.{Member}
use Rattle.ent_semantics.specs.Book.{AreApart, all_members}
use Rattle.ent_semantics.specs.Serial.{is_entangled, numbered}
use Rattle.ent_history.specs.Account.{Account, has_committed}
use Rattle.ent_history.specs.Joint.{is_entangled_one, is_statement_of, stands_among, is_right, members_findings}
use Rattle.ent_history.specs.Joint.{all_stand, left_out}
use Rattle.ent_history.specs.Journal.{unless}
use Rattle.ent_history.specs.Placed.{Placed, members_from, placed_from, placed, stands_at, member_at}
use Rattle.ent_history.specs.declared.finding.Rule.TheVariants as rule
use Rattle.ent_history.specs.declared.finding.Thing.TheVariants as thing
use Rattle.ent_history.proofs.Operations.{AllStand, Stands}
use Rattle.ent_history.proofs.Found.{unless_holds, holds_unless}
use Rattle.ent_lists.specs.Elements.{In, Pairs, to_map, any_none, any_some, any_in, and_both, both_and, turned, clash}
use Rattle.ent_lists.specs.Elements.{not_so, same_number, number_itself, in_first, in_second, in_either, pairs_at}
use Rattle.ent_lists.specs.Elements.{pairs_joined, pairs_across, or_second, map_joined}
use Rattle.ent_history.proofs.RuleLists.{every, of_every, found_in, found, none_first, none_second, both_none}

-- ---- a member at a place

pub stands_there : (tx place : ℕ) (m : Member) → stands_at tx place m ≡ true → (m.tx ≡ tx) × (m.place ≡ place)
stands_there tx place m is =
    let both = and_both (m.tx == tx) (m.place == place) is in
    (same_number m.tx tx both.0, same_number m.place place both.1)

pub there_stands : (tx place : ℕ) (m : Member) → m.tx ≡ tx → m.place ≡ place → stands_at tx place m ≡ true
there_stands tx place m own here =
    both_and (m.tx == tx) (m.place == place) (ap (λ n. n == tx) own ∙ number_itself tx)
    (ap (λ n. n == place) here ∙ number_itself place)

pub among : (tx place : ℕ) (members : List Member) (m : Member) → In m members → m.tx ≡ tx → m.place ≡ place
    → stands_among tx place members ≡ true
among tx place members m at own here = any_in (stands_at tx place) members m at (there_stands tx place m own here)

-- the members in the order of the joint answers
own_members : (joint number : ℕ) (ms : List Member)
    → map (λ (one : Placed). one.member) (members_from joint number ms) ≡ ms
own_members joint number [] = refl
own_members joint number (m ∷ ms) = ap (λ more. m ∷ more) (own_members joint (suc number) ms)

placed_members : (first : ℕ) (joints : List JointAnswer)
    → map (λ (one : Placed). one.member) (placed_from first joints) ≡ all_members joints
placed_members first [] = refl
placed_members first (joint ∷ more) =
    map_joined (λ (one : Placed). one.member) (members_from first 1 joint.members) (placed_from (suc first) more)
    ∙ (λ i. own_members first 1 joint.members i ++ placed_members (suc first) more i)

abbrev turn_apart : (x y : Member) → AreApart x y → AreApart y x
turn_apart x y r e f = r (sym e) (sym f)

-- two members of one statement are one
pub one_member : (joints : List JointAnswer) → Pairs AreApart (all_members joints) → (x y : Member)
    → In x (all_members joints) → In y (all_members joints) → x.tx ≡ y.tx → x.place ≡ y.place → x ≡ y
one_member joints once x y xt yt own here =
    elim (pairs_at AreApart turn_apart (all_members joints) x y once xt yt) [
      | inl e ↦ e
      | inr r ↦ absurd (r own here)
    ]

pub at_place : (joints : List JointAnswer) (tx place : ℕ) (one : Placed)
    → member_at (placed joints) tx place ≡ Some one
    → In one.member (all_members joints) × (one.member.tx ≡ tx) × (one.member.place ≡ place)
at_place joints tx place one is =
    let r = found_in (λ (x : Placed). stands_at tx place x.member) (placed joints) one is in
    let both = stands_there tx place one.member r.1 in (
      subst (In one.member) (placed_members 1 joints)
          (to_map (λ (x : Placed). x.member) (placed joints) one r.0),
      both.0,
      both.1,
    )

any_placed : (p : Member → Bool) (xs : List Placed)
    → list_any p (map (λ (one : Placed). one.member) xs) ≡ list_any (λ (one : Placed). p one.member) xs
any_placed p [] = refl
any_placed p (x ∷ xs) = ap (λ b. p x.member || b) (any_placed p xs)

pub stands_placed : (joints : List JointAnswer) (tx place : ℕ) → stands_among tx place (all_members joints) ≡ true
    → (one : Placed) × (member_at (placed joints) tx place ≡ Some one)
stands_placed joints tx place is =
    found (λ (x : Placed). stands_at tx place x.member) (placed joints)
    (sym (any_placed (stands_at tx place) (placed joints))
    ∙ ap (list_any (stands_at tx place)) (placed_members 1 joints)
    ∙ is)

-- the member of a place is the first that stands there
pub at_member : (joints : List JointAnswer) → Pairs AreApart (all_members joints) → (m : Member)
    → In m (all_members joints)
    → (one : Placed) × (member_at (placed joints) m.tx m.place ≡ Some one) × (one.member ≡ m)
at_member joints once m at =
    let r = stands_placed joints m.tx m.place (among m.tx m.place (all_members joints) m at refl refl) in
    let a = at_place joints m.tx m.place r.0 r.1 in
    (r.0, r.1, one_member joints once r.0.member m a.0 at a.1 a.2)

-- ---- members that are right

module _ (all : List Account) where
  -- a member is an entangled statement of an account that has committed
  pub record IsStatement (m : Member) : Type 0 where
    pub account : Account
    pub at : In account all
    pub own : account.tx ≡ m.tx
    pub committed : has_committed account ≡ true
    pub before : ℕ
    pub here : m.place ≡ suc before
    pub statement : Statement
    pub there : slice_get account.script.statements before ≡ Some statement
    pub entangled : is_entangled statement ≡ true

  statement_at : (sts : List Statement) (place : ℕ) → is_entangled_one (numbered sts place) ≡ true
      → (k : ℕ) × (place ≡ suc k) × (st : Statement) × (slice_get sts k ≡ Some st) × (is_entangled st ≡ true)
  statement_at sts zero is = cc (is)
  statement_at sts (suc k) is = by (slice_get sts k) refl is
    where
      by : (o : Option Statement) → slice_get sts k ≡ o → is_entangled_one o ≡ true
          → (j : ℕ) × (suc k ≡ suc j) × (st : Statement) × (slice_get sts j ≡ Some st) × (is_entangled st ≡ true)
      by None e is = cc (is)
      by (Some st) e is = (k, refl, st, e, is)

  pub statement_of : (m : Member) → list_any (is_statement_of m) all ≡ true → IsStatement m
  statement_of m is =
      let r = any_some (is_statement_of m) all is in
      let a = and_both (r.0.tx == m.tx)
      (has_committed r.0 && is_entangled_one (numbered r.0.script.statements m.place)) r.2 in
      let b = and_both (has_committed r.0) (is_entangled_one (numbered r.0.script.statements m.place)) a.1 in
      let s = statement_at r.0.script.statements m.place b.1 in
      record {
        account = r.0;
        at = r.1;
        own = same_number r.0.tx m.tx a.0;
        committed = b.0;
        before = s.0;
        here = s.1;
        statement = s.2;
        there = s.3;
        entangled = s.4;
      }

  pub of_statement : (m : Member) → IsStatement m → list_any (is_statement_of m) all ≡ true
  of_statement m is =
      any_in (is_statement_of m) all is.account is.at
      (both_and (is.account.tx == m.tx)
      (has_committed is.account && is_entangled_one (numbered is.account.script.statements m.place))
      (ap (λ n. n == m.tx) is.own ∙ number_itself m.tx)
      (both_and (has_committed is.account) (is_entangled_one (numbered is.account.script.statements m.place))
      is.committed
      (ap (λ n. is_entangled_one (numbered is.account.script.statements n)) is.here
      ∙ ap is_entangled_one is.there
      ∙ is.entangled)))

  right_parts : (before : List Member) (m : Member) → is_right all before m ≡ true
      → (list_any (is_statement_of m) all ≡ true) × (stands_among m.tx m.place before ≡ false)
  right_parts before m is =
      let r = and_both (list_any (is_statement_of m) all) (not (stands_among m.tx m.place before)) is in
      (r.0, turned (stands_among m.tx m.place before) r.1)

  head_right : (number : ℕ) (before : List Member) (joint : JointAnswer) (more : List JointAnswer)
      → members_findings all number before (joint ∷ more) ≡ [] → (m : Member) → In m joint.members
      → is_right all before m ≡ true
  head_right number before joint more none m at =
      every (is_right all before) joint.members
      (unless_holds (list_all (is_right all before) joint.members) rule.Joint (thing.Joint number)
      (none_first (unless (list_all (is_right all before) joint.members) rule.Joint (thing.Joint number))
      (members_findings all (suc number) (before ++ joint.members) more) none)) m at

  tail_right : (number : ℕ) (before : List Member) (joint : JointAnswer) (more : List JointAnswer)
      → members_findings all number before (joint ∷ more) ≡ []
      → members_findings all (suc number) (before ++ joint.members) more ≡ []
  tail_right number before joint more none =
      none_second (unless (list_all (is_right all before) joint.members) rule.Joint (thing.Joint number))
      (members_findings all (suc number) (before ++ joint.members) more) none

  pub each_statement : (number : ℕ) (before : List Member) (joints : List JointAnswer)
      → members_findings all number before joints ≡ [] → (m : Member) → In m (all_members joints) → IsStatement m
  each_statement number before [] none m at = absurd at
  each_statement number before (joint ∷ more) none m at =
      elim (in_either joint.members (all_members more) m at) [
        | inl here ↦ statement_of m (right_parts before m (head_right number before joint more none m here)).0
        | inr there ↦
            each_statement (suc number) (before ++ joint.members) more (tail_right number before joint more none) m
            there
      ]

  behind : (before : List Member) (m x : Member) → stands_among x.tx x.place before ≡ false → In m before → AreApart m x
  behind before m x none at own here =
      clash (stands_at x.tx x.place m) (there_stands x.tx x.place m own here)
      (any_none (stands_at x.tx x.place) before none m at)

  each_behind : (number : ℕ) (before : List Member) (joints : List JointAnswer)
      → members_findings all number before joints ≡ [] → (m x : Member) → In m before → In x (all_members joints)
      → AreApart m x
  each_behind number before [] none m x mt xt = absurd xt
  each_behind number before (joint ∷ more) none m x mt xt =
      elim (in_either joint.members (all_members more) x xt) [
        | inl here ↦
            behind before m x (right_parts before x (head_right number before joint more none x here)).1 mt
        | inr there ↦
            each_behind (suc number) (before ++ joint.members) more (tail_right number before joint more none) m x
            (in_first before joint.members m mt) there
      ]

  pub members_once : (number : ℕ) (before : List Member) (joints : List JointAnswer)
      → members_findings all number before joints ≡ []
      → ((joint : JointAnswer) → In joint joints → Pairs AreApart joint.members)
      → Pairs AreApart (all_members joints)
  members_once number before [] none within = tt
  members_once number before (joint ∷ more) none within =
      pairs_joined AreApart joint.members (all_members more) (within joint (inl refl))
      (members_once (suc number) (before ++ joint.members) more (tail_right number before joint more none)
      (λ j jt. within j (inr jt)))
      (λ x y xt yt. each_behind (suc number) (before ++ joint.members) more
      (tail_right number before joint more none) x y (in_second before joint.members x xt) yt)

  -- and then nothing is found
  pub none_of_right : (number : ℕ) (before : List Member) (joints : List JointAnswer)
      → ((m : Member) → In m (all_members joints) → IsStatement m) → Pairs AreApart (before ++ all_members joints)
      → members_findings all number before joints ≡ []
  none_of_right number before [] each once = refl
  none_of_right number before (joint ∷ more) each once =
      both_none (unless (list_all (is_right all before) joint.members) rule.Joint (thing.Joint number))
      (members_findings all (suc number) (before ++ joint.members) more)
      (holds_unless (list_all (is_right all before) joint.members) rule.Joint (thing.Joint number)
      (of_every (is_right all before) joint.members (λ m at.
      both_and (list_any (is_statement_of m) all) (not (stands_among m.tx m.place before))
      (of_statement m (each m (in_first joint.members (all_members more) m at)))
      (not_from_false (stands_among m.tx m.place before) (not_so (stands_among m.tx m.place before) (λ stands.
      let r = any_some (stands_at m.tx m.place) before stands in
      let both = stands_there m.tx m.place r.0 r.2 in
      pairs_across AreApart before (joint.members ++ all_members more) r.0 m once r.1
      (in_first joint.members (all_members more) m at) both.0 both.1))))))
      (none_of_right (suc number) (before ++ joint.members) more
      (λ m at. each m (in_second joint.members (all_members more) m at))
      (subst (Pairs AreApart) (sym (append_assoc before joint.members (all_members more))) once))

-- ---- statements that stand in joint answers

module _ (declared : List Create) (joints : List JointAnswer) where
  pub stand_all : (tx place : ℕ) (sts : List Statement) → all_stand (all_members joints) tx place sts ≡ true
      → AllStand declared (placed joints) tx place sts
  stand_all tx place [] is = tt
  stand_all tx place (st ∷ sts) is =
      let here = not (is_entangled st) || stands_among tx place (all_members joints) in
      let both = and_both here (all_stand (all_members joints) tx (suc place) sts) is in (
        λ entangled. stands_placed joints tx place
            (ap (λ b. not b || stands_among tx place (all_members joints)) (sym entangled) ∙ both.0),
        stand_all tx (suc place) sts both.1,
      )

  pub stands_so : (tx place : ℕ) (sts : List Statement) → AllStand declared (placed joints) tx place sts → (k : ℕ)
      (st : Statement) → slice_get sts k ≡ Some st → is_entangled st ≡ true
      → Stands declared (placed joints) tx (place + k)
  stands_so tx place [] all k st at is = cc (at)
  stands_so tx place (x ∷ sts) all zero st at is =
      let one : x ≡ st = cc in
      let n : place ≡ place + 0 = omega arith in
      subst (Stands declared (placed joints) tx) n (all.0 (ap is_entangled one ∙ is))
  stands_so tx place (x ∷ sts) all (suc k) st at is =
      let n : suc place + k ≡ place + suc k = omega arith in
      subst (Stands declared (placed joints) tx) n (stands_so tx (suc place) sts all.1 k st at is)

  pub all_so : (tx place : ℕ) (sts : List Statement)
      → ((k : ℕ) (st : Statement) → slice_get sts k ≡ Some st → is_entangled st ≡ true
      → stands_among tx (place + k) (all_members joints) ≡ true)
      → all_stand (all_members joints) tx place sts ≡ true
  all_so tx place [] each = refl
  all_so tx place (st ∷ sts) each =
      both_and (not (is_entangled st) || stands_among tx place (all_members joints))
      (all_stand (all_members joints) tx (suc place) sts) (now (is_entangled st) refl)
      (all_so tx (suc place) sts (λ k x at is.
      let n : place + suc k ≡ suc place + k = omega arith in
      subst (λ p. stands_among tx p (all_members joints) ≡ true) n (each (suc k) x at is)))
    where
      now : (b : Bool) → is_entangled st ≡ b
          → (not (is_entangled st) || stands_among tx place (all_members joints)) ≡ true
      now true is =
          let n : place + 0 ≡ place = omega arith in
          or_second (not (is_entangled st)) (stands_among tx place (all_members joints))
          (subst (λ p. stands_among tx p (all_members joints) ≡ true) n (each 0 st refl is))
      now false is = ap (λ b. not b || stands_among tx place (all_members joints)) is

  -- of an account that has committed
  pub left_none : (xs : List Account) → flat_map (left_out (all_members joints)) xs ≡ [] → (a : Account) → In a xs
      → has_committed a ≡ true → all_stand (all_members joints) a.tx 1 a.script.statements ≡ true
  left_none [] none a at committed = absurd at
  left_none (x ∷ xs) none a (inl same) committed =
      let holds = not (has_committed x) || all_stand (all_members joints) x.tx 1 x.script.statements in
      let is : has_committed x ≡ true = ap has_committed (sym same) ∙ committed in
      subst (λ (y : Account). all_stand (all_members joints) y.tx 1 y.script.statements ≡ true) (sym same)
      (ap (λ b. not b || all_stand (all_members joints) x.tx 1 x.script.statements) (sym is)
      ∙ unless_holds holds rule.Joint (thing.Transaction x.tx)
      (none_first (left_out (all_members joints) x) (flat_map (left_out (all_members joints)) xs) none))
  left_none (x ∷ xs) none a (inr at) committed =
      left_none xs (none_second (left_out (all_members joints) x) (flat_map (left_out (all_members joints)) xs) none) a
      at
      committed

  pub none_left : (xs : List Account) → ((a : Account) → In a xs → has_committed a ≡ true
      → all_stand (all_members joints) a.tx 1 a.script.statements ≡ true)
      → flat_map (left_out (all_members joints)) xs ≡ []
  none_left [] each = refl
  none_left (x ∷ xs) each =
      both_none (left_out (all_members joints) x) (flat_map (left_out (all_members joints)) xs)
      (holds_unless (not (has_committed x) || all_stand (all_members joints) x.tx 1 x.script.statements) rule.Joint
      (thing.Transaction x.tx) (now (has_committed x) refl))
      (none_left xs (λ a at. each a (inr at)))
    where
      now : (b : Bool) → has_committed x ≡ b
          → (not (has_committed x) || all_stand (all_members joints) x.tx 1 x.script.statements) ≡ true
      now true is =
          or_second (not (has_committed x)) (all_stand (all_members joints) x.tx 1 x.script.statements)
          (each x (inl refl) is)
      now false is = ap (λ b. not b || all_stand (all_members joints) x.tx 1 x.script.statements) is
