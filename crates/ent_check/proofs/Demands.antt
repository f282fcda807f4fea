-- The rule of postconditions, on the way through joint answers.
use Rattle.std.proofs.Common.{◌≡◌, ℕ, suc, ◌+◌, ◌<◌, ◌≤◌, Bool, true, false, not, ◌||◌, ◌==◌, cond, List, [], ◌∷◌}
use Rattle.std.proofs.Common.{◌++◌, length, drop, refl, sym, ap, subst, ◌∙◌, arith, Some, None}
use Rattle.std.proofs.Common.{append_assoc, slice_index_or}
use Rattle.std.specs.BTreeMap.{get}
use Rattle.std.specs.List.{AllByRecursion, list_all, list_any}
use Rattle.std.specs.Option.{option_map}
use Rattle.ent_semantics.specs.declared.book.JointAnswer.{JointAnswer}
use Rattle.ent_semantics.specs.declared.book.Member.{Member}
use Rattle.ent_semantics.specs.Book.{all_members}
use Rattle.ent_semantics.specs.Serial.{ReadView}
use Rattle.ent_history.specs.declared.history.ToldJoint.{ToldJoint}
use Rattle.ent_history.specs.Account.{Account}
use Rattle.ent_history.specs.Joint.{is_right, is_statement_of, left_out_findings, members_findings, stands_among}
use Rattle.ent_history.specs.Journal.{unless}
use Rattle.ent_history.specs.Placed.{Placed, member_at, members_from, placed, placed_from, stands_at}
use Rattle.ent_history.specs.Post.{are_met, post_findings}
use Rattle.ent_history.specs.Verdict.{first_of}
use Rattle.ent_history.specs.declared.finding.Finding.{Finding}
use Rattle.ent_history.specs.declared.finding.Rule.TheVariants as rule
use Rattle.ent_history.specs.declared.finding.Thing.TheVariants as thing
use Rattle.ent_history.proofs.Found.{unless_holds}
use Rattle.ent_history.proofs.Joints.{stands_there}
use Rattle.ent_lists.specs.Elements.{and_both, any_some, clash, not_so, number_itself, other_number, turned}
use Rattle.ent_lists.proofs.Numbers.{eq_above}
use Rattle.ent_history.proofs.RuleLists.{every, none_first, none_second}
use Rattle.ent_check.proofs.Found.{first_behind, first_here}
use Rattle.ent_check.specs.Offers.{joint_of}
use Rattle.ent_check.specs.Seats.{AreSeatsOf, place_cmp, seat_of}
use Rattle.ent_check.proofs.Joints.{all_low, members_in, members_joined, placed_high}
use Rattle.ent_check.proofs.Lists.{here, none_behind}
use Rattle.ent_check.proofs.Taken.{SeatMap, answers_told, members_told}
use Rattle.ent_check.proofs.Seated.{nothing_found}

-- ---- the joint answer of a seat

is_other : (a b : ℕ) → a < b → (a == b) ≡ false
is_other a b less = other_number a b (λ same. omega (arith, less, same))

module _ (tx place n : ℕ) (positive : 0 < n) where
  abbrev joint_in : List Placed → ℕ
  joint_in all = joint_of (option_map seat_of (member_at all tx place))

  -- behind, there is none of this number
  none_later : (later : List Placed) → AllByRecursion (λ (one : Placed). suc n ≤ one.joint) later
      → (joint_in later == n) ≡ false
  none_later [] high = is_other 0 n positive
  none_later (x ∷ xs) high = by (stands_at tx place x.member) high.0 (none_later xs high.1)
    where
      by : (b : Bool) → suc n ≤ x.joint → (joint_in xs == n) ≡ false
          → (joint_of (option_map seat_of (cond b (Some x) (member_at xs tx place))) == n) ≡ false
      by true least rest = eq_above x.joint n (omega (arith, least))
      by false least rest = rest

  own_here : (number : ℕ) (members : List Member) (later : List Placed)
      → AllByRecursion (λ (one : Placed). suc n ≤ one.joint) later
      → (joint_in (members_from n number members ++ later) == n) ≡ stands_among tx place members
  own_here number [] later high = none_later later high
  own_here number (m ∷ ms) later high = by (stands_at tx place m) (own_here (suc number) ms later high)
    where
      by : (b : Bool) → (joint_in (members_from n (suc number) ms ++ later) == n) ≡ stands_among tx place ms
          → (joint_of (option_map seat_of (cond b (Some (record { joint = n; number = number; member = m }))
          (member_at (members_from n (suc number) ms ++ later) tx place))) == n)
          ≡ (b || stands_among tx place ms)
      by true rest = number_itself n
      by false rest = rest

  -- a member of the joint answer of this number stands further up nowhere
  own_joint : (before : List Placed) (members : List Member) (later : List Placed)
      → AllByRecursion (λ (one : Placed). one.joint < n) before
      → AllByRecursion (λ (one : Placed). suc n ≤ one.joint) later
      → (stands_among tx place (members_in before) ≡ true → stands_among tx place members ≡ false)
      → (joint_in (before ++ (members_from n 1 members ++ later)) == n) ≡ stands_among tx place members
  own_joint [] members later low high apart = own_here 1 members later high
  own_joint (x ∷ xs) members later low high apart =
      by (stands_at tx place x.member) low.0 apart (own_joint xs members later low.1 high)
    where
      by : (b : Bool) → x.joint < n
          → ((b || stands_among tx place (members_in xs)) ≡ true → stands_among tx place members ≡ false)
          → ((stands_among tx place (members_in xs) ≡ true → stands_among tx place members ≡ false)
          → (joint_in (xs ++ (members_from n 1 members ++ later)) == n) ≡ stands_among tx place members)
          → (joint_of (option_map seat_of (cond b (Some x)
          (member_at (xs ++ (members_from n 1 members ++ later)) tx place))) == n)
          ≡ stands_among tx place members
      by true less apart rest = is_other x.joint n less ∙ sym (apart refl)
      by false less apart rest = rest apart

-- ---- joint answers from an index on

-- what is found first of all of them is what is found first of those from an index on, all of which are right
pub record MetBehind (all : List Account) (run : List ReadView) (joints : List ToldJoint) (i : ℕ) : Type 0 where
  pub before : List Placed
  pub parts : placed (answers_told joints) ≡ before ++ placed_from (i + 1) (answers_told (drop i joints))
  pub above : AllByRecursion (λ (one : Placed). one.joint < i + 1) before
  pub right : members_findings all (i + 1) (members_in before) (answers_told (drop i joints)) ≡ []
  pub found : first_of (post_findings run 1 (answers_told joints))
      ≡ first_of (post_findings run (i + 1) (answers_told (drop i joints)))

abbrev pub NothingFound : List Account → List ToldJoint → Type 0
NothingFound all joints =
    first_of (members_findings all 1 [] (answers_told joints)
    ++ left_out_findings (all_members (answers_told joints)) all) ≡ None

module _ (all : List Account) (run : List ReadView) (joints : List ToldJoint) where
  pub met_begun : NothingFound all joints → MetBehind all run joints 0
  met_begun none =
      record {
        before = [];
        parts = refl;
        above = tt;
        right = none_first (members_findings all 1 [] (answers_told joints))
            (left_out_findings (all_members (answers_told joints)) all)
            (nothing_found (members_findings all 1 [] (answers_told joints)
            ++ left_out_findings (all_members (answers_told joints)) all) none);
        found = refl;
      }

  module _ (i : ℕ) (joint : ToldJoint) (low : i < length joints) (at : joint ≡ slice_index_or joints i joint)
      (behind : MetBehind all run joints i) where
    abbrev members : List Member
    members = members_told joint.members

    abbrev rest : List JointAnswer
    rest = answers_told (drop (suc i) joints)

    abbrev new : List Placed
    new = members_from (i + 1) 1 members

    parts_here : placed (answers_told joints) ≡ behind.before ++ (new ++ placed_from (suc (i + 1)) rest)
    parts_here =
        behind.parts
        ∙ ap (λ xs. behind.before ++ placed_from (i + 1) (answers_told xs)) (here joints i joint low at)

    right_here : unless (list_all (is_right all (members_in behind.before)) members) rule.Joint (thing.Joint (i + 1))
        ++ members_findings all (suc (i + 1)) (members_in behind.before ++ members) rest
        ≡ []
    right_here =
        ap (λ xs. members_findings all (i + 1) (members_in behind.before) (answers_told xs))
        (sym (here joints i joint low at))
        ∙ behind.right

    abbrev own_right : List Finding
    own_right = unless (list_all (is_right all (members_in behind.before)) members) rule.Joint (thing.Joint (i + 1))

    abbrev later_right : List Finding
    later_right = members_findings all (suc (i + 1)) (members_in behind.before ++ members) rest

    apart_here : (tx place : ℕ) → stands_among tx place (members_in behind.before) ≡ true
        → stands_among tx place members ≡ false
    apart_here tx place stands =
        not_so (stands_among tx place members) (λ too.
        let m = any_some (stands_at tx place) members too in
        let here = stands_there tx place m.0 m.2 in
        let its = every (is_right all (members_in behind.before)) members
        (unless_holds (list_all (is_right all (members_in behind.before)) members) rule.Joint (thing.Joint (i + 1))
        (none_first own_right later_right right_here)) m.0 m.1 in
        let new_place = (and_both (list_any (is_statement_of m.0) all)
        (not (stands_among m.0.tx m.0.place (members_in behind.before))) its).1 in
        clash (stands_among tx place (members_in behind.before)) stands
        ((λ k. stands_among (sym here.0 k) (sym here.1 k) (members_in behind.before))
        ∙ turned (stands_among m.0.tx m.0.place (members_in behind.before)) new_place))

    -- an offer is of this joint answer where its statement is a member
    pub member_here : (seats : SeatMap) → AreSeatsOf (placed (answers_told joints)) seats → (read_view : ReadView)
        → stands_among read_view.tx read_view.place members
        ≡ (joint_of (get place_cmp seats (read_view.tx, read_view.place)) == (i + 1))
    member_here seats are read_view =
        let positive : 0 < i + 1 = omega arith in
        sym (ap (λ o. joint_of o == (i + 1)) (are read_view.tx read_view.place)
        ∙ ap (λ xs. joint_of (option_map seat_of (member_at xs read_view.tx read_view.place)) == (i + 1)) parts_here
        ∙ own_joint read_view.tx read_view.place (i + 1) positive behind.before members (placed_from (suc (i + 1)) rest)
        behind.above (placed_high (suc (i + 1)) (suc (i + 1)) rest (omega arith))
        (apart_here read_view.tx read_view.place))

    found_here : first_of (post_findings run 1 (answers_told joints))
        ≡ first_of (unless (are_met run members) rule.Post (thing.Joint (i + 1))
        ++ post_findings run (suc (i + 1)) rest)
    found_here =
        behind.found
        ∙ ap (λ xs. first_of (post_findings run (i + 1) (answers_told xs))) (here joints i joint low at)

    pub met_more : are_met run members ≡ true → MetBehind all run joints (i + 1)
    met_more is =
        let n : suc i ≡ i + 1 = omega arith in
        let m : suc (i + 1) ≡ suc i + 1 = omega arith in
        subst (MetBehind all run joints) n
        (record {
          before = behind.before ++ new;
          parts = parts_here
              ∙ sym (append_assoc behind.before new (placed_from (suc (i + 1)) rest))
              ∙ ap (λ k. (behind.before ++ new) ++ placed_from k rest) m;
          above = all_low i behind.before members behind.above;
          right = (λ k. members_findings all (sym m k)
              (members_joined behind.before (i + 1) 1 members k) rest)
              ∙ none_second own_right later_right right_here;
          found = found_here
              ∙ first_behind (are_met run members) rule.Post (thing.Joint (i + 1))
              (post_findings run (suc (i + 1)) rest) is
              ∙ ap (λ k. first_of (post_findings run k rest)) m;
        })

    pub met_not : are_met run members ≡ false
        → first_of (post_findings run 1 (answers_told joints))
        ≡ Some (record { rule = rule.Post; thing = thing.Joint (i + 1) })
    met_not is =
        found_here
        ∙ first_here (are_met run members) rule.Post (thing.Joint (i + 1)) (post_findings run (suc (i + 1)) rest) is

  pub met_all : (i : ℕ) → length joints ≤ i → MetBehind all run joints i
      → first_of (post_findings run 1 (answers_told joints)) ≡ None
  met_all i over behind =
      behind.found ∙ ap (λ xs. first_of (post_findings run (i + 1) (answers_told xs))) (none_behind joints i over)
