-- The rule of joint answers, on the way through them.
use Rattle.std.proofs.Common.{◌≡◌, ℕ, suc, ◌+◌, ◌<◌, ◌≤◌, Bool, true, false, not, ◌||◌, ◌&&◌, cond, List, [], ◌∷◌}
use Rattle.std.proofs.Common.{◌++◌, length, map, drop, refl, sym, ap, subst, ◌∙◌, arith, Option, Some, None}
use Rattle.std.proofs.Common.{append_assoc, slice_index_or}
use Rattle.std.proofs.lemmas.Bool.{lt-ltb, le-ltb}
use Rattle.std.specs.BTreeMap.{get}
use Rattle.std.specs.List.{AllByRecursion, list_all, list_any}
use Rattle.std.specs.Option.{option_map}
use Rattle.ent_semantics.specs.declared.book.JointAnswer.{JointAnswer}
use Rattle.ent_semantics.specs.declared.book.Member.{Member}
use Rattle.ent_semantics.specs.Book.{all_members}
use Rattle.ent_history.specs.declared.history.ToldJoint.{ToldJoint}
use Rattle.ent_history.specs.declared.history.ToldMember.{ToldMember}
use Rattle.ent_history.specs.Account.{Account}
use Rattle.ent_history.specs.Joint.{is_right, is_statement_of, members_findings, stands_among}
use Rattle.ent_history.specs.Journal.{unless}
use Rattle.ent_history.specs.Placed.{Placed, member_at, members_from, placed, placed_from, stands_at}
use Rattle.ent_history.specs.Verdict.{first_of}
use Rattle.ent_history.specs.declared.finding.Rule.TheVariants as rule
use Rattle.ent_history.specs.declared.finding.Thing.TheVariants as thing
use Rattle.ent_lists.specs.Elements.{all_by, all_joined, map_joined}
use Rattle.ent_check.proofs.Found.{first_behind, first_here}
use Rattle.ent_check.specs.Above.{is_above}
use Rattle.ent_check.specs.Seats.{AreSeatsOf, place_cmp, seat_of}
use Rattle.ent_check.proofs.Lists.{here, none_behind}
use Rattle.ent_check.proofs.Taken.{SeatMap, answers_told, members_told}

abbrev pub members_in : List Placed → List Member
members_in all = map (λ one. one.member) all

own_members : (joint number : ℕ) (members : List Member) → members_in (members_from joint number members) ≡ members
own_members joint number [] = refl
own_members joint number (m ∷ ms) = ap (λ more. m ∷ more) (own_members joint (suc number) ms)

pub members_joined : (before : List Placed) (joint number : ℕ) (members : List Member)
    → members_in (before ++ members_from joint number members) ≡ members_in before ++ members
members_joined before joint number members =
    map_joined (λ (one : Placed). one.member) before (members_from joint number members)
    ∙ ap (λ ms. members_in before ++ ms) (own_members joint number members)

-- the members in the order of the joint answers
pub members_placed : (first : ℕ) (joints : List JointAnswer)
    → members_in (placed_from first joints) ≡ all_members joints
members_placed first [] = refl
members_placed first (joint ∷ more) =
    map_joined (λ (one : Placed). one.member) (members_from first 1 joint.members) (placed_from (suc first) more)
    ∙ (λ i. own_members first 1 joint.members i ++ members_placed (suc first) more i)

-- ---- the numbers of joint answers

members_high : (n joint number : ℕ) (members : List Member) → n ≤ joint
    → AllByRecursion (λ (one : Placed). n ≤ one.joint) (members_from joint number members)
members_high n joint number [] high = tt
members_high n joint number (m ∷ ms) high = (high, members_high n joint (suc number) ms high)

pub members_low : (n joint number : ℕ) (members : List Member) → joint < n
    → AllByRecursion (λ (one : Placed). one.joint < n) (members_from joint number members)
members_low n joint number [] low = tt
members_low n joint number (m ∷ ms) low = (low, members_low n joint (suc number) ms low)

pub placed_high : (n joint : ℕ) (answers : List JointAnswer) → n ≤ joint
    → AllByRecursion (λ (one : Placed). n ≤ one.joint) (placed_from joint answers)
placed_high n joint [] high = tt
placed_high n joint (answer ∷ more) high =
    all_joined (λ (one : Placed). n ≤ one.joint) (members_from joint 1 answer.members) (placed_from (suc joint) more)
    (members_high n joint 1 answer.members high) (placed_high n (suc joint) more (omega (arith, high)))

-- one joint answer more
pub all_low : (i : ℕ) (before : List Placed) (members : List Member)
    → AllByRecursion (λ (one : Placed). one.joint < i + 1) before
    → AllByRecursion (λ (one : Placed). one.joint < suc i + 1) (before ++ members_from (i + 1) 1 members)
all_low i before members low =
    all_joined (λ (one : Placed). one.joint < suc i + 1) before (members_from (i + 1) 1 members)
    (all_by (λ (one : Placed). one.joint < i + 1) (λ (one : Placed). one.joint < suc i + 1) before
    (λ one less. omega (arith, less)) low)
    (members_low (suc i + 1) (i + 1) 1 members (omega arith))

-- ---- seats further up

module _ (tx place n : ℕ) where
  abbrev seat_in : List Placed → Option (ℕ × ℕ)
  seat_in all = option_map seat_of (member_at all tx place)

  not_above : (later : List Placed) → AllByRecursion (λ (one : Placed). n ≤ one.joint) later
      → is_above n (seat_in later) ≡ false
  not_above [] high = refl
  not_above (x ∷ xs) high = by (stands_at tx place x.member) high.0 (not_above xs high.1)
    where
      by : (b : Bool) → n ≤ x.joint → is_above n (seat_in xs) ≡ false
          → is_above n (option_map seat_of (cond b (Some x) (member_at xs tx place))) ≡ false
      by true least rest = le-ltb x.joint n least
      by false least rest = rest

  -- a seat is further up where a member that stands there is
  above_parts : (before later : List Placed) → AllByRecursion (λ (one : Placed). one.joint < n) before
      → AllByRecursion (λ (one : Placed). n ≤ one.joint) later
      → is_above n (seat_in (before ++ later)) ≡ stands_among tx place (members_in before)
  above_parts [] later low high = not_above later high
  above_parts (x ∷ xs) later low high = by (stands_at tx place x.member) low.0 (above_parts xs later low.1 high)
    where
      by : (b : Bool) → x.joint < n
          → is_above n (seat_in (xs ++ later)) ≡ stands_among tx place (members_in xs)
          → is_above n (option_map seat_of (cond b (Some x) (member_at (xs ++ later) tx place)))
          ≡ (b || stands_among tx place (members_in xs))
      by true less rest = lt-ltb x.joint n less
      by false less rest = rest

-- ---- joint answers from an index on

-- what is found first of all of them is what is found first of those from an index on, behind the members of the others
pub record Judged (all : List Account) (joints : List ToldJoint) (i : ℕ) : Type 0 where
  pub before : List Placed
  pub parts : placed (answers_told joints) ≡ before ++ placed_from (i + 1) (answers_told (drop i joints))
  pub above : AllByRecursion (λ (one : Placed). one.joint < i + 1) before
  pub found : first_of (members_findings all 1 [] (answers_told joints))
      ≡ first_of (members_findings all (i + 1) (members_in before) (answers_told (drop i joints)))

-- a member is right, by its seat
abbrev pub seems_right : List Account → SeatMap → ℕ → ToldMember → Bool
seems_right all seats joint told =
    list_any (is_statement_of told.member) all
    && not (is_above joint (get place_cmp seats (told.member.tx, told.member.place)))

module _ (all : List Account) (joints : List ToldJoint) where
  pub judged_begun : Judged all joints 0
  judged_begun = record { before = []; parts = refl; above = tt; found = refl }

  above_here : (i : ℕ) (seats : SeatMap) → AreSeatsOf (placed (answers_told joints)) seats
      → (judged : Judged all joints i) → (m : Member)
      → is_above (i + 1) (get place_cmp seats (m.tx, m.place)) ≡ stands_among m.tx m.place (members_in judged.before)
  above_here i seats are judged m =
      ap (is_above (i + 1)) (are m.tx m.place)
      ∙ ap (λ xs. is_above (i + 1) (option_map seat_of (member_at xs m.tx m.place))) judged.parts
      ∙ above_parts m.tx m.place (i + 1) judged.before (placed_from (i + 1) (answers_told (drop i joints))) judged.above
      (placed_high (i + 1) (i + 1) (answers_told (drop i joints)) (omega arith))

  right_here : (i : ℕ) (seats : SeatMap) (members : List ToldMember) (before : List Member)
      → ((m : Member) → is_above (i + 1) (get place_cmp seats (m.tx, m.place)) ≡ stands_among m.tx m.place before)
      → list_all (seems_right all seats (i + 1)) members ≡ list_all (is_right all before) (members_told members)
  right_here i seats [] before same = refl
  right_here i seats (x ∷ xs) before same =
      (λ k. (list_any (is_statement_of x.member) all && not (same x.member k))
      && right_here i seats xs before same k)

  module _ (i : ℕ) (joint : ToldJoint) (members : List ToldMember) (seats : SeatMap) (low : i < length joints)
      (at : joint ≡ slice_index_or joints i joint) (own : members ≡ joint.members)
      (are : AreSeatsOf (placed (answers_told joints)) seats) (judged : Judged all joints i) where
    own_right : (b : Bool) → list_all (seems_right all seats (i + 1)) members ≡ b
        → list_all (is_right all (members_in judged.before)) (members_told joint.members) ≡ b
    own_right b is =
        ap (λ ms. list_all (is_right all (members_in judged.before)) (members_told ms)) (sym own)
        ∙ sym (right_here i seats members (members_in judged.before) (above_here i seats are judged))
        ∙ is

    abbrev rest : List JointAnswer
    rest = answers_told (drop (suc i) joints)

    abbrev own_members_right : Bool
    own_members_right = list_all (is_right all (members_in judged.before)) (members_told joint.members)

    abbrev later : List Member
    later = members_in judged.before ++ members_told joint.members

    found_here : first_of (members_findings all 1 [] (answers_told joints))
        ≡ first_of (unless own_members_right rule.Joint (thing.Joint (i + 1))
        ++ members_findings all (suc (i + 1)) later rest)
    found_here =
        judged.found
        ∙ ap (λ xs. first_of (members_findings all (i + 1) (members_in judged.before) (answers_told xs)))
        (here joints i joint low at)

    pub judged_more : list_all (seems_right all seats (i + 1)) members ≡ true → Judged all joints (i + 1)
    judged_more is =
        let n : suc i ≡ i + 1 = omega arith in
        let m : suc (i + 1) ≡ suc i + 1 = omega arith in
        let new = members_from (i + 1) 1 (members_told joint.members) in
        subst (Judged all joints) n
        (record {
          before = judged.before ++ new;
          parts = judged.parts
              ∙ ap (λ xs. judged.before ++ placed_from (i + 1) (answers_told xs)) (here joints i joint low at)
              ∙ sym (append_assoc judged.before new (placed_from (suc (i + 1)) rest))
              ∙ ap (λ k. (judged.before ++ new) ++ placed_from k rest) m;
          above = all_low i judged.before (members_told joint.members) judged.above;
          found = found_here
              ∙ first_behind own_members_right rule.Joint (thing.Joint (i + 1))
              (members_findings all (suc (i + 1)) later rest) (own_right true is)
              ∙ ap (λ ms. first_of (members_findings all (suc (i + 1)) ms rest))
              (sym (members_joined judged.before (i + 1) 1 (members_told joint.members)))
              ∙ ap (λ k. first_of (members_findings all k (members_in (judged.before ++ new)) rest)) m;
        })

    pub judged_off : list_all (seems_right all seats (i + 1)) members ≡ false
        → first_of (members_findings all 1 [] (answers_told joints))
        ≡ Some (record { rule = rule.Joint; thing = thing.Joint (i + 1) })
    judged_off is =
        found_here
        ∙ first_here own_members_right rule.Joint (thing.Joint (i + 1))
        (members_findings all (suc (i + 1)) later rest) (own_right false is)

  pub judged_all : (i : ℕ) → length joints ≤ i → Judged all joints i
      → first_of (members_findings all 1 [] (answers_told joints)) ≡ None
  judged_all i over judged =
      judged.found
      ∙ ap (λ xs. first_of (members_findings all (i + 1) (members_in judged.before) (answers_told xs)))
      (none_behind joints i over)
