-- A seat tells of its member.
use Rattle.std.proofs.Common.{◌≡◌, ℕ, Bool, true, false, cond, List, [], ◌∷◌, refl, sym, ap, ◌∙◌, arith, Option}
use Rattle.std.proofs.Common.{Some, None, suc, ◌+◌}
use Rattle.std.specs.Prelude.{slice_get}
use Rattle.std.specs.List.{find}
use Rattle.std.specs.Option.{option_and_then, option_map, option_or}
use Rattle.std.proofs.lemmas.List.Folds.{find-append}
use Rattle.std.proofs.lemmas.Option.{same_Some}
use Rattle.ent_semantics.specs.Entangled.{Valuation}
use Rattle.ent_semantics.specs.declared.book.JointAnswer.{JointAnswer}
use Rattle.ent_semantics.specs.declared.book.Member.{Member}
use Rattle.ent_history.specs.Placed.{Placed, member_at, members_from, placed, placed_from, stands_at}
use Rattle.ent_check.specs.Seats.{seat_of}
use Rattle.ent_check.specs.Told.{member_in, told_seat}

module _ (tx place : ℕ) where
  abbrev sits : Placed → Bool
  sits one = stands_at tx place one.member

  -- a member in one of these joint answers, the first having this number
  record SitsIn (first : ℕ) (joints : List JointAnswer) (one : Placed) : Type 0 where
    joint : ℕ
    number : ℕ
    answer : JointAnswer
    joint_is : one.joint ≡ first + joint
    number_is : one.number ≡ suc number
    answer_at : slice_get joints joint ≡ Some answer
    member_at_it : slice_get answer.members number ≡ Some one.member

  -- among these members, the first having this number
  among_members : (joint first : ℕ) (members : List Member) (one : Placed)
      → find sits (members_from joint first members) ≡ Some one
      → (number : ℕ) × (one.joint ≡ joint) × (one.number ≡ first + number)
      × (slice_get members number ≡ Some one.member)
  among_members joint first [] one is = cc (is)
  among_members joint first (member ∷ members) one is =
      among_more joint first member members one (λ later. among_members joint (suc first) members one later)
      (stands_at tx place member) is
    where
      among_more : (joint first : ℕ) (member : Member) (members : List Member) (one : Placed)
          → (find sits (members_from joint (suc first) members) ≡ Some one
          → (number : ℕ) × (one.joint ≡ joint) × (one.number ≡ suc first + number)
          × (slice_get members number ≡ Some one.member))
          → (b : Bool)
          → cond b (Some (record { joint = joint; number = first; member = member }))
          (find sits (members_from joint (suc first) members)) ≡ Some one
          → (number : ℕ) × (one.joint ≡ joint) × (one.number ≡ first + number)
          × (slice_get (member ∷ members) number ≡ Some one.member)
      among_more joint first member members one rest true same =
          let e = same_Some (record { joint = joint; number = first; member = member }) one same in
          let n : first ≡ first + 0 = omega arith in (
            0,
            sym (ap (λ (x : Placed). x.joint) e),
            sym (ap (λ (x : Placed). x.number) e) ∙ n,
            ap (λ (x : Placed). Some x.member) e,
          )
      among_more joint first member members one rest false later =
          let more = rest later in
          let n : suc first + more.0 ≡ first + suc more.0 = omega arith in
          (suc more.0, more.1, more.2 ∙ n, more.3)

  in_joints : (first : ℕ) (joints : List JointAnswer) (one : Placed)
      → find sits (placed_from first joints) ≡ Some one → SitsIn first joints one
  in_joints first [] one is = cc (is)
  in_joints first (answer ∷ more) one is =
      by (λ later. in_joints (suc first) more one later) (find sits (members_from first 1 answer.members)) refl
      (sym (find-append sits (members_from first 1 answer.members) (placed_from (suc first) more)) ∙ is)
    where
      by : (find sits (placed_from (suc first) more) ≡ Some one → SitsIn (suc first) more one)
          → (found : Option Placed) → find sits (members_from first 1 answer.members) ≡ found
          → option_or found (find sits (placed_from (suc first) more)) ≡ Some one → SitsIn first (answer ∷ more) one
      by rest (Some x) at same =
          let e : x ≡ one = same_Some x one same in
          let here = among_members first 1 answer.members one (at ∙ ap (λ y. Some y) e) in
          let n : 1 + here.0 ≡ suc here.0 = omega arith in
          let j : first ≡ first + 0 = omega arith in
          record {
            joint = 0;
            number = here.0;
            answer = answer;
            joint_is = here.1 ∙ j;
            number_is = here.2 ∙ n;
            answer_at = refl;
            member_at_it = here.3;
          }
      by rest None at later =
          let found = rest later in
          let j : suc first + found.joint ≡ first + suc found.joint = omega arith in
          record {
            joint = suc found.joint;
            number = found.number;
            answer = found.answer;
            joint_is = found.joint_is ∙ j;
            number_is = found.number_is;
            answer_at = found.answer_at;
            member_at_it = found.member_at_it;
          }

  -- the member of its seat is the one that sits there
  pub member_sits : (joints : List JointAnswer) (one : Placed) → member_at (placed joints) tx place ≡ Some one
      → member_in joints (seat_of one) ≡ Some one.member
  member_sits joints one is =
      let there = in_joints 1 joints one is in
      let n : 1 + there.joint ≡ suc there.joint = omega arith in
      (λ i. member_in joints ((there.joint_is ∙ n) i, there.number_is i))
      ∙ ap (option_and_then (λ (joint : JointAnswer). slice_get joint.members there.number)) there.answer_at
      ∙ there.member_at_it

  sits_there : (joints : List JointAnswer) (seat : Option Placed) → member_at (placed joints) tx place ≡ seat
      → option_map {U = ℕ × ℕ × Valuation} told_seat seat
      ≡ option_and_then (λ (at : ℕ × ℕ).
      option_map {U = ℕ × ℕ × Valuation} (λ (member : Member). (at.0, at.1, member.grounding)) (member_in joints at))
      (option_map seat_of seat)
  sits_there joints (Some one) is =
      sym (ap (option_map {U = ℕ × ℕ × Valuation} (λ (member : Member). (one.joint, one.number, member.grounding)))
      (member_sits joints one is))
  sits_there joints None is = refl

  -- what is told of a place is told by the member of its seat
  pub told_there : (joints : List JointAnswer) → option_map {U = ℕ × ℕ × Valuation} told_seat
      (member_at (placed joints) tx place)
      ≡ option_and_then (λ (at : ℕ × ℕ).
      option_map {U = ℕ × ℕ × Valuation} (λ (member : Member). (at.0, at.1, member.grounding)) (member_in joints at))
      (option_map seat_of (member_at (placed joints) tx place))
  told_there joints = sits_there joints (member_at (placed joints) tx place) refl
