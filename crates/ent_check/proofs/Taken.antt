-- The members of joint answers take their seats, one after the other.
use Rattle.std.proofs.Common.{◌≡◌, ℕ, suc, ◌+◌, ◌<◌, ◌≤◌, List, [], ◌∷◌, ◌++◌, length, map, drop, refl, sym, ap}
use Rattle.std.proofs.Common.{subst, ◌∙◌, arith, slice_index_or, append_assoc, append-nil}
use Rattle.std.specs.BTreeMap.{BTreeMap, IsEmpty, is_at}
use Rattle.std.specs.Map.{lookup}
use Rattle.ent_semantics.specs.declared.book.JointAnswer.{JointAnswer}
use Rattle.ent_semantics.specs.declared.book.Member.{Member}
use Rattle.ent_history.specs.declared.history.ToldJoint.{ToldJoint}
use Rattle.ent_history.specs.declared.history.ToldMember.{ToldMember}
use Rattle.ent_history.specs.Told.{joint_answer_of}
use Rattle.ent_history.specs.Placed.{Placed, members_from, placed, placed_from}
use Rattle.ent_check.specs.Seats.{AreSeatsOf, place_cmp}
use Rattle.ent_check.proofs.Lists.{here, none_behind}

abbrev pub SeatMap : Type 0
SeatMap = BTreeMap (ℕ × ℕ) (ℕ × ℕ)

abbrev pub members_told : List ToldMember → List Member
members_told members = map (λ told. told.member) members

abbrev pub answers_told : List ToldJoint → List JointAnswer
answers_told joints = map joint_answer_of joints

-- ---- the members of one joint answer, behind others

-- those so far have their seats
pub record Taken (joint : ℕ) (members : List ToldMember) (i : ℕ) (before : List Placed) (seats : SeatMap) : Type 0 where
  pub made : List Placed
  pub parts : members_from joint 1 (members_told members)
      ≡ made ++ members_from joint (i + 1) (members_told (drop i members))
  pub seated : AreSeatsOf (before ++ made) seats

-- one more takes its seat
abbrev pub TakesOne : ℕ → ℕ → Member → SeatMap → SeatMap → Type 0
TakesOne joint number member seats more =
    (all : List Placed) → AreSeatsOf all seats
    → AreSeatsOf (all ++ record { joint = joint; number = number; member = member } ∷ []) more

module _ (joint : ℕ) (members : List ToldMember) (before : List Placed) where
  pub taken_begun : (seats : SeatMap) → AreSeatsOf before seats → Taken joint members 0 before seats
  taken_begun seats are =
      record {
        made = [];
        parts = refl;
        seated = subst (λ xs. AreSeatsOf xs seats) (sym (append-nil before)) are;
      }

  pub taken_more : (i : ℕ) (told : ToldMember) (seats more : SeatMap) → i < length members
      → told ≡ slice_index_or members i told → TakesOne joint (i + 1) told.member seats more
      → Taken joint members i before seats → Taken joint members (i + 1) before more
  taken_more i told seats more low at takes taken =
      let n : suc i ≡ i + 1 = omega arith in
      let m : suc (i + 1) ≡ suc i + 1 = omega arith in
      let one : Placed = record { joint = joint; number = i + 1; member = told.member } in
      let rest = members_told (drop (suc i) members) in
      subst (λ k. Taken joint members k before more) n
      (record {
        made = taken.made ++ one ∷ [];
        parts = taken.parts
            ∙ ap (λ xs. taken.made ++ members_from joint (i + 1) (members_told xs)) (here members i told low at)
            ∙ sym (append_assoc taken.made (one ∷ []) (members_from joint (suc (i + 1)) rest))
            ∙ ap (λ k. (taken.made ++ one ∷ []) ++ members_from joint k rest) m;
        seated = subst (λ xs. AreSeatsOf xs more) (append_assoc before taken.made (one ∷ []))
            (takes (before ++ taken.made) taken.seated);
      })

  pub taken_all : (i : ℕ) (seats : SeatMap) → length members ≤ i → Taken joint members i before seats
      → AreSeatsOf (before ++ members_from joint 1 (members_told members)) seats
  taken_all i seats over taken =
      let whole = taken.parts
      ∙ ap (λ xs. taken.made ++ members_from joint (i + 1) (members_told xs)) (none_behind members i over)
      ∙ append-nil taken.made in
      subst (λ xs. AreSeatsOf (before ++ xs) seats) (sym whole) taken.seated

-- ---- joint answers

-- the members of those so far have their seats
pub record Seated (joints : List ToldJoint) (i : ℕ) (seats : SeatMap) : Type 0 where
  pub made : List Placed
  pub parts : placed (answers_told joints) ≡ made ++ placed_from (i + 1) (answers_told (drop i joints))
  pub seated : AreSeatsOf made seats

-- the members of one more take their seats
abbrev pub TakeAll : ℕ → List ToldMember → SeatMap → SeatMap → Type 0
TakeAll joint members seats more =
    (all : List Placed) → AreSeatsOf all seats
    → AreSeatsOf (all ++ members_from joint 1 (members_told members)) more

pub no_seats : (seats : SeatMap) → IsEmpty seats → AreSeatsOf [] seats
no_seats seats empty tx place = ap (lookup (is_at (place_cmp (tx, place)))) empty

module _ (joints : List ToldJoint) where
  pub seated_begun : (seats : SeatMap) → AreSeatsOf [] seats → Seated joints 0 seats
  seated_begun seats none = record { made = []; parts = refl; seated = none }

  pub seated_more : (i : ℕ) (joint : ToldJoint) (members : List ToldMember) (seats more : SeatMap)
      → i < length joints → joint ≡ slice_index_or joints i joint → members ≡ joint.members
      → TakeAll (i + 1) members seats more → Seated joints i seats → Seated joints (i + 1) more
  seated_more i joint members seats more low at own takes so_far =
      let n : suc i ≡ i + 1 = omega arith in
      let m : suc (i + 1) ≡ suc i + 1 = omega arith in
      let new = members_from (i + 1) 1 (members_told joint.members) in
      let rest = answers_told (drop (suc i) joints) in
      subst (λ k. Seated joints k more) n
      (record {
        made = so_far.made ++ new;
        parts = so_far.parts
            ∙ ap (λ xs. so_far.made ++ placed_from (i + 1) (answers_told xs)) (here joints i joint low at)
            ∙ sym (append_assoc so_far.made new (placed_from (suc (i + 1)) rest))
            ∙ ap (λ k. (so_far.made ++ new) ++ placed_from k rest) m;
        seated = subst (λ ms. AreSeatsOf (so_far.made ++ members_from (i + 1) 1 (members_told ms)) more) own
            (takes so_far.made so_far.seated);
      })

  pub seated_all : (i : ℕ) (seats : SeatMap) → length joints ≤ i → Seated joints i seats
      → AreSeatsOf (placed (answers_told joints)) seats
  seated_all i seats over so_far =
      let whole = so_far.parts
      ∙ ap (λ xs. so_far.made ++ placed_from (i + 1) (answers_told xs)) (none_behind joints i over)
      ∙ append-nil so_far.made in
      subst (λ xs. AreSeatsOf xs seats) (sym whole) so_far.seated
