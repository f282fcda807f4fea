-- The joint answers that a report tells have members, of rising transactions.
use Rattle.std.proofs.Common.{◌≡◌, ◌≢◌, ℕ, zero, suc, ◌<◌, List, [], ◌∷◌, ◌++◌, map, refl, sym, ap, subst, ◌∙◌, arith}
use Rattle.std.proofs.Common.{AllPairs}
use Rattle.std.specs.List.{AllByRecursion}
use Rattle.std.proofs.lemmas.List.{append-nil, append_assoc, map-append}
use Rattle.ent_semantics.specs.declared.book.JointAnswer.{JointAnswer}
use Rattle.ent_semantics.specs.declared.book.Member.{Member}
use Rattle.ent_history.specs.declared.history.ToldJoint.{ToldJoint}
use Rattle.ent_history.specs.declared.history.ToldMember.{ToldMember}
use Rattle.ent_history.specs.Told.{joint_answer_of}
use Rattle.ent_history.specs.Draft.{Due, Heading, Free, OpeningRows, AnswerRows, Members, TableRows, Ended}
use Rattle.ent_history.specs.Draft.{members_due, on_last, rows_due}
use Rattle.ent_history.specs.Joints.{PlacesRise, with_member}
use Rattle.ent_lists.specs.Elements.{In, Pairs, all_by, all_joined, of_all, of_map, pairs_index, pairs_mapped}
use Rattle.ent_lists.specs.Elements.{pairs_unmapped}
use Rattle.ent_report_laws.proofs.Begun.{place_of}
use Rattle.ent_report_laws.proofs.Lists.{changed}

-- some places, of rising transactions
abbrev pub ArePlaces : List (ℕ × ℕ) → Type 0
ArePlaces places = (places ≢ []) × PlacesRise places

abbrev pub IsJoined : ToldJoint → Type 0
IsJoined joint = ArePlaces (map place_of joint.members)

-- members of these places are due
pub record IsJoining (joints : List ToldJoint) (places : List (ℕ × ℕ)) : Type 0 where
  pub front : List ToldJoint
  pub members : List ToldMember
  pub joints_are : joints ≡ front ++ record { members = members } ∷ []
  pub before : AllByRecursion IsJoined front
  pub places_are : ArePlaces (map place_of members ++ places)

abbrev pub AreJoint : List ToldJoint → Due → Type 0
AreJoint joints Heading = AllByRecursion IsJoined joints
AreJoint joints Free = AllByRecursion IsJoined joints
AreJoint joints (OpeningRows more) = AllByRecursion IsJoined joints
AreJoint joints (AnswerRows more) = AllByRecursion IsJoined joints
AreJoint joints (Members tx place more) = IsJoining joints ((tx, place) ∷ more)
AreJoint joints (TableRows more) = AllByRecursion IsJoined joints
AreJoint joints Ended = AllByRecursion IsJoined joints

-- ---- what is due next

pub opening_joint : (joints : List ToldJoint) (count : ℕ) → AllByRecursion IsJoined joints
    → AreJoint joints (rows_due OpeningRows count)
opening_joint joints zero so = so
opening_joint joints (suc more) so = so

pub answers_joint : (joints : List ToldJoint) (count : ℕ) → AllByRecursion IsJoined joints
    → AreJoint joints (rows_due AnswerRows count)
answers_joint joints zero so = so
answers_joint joints (suc more) so = so

pub tables_joint : (joints : List ToldJoint) (count : ℕ) → AllByRecursion IsJoined joints
    → AreJoint joints (rows_due TableRows count)
tables_joint joints zero so = so
tables_joint joints (suc more) so = so

members_joint : (joints : List ToldJoint) (places : List (ℕ × ℕ)) → IsJoining joints places
    → AreJoint joints (members_due places)
members_joint joints [] so =
    subst (AllByRecursion IsJoined) (sym so.joints_are)
    (all_joined IsJoined so.front (record { members = so.members } ∷ []) so.before
    (subst ArePlaces (append-nil (map place_of so.members)) so.places_are, tt))
members_joint joints (place ∷ more) so = so

pub new_joint : (joints : List ToldJoint) (places : List (ℕ × ℕ)) → AllByRecursion IsJoined joints → places ≢ []
    → PlacesRise places → AreJoint (joints ++ record { members = [] } ∷ []) (members_due places)
new_joint joints places so some rise =
    members_joint (joints ++ record { members = [] } ∷ []) places (record {
      front = joints;
      members = [];
      joints_are = refl;
      before = so;
      places_are = (some, rise);
    })

pub member_joint : (joints : List ToldJoint) (tx place : ℕ) (more : List (ℕ × ℕ)) (member : ToldMember)
    → place_of member ≡ (tx, place) → IsJoining joints ((tx, place) ∷ more)
    → AreJoint (on_last (with_member member) joints) (members_due more)
member_joint joints tx place more member at so =
    members_joint (on_last (with_member member) joints) more (record {
      front = so.front;
      members = so.members ++ member ∷ [];
      joints_are =
          ap (on_last (with_member member)) so.joints_are
          ∙ changed (with_member member) so.front (record { members = so.members });
      before = so.before;
      places_are = subst ArePlaces same so.places_are;
    })
  where
    same : map place_of so.members ++ (tx, place) ∷ more ≡ map place_of (so.members ++ member ∷ []) ++ more
    same =
        ap (λ (p : ℕ × ℕ). map place_of so.members ++ p ∷ more) (sym at)
        ∙ sym (append_assoc (map place_of so.members) (place_of member ∷ []) more)
        ∙ ap (λ (ps : List (ℕ × ℕ)). ps ++ more) (sym (map-append place_of so.members (member ∷ [])))

-- ---- members

abbrev members_of : List ToldMember → List Member
members_of members = map (λ told. told.member) members

some_members : (members : List ToldMember) → map place_of members ≢ [] → members_of members ≢ []
some_members [] some e = some refl
some_members (member ∷ more) some e = cc (e)

rising_places : (places : List (ℕ × ℕ)) → PlacesRise places → Pairs (λ (a b : ℕ × ℕ). a.0 < b.0) places
rising_places [] rise = tt
rising_places (place ∷ []) rise = (tt, tt)
rising_places (place ∷ next ∷ more) rise =
    let rest = rising_places (next ∷ more) rise.3 in (
      (
        rise.2,
        all_by (λ (b : ℕ × ℕ). next.0 < b.0) (λ (b : ℕ × ℕ). place.0 < b.0) more
            (λ b low. omega (arith, low, rise.2)) rest.0,
      ),
      rest,
    )

rising_members : (members : List ToldMember) → PlacesRise (map place_of members)
    → AllPairs (λ (first second : Member). first.tx < second.tx) (members_of members)
rising_members members rise =
    pairs_index (λ (first second : Member). first.tx < second.tx) (members_of members)
    (pairs_mapped (λ told. told.member) (λ (a b : ToldMember). a.member.tx < b.member.tx)
    (λ (first second : Member). first.tx < second.tx) members
    (pairs_unmapped place_of (λ (a b : ℕ × ℕ). a.0 < b.0) members (rising_places (map place_of members) rise))
    (λ a b low. low))

module _ (joints : List ToldJoint) (so : AllByRecursion IsJoined joints) (joint : JointAnswer)
    (at : In joint (map joint_answer_of joints)) where
  told : (told : ToldJoint) × In told joints × (joint ≡ joint_answer_of told)
  told = of_map joint_answer_of joints joint at

  pub have_members : joint.members ≢ []
  have_members e =
      some_members told.0.members (of_all IsJoined joints told.0 so told.1).0
      (sym (ap (λ (j : JointAnswer). j.members) told.2) ∙ e)

  pub members_rise : AllPairs (λ (first second : Member). first.tx < second.tx) joint.members
  members_rise =
      subst (λ (j : JointAnswer). AllPairs (λ (first second : Member). first.tx < second.tx) j.members) (sym told.2)
      (rising_members told.0.members (of_all IsJoined joints told.0 so told.1).1)
