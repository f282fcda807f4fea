-- The joint answers that the report of a legal book tells.
use Rattle.std.proofs.Common.{◌≡◌, ◌≢◌, ◌<◌, ◌≤◌, List, [], ◌∷◌, map, length, refl, sym, ap, subst, ◌∙◌}
use Rattle.std.proofs.Common.{arith, Some, Contains, AllPairs}
use Rattle.std.specs.List.{AllByRecursion}
use Rattle.ent_tree.specs.declared.limits.TheConstants.{MOST_SCRIPTS, MOST_STATEMENTS}
use Rattle.ent_tree.specs.declared.script.Script.{Script}
use Rattle.ent_semantics.specs.declared.book.Book.{Book}
use Rattle.ent_semantics.specs.declared.book.JointAnswer.{JointAnswer}
use Rattle.ent_semantics.specs.declared.book.Member.{Member}
use Rattle.ent_semantics.specs.Book.{IsLegal, all_members, book_read_views}
use Rattle.ent_semantics.specs.Database.{Database, opening_database}
use Rattle.ent_semantics.specs.Joint.{IsGrounded, member_of}
use Rattle.ent_semantics.specs.Serial.{ReadView, numbered}
use Rattle.ent_history.specs.declared.history.History.{History}
use Rattle.ent_history.specs.Told.{told_joint, told_member}
use Rattle.ent_history.specs.Joints.{PlacesRise}
use Rattle.ent_history.specs.Parts.{IsNumber}
use Rattle.ent_lists.specs.Elements.{In, Pairs, all_map, contains_in, in_contains, in_flat, index_pairs, of_all, to_all}
use Rattle.ent_lists.specs.Elements.{to_flat}
use Rattle.ent_semantics.proofs.Numbered.{numbered_low, numbered_in}
use Rattle.ent_report_laws.specs.Tellable.{IsJointTold, IsMemberTold}
use Rattle.ent_program_laws.proofs.Seen.{seen_in}

-- ---- numbers

abbrev pub Rising : Member → Member → Type 0
Rising first second = first.tx < second.tx

abbrev AreNumbers : Member → Type 0
AreNumbers member = IsNumber member.tx × IsNumber member.place

places_rise : (scripts : List Script) (members : List Member) → Pairs Rising members
    → AllByRecursion AreNumbers members
    → PlacesRise (map (λ told. (told.member.tx, told.member.place)) (map (told_member scripts) members))
places_rise scripts [] rising numbers = tt
places_rise scripts (one ∷ []) rising numbers = (numbers.0.0, numbers.0.1)
places_rise scripts (one ∷ other ∷ more) rising numbers =
    (numbers.0.0, numbers.0.1, rising.0.0, places_rise scripts (other ∷ more) rising.1 numbers.1)

no_members : (scripts : List Script) (members : List Member) → members ≢ [] → map (told_member scripts) members ≢ []
no_members scripts [] some e = some refl
no_members scripts (member ∷ more) some e = cc (e)

-- ---- members

module _ (book : Book Database) (legal : IsLegal book) where
  abbrev read_views : List ReadView
  read_views = book_read_views book legal.turns

  -- each entangled statement of the run is answered by a grounding
  pub all_grounded : (read_view : ReadView) → Contains read_views read_view → IsGrounded book.opening.tables read_view
  all_grounded read_view c =
      let among = contains_in (all_members book.joint_answers) (member_of read_view) (legal.answered read_view c) in
      let r = in_flat (λ (j : JointAnswer). j.members) book.joint_answers (member_of read_view) among in
      (legal.good r.0 (in_contains book.joint_answers r.0 r.1)).grounded read_view
      (c, in_contains r.0.members (member_of read_view) r.2)

  read_view_of : (joint : JointAnswer) → In joint book.joint_answers → (member : Member) → In member joint.members
      → (read_view : ReadView) × Contains read_views read_view × (member ≡ member_of read_view)
  read_view_of joint jt member mt =
      legal.no_widow member (in_contains (all_members book.joint_answers) member
      (to_flat (λ (j : JointAnswer). j.members) book.joint_answers joint member jt mt))

  are_numbers : length book.scripts ≤ MOST_SCRIPTS
      → AllByRecursion (λ script. length script.statements ≤ MOST_STATEMENTS) book.scripts
      → (read_view : ReadView) → Contains read_views read_view → AreNumbers (member_of read_view)
  are_numbers few short read_view c =
      let seen = seen_in book.opening.tables legal.turns (opening_database book.opening) read_view
      (contains_in read_views read_view c) in
      let script = seen.turn.script in
      let own : numbered book.scripts read_view.tx ≡ Some script =
      ap (numbered book.scripts) seen.own
      ∙ legal.runs.own_scripts seen.turn (in_contains legal.turns seen.turn seen.at) in
      let tx = numbered_low book.scripts read_view.tx script own in
      let place = numbered_low script.statements read_view.place _ seen.there in
      let statements = of_all (λ (script : Script). length script.statements ≤ MOST_STATEMENTS) book.scripts script
      short (numbered_in book.scripts read_view.tx script own) in
      (omega (arith, tx, few), omega (arith, place, statements))

  module _ (history : History)
      (told : (read_view : ReadView) → Contains read_views read_view
      → IsMemberTold history (told_member book.scripts (member_of read_view)))
      (few : length book.scripts ≤ MOST_SCRIPTS)
      (short : AllByRecursion (λ script. length script.statements ≤ MOST_STATEMENTS) book.scripts) where
    joint_told : (joint : JointAnswer) → In joint book.joint_answers → AllPairs Rising joint.members
        → IsJointTold history (told_joint book.scripts joint)
    joint_told joint jt rising = record {
      some = no_members book.scripts joint.members (legal.good joint (in_contains book.joint_answers joint jt)).some;
      rise = places_rise book.scripts joint.members (index_pairs Rising joint.members rising)
          (to_all AreNumbers joint.members (λ member mt.
          let s = read_view_of joint jt member mt in
          subst AreNumbers (sym s.2) (are_numbers few short s.0 s.1)));
      members = all_map (told_member book.scripts) (IsMemberTold history) joint.members
          (to_all (λ (member : Member). IsMemberTold history (told_member book.scripts member)) joint.members
          (λ member mt.
          let s = read_view_of joint jt member mt in
          subst (λ (m : Member). IsMemberTold history (told_member book.scripts m)) (sym s.2) (told s.0 s.1)));
    }

    pub joints_told :
        ((joint : JointAnswer) → Contains book.joint_answers joint → AllPairs Rising joint.members)
        → AllByRecursion (IsJointTold history) (map (told_joint book.scripts) book.joint_answers)
    joints_told rising =
        all_map (told_joint book.scripts) (IsJointTold history) book.joint_answers
        (to_all (λ (joint : JointAnswer). IsJointTold history (told_joint book.scripts joint)) book.joint_answers
        (λ joint jt. joint_told joint jt (rising joint (in_contains book.joint_answers joint jt))))
