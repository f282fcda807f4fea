-- Joint answers are good over the run of committed transactions and members that gives the present tables.
use Rattle.std.proofs.Common.{◌≡◌, List, [], ◌∷◌, ◌++◌, map, refl, sym, ap, subst, ◌∙◌}
use Rattle.std.proofs.Common.{flat_map}
use Rattle.std.specs.List.{AllByRecursion}
use Rattle.ent_tree.specs.declared.declaration.Create.{Create}
use Rattle.ent_semantics.specs.declared.book.JointAnswer.{JointAnswer}
use Rattle.ent_semantics.specs.Database.{Database, nothing_bound, opening_database}
use Rattle.ent_semantics.specs.Joint.{IsGood, IsGrounded}
use Rattle.ent_semantics.specs.Serial.{run, read_views, seen_from}
use Rattle.ent_form.specs.Tables.{database_of}
use Rattle.ent_protocol.specs.Reached.{IsReached}
use Rattle.ent_protocol.specs.Run.{Forms}
use Rattle.ent_protocol.specs.State.{State}
use Rattle.ent_protocol_laws.specs.Faithful.{AreFaithful}
use Rattle.ent_protocol_laws.specs.GoodAnswers.{histories_read_views, AnswersAreGood}
use Rattle.ent_protocol_laws.specs.History.{History, AreSerial}
use Rattle.ent_protocol_laws.proofs.Asks.{ask_of, history_asks, read_views_asks}
use Rattle.ent_protocol_laws.proofs.Frame.{Laws, serial_joined}
use Rattle.ent_protocol_laws.proofs.GoodOver.{good_over}
use Rattle.ent_protocol_laws.proofs.SerialKept.{Kept}
use Rattle.ent_lists.specs.Elements.{In, all_joined, map_joined, contains_in}
use Rattle.ent_protocol_laws.proofs.Reached.{reached_kept}
use Rattle.ent_protocol_laws.proofs.SerialStates.{kept_serial}

-- ---- what members see that run one after the other

module _ (declared : List Create) where
  pub histories_ask : (histories : List History) (first last : Database) → AreSerial declared histories first last
      → map ask_of (histories_read_views declared histories first) ≡ flat_map history_asks histories
  histories_ask [] first last serial = refl
  histories_ask (history ∷ more) first last serial =
      let own = read_views_asks declared history.member.tx 1 history.operations first nothing_bound
      (_, serial.1.runs) in
      let rest = ap (λ r. map ask_of (seen_from r (histories_read_views declared more))) serial.1.runs
      ∙ histories_ask more serial.0 last serial.2 in
      map_joined ask_of (read_views declared history.member.tx 1 history.operations first nothing_bound)
      (seen_from (run declared history.operations first nothing_bound) (histories_read_views declared more))
      ∙ (λ i. own i ++ rest i)

  pub histories_grounded : (histories : List History) (first last : Database) → AreSerial declared histories first last
      → AllByRecursion (IsGrounded declared) (histories_read_views declared histories first)
  histories_grounded [] first last serial = tt
  histories_grounded (history ∷ more) first last serial =
      all_joined (IsGrounded declared) (read_views declared history.member.tx 1 history.operations first nothing_bound)
      (seen_from (run declared history.operations first nothing_bound) (histories_read_views declared more))
      serial.1.grounded
      (subst (λ r. AllByRecursion (IsGrounded declared) (seen_from r (histories_read_views declared more)))
      (sym serial.1.runs) (histories_grounded more serial.0 last serial.2))

-- ---- joint answers

module _ {F : Type 0} (forms : Forms F) (laws : Laws) (s : State) (kept : Kept forms s) where
  abbrev everyone : List History
  everyone = kept.committed ++ (kept.prepared ++ kept.others)

  serial : AreSerial s.opening.tables everyone (opening_database s.opening)
      (database_of s.opening.tables s.tables)
  serial =
      serial_joined s.opening.tables laws kept.committed (kept.prepared ++ kept.others)
      (opening_database s.opening) kept.base (database_of s.opening.tables s.tables) kept.settles kept.sound.serial

  good : (joint : JointAnswer) → In joint s.joints
      → IsGood s.opening.tables (histories_read_views s.opening.tables everyone (opening_database s.opening))
      joint.members
  good =
      let declared = s.opening.tables in
      let first = opening_database s.opening in
      let last = database_of s.opening.tables s.tables in
      good_over everyone (histories_read_views declared everyone first)
      (histories_ask declared everyone first last serial) s.joints kept.joined.right declared
      (histories_grounded declared everyone first last serial)

  answers_good : AnswersAreGood s
  answers_good = (kept_serial forms s kept, λ joint at. good joint (contains_in s.joints joint at))

pub reached_good : {F : Type 0} (forms : Forms F) (laws : Laws) (s : State) → AreFaithful forms s.opening
    → IsReached forms s → AnswersAreGood s
reached_good forms laws s faithful reached = answers_good forms laws s (reached_kept forms laws s faithful reached)
