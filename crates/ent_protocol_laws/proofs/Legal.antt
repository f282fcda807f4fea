-- The book of a state that is reached is legal.
use Rattle.std.proofs.Common.{◌≡◌, true, List, [], ◌∷◌, ◌++◌, map, refl, ap, subst, ◌∙◌, Contains}
use Rattle.std.proofs.Common.{flat_map, append-nil}
use Rattle.std.specs.List.{AllByRecursion}
use Rattle.ent_tree.specs.declared.declaration.Create.{Create}
use Rattle.ent_semantics.specs.declared.book.JointAnswer.{JointAnswer}
use Rattle.ent_semantics.specs.declared.book.Member.{Member as JointMember}
use Rattle.ent_semantics.specs.Book.{IsLegal, AreApart, all_members, book_read_views}
use Rattle.ent_semantics.specs.Database.{Database, nothing_bound, opening_database}
use Rattle.ent_semantics.specs.Joint.{IsGood, IsGrounded}
use Rattle.ent_semantics.specs.Joint as joint_specs
use Rattle.ent_semantics.specs.Serial.{ReadView, Turn, scripts_read_views, script_read_views, script_run, seen_from}
use Rattle.ent_protocol.specs.Numbers.{AreNumbered}
use Rattle.ent_protocol.specs.Reached.{IsReached, book_of, committed_joints}
use Rattle.ent_protocol.specs.Rollback.{is_among}
use Rattle.ent_protocol.specs.Run.{Forms}
use Rattle.ent_protocol.specs.State.{State, Submitted, members}
use Rattle.ent_protocol_laws.specs.Faithful.{AreFaithful}
use Rattle.ent_protocol_laws.specs.History.{History, AreSerial}
use Rattle.ent_protocol_laws.specs.SerialState.{IsWhole}
use Rattle.ent_lists.specs.Elements.{In, map_joined, clash}
use Rattle.ent_protocol_laws.proofs.Frame.{Laws}
use Rattle.ent_protocol_laws.proofs.SerialKept.{Kept}
use Rattle.ent_protocol_laws.proofs.SerialLeft.{committed_stays}
use Rattle.ent_protocol_laws.proofs.Runs.{everyone, history_member}
use Rattle.ent_protocol_laws.proofs.Asks.{ask_of, history_asks, read_views_asks}
use Rattle.ent_protocol_laws.proofs.GoodOver.{asked_by, good_over, read_view_of}
use Rattle.ent_protocol_laws.proofs.Joints.{JointsRight, AsksOf, stand_left, members_of}
use Rattle.ent_lists.specs.Elements.{contains_in, in_contains, in_flat, to_all, to_flat, pairs_index}
use Rattle.ent_protocol_laws.proofs.Books.{turn_of, turns_of, turn_run, turn_read_views, committed_whole}
use Rattle.ent_protocol_laws.proofs.Books.{run_gives_book}
use Rattle.ent_protocol_laws.proofs.Books.{read_views_grounded}
use Rattle.ent_protocol_laws.proofs.SerialJournals.{journal_right}
use Rattle.ent_protocol_laws.proofs.Reached.{reached_kept}

-- what the run of the committed transactions asks is what they asked
turns_asks : (declared : List Create) (all : List Submitted) (histories : List History)
    (whole : AllByRecursion (IsWhole all) histories) (first last : Database)
    → AreSerial declared histories first last
    → map ask_of (scripts_read_views declared (turns_of all histories whole) first) ≡ flat_map history_asks histories
turns_asks declared all [] whole first last serial = refl
turns_asks declared all (history ∷ more) whole first last serial =
    let own = ap (map ask_of) (turn_read_views declared all history whole.0 first)
    ∙ read_views_asks declared history.member.tx 1 history.operations first nothing_bound (_, serial.1.runs) in
    let rest = ap (λ r. map ask_of (seen_from r (scripts_read_views declared (turns_of all more whole.1))))
    (turn_run declared all history whole.0 first serial.0 serial.1)
    ∙ turns_asks declared all more whole.1 serial.0 last serial.2 in
    map_joined ask_of (script_read_views declared (turn_of all history whole.0) first)
    (seen_from (script_run declared (turn_of all history whole.0).script (turn_of all history whole.0).oracle first)
    (scripts_read_views declared (turns_of all more whole.1)))
    ∙ (λ i. own i ++ rest i)

module _ {F : Type 0} (forms : Forms F) (laws : Laws) (s : State) (kept : Kept forms s) where
  abbrev turns : List Turn
  turns = turns_of s.submitted kept.committed (committed_whole forms s kept)

  abbrev seen : List ReadView
  seen = book_read_views (book_of s) turns

  -- the joint answers of the book are those of the committed transactions
  committed_right : JointsRight (AsksOf kept.committed) (committed_joints s)
  committed_right =
      subst (λ (hs : List History). JointsRight (AsksOf hs) (committed_joints s)) (append-nil kept.committed)
      (stand_left kept.committed (kept.prepared ++ kept.others) [] (members s) s.joints (λ x at. absurd at)
      (λ x at is.
      clash (is_among (members s) x.member.tx) (gone x at) is)
      (λ x y xt yt same is. gone y yt)
      (λ y yt. committed_stays forms laws s kept (members s) (λ m at. at) y yt) kept.joined).right
    where
      gone : (x : History) → In x (kept.prepared ++ kept.others) → is_among (members s) x.member.tx ≡ true
      gone x at = everyone forms laws s kept x.member (history_member forms laws s kept x at)

  asks_are : map ask_of seen ≡ flat_map history_asks kept.committed
  asks_are =
      turns_asks s.opening.tables s.submitted kept.committed (committed_whole forms s kept)
      (opening_database s.opening) kept.base kept.settles

  answered : (read_view : ReadView) → Contains seen read_view
      → Contains (all_members (committed_joints s)) (joint_specs.member_of read_view)
  answered read_view at =
      let j = committed_right.up (ask_of read_view)
      (asked_by kept.committed seen asks_are read_view (contains_in seen read_view at)) in
      in_contains (all_members (committed_joints s)) (joint_specs.member_of read_view)
      (to_flat members_of (committed_joints s) j.0 (joint_specs.member_of read_view) j.1 j.2)

  no_widow : (member : JointMember) → Contains (all_members (committed_joints s)) member
      → (read_view : ReadView) × Contains seen read_view × (member ≡ joint_specs.member_of read_view)
  no_widow member at =
      let j = in_flat members_of (committed_joints s) member
      (contains_in (all_members (committed_joints s)) member at) in
      read_view_of kept.committed seen asks_are (committed_joints s) committed_right j.0 j.1 member j.2

  good : (joint : JointAnswer) → In joint (committed_joints s) → IsGood s.opening.tables seen joint.members
  good =
      good_over kept.committed seen asks_are (committed_joints s) committed_right s.opening.tables
      (to_all (IsGrounded s.opening.tables) seen (λ read_view at.
      read_views_grounded forms s kept read_view (in_contains seen read_view at)))

  legal : AreNumbered s → IsLegal (book_of s)
  legal numbers =
      record {
        journal = journal_right forms s kept numbers;
        turns = turns;
        runs = run_gives_book forms s kept;
        answered = answered;
        once = pairs_index AreApart (all_members (committed_joints s)) committed_right.once;
        no_widow = no_widow;
        good = λ joint at. good joint (contains_in (committed_joints s) joint at);
      }

pub reached_legal : {F : Type 0} (forms : Forms F) (laws : Laws)
    → ((s : State) → IsReached forms s → AreNumbered s) → (s : State) → AreFaithful forms s.opening
    → IsReached forms s → IsLegal (book_of s)
reached_legal forms laws numbers s faithful reached =
    legal forms laws s (reached_kept forms laws s faithful reached) (numbers s reached)
