-- The scripts that committed in a legal book are closed.
use Rattle.std.proofs.Common.{◌≡◌, ℕ, Bool, true, List, map, Option, Some, None, Contains, sym, ap, subst, ◌∙◌, refl}
use Rattle.std.specs.List.{filter, list_any}
use Rattle.ent_lists.specs.Elements.{In, any_in, any_some, contains_in, in_contains, in_flat, nth_in, of_filter, of_map}
use Rattle.ent_lists.specs.Elements.{to_filter, to_map}
use Rattle.ent_tree.specs.declared.entangled.Entangled.{Entangled}
use Rattle.ent_tree.specs.declared.script.Script.{Script}
use Rattle.ent_tree.specs.declared.script.Statement.{Statement}
use Rattle.ent_tree.specs.declared.script.Statement.TheVariants as statements
use Rattle.ent_semantics.specs.declared.book.Book.{Book}
use Rattle.ent_semantics.specs.declared.book.Entry.{Entry}
use Rattle.ent_semantics.specs.declared.book.JointAnswer.{JointAnswer}
use Rattle.ent_semantics.specs.declared.book.Member.{Member}
use Rattle.ent_semantics.specs.Book.{IsLegal, all_members, book_read_views}
use Rattle.ent_semantics.specs.Database.{Database, Environment, opening_database}
use Rattle.ent_semantics.specs.Joint.{member_of}
use Rattle.ent_semantics.specs.Serial.{Turn, numbered}
use Rattle.ent_meetings.specs.PartyMeeting.{IsClosed, is_met, offers}
use Rattle.ent_meetings.specs.Party.{TextView, party_of, view_demands, view_offers}
use Rattle.ent_meetings.specs.Pattern.{may_meet}
use Rattle.ent_meetings.specs.declared.party.Party.{Party}
use Rattle.ent_meetings.specs.declared.pattern.Pattern.{Pattern}
use Rattle.ent_program_laws.specs.MeetingAnswered.{KeepsTogether}
use Rattle.ent_program_laws.specs.Known.{demands_at, known_before, offers_at, view_at, viewed}
use Rattle.ent_program_laws.proofs.Partners.{met_by, one_script, of_book, of_turn}
use Rattle.ent_program_laws.proofs.Places.{of_place, of_script}
use Rattle.ent_program_laws.proofs.Ran.{scripts_seen}

-- what has a view is an entangled statement
pub asked : (known : Environment) (statement : Option Statement) (view : TextView) → In view (viewed known statement)
    → (entangled : Entangled) × (statement ≡ Some (statements.Entangled entangled))
asked known (Some (statements.Entangled entangled)) view at = (entangled, refl)
asked known (Some (statements.Select select)) view at = absurd at
asked known (Some (statements.Insert insert)) view at = absurd at
asked known (Some (statements.Delete delete)) view at = absurd at
asked known (Some (statements.Update update)) view at = absurd at
asked known (Some (statements.Set set)) view at = absurd at
asked known None view at = absurd at

abbrev party_in : Turn → Party
party_in turn = party_of turn.script

-- what a statement offers, its script offers
pub script_offers : (script : Script) (place : ℕ) (demand : Pattern)
    → list_any (may_meet demand) (offers_at script place) ≡ true → offers demand (party_of script) ≡ true
script_offers script place demand is =
    let r = any_some (may_meet demand) (offers_at script place) is in
    any_in (may_meet demand) (party_of script).offers r.0
    (contains_in (party_of script).offers r.0
    (of_script view_offers script r.0 place (in_contains (offers_at script place) r.0 r.1))) r.2

module _ (book : Book Database) (legal : IsLegal book) where
  -- each demand of a committed script, and the joint answer in which its statement stands
  record IsAnswered (turn : Turn) (demand : Pattern) : Type 0 where
    joint : JointAnswer
    in_book : Contains book.joint_answers joint
    member : Member
    is_member : Contains joint.members member
    own : member.tx ≡ turn.tx
    demands : Contains (demands_at turn.script member.place) demand

  answered : (turn : Turn) (demand : Pattern) → In turn legal.turns
      → Contains (party_in turn).demands demand → IsAnswered turn demand
  answered turn demand at demands =
      let placed = of_place view_demands turn.script demand demands in
      let place = placed.0 in
      let of_view = in_flat view_demands (view_at turn.script place) demand
      (contains_in (demands_at turn.script place) demand placed.1) in
      let statement = asked (known_before turn.script place) (numbered turn.script.statements place) of_view.0
      of_view.1 in
      let seen = scripts_seen book.opening.tables legal.turns (opening_database book.opening)
      (record { database = book.database; answers = map (λ (entry : Entry). entry.answers) book.journal })
      turn place statement.0 legal.runs.run at statement.1 in
      let stands = legal.answered seen.read_view
      (in_contains (book_read_views book legal.turns) seen.read_view seen.at) in
      let of_joint = in_flat (λ (joint : JointAnswer). joint.members) book.joint_answers (member_of seen.read_view)
      (contains_in (all_members book.joint_answers) (member_of seen.read_view) stands) in
      record {
        joint = of_joint.0;
        in_book = in_contains book.joint_answers of_joint.0 of_joint.1;
        member = member_of seen.read_view;
        is_member = in_contains of_joint.0.members (member_of seen.read_view) of_joint.2;
        own = seen.own;
        demands = subst (λ (p : ℕ). Contains (demands_at turn.script p) demand) (sym seen.at_place) placed.1;
      }

  module _ (are_some : ℕ → Bool) (together : KeepsTogether are_some book.joint_answers) where
    abbrev some_turns : List Turn
    some_turns = filter (λ turn. are_some turn.tx) legal.turns

    abbrev parties : List Party
    parties = map party_in some_turns

    turn_met : (turn : Turn) (demand : Pattern) → In turn some_turns → Contains (party_in turn).demands demand
        → is_met parties demand ≡ true
    turn_met turn demand at demands =
        let own = of_filter (λ (t : Turn). are_some t.tx) legal.turns turn at in
        let stands = answered turn demand own.0 demands in
        let by = met_by book.opening.tables (book_read_views book legal.turns) book.scripts (of_book book legal)
        stands.joint.members stands.member turn.script demand (legal.good stands.joint stands.in_book)
        stands.is_member (ap (numbered book.scripts) stands.own
        ∙ legal.runs.own_scripts turn (in_contains legal.turns turn own.0)) stands.demands in
        let partner = of_turn book legal by.partner by.seen in
        let script_is : by.script ≡ partner.turn.script =
        one_script by.script partner.turn.script (sym by.of_list ∙ ap (numbered book.scripts) (sym partner.own)
        ∙ legal.runs.own_scripts partner.turn (in_contains legal.turns partner.turn partner.at)) in
        let is_some = together stands.joint stands.member (member_of by.partner) stands.in_book stands.is_member
        by.is_member (ap are_some stands.own ∙ own.1) in
        any_in (offers demand) parties (party_in partner.turn)
        (to_map party_in some_turns partner.turn (to_filter (λ (t : Turn). are_some t.tx) legal.turns partner.turn
        partner.at (ap are_some partner.own ∙ is_some)))
        (script_offers partner.turn.script by.partner.place demand
        (subst (λ (s : Script). list_any (may_meet demand) (offers_at s by.partner.place) ≡ true) script_is by.offers))

    party_met : (party : Party) (demand : Pattern) → In party parties → In demand party.demands
        → is_met parties demand ≡ true
    party_met party demand at demands =
        let of = of_map party_in some_turns party at in
        turn_met of.0 demand of.1
        (in_contains (party_in of.0).demands demand (subst (λ (p : Party). In demand p.demands) of.2 demands))

    pub are_closed : IsClosed parties
    are_closed k d low n e there =
        party_met _ _ (nth_in parties k d low) (nth_in _ n e there)
