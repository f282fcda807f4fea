-- In a good joint answer each demand of a member may be met, by the texts alone.
use Rattle.std.proofs.Common.{◌≡◌, true, List, [], ◌∷◌, Some, Contains, sym, ap, subst, ◌∙◌, inl, inr}
use Rattle.std.specs.List.{flat_map, list_any}
use Rattle.ent_lists.specs.Elements.{In, any_in, contains_in, in_contains, in_either, in_first}
use Rattle.ent_tree.specs.declared.declaration.Create.{Create}
use Rattle.ent_tree.specs.declared.script.Script.{Script}
use Rattle.ent_semantics.specs.declared.book.Book.{Book}
use Rattle.ent_semantics.specs.declared.book.Member.{Member}
use Rattle.ent_semantics.specs.Book.{IsLegal, book_read_views}
use Rattle.ent_semantics.specs.Database.{Database, opening_database}
use Rattle.ent_semantics.specs.Joint.{IsGood, member_of}
use Rattle.ent_semantics.specs.Serial.{ReadView, Turn, numbered}
use Rattle.ent_meetings.specs.Party.{TextView, view_demands, view_offers}
use Rattle.ent_meetings.specs.Pattern.{may_meet}
use Rattle.ent_meetings.specs.declared.pattern.Pattern.{Pattern}
use Rattle.ent_program_laws.specs.MeetingAnswered.{IsMetAmong}
use Rattle.ent_program_laws.specs.Known.{IsKnownThere, demands_at, known_before, offers_at, view_at, viewed}
use Rattle.ent_program_laws.proofs.Alike.{rows_may_meet}
use Rattle.ent_program_laws.proofs.Covering.{demand_covers, head_covered}
use Rattle.ent_program_laws.proofs.Seeing.{scripts_see}

pub one_script : (first second : Script) → Some first ≡ Some second → first ≡ second
one_script first second e = cc

-- the text of an entangled statement that was seen
abbrev text_of : Script → ReadView → TextView
text_of script read_view =
    record { known = known_before script read_view.place; entangled = read_view.entangled }

module _ (script : Script) (read_view : ReadView) (known : IsKnownThere script read_view) where
  one_view : view_at script read_view.place ≡ text_of script read_view ∷ []
  one_view = ap (viewed (known_before script read_view.place)) known.statement

  given_there : (given : TextView → List Pattern) (pattern : Pattern)
      → In pattern (flat_map given (view_at script read_view.place)) → In pattern (given (text_of script read_view))
  given_there given pattern at =
      elim (in_either (given (text_of script read_view)) [] pattern
      (subst (λ (views : List TextView). In pattern (flat_map given views)) one_view at)) [
        | inl here ↦ here
        | inr bad ↦ absurd bad
      ]

  stands_there : (given : TextView → List Pattern) (pattern : Pattern)
      → In pattern (given (text_of script read_view)) → In pattern (flat_map given (view_at script read_view.place))
  stands_there given pattern at =
      subst (λ (views : List TextView). In pattern (flat_map given views)) (sym one_view)
      (in_first (given (text_of script read_view)) [] pattern at)

-- an entangled statement of a run, and the script of its transaction
pub record IsOfScript (scripts : List Script) (read_view : ReadView) : Type 0 where
  pub script : Script
  pub of_list : numbered scripts read_view.tx ≡ Some script
  pub known : IsKnownThere script read_view

-- a member of the joint answer that offers it, as the run has it, and its script
pub record IsMetBy (run : List ReadView) (scripts : List Script) (members : List Member) (demand : Pattern) :
    Type 0 where
  pub partner : ReadView
  pub seen : Contains run partner
  pub is_member : Contains members (member_of partner)
  pub script : Script
  pub of_list : numbered scripts partner.tx ≡ Some script
  pub offers : list_any (may_meet demand) (offers_at script partner.place) ≡ true

-- a run whose statements are of these scripts, and see what the texts know
module _ (declared : List Create) (run : List ReadView) (scripts : List Script)
    (known : (read_view : ReadView) → Contains run read_view → IsOfScript scripts read_view) where
  pub met_by : (members : List Member) (member : Member) (script : Script) (demand : Pattern)
      → IsGood declared run members → Contains members member → numbered scripts member.tx ≡ Some script
      → Contains (demands_at script member.place) demand → IsMetBy run scripts members demand
  met_by members member script demand good is_member of_list demands =
      let seen = good.of_run member is_member in
      let read_view = seen.0 in
      let of = known read_view seen.1 in
      let same = seen.2 in
      let script_is : script ≡ of.script =
      one_script script of.script
      (sym of_list ∙ ap (λ (m : Member). numbered scripts m.tx) same ∙ of.of_list) in
      let there : In demand (demands_at of.script read_view.place) =
      subst (λ (s : Script). In demand (demands_at s read_view.place)) script_is
      (subst (λ (m : Member). In demand (demands_at script m.place)) same
      (contains_in (demands_at script member.place) demand demands)) in
      let own = given_there of.script read_view of.known view_demands demand there in
      let post = demand_covers (text_of of.script read_view) read_view.environment read_view.valuation
      of.known.agrees demand (in_contains (view_demands (text_of of.script read_view)) demand own) in
      let met = good.met read_view (seen.1, subst (Contains members) same is_member) post.0 post.1 in
      let partner = met.0 in
      let by = known partner met.1.0 in
      let offer = head_covered (text_of by.script partner) partner.environment partner.valuation
      by.known.agrees post.0 met.2 in
      let offered = stands_there by.script partner by.known view_offers offer.0
      (contains_in (view_offers (text_of by.script partner)) offer.0 offer.1) in
      record {
        partner = partner;
        seen = met.1.0;
        is_member = met.1.1;
        script = by.script;
        of_list = by.of_list;
        offers = any_in (may_meet demand) (offers_at by.script partner.place) offer.0 offered
            (rows_may_meet demand offer.0 post.0 post.2 offer.2);
      }

  pub met_among : (members : List Member) (member : Member) (script : Script) (demand : Pattern)
      → IsGood declared run members → Contains members member → numbered scripts member.tx ≡ Some script
      → Contains (demands_at script member.place) demand → IsMetAmong scripts members demand
  met_among members member script demand good is_member of_list demands =
      let r = met_by members member script demand good is_member of_list demands in
      record {
        partner = member_of r.partner;
        script = r.script;
        is_member = r.is_member;
        of_list = r.of_list;
        offers = r.offers;
      }

-- ---- the run of a legal book

module _ (book : Book Database) (legal : IsLegal book) where
  -- the turn of an entangled statement of the run
  pub record IsOfTurn (read_view : ReadView) : Type 0 where
    pub turn : Turn
    pub at : In turn legal.turns
    pub own : turn.tx ≡ read_view.tx
    pub known : IsKnownThere turn.script read_view

  pub of_turn : (read_view : ReadView) → Contains (book_read_views book legal.turns) read_view → IsOfTurn read_view
  of_turn read_view has =
      let r = scripts_see book.opening.tables legal.turns (opening_database book.opening) read_view
      (contains_in (book_read_views book legal.turns) read_view has) in
      record { turn = r.0; at = r.1; own = r.2; known = r.3 }

  pub of_book : (read_view : ReadView) → Contains (book_read_views book legal.turns) read_view
      → IsOfScript book.scripts read_view
  of_book read_view has =
      let of = of_turn read_view has in
      record {
        script = of.turn.script;
        of_list = ap (numbered book.scripts) (sym of.own)
            ∙ legal.runs.own_scripts of.turn (in_contains legal.turns of.turn of.at);
        known = of.known;
      }
