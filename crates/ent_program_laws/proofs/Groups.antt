-- What members of a run have passed was met in their group.
use Rattle.std.proofs.Common.{◌≡◌, ◌⊎◌, ℕ, zero, suc, ◌==◌, ◌&&◌, true, List, [], ◌∷◌, ◌++◌, map, Option, Some}
use Rattle.std.proofs.Common.{Bool, Contains, AllPairs, slice_get, refl, sym, ap, subst, ◌∙◌, inl, inr}
use Rattle.std.specs.List.{AllByRecursion, filter, list_any}
use Rattle.ent_lists.specs.Elements.{In, Pairs, and_both, any_in, any_some, contains_in, in_contains, in_either}
use Rattle.ent_lists.specs.Elements.{in_flat}
use Rattle.ent_lists.specs.Elements.{in_first, in_second, index_pairs, nth_in, number_itself, of_all, of_filter, of_map}
use Rattle.ent_lists.specs.Elements.{same_number, to_filter, to_map}
use Rattle.ent_lists.proofs.Lists.{of_filter_map, to_filter_map}
use Rattle.ent_tree.specs.declared.script.Script.{Script}
use Rattle.ent_tree.specs.declared.script.Statement.TheVariants as statements
use Rattle.ent_semantics.specs.declared.book.JointAnswer.{JointAnswer}
use Rattle.ent_semantics.specs.declared.book.Member.{Member as JointMember}
use Rattle.ent_semantics.specs.Joint.{member_of}
use Rattle.ent_semantics.specs.Serial.{ReadView, numbered}
use Rattle.ent_meetings.specs.PartyMeeting.{IsClosed, is_met, offers}
use Rattle.ent_meetings.specs.Party.{party_of, view_demands}
use Rattle.ent_meetings.specs.declared.party.Party.{Party}
use Rattle.ent_meetings.specs.declared.pattern.Pattern.{Pattern}
use Rattle.ent_protocol.specs.Reached.{live_joints, scripts_of}
use Rattle.ent_protocol.specs.Rollback.{is_among, is_joint_of}
use Rattle.ent_protocol.specs.Member.{is_of, is_tx}
use Rattle.ent_protocol.specs.State.{State, Member, Submitted, members}
use Rattle.ent_protocol_laws.specs.Answered.{HasAsked, IsAnsweredOnce, IsPast, stands_in}
use Rattle.ent_protocol_laws.specs.GoodAnswers.{AnswersAreGood, state_read_views}
use Rattle.ent_protocol_laws.specs.GroupAnswers.{HaveGroups, IsOfGroup}
use Rattle.ent_protocol_laws.specs.History.{History}
use Rattle.ent_protocol_laws.specs.SerialState.{IsSerialState}
use Rattle.ent_program_laws.specs.Known.{demands_at, known_before, view_at}
use Rattle.ent_program_laws.specs.Running.{HasPassed, HaveAllPassed, IsMetInGroup, group_scripts}
use Rattle.ent_program_laws.proofs.Closed.{asked, script_offers}
use Rattle.ent_program_laws.proofs.Histories.{of_state}
use Rattle.ent_program_laws.proofs.Partners.{met_by}
use Rattle.ent_program_laws.proofs.Places.{of_place}

-- ---- members by number

same_tx : (xs : List History) (x y : History) → Pairs (λ (one other : History). one.member.tx ≡ other.member.tx → ⊥) xs
    → In x xs → In y xs → x.member.tx ≡ y.member.tx → x ≡ y
same_tx [] x y pairs first second same = absurd first
same_tx (z ∷ xs) x y pairs (inl one) (inl two) same = one ∙ sym two
same_tx (z ∷ xs) x y pairs (inl one) (inr second) same =
    absurd (of_all (λ (other : History). z.member.tx ≡ other.member.tx → ⊥) xs y pairs.0 second
    (ap (λ (h : History). h.member.tx) (sym one) ∙ same))
same_tx (z ∷ xs) x y pairs (inr first) (inl two) same =
    absurd (of_all (λ (other : History). z.member.tx ≡ other.member.tx → ⊥) xs x pairs.0 first
    (ap (λ (h : History). h.member.tx) (sym two) ∙ sym same))
same_tx (z ∷ xs) x y pairs (inr first) (inr second) same = same_tx xs x y pairs.1 first second same

module _ (s : State) (serial : IsSerialState s) where
  history_of : (member : Member) → In member (members s)
      → (history : History) × In history (serial.prepared ++ serial.others) × (member ≡ history.member)
  history_of member at =
      elim (in_either s.prepared s.active member at) [
        | inl prepared ↦
            let r = of_map (λ (h : History). h.member) serial.prepared member
            (subst (λ (ms : List Member). In member ms) (sym serial.of_prepared) prepared) in
            (r.0, in_first serial.prepared serial.others r.0 r.1, r.2)
        | inr active ↦
            let r = of_map (λ (h : History). h.member) serial.others member
            (contains_in (map (λ (h : History). h.member) serial.others) member
            ((serial.of_others member).1 (in_contains s.active member active))) in
            (r.0, in_second serial.prepared serial.others r.0 r.1, r.2)
      ]

  one_member : (first second : Member) → In first (members s) → In second (members s) → first.tx ≡ second.tx
      → first ≡ second
  one_member first second one two same =
      let x = history_of first one in
      let y = history_of second two in
      let is = same_tx (serial.prepared ++ serial.others) x.0 y.0
      (index_pairs (λ (one other : History). one.member.tx ≡ other.member.tx → ⊥)
      (serial.prepared ++ serial.others) serial.distinct) x.1 y.1
      (ap (λ (m : Member). m.tx) (sym x.2) ∙ same ∙ ap (λ (m : Member). m.tx) y.2) in
      x.2 ∙ ap (λ (h : History). h.member) is ∙ sym y.2

-- ---- joint answers

abbrev is_at : ℕ → ℕ → JointMember → Bool
is_at tx place member = (member.tx == tx) && (member.place == place)

-- the member of a joint answer that is this statement
stands : (tx place : ℕ) (joint : JointAnswer) → stands_in tx place joint ≡ true
    → (member : JointMember) × In member joint.members × (member.tx ≡ tx) × (member.place ≡ place)
stands tx place joint is =
    let r = any_some (is_at tx place) joint.members is in
    let both = and_both (r.0.tx == tx) (r.0.place == place) r.2 in
    (r.0, r.1, same_number r.0.tx tx both.0, same_number r.0.place place both.1)

first_in : {X : Type 0} (xs : List X) (x : X) → xs ≡ x ∷ [] → In x xs
first_in xs x is = subst (λ (ys : List _). In x ys) (sym is) (inl refl)

-- a joint answer with a member of the run is live
is_live : (s : State) (joint : JointAnswer) (asker : JointMember) (member : Member) → In joint s.joints
    → In asker joint.members → In member (members s) → asker.tx ≡ member.tx → In joint (live_joints s)
is_live s joint asker member at is_asker is_member same =
    to_filter (is_joint_of (members s)) s.joints joint at
    (any_in (λ (own : JointMember). is_among (members s) own.tx) joint.members asker is_asker
    (any_in (is_tx asker.tx) (members s) member is_member
    (ap (λ (tx : ℕ). member.tx == tx) same ∙ number_itself member.tx)))

-- ---- scripts

one_script : (first second : Script) → Some first ≡ Some second → first ≡ second
one_script first second e = cc

got_mapped : {X Y : Type 0} (f : X → Y) (xs : List X) (k : ℕ) (y : Y) → slice_get (map f xs) k ≡ Some y
    → (x : X) × (slice_get xs k ≡ Some x) × (f x ≡ y)
got_mapped f [] k y is = cc (is)
got_mapped f (x ∷ xs) zero y is = let same : f x ≡ y = cc in (x, refl, same)
got_mapped f (x ∷ xs) (suc k) y is = got_mapped f xs k y is

submitted_script : (all : List Submitted) (tx : ℕ) (script : Script)
    → numbered (map (λ (own : Submitted). own.script) all) tx ≡ Some script
    → (own : Submitted) × (numbered all tx ≡ Some own) × (own.script ≡ script)
submitted_script all zero script is = cc (is)
submitted_script all (suc k) script is = got_mapped (λ (own : Submitted). own.script) all k script is

-- ---- a member of a run

module _ (s : State) (good : AnswersAreGood s) (groups : HaveGroups s)
    (once : (tx place : ℕ) → HasAsked s tx place → IsAnsweredOnce s tx place) where
  is_past : (member : Member) (place : ℕ) → HasPassed s member place → IsPast s member.tx place
  is_past member place (inl prepared) = inr (inl (member, prepared, refl))
  is_past member place (inr active) = inr (inr (member, active.0, refl, active.1))

  is_member_of : (member : Member) (place : ℕ) → HasPassed s member place → In member (members s)
  is_member_of member place (inl prepared) =
      in_first s.prepared s.active member (contains_in s.prepared member prepared)
  is_member_of member place (inr active) =
      in_second s.prepared s.active member (contains_in s.active member active.0)

  has_asked : (member : Member) (script : Script) (place : ℕ) (demand : Pattern) → HasPassed s member place
      → numbered (scripts_of s) member.tx ≡ Some script → Contains (demands_at script place) demand
      → HasAsked s member.tx place
  has_asked member script place demand passed of_list demands =
      let of_view = in_flat view_demands (view_at script place) demand
      (contains_in (demands_at script place) demand demands) in
      let own = submitted_script s.submitted member.tx script of_list in
      let statement = asked (known_before script place) (numbered script.statements place) of_view.0 of_view.1 in
      record {
        past = is_past member place passed;
        submitted = own.0;
        of_tx = own.1;
        entangled = statement.0;
        at_place = ap (λ (sc : Script). numbered sc.statements place) own.2 ∙ statement.1;
      }

  pub met_in_group : (member : Member) (script : Script) (place : ℕ) (demand : Pattern) → HasPassed s member place
      → numbered (scripts_of s) member.tx ≡ Some script → Contains (demands_at script place) demand
      → IsMetInGroup s member.group demand
  met_in_group member script place demand passed of_list demands =
      let answer = once member.tx place (has_asked member script place demand passed of_list demands) in
      let joint = answer.0 in
      let found = of_filter (stands_in member.tx place) s.joints joint
      (first_in (filter (stands_in member.tx place) s.joints) joint answer.1) in
      let asker = stands member.tx place joint found.1 in
      let by = met_by s.opening.tables (state_read_views s good.0) (scripts_of s) (of_state s good.0) joint.members
      asker.0 script demand (good.1 joint (in_contains s.joints joint found.0))
      (in_contains joint.members asker.0 asker.1) (ap (numbered (scripts_of s)) asker.2 ∙ of_list)
      (subst (λ (p : ℕ). Contains (demands_at script p) demand) (sym asker.3) demands) in
      let own = is_member_of member place passed in
      let live = is_live s joint asker.0 member found.0 asker.1 own asker.2 in
      let group = groups joint (in_contains (live_joints s) joint live) in
      let mine = group.1 asker.0 (in_contains joint.members asker.0 asker.1) in
      let other = group.1 (member_of by.partner) by.is_member in
      let same : mine.0 ≡ member =
      one_member s good.0 mine.0 member (contains_in (members s) mine.0 mine.1) own (mine.2 ∙ asker.2) in
      record {
        partner = other.0;
        script = by.script;
        is_member = other.1;
        of_group = other.3 ∙ sym mine.3 ∙ ap (λ (m : Member). m.group) same;
        of_list = ap (numbered (scripts_of s)) other.2 ∙ by.of_list;
        offers = script_offers by.script by.partner.place demand by.offers;
      }

  -- ---- groups that have passed all

  module _ (group : ℕ) (all : HaveAllPassed s group) where
    abbrev script_by : Member → Option Script
    script_by member = numbered (scripts_of s) member.tx

    -- a script of the group, and its member
    member_by : (script : Script) → In script (group_scripts s group)
        → (member : Member) × In member (members s) × (member.group ≡ group) × (script_by member ≡ Some script)
    member_by script at =
        let mapped = of_filter_map script_by (filter (is_of group) (members s)) script at in
        let own = of_filter (is_of group) (members s) mapped.0 mapped.1 in
        (mapped.0, own.0, same_number mapped.0.group group own.1, mapped.2)

    script_met : (script : Script) (demand : Pattern) → In script (group_scripts s group)
        → Contains (party_of script).demands demand
        → is_met (map party_of (group_scripts s group)) demand ≡ true
    script_met script demand at demands =
        let own = member_by script at in
        let placed = of_place view_demands script demand demands in
        let of_view = in_flat view_demands (view_at script placed.0) demand
        (contains_in (demands_at script placed.0) demand placed.1) in
        let statement = asked (known_before script placed.0) (numbered script.statements placed.0) of_view.0
        of_view.1 in
        let by = met_in_group own.0 script placed.0 demand
        (all own.0 script placed.0 (statements.Entangled statement.0) (in_contains (members s) own.0 own.1) own.2 own.3
        statement.1) own.3 placed.1 in
        let same : by.partner.group ≡ group = by.of_group ∙ own.2 in
        any_in (offers demand) (map party_of (group_scripts s group)) (party_of by.script)
        (to_map party_of (group_scripts s group) by.script
        (to_filter_map script_by (filter (is_of group) (members s)) by.partner by.script
        (to_filter (is_of group) (members s) by.partner (contains_in (members s) by.partner by.is_member)
        (ap (λ (g : ℕ). g == group) same ∙ number_itself group)) by.of_list)) by.offers

    party_met : (party : Party) (demand : Pattern) → In party (map party_of (group_scripts s group))
        → In demand party.demands → is_met (map party_of (group_scripts s group)) demand ≡ true
    party_met party demand at demands =
        let of = of_map party_of (group_scripts s group) party at in
        script_met of.0 demand of.1
        (in_contains (party_of of.0).demands demand (subst (λ (p : Party). In demand p.demands) of.2 demands))

    pub group_closed : IsClosed (map party_of (group_scripts s group))
    group_closed k d low n e there =
        party_met _ _ (nth_in (map party_of (group_scripts s group)) k d low) (nth_in _ n e there)
