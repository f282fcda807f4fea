-- The entries that a commit makes: they are drafted, and their transactions have their fates.
use Rattle.std.proofs.Common.{◌≡◌, ◌==◌, ◌≤◌, ◌+◌, ◌||◌, ℕ, suc, Bool, true, false, cond, not}
use Rattle.std.proofs.Common.{List, [], ◌∷◌, ◌++◌, length, map, drop, refl, sym, ap, subst, ◌∙◌, inl, inr, arith}
use Rattle.std.proofs.Common.{Option, Some, append_assoc, length-append}
use Rattle.std.specs.Prelude.{◌≢◌}
use Rattle.std.specs.List.{filter, list_any}
use Rattle.std.proofs.lemmas.List.{length-map}
use Rattle.ent_group.specs.declared.members.TheConstants.{MOST_MEMBERS}
use Rattle.ent_lists.specs.Elements.{In, Pairs, and_both, any_in, any_none, any_some, clash, in_either}
use Rattle.ent_lists.specs.Elements.{in_first, in_second, index_pairs, not_so, number_itself, of_all, of_filter, of_map}
use Rattle.ent_lists.specs.Elements.{pairs_across, pairs_behind, pairs_filtered, pairs_first, pairs_mapped}
use Rattle.ent_lists.specs.Elements.{pairs_second, to_all, to_filter, to_map, turned}
use Rattle.ent_lists.proofs.Lists.{some_in}
use Rattle.ent_semantics.specs.declared.book.Entry.{Entry}
use Rattle.ent_semantics.specs.declared.book.Fate.{Fate}
use Rattle.ent_semantics.specs.declared.book.Fate.TheVariants.{Committed}
use Rattle.ent_semantics.specs.declared.book.Fated.{Fated}
use Rattle.ent_protocol.specs.Commit.{commit_fates, committing_members, entry_of, is_ready, preparing}
use Rattle.ent_protocol.specs.Lookup.{Commit, Ready, group_of, member_of, standing, turn_of}
use Rattle.ent_protocol.specs.Event.{Begin, Reply}
use Rattle.ent_protocol.specs.Member.{active_member, is_lent, is_of, is_tx}
use Rattle.ent_protocol.specs.Reached.{IsReached}
use Rattle.ent_protocol.specs.Rollback.{group_numbers}
use Rattle.ent_protocol.specs.Step.{Step}
use Rattle.ent_protocol.specs.State.{State, Dormant, Member, by_number, first_of, members}
use Rattle.ent_protocol_laws.specs.ByNumber.{StandByNumber}
use Rattle.ent_protocol_laws.specs.Numbered.{Apart, from_by_number, keys_apart, one_passes, to_by_number}
use Rattle.ent_protocol_laws.specs.Standing.{StandOnce, standing as standing_all}
use Rattle.ent_form.specs.declared.fault.FormFault.{FormFault}
use Rattle.ent_core.specs.Passed.{resolved_forms}
use Rattle.ent_protocol_laws.proofs.Found.{found}
use Rattle.ent_protocol_laws.proofs.Left.{fated_tx, tx_of}
use Rattle.ent_protocol_laws.proofs.Numbers.{members_apart}
use Rattle.ent_core.proofs.Told.{answers_found, group_found}
use Rattle.ent_core.proofs.Whereabouts.{stands_finished, stands_prepared as stands_so, stands_ready}
use Rattle.ent_desk.specs.declared.ticket.Receipt.{Receipt}
use Rattle.ent_desk.specs.Drafts.{AreDrafted, AreDraftedFor, AreOfGroup, HaveCommitted, drafted, draft_among}
use Rattle.ent_desk.specs.Drafts.{draft_now, draft_of, keeps_waiting, stands_prepared}
use Rattle.ent_desk.specs.declared.draft.ReceiptDraft.{ReceiptDraft}
use Rattle.ent_desk.specs.Receipts.{AreReceived, AreReceiptsFrom, IsReceiptOf, Receives}
use Rattle.ent_desk.specs.Kept.{IsKeptDesk}
use Rattle.ent_desk.specs.Told.{fate_in}
use Rattle.ent_desk.proofs.Counting.{Begun, GroupCommits, begun}
use Rattle.ent_desk.proofs.Drafting.{now_among}
use Rattle.ent_desk.proofs.Keeping.{append_nil, kept_on}

abbrev entry_tx : Entry → ℕ
entry_tx entry = entry.tx

-- ---- lists

filter_short : {X : Type 0} (p : X → Bool) (xs : List X) → length (filter p xs) ≤ length xs
filter_short p [] = omega arith
filter_short p (x ∷ xs) = by (p x) (filter_short p xs)
  where
    by : (b : Bool) → length (filter p xs) ≤ length xs → length (cond b (x ∷ filter p xs) (filter p xs)) ≤ suc
        (length xs)
    by true low = omega (arith, low)
    by false low = omega (arith, low)

drop_front : {X : Type 0} (xs ys : List X) → drop (length xs) (xs ++ ys) ≡ ys
drop_front [] ys = refl
drop_front (x ∷ xs) ys = drop_front xs ys

-- no two entries are of one transaction
apart_drafted : (drafts : List ReceiptDraft) (entries : List Entry) → Pairs (Apart entry_tx) entries
    → ((entry : Entry) → In entry entries → draft_among drafts entry.tx ≡ Some (draft_of entry))
    → AreDrafted drafts entries
apart_drafted drafts [] apart there = tt
apart_drafted drafts (entry ∷ more) apart there = (
  there entry (inl refl),
  to_all (λ (other : Entry). other.tx ≢ entry.tx) more
      (λ other at same. of_all (Apart entry_tx entry) more other apart.0 at (sym same)),
  apart_drafted drafts more apart.1 (λ other at. there other (inr at)),
)

-- ---- fates

module _ (s : State) (once : StandOnce s) where
  fates_apart : Pairs (Apart fated_tx) s.fates
  fates_apart =
      let all = index_pairs (λ (one other : ℕ). one ≡ other → ⊥) (standing_all s) once.distinct in
      let behind = pairs_second (λ (one other : ℕ). one ≡ other → ⊥) (map tx_of (members s))
      (map (λ (own : Dormant). own.tx) s.dormant ++ map fated_tx s.fates) all in
      keys_apart fated_tx s.fates
      (pairs_second (λ (one other : ℕ). one ≡ other → ⊥) (map (λ (own : Dormant). own.tx) s.dormant)
      (map fated_tx s.fates) behind)

  -- who is among the fates stands with this one
  pub fate_stands : (own : Fated) → In own s.fates → fate_in (standing s own.tx) ≡ Some own.fate
  fate_stands own at =
      let only = one_passes fated_tx s.fates own own.tx fates_apart at refl in
      let there : Some own ≡ first_of (filter (λ (one : Fated). one.tx == own.tx) s.fates) = sym (ap first_of only) in
      sym (ap fate_in (stands_finished s own.tx own there))

  committed : (next : ℕ) (gone : List Member) → ((own : Fated) → In own (commit_fates next gone) → In own s.fates)
      → HaveCommitted s next (map entry_of gone)
  committed next [] within = tt
  committed next (member ∷ more) within = (
    (
      member.attempt,
      fate_stands (record { tx = member.tx; fate = Committed next member.attempt }) (within _ (inl refl)),
    ),
    committed (suc next) more (λ own at. within own (inr at)),
  )

-- ---- a group that commits

module _ (s : State) (tx : ℕ) (stand : StandByNumber s) (member : Member)
    (there : active_member s tx ≡ Some member) where
  abbrev gone : List Member
  gone = committing_members (preparing s member) member.group

  own_tx : member.tx ≡ tx
  own_tx = (found s tx member there).1

  in_active : In member s.active
  in_active = (found s tx member there).0

  all_apart : Pairs (Apart tx_of) (members s)
  all_apart = members_apart s stand

  before_apart : Pairs (Apart tx_of) (s.prepared ++ member ∷ [])
  before_apart =
      pairs_behind (Apart tx_of) s.prepared member (pairs_first (Apart tx_of) s.prepared s.active all_apart)
      (λ other at. pairs_across (Apart tx_of) s.prepared s.active other member all_apart at in_active)

  gone_apart : Pairs (Apart tx_of) gone
  gone_apart = pairs_filtered (Apart tx_of) (is_of member.group) (s.prepared ++ member ∷ []) before_apart

  -- those who go are members of the group
  gone_in : (other : Member) → In other gone → In other (members s) × (is_of member.group other ≡ true)
  gone_in other at =
      let r = of_filter (is_of member.group) (s.prepared ++ member ∷ []) other at in (
        elim (in_either s.prepared (member ∷ []) other r.0) [
          | inl a ↦ in_first s.prepared s.active other a
          | inr b ↦ elim b [
            | inl same ↦ in_second s.prepared s.active other (subst (λ (m : Member). In m s.active) (sym same)
                in_active)
            | inr bad ↦ absurd bad
          ]
        ],
        r.1,
      )

  gone_few : length (members s) ≤ MOST_MEMBERS → length (map entry_of gone) ≤ MOST_MEMBERS
  gone_few bound =
      let one = filter_short (is_of member.group) (s.prepared ++ member ∷ []) in
      let two = length-append s.prepared (member ∷ []) in
      let three = length-append s.prepared s.active in
      let four = some_in member s.active in_active in
      let five = length-map gone entry_of in
      omega (arith, bound, one, two, three, four, five)

  -- the member of a number
  is_member : (other : Member) → In other (members s) → Some other ≡ member_of s other.tx
  is_member other at = sym (ap first_of (one_passes tx_of (members s) other other.tx all_apart at refl))

  own_group : group_numbers s member.group ≡ group_of s tx
  own_group =
      group_found s tx member
      (subst (λ (n : ℕ). Some member ≡ member_of s n) own_tx
      (is_member member (in_second s.prepared s.active member in_active)))

  abbrev of_group_all : List Member
  of_group_all = filter (is_of member.group) (members s)

  to_group : (other : Member) → In other gone → In other.tx (group_of s tx)
  to_group other at =
      let r = gone_in other at in
      subst (λ (ns : List ℕ). In other.tx ns) own_group
      (to_map tx_of (by_number tx_of of_group_all) other
      (to_by_number tx_of of_group_all other (to_filter (is_of member.group) (members s) other r.0 r.1)))

  of_group : (n : ℕ) → In n (group_of s tx)
      → (other : Member) × In other (members s) × (is_of member.group other ≡ true) × (n ≡ other.tx)
  of_group n at =
      let r = of_map tx_of (by_number tx_of of_group_all) n
      (subst (λ (ns : List ℕ). In n ns) (sym own_group) at) in
      let q = of_filter (is_of member.group) (members s) r.0 (from_by_number tx_of of_group_all r.0 r.1) in
      (r.0, q.0, q.1, r.2)

  entry_is : (other : Member) → In other (members s) → draft_now s other.tx ≡ draft_of (entry_of other)
  entry_is other at =
      let answers = answers_found s other.tx other (is_member other at) in
      λ i. record { tx = other.tx; answers = sym answers i }

  module _ (once : StandOnce s) (ready : is_ready (preparing s member) member.group ≡ true) where
    -- who is of the group, and another, is prepared
    all_prepared : (n : ℕ) → In n (group_of s tx) → (n == tx) ≡ false → stands_prepared (standing s n) ≡ true
    all_prepared n at apart =
        let r = of_group n at in
        let other = r.0 in
        let own : (other.tx == n) ≡ true = ap (λ (k : ℕ). other.tx == k) r.3 ∙ number_itself other.tx in
        elim (in_either s.prepared s.active other r.1) [
          | inl a ↦ sym (ap stands_prepared (stands_so s n once (any_in (is_tx n) s.prepared other a own)))
          | inr b ↦
              let two : (other.tx == member.tx) ≡ false = (λ i. sym r.3 i == own_tx i) ∙ apart in
              let left = to_filter (λ (m : Member). not (is_tx member.tx m)) s.active other b (ap not two) in
              clash (is_of member.group other) r.2
              (any_none (is_of member.group) (preparing s member).active
              (turned (list_any (is_of member.group) (preparing s member).active) ready) other left)
        ]

    none_waits : list_any (keeps_waiting s tx) (group_of s tx) ≡ false
    none_waits =
        not_so (list_any (keeps_waiting s tx) (group_of s tx)) (λ any.
        let r = any_some (keeps_waiting s tx) (group_of s tx) any in
        let both = and_both (not (r.0 == tx)) (not (stands_prepared (standing s r.0))) r.2 in
        clash (stands_prepared (standing s r.0)) (all_prepared r.0 r.1 (turned (r.0 == tx) both.0))
        (turned (stands_prepared (standing s r.0)) both.1))

    drafts_are : drafted s tx ≡ map (draft_now s) (group_of s tx)
    drafts_are =
        ap (λ b. cond b [] (map (draft_now s) (group_of s tx))) none_waits

    entry_drafted : (drafts : List ReceiptDraft) → drafts ≡ drafted s tx → (entry : Entry)
        → In entry (map entry_of gone) → draft_among drafts entry.tx ≡ Some (draft_of entry)
    entry_drafted drafts are entry at =
        let r = of_map entry_of gone entry at in
        let m = r.0 in
        let own : draft_among drafts m.tx ≡ Some (draft_of (entry_of m)) =
        ap (λ (l : List ReceiptDraft). draft_among l m.tx) (are ∙ drafts_are)
        ∙ now_among s (group_of s tx) m.tx (to_group m r.1)
        ∙ ap Some (entry_is m (gone_in m r.1).0) in
        subst (λ (e : Entry). draft_among drafts e.tx ≡ Some (draft_of e)) (sym r.2) own

-- ---- what a begin makes

-- the journal goes on by few entries; each is drafted, and its transaction has committed
pub record Grows (old : State) (drafts : List ReceiptDraft) (new : State) : Type 0 where
  pub entries : List Entry
  pub submitted : length new.submitted ≡ length old.submitted
  pub journal : new.journal ≡ old.journal ++ entries
  pub few : length entries ≤ MOST_MEMBERS
  pub are_drafted : AreDrafted drafts entries
  pub have_committed : HaveCommitted new (suc (length old.journal)) entries

module _ (old : State) (tx : ℕ) (drafts : List ReceiptDraft) (new : State) (stand : StandByNumber old)
    (once : StandOnce old) (bound : length (members old) ≤ MOST_MEMBERS) (once_new : StandOnce new)
    (drafts_for : AreDraftedFor old tx drafts) where
  stands_so_far : (h : GroupCommits old tx new) → standing old tx ≡ Some (Ready Commit)
  stands_so_far h =
      let own = own_tx old tx stand h.member h.there in
      let idle = ap (λ (n : ℕ). h.member.posted || is_lent old n) own ∙ h.waiting in
      stands_ready old tx once h.member h.there idle ∙ ap (λ next. Some (Ready (turn_of next))) h.at_commit

  grows : Begun old tx new → Grows old drafts new
  grows (inl keeps) =
      record {
        entries = [];
        submitted = ap length keeps.submitted;
        journal = keeps.journal ∙ append_nil old.journal;
        few = omega arith;
        are_drafted = tt;
        have_committed = tt;
      }
  grows (inr h) =
      let those = gone old tx stand h.member h.there in
      let fates = ap (λ (s : State). s.fates) h.is in
      record {
        entries = map entry_of those;
        submitted = ap (λ (s : State). length s.submitted) h.is;
        journal = ap (λ (s : State). s.journal) h.is;
        few = gone_few old tx stand h.member h.there bound;
        are_drafted = apart_drafted drafts (map entry_of those)
            (pairs_mapped entry_of (Apart tx_of) (Apart entry_tx) those
            (gone_apart old tx stand h.member h.there) (λ one other apart. apart))
            (entry_drafted old tx stand h.member h.there once h.ready drafts (drafts_for (stands_so_far h)));
        have_committed = committed new once_new (suc (length old.journal)) those (λ own at.
            subst (λ (all : List Fated). In own all) (sym fates)
            (in_second old.fates (commit_fates (suc (length old.journal)) those) own at));
      }

pub grown_by : (old new : State) (tx : ℕ) (drafts : List ReceiptDraft) (reply : Reply FormFault)
    → IsReached resolved_forms old → IsReached resolved_forms new
    → ((s : State) → IsReached resolved_forms s → StandByNumber s)
    → ((s : State) → IsReached resolved_forms s → StandOnce s)
    → ((s : State) → IsReached resolved_forms s → length (members s) ≤ MOST_MEMBERS)
    → AreDraftedFor old tx drafts → Step resolved_forms old (Begin tx) reply new → Grows old drafts new
grown_by old new tx drafts reply reached reached_new stand once bound drafts_for step =
    grows old tx drafts new (stand old reached) (once old reached) (bound old reached) (once new reached_new) drafts_for
    (begun old new reply tx step)

module _ (old : State) (drafts : List ReceiptDraft) (new : State) (g : Grows old drafts new) (before : ℕ)
    (is : before ≡ length old.journal) where
  rest : drop before new.journal ≡ g.entries
  rest = (λ i. drop (is i) (g.journal i)) ∙ drop_front old.journal g.entries

  pub more : length new.journal ≡ length old.journal + length (drop before new.journal)
  more =
      let one = ap length g.journal in
      let two = length-append old.journal g.entries in
      let three = ap length rest in
      omega (arith, one, two, three)

  pub are_of_group : AreOfGroup new before drafts
  are_of_group =
      let all = more in
      record {
        within = omega (arith, all, is);
        few = subst (λ (l : List Entry). length l ≤ MOST_MEMBERS) (sym rest) g.few;
        are_drafted = subst (λ (l : List Entry). AreDrafted drafts l) (sym rest) g.are_drafted;
        have_committed = subst (λ (l : List Entry). HaveCommitted new (suc before) l) (sym rest)
            (subst (λ (n : ℕ). HaveCommitted new (suc n) g.entries) (sym is) g.have_committed);
      }

  pub receives : (one other : List Receipt) → AreReceived new (suc before) (drop before new.journal) one other
      → Receives old new one other
  receives one other h =
      record {
        entries = g.entries;
        journal = g.journal;
        received = subst (λ (l : List Entry). AreReceived new (suc (length old.journal)) l one other) rest
            (subst (λ (n : ℕ). AreReceived new (suc n) (drop before new.journal) one other) is h);
      }

  pub kept_begin : (count scripts entries entries' made tx : ℕ) (reply : Reply FormFault)
      → IsKeptDesk old count scripts entries → Step resolved_forms old (Begin tx) reply new
      → made ≡ length (drop before new.journal) → entries' ≡ entries + made → IsKeptDesk new count scripts entries'
  kept_begin count scripts entries entries' made tx reply kept step counted are =
      let one = g.submitted in
      let two = more in
      kept_on count scripts entries 0 made scripts entries' old new (Begin tx) reply kept step
      (record { submitted = omega (arith, one); journal = omega (arith, two, counted) }) (omega arith) are

-- ---- receipts

same_commit : (fate : Option Fate) (number other runs more : ℕ) → fate ≡ Some (Committed number more)
    → fate ≡ Some (Committed other runs) → fate ≡ Some (Committed number runs)
same_commit fate number other runs more one two =
    let both : Some (Committed number more) ≡ Some (Committed other runs) = sym one ∙ two in
    let same : number ≡ other = cc in
    subst (λ (n : ℕ). fate ≡ Some (Committed n runs)) (sym same) two

pub receipt_is : (core : State) (number : ℕ) (entry : Entry) (draft : ReceiptDraft) (drafts : List ReceiptDraft)
    (runs : ℕ) → draft_among drafts entry.tx ≡ Some draft → draft_among drafts entry.tx ≡ Some (draft_of entry)
    → (other : ℕ) × (fate_in (standing core entry.tx) ≡ Some (Committed other runs))
    → (more : ℕ) × (fate_in (standing core entry.tx) ≡ Some (Committed number more))
    → IsReceiptOf core number entry
    (record { number = number; tx = entry.tx; runs = runs; answers = draft.answers })
receipt_is core number entry draft drafts runs taken there told has =
    let both : Some draft ≡ Some (draft_of entry) = sym taken ∙ there in
    let same : draft ≡ draft_of entry = cc in
    record {
      fate = same_commit (fate_in (standing core entry.tx)) number told.0 runs has.0 has.1 told.1;
      is = λ i. record { number = number; tx = entry.tx; runs = runs; answers = (same i).answers };
    }

pub receive_none : (core : State) (number : ℕ) (entries : List Entry) (before after : List Receipt) → entries ≡ []
    → after ≡ before → AreReceived core number entries before after
receive_none core number entries before after none is =
    record {
      got = [];
      behind = is ∙ append_nil before;
      are = subst (λ (l : List Entry). AreReceiptsFrom core number l []) (sym none) tt;
    }

pub receive_one : (core : State) (number : ℕ) (entries : List Entry) (entry : Entry) (more : List Entry)
    (before mid after : List Receipt) (got : Receipt) → entries ≡ entry ∷ more → mid ≡ before ++ got ∷ []
    → IsReceiptOf core number entry got → AreReceived core (number + 1) more mid after
    → AreReceived core number entries before after
receive_one core number entries entry more before mid after got is one own h =
    let next : number + 1 ≡ suc number = omega arith in
    record {
      got = got ∷ h.got;
      behind = h.behind ∙ ap (λ (l : List Receipt). l ++ h.got) one ∙ append_assoc before (got ∷ []) h.got;
      are = subst (λ (l : List Entry). AreReceiptsFrom core number l (got ∷ h.got)) (sym is)
          (own, subst (λ (n : ℕ). AreReceiptsFrom core n more h.got) next h.are);
    }

-- ---- nothing is received

nil_behind : {X : Type 0} (xs ys : List X) → xs ≡ xs ++ ys → ys ≡ []
nil_behind xs [] is = refl
nil_behind xs (y ∷ ys) is =
    let one = ap length is in
    let two = length-append xs (y ∷ ys) in
    absurd (omega (arith, one, two))

none_of : (core : State) (next : ℕ) (got : List Receipt) → AreReceiptsFrom core next [] got → got ≡ []
none_of core next [] h = refl
none_of core next (_ ∷ _) h = absurd h

-- where nothing changed, nothing was received
pub none_received : (old new : State) (before after : List Receipt) → new ≡ old → Receives old new before after
    → after ≡ before
none_received old new before after same h =
    let none : h.entries ≡ [] = nil_behind old.journal h.entries
    (sym (ap (λ (s : State). s.journal) same) ∙ h.journal) in
    let r = h.received in
    let empty : r.got ≡ [] =
    none_of new (suc (length old.journal)) r.got
    (subst (λ (l : List Entry). AreReceiptsFrom new (suc (length old.journal)) l r.got) none r.are) in
    r.behind ∙ ap (λ (l : List Receipt). before ++ l) empty ∙ sym (append_nil before)

-- where the journal stays, so do the receipts
pub receives_none : (old new : State) (before after : List Receipt) → new.journal ≡ old.journal → after ≡ before
    → Receives old new before after
receives_none old new before after same is =
    record {
      entries = [];
      journal = same ∙ append_nil old.journal;
      received = record { got = []; behind = is ∙ append_nil before; are = tt };
    }
