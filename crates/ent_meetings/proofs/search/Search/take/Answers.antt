use Rattle.std.proofs.Common.{◌≡◌, ℕ, Bool, true, false, List, map, Contains, refl, sym, subst, ◌∙◌, ◌⊎◌, inl, inr}
use Rattle.std.specs.Global.{Vec}
use Rattle.std.specs.List.Sorted.{IsPermutation}
use Rattle.std.proofs.lemmas.Bool.{both_ways}
use Rattle.std.proofs.lemmas.List.Sorted.{IsPermutation-sym}
use Rattle.ent_meetings.specs.PartyMeeting.{IsClear}
use Rattle.ent_meetings.specs.Meeting.{HasOneOf, IsWithin}
use Rattle.ent_meetings.specs.Search.{AreCleared, IsStand, found_of}
use Rattle.ent_meetings.specs.Waiting.{Waiting, named}
use Rattle.ent_meetings.specs.declared.search.Search.{Search}
use Rattle.ent_meetings.proofs.HandingOut.{handed_out, one_more, past_it, still_right}
use Rattle.ent_meetings.proofs.Passed.{passed_found}
use Rattle.ent_meetings.proofs.Taking.{is_clear, is_meeting, within_permuted}
use Rattle.ent_meetings.proofs.search.Search.take.Goals as goal

among : (vectors vectors' : List (Vec ℕ)) (tickets tickets' : List ℕ) → vectors ≡ vectors' → tickets ≡ tickets'
    → Contains (map (λ (vector : Vec ℕ). vector.items) vectors) tickets
    → Contains (map (λ (vector : Vec ℕ). vector.items) vectors') tickets'
among vectors vectors' tickets tickets' same is has =
    subst (λ (xs : List ℕ). Contains (map (λ (vector : Vec ℕ). vector.items) vectors') xs) is
    (subst (λ (vs : List (Vec ℕ)). Contains (map (λ (vector : Vec ℕ). vector.items) vs) tickets) same has)

within_chosen : (one other slice : List ℕ) → slice ≡ one → IsPermutation slice other → IsWithin other one
within_chosen one other slice is moved =
    within_permuted other one (IsPermutation-sym one other (subst (λ (xs : List ℕ). IsPermutation xs other) is moved))

one_of : (sets : List (List ℕ)) (one others : List ℕ) → Contains sets one → IsWithin one others → HasOneOf sets others
one_of sets one others has all = (has.0, one, has.1, has.2, all)

pub returns-then-is_among-clause-ok : goal.returns-then-is_among-clause-ok
returns-then-is_among-clause-ok c waiting right none free =
    let old = c.args.self.now in
    let meeting = c.in_ok-meeting.meeting.items in
    let all = within_chosen old.chosen.items meeting c.as_slice.result.now c.as_slice.ensures.value
    c.in_ok-meeting.ensures.same in
    let has = among c.as_slice-2.result.now old.found.items c.as_slice-3.result.now meeting c.as_slice-2.ensures.value
    c.as_slice-3.ensures.value (c.is_among.ensures.0 c.if-is_among.true) in
    c.back.ensures waiting right
    (passed_found waiting old.root (found_of old) old.is_clear old.is_cut old.chosen.items
    (one_of (found_of old) meeting old.chosen.items has all))

clear_or_cleared : (waiting : Waiting) (old : Search) → IsStand waiting old → (meeting : List ℕ)
    → (old.is_clear ≡ true → IsClear (named waiting meeting))
    → IsClear (named waiting meeting) ⊎ AreCleared waiting old.root (found_of old)
clear_or_cleared waiting old right meeting clear = by old.is_clear refl
  where
    by : (b : Bool) → old.is_clear ≡ b → IsClear (named waiting meeting) ⊎ AreCleared waiting old.root (found_of old)
    by true is = inl (clear is)
    by false is = inr (right.cleared is)

pub returns-clause-ok : goal.returns-clause-ok
returns-clause-ok c waiting right none free =
    let old = c.args.self.now in
    let meeting = c.in_ok-meeting.meeting.items in
    let moved : IsPermutation old.chosen.items meeting =
    subst (λ (xs : List ℕ). IsPermutation xs meeting) c.as_slice.ensures.value c.in_ok-meeting.ensures.same in
    let all = within_permuted meeting old.chosen.items (IsPermutation-sym old.chosen.items meeting moved) in
    let meets = is_meeting waiting old.root (found_of old) old.is_clear old.is_cut old.chosen.items old.last right.stand
    c.requires meeting moved none c.in_ok-meeting.ensures.sorted in
    let is = one_more old.found.items c.push.new.self.items c.in_ok-copy.copy meeting c.in_ok-push.ensures.items
    (c.in_ok-copy.ensures.items ∙ c.as_slice-4.ensures.value) in
    handed_out waiting old right c.push.new.self meeting is meets all c.back-2.new.self
    (c.back-2.ensures waiting (still_right waiting old right c.push.new.self meeting is meets all)
    (past_it waiting old right c.push.new.self meeting is meets all))
    (λ has.
    both_ways c.is_among.result c.if-is_among.false
    (c.is_among.ensures.1
    (among old.found.items c.as_slice-2.result.now meeting c.as_slice-3.result.now (sym c.as_slice-2.ensures.value)
    (sym c.as_slice-3.ensures.value) has)))
    (clear_or_cleared waiting old right meeting (λ clear.
    is_clear waiting old.root (found_of old) old.is_clear old.is_cut old.chosen.items old.last right.stand
    c.requires meeting
    moved none (free clear)))
