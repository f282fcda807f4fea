-- Joint answers that were made before the present run began: nobody of the run is a member of one.
use Rattle.std.proofs.Common.{◌≡◌, ◌==◌, ℕ, suc, true, false, not, List, [], ◌∷◌, ◌++◌, length, take, drop}
use Rattle.std.proofs.Common.{filter, inl, inr, refl, sym, ap, subst, ◌∙◌, arith, nat_eq, true≢false}
use Rattle.std.specs.Prelude.{Bool, Contains}
use Rattle.std.specs.List.{AllByRecursion, IsDistinct, list_any}
use Rattle.std.proofs.lemmas.List.{length-append, length-take-le, take-append-drop, take-append-le, take_all}
use Rattle.std.proofs.lemmas.List.Elements.{Contains-append_left}
use Rattle.std.proofs.lemmas.Option.{slice_get_read}
use Rattle.ent_lists.specs.Elements.{In, all_by, any_some, contains_in, filter_joined, filter_whole, in_contains}
use Rattle.ent_lists.specs.Elements.{map_joined}
use Rattle.ent_lists.specs.Elements.{not_so, of_all, same_number, to_all, to_map}
use Rattle.ent_semantics.specs.Book.{HasCommitted, JournalIsRight}
use Rattle.ent_semantics.specs.declared.book.Entry.{Entry}
use Rattle.ent_semantics.specs.declared.book.Fate.TheVariants.{Committed}
use Rattle.ent_semantics.specs.declared.book.Fated.{Fated}
use Rattle.ent_semantics.specs.declared.book.JointAnswer.{JointAnswer}
use Rattle.ent_semantics.specs.declared.book.Member.{Member as Partner}
use Rattle.ent_protocol.specs.Reached.{book_of}
use Rattle.ent_protocol.specs.State.{State, Member, by_number}
use Rattle.ent_protocol_laws.proofs.Times.{count_by_number, count_in, in_count, stands, times_joined}
use Rattle.ent_protocol_laws.specs.Answered.{IsPast, NothingElse}
use Rattle.ent_core.specs.Settled.{AreSettled, IsFated, finished}
use Rattle.ent_core.specs.TakeOut.{is_joint_of_any, is_joint_of_others}
use Rattle.ent_core.proofs.Sorted.{once}

-- ---- more fates, and more joint answers

fated_on : (fates more : List Fated) (joint : JointAnswer) → IsFated fates joint → IsFated (fates ++ more) joint
fated_on fates more joint all =
    all_by (λ (member : Partner). Contains (finished fates) member.tx)
    (λ (member : Partner). Contains (finished (fates ++ more)) member.tx) joint.members
    (λ member there. subst (λ (ns : List ℕ). Contains ns member.tx)
    (sym (map_joined (λ (fated : Fated). fated.tx) fates more))
    (Contains-append_left (finished fates) (finished more) member.tx there)) all

pub settled_on : (settled : ℕ) (joints : List JointAnswer) (fates more new : List Fated) → new ≡ fates ++ more
    → AreSettled settled joints fates → AreSettled settled joints new
settled_on settled joints fates more new is kept =
    subst (AreSettled settled joints) (sym is)
    (record {
      within = kept.within;
      fated = all_by (IsFated fates) (IsFated (fates ++ more)) (take settled joints) (fated_on fates more) kept.fated;
    })

pub settled_pushed : (settled : ℕ) (joints before new : List JointAnswer) (joint : JointAnswer) (fates : List Fated)
    → new ≡ before ++ joint ∷ [] → before ≡ joints → AreSettled settled joints fates → AreSettled settled new fates
settled_pushed settled joints before new joint fates is same kept =
    subst (λ (all : List JointAnswer). AreSettled settled all fates)
    (sym (is ∙ ap (λ (all : List JointAnswer). all ++ joint ∷ []) same))
    (record {
      within = omega (arith, kept.within, length-append joints (joint ∷ []));
      fated = subst (AllByRecursion (IsFated fates)) (sym (take-append-le settled joints (joint ∷ []) kept.within))
          kept.fated;
    })

-- ---- members leave

-- who has a fate is none of those who leave
apart : (fates : List Fated) (numbers : List ℕ) (tx : ℕ) → IsDistinct nat_eq (finished fates ++ numbers)
    → Contains (finished fates) tx → list_any (λ n. n == tx) numbers ≡ false
apart fates numbers tx distinct there = not_so (list_any (λ n. n == tx) numbers) (λ any.
    let some = any_some (λ n. n == tx) numbers any in
    let here : In tx numbers = subst (λ (n : ℕ). In n numbers) (same_number some.0 tx some.2) some.1 in
    omega (
      arith,
      once (finished fates ++ numbers) distinct tx,
      times_joined tx (finished fates) numbers,
      stands tx (finished fates) (contains_in (finished fates) tx there),
      stands tx numbers here,
    ))

others_stay : (fates : List Fated) (numbers : List ℕ) → IsDistinct nat_eq (finished fates ++ numbers)
    → (joint : JointAnswer) → IsFated fates joint → is_joint_of_others numbers joint ≡ true
others_stay fates numbers distinct joint all = ap not (not_so (is_joint_of_any numbers joint) (λ any.
    let leaves : Partner → Bool = λ (member : Partner). list_any (λ n. n == member.tx) numbers in
    let some = any_some leaves joint.members any in
    let has = of_all (λ (member : Partner). Contains (finished fates) member.tx) joint.members some.0 all some.1 in
    true≢false (sym some.2 ∙ apart fates numbers some.0.tx distinct has)))

pub first_stay : (settled : ℕ) (joints : List JointAnswer) (fates : List Fated) (numbers : List ℕ)
    → AreSettled settled joints fates → IsDistinct nat_eq (finished fates ++ numbers)
    → filter (is_joint_of_others numbers) (take settled joints) ≡ take settled joints
first_stay settled joints fates numbers kept distinct =
    filter_whole (is_joint_of_others numbers) (take settled joints)
    (λ joint at. others_stay fates numbers distinct joint
    (of_all (IsFated fates) (take settled joints) joint kept.fated at))

pub settled_left : (settled : ℕ) (joints new : List JointAnswer) (fates : List Fated) (p : JointAnswer → Bool)
    → filter p (take settled joints) ≡ take settled joints → new ≡ filter p joints
    → AreSettled settled joints fates → AreSettled settled new fates
settled_left settled joints new fates p stay is kept =
    let first = take settled joints in
    let rest = drop settled joints in
    let long = length-take-le settled joints kept.within in
    let parts : filter p joints ≡ first ++ filter p rest =
    ap (filter p) (sym (take-append-drop settled joints)) ∙ filter_joined p first rest
    ∙ ap (λ (front : List JointAnswer). front ++ filter p rest) stay in
    let again : take settled (first ++ filter p rest) ≡ first =
    take-append-le settled first (filter p rest) (omega (arith, long)) ∙ take_all settled first (omega (arith, long)) in
    subst (λ (all : List JointAnswer). AreSettled settled all fates) (sym (is ∙ parts))
    (record {
      within = omega (arith, long, length-append first (filter p rest));
      fated = subst (AllByRecursion (IsFated fates)) (sym again) kept.fated;
    })

-- ---- no run is on

pub none_settled : (fates : List Fated) → AreSettled 0 [] fates
none_settled fates = record { within = omega arith; fated = tt }

nobody_in : (members : List Member) (member : Member) → members ≡ [] → Contains members member → ⊥
nobody_in members member none there =
    let at = subst (λ (ms : List Member). Contains ms member) none there in
    omega (arith, at.1)

has_fate : (fates : List Fated) (tx number : ℕ) → HasCommitted (by_number (λ fated. fated.tx) fates) tx number
    → Contains (finished fates) tx
has_fate fates tx number has =
    let key : Fated → ℕ = λ (fated : Fated). fated.tx in
    let own : Fated = record { tx = tx; fate = Committed number has.0 } in
    let one = count_in key tx (by_number key fates) own (contains_in (by_number key fates) own has.1) refl in
    let some = in_count key tx fates (omega (arith, one, count_by_number key tx key fates)) in
    subst (Contains (finished fates)) some.2
    (in_contains (finished fates) some.0.tx (to_map key fates some.0 some.1))

entry_has_fate : (s : State) (tx : ℕ) (entry : Entry) → JournalIsRight (book_of s) → Contains s.journal entry
    → entry.tx ≡ tx → Contains (finished s.fates) tx
entry_has_fate s tx entry right there same =
    let k = there.0 in
    has_fate s.fates tx (suc k)
    ((right.committed tx (suc k)).1
    (entry, slice_get_read s.journal (length s.journal) k entry refl there.1 (sym there.2), same))

-- where there is no member, each member of a joint answer has committed
pub settled_at_rest : (s : State) → s.prepared ≡ [] → s.active ≡ [] → NothingElse s → JournalIsRight (book_of s)
    → AreSettled (length s.joints) s.joints s.fates
settled_at_rest s no_prepared no_active nothing right =
    record {
      within = omega arith;
      fated = subst (AllByRecursion (IsFated s.fates)) (sym (take_all (length s.joints) s.joints (omega arith)))
          (to_all (IsFated s.fates) s.joints (λ joint at.
          to_all (λ (member : Partner). Contains (finished s.fates) member.tx) joint.members (λ member here.
          past member.tx member.place
          (nothing joint member (in_contains s.joints joint at) (in_contains joint.members member here)).past)));
    }
  where
    past : (tx place : ℕ) → IsPast s tx place → Contains (finished s.fates) tx
    past tx place (inl (entry, there, same)) = entry_has_fate s tx entry right there same
    past tx place (inr (inl (member, there, same))) = absurd (nobody_in s.prepared member no_prepared there)
    past tx place (inr (inr (member, there, same, before))) = absurd (nobody_in s.active member no_active there)
