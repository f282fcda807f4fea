-- Drafts, one after the other.
use Rattle.std.proofs.Common.{◌≡◌, ◌==◌, ◌<◌, ◌+◌, ℕ, zero, suc, Bool, true, false, cond, List, [], ◌∷◌, length}
use Rattle.std.proofs.Common.{drop, map, get_or, refl, sym, ap, ◌∙◌, inl, inr, arith, Some}
use Rattle.std.proofs.Common.{slice_get}
use Rattle.std.specs.Prelude.{◌≢◌, find}
use Rattle.std.specs.List.{AllByRecursion, remove}
use Rattle.std.proofs.lemmas.List.{drop_more}
use Rattle.ent_lists.specs.Elements.{In, number_itself, other_number, same_number}
use Rattle.ent_protocol.specs.State.{State}
use Rattle.ent_semantics.specs.declared.book.Entry.{Entry}
use Rattle.ent_desk.specs.Drafts.{AreDrafted, draft_among, draft_now}
use Rattle.ent_desk.specs.declared.draft.ReceiptDraft.{ReceiptDraft}

abbrev is_of : ℕ → ReceiptDraft → Bool
is_of tx entry = entry.tx == tx

-- ---- where a draft stands

-- the draft that is found is of the transaction
pub found_of : (entries : List ReceiptDraft) (tx : ℕ) (entry : ReceiptDraft)
    → draft_among entries tx ≡ Some entry → entry.tx ≡ tx
found_of [] tx entry e = cc
found_of (x ∷ xs) tx entry e = by (x.tx == tx) refl e (found_of xs tx entry)
  where
    by : (b : Bool) → (x.tx == tx) ≡ b → cond b (Some x) (draft_among xs tx) ≡ Some entry
        → (draft_among xs tx ≡ Some entry → entry.tx ≡ tx) → entry.tx ≡ tx
    by true is e rest =
        let same : x ≡ entry = cc in ap (λ (z : ReceiptDraft). z.tx) (sym same) ∙ same_number x.tx tx is
    by false is e rest = rest e

-- it stands at the first place of the rest
pub found_here : (entries : List ReceiptDraft) (tx i : ℕ) (d : ReceiptDraft) → i < length entries
    → (get_or entries i d).tx ≡ tx → slice_get entries i ≡ draft_among (drop i entries) tx
found_here [] tx i d low is = absurd (omega (arith, low))
found_here (x ∷ xs) tx zero d low is =
    sym (ap (λ b. cond b (Some x) (draft_among xs tx)) (ap (λ n. n == tx) is ∙ number_itself tx))
found_here (x ∷ xs) tx (suc i) d low is = found_here xs tx i d (omega (arith, low)) is

-- it stands behind the first place of the rest
pub found_behind : (entries : List ReceiptDraft) (tx i : ℕ) (d : ReceiptDraft) → i < length entries
    → ((get_or entries i d).tx ≡ tx → ⊥) → draft_among (drop (i + 1) entries) tx ≡ draft_among (drop i entries) tx
found_behind entries tx i d low other =
    let rest = draft_among (drop (i + 1) entries) tx in
    sym (ap (λ l. draft_among l tx) (drop_more entries i d low)
    ∙ ap (λ b. cond b (Some (get_or entries i d)) rest) (other_number (get_or entries i d).tx tx other))

-- ---- one is taken out

-- what stands at a place
pub got_at : (entries : List ReceiptDraft) (i : ℕ) (entry : ReceiptDraft) → i < length entries
    → entry ≡ get_or entries i entry → slice_get entries i ≡ Some entry
got_at [] i entry low is = absurd (omega (arith, low))
got_at (x ∷ xs) zero entry low is = ap Some (sym is)
got_at (x ∷ xs) (suc i) entry low is = got_at xs i entry (omega (arith, low)) is

-- one that doesn't pass is taken out
find_without : (q : ReceiptDraft → Bool) (entries : List ReceiptDraft) (i : ℕ) (entry : ReceiptDraft)
    → slice_get entries i ≡ Some entry → q entry ≡ false → find q (remove entries i) ≡ find q entries
find_without q [] i entry e no_way = cc
find_without q (x ∷ xs) zero entry e no_way =
    let same : x ≡ entry = cc in sym (ap (λ b. cond b (Some x) (find q xs)) (ap q same ∙ no_way))
find_without q (x ∷ xs) (suc i) entry e no_way =
    ap (λ r. cond (q x) (Some x) r) (find_without q xs i entry e no_way)

-- those of the others stay
pub others_stay : (entries left : List ReceiptDraft) (tx i : ℕ) (entry : ReceiptDraft) → left ≡ remove entries i
    → slice_get entries i ≡ Some entry → entry.tx ≡ tx → (other : ℕ) → other ≢ tx
    → draft_among left other ≡ draft_among entries other
others_stay entries left tx i entry is there own other apart =
    ap (λ l. draft_among l other) is
    ∙ find_without (is_of other) entries i entry there
    (other_number entry.tx other (λ same. apart (sym same ∙ own)))

-- ---- drafts

-- without the draft of another the others are drafted
pub drafted_on : (old new : List ReceiptDraft) (tx : ℕ) (entries : List Entry)
    → AllByRecursion (λ (other : Entry). other.tx ≢ tx) entries
    → ((other : ℕ) → other ≢ tx → draft_among new other ≡ draft_among old other) → AreDrafted old entries
    → AreDrafted new entries
drafted_on old new tx [] apart same h = tt
drafted_on old new tx (entry ∷ more) apart same h =
    (same entry.tx apart.0 ∙ h.0, h.1, drafted_on old new tx more apart.1 same h.2)

-- the draft of each of some transactions is there
pub now_among : (core : State) (txs : List ℕ) (tx : ℕ) → In tx txs
    → draft_among (map (draft_now core) txs) tx ≡ Some (draft_now core tx)
now_among core [] tx at = absurd at
now_among core (x ∷ xs) tx (inl same) =
    ap (λ b. cond b (Some (draft_now core x)) (draft_among (map (draft_now core) xs) tx))
    (ap (λ n. n == tx) (sym same) ∙ number_itself tx)
    ∙ ap (λ n. Some (draft_now core n)) (sym same)
now_among core (x ∷ xs) tx (inr at) = by (x == tx) refl (now_among core xs tx at)
  where
    by : (b : Bool) → (x == tx) ≡ b
        → draft_among (map (draft_now core) xs) tx ≡ Some (draft_now core tx)
        → cond b (Some (draft_now core x)) (draft_among (map (draft_now core) xs) tx) ≡ Some (draft_now core tx)
    by true is rest = ap (λ n. Some (draft_now core n)) (same_number x tx is)
    by false is rest = rest
