-- The journal and the fates of a state that is reached fit together.
use Rattle.std.proofs.Common.{◌≡◌, ◌⊎◌, ◌+◌, ℕ, zero, suc, List, [], ◌∷◌, map, refl, sym, ap, subst}
use Rattle.std.proofs.Common.{◌∙◌, inl, inr, arith, Some, slice_get}
use Rattle.std.specs.List.{AllByRecursion}
use Rattle.ent_tree.specs.declared.script.Script.{Script}
use Rattle.ent_semantics.specs.declared.book.Entry.{Entry}
use Rattle.ent_semantics.specs.declared.book.Fate.{Fate}
use Rattle.ent_semantics.specs.declared.book.Fate.TheVariants as fates
use Rattle.ent_semantics.specs.declared.book.Fated.{Fated}
use Rattle.ent_semantics.specs.Book.{HasCommitted, IsEntryOf, JournalIsRight}
use Rattle.ent_semantics.specs.Serial.{numbered}
use Rattle.ent_protocol.specs.Numbers.{with_commit, commits_in, entry_numbers, AreNumbered}
use Rattle.ent_protocol.specs.Reached.{IsReached, book_of}
use Rattle.ent_protocol.specs.Run.{Forms}
use Rattle.ent_protocol.specs.State.{State, Submitted, by_number}
use Rattle.ent_protocol_laws.specs.Faithful.{AreFaithful}
use Rattle.ent_protocol_laws.specs.SerialState.{IsWhole}
use Rattle.ent_lists.specs.Elements.{In, Pairs, of_all, to_all, all_first, of_map}
use Rattle.ent_protocol_laws.proofs.Frame.{Laws}
use Rattle.ent_protocol_laws.proofs.Locks.{by_number_same, by_number_pairs}
use Rattle.ent_protocol_laws.proofs.SerialKept.{Kept, OtherFated, entry_from}
use Rattle.ent_lists.specs.Elements.{contains_in, in_contains, pairs_index}
use Rattle.ent_protocol_laws.proofs.Books.{numbered_map}
use Rattle.ent_protocol_laws.proofs.Reached.{reached_kept}

-- ---- numbers of commits

abbrev SamePair : (ℕ × ℕ) → (ℕ × ℕ) → Type 0
SamePair one other = one ≡ other

commit_case : (tx number : ℕ) (f : Fated) (more : List (ℕ × ℕ)) → In (number, tx) (with_commit f.tx f.fate more)
    → ((runs : ℕ) × (record { tx = tx; fate = fates.Committed number runs } ≡ f)) ⊎ In (number, tx) more
commit_case tx number f more at = by f.fate refl at
  where
    same_pair : (n t : ℕ) → SamePair (number, tx) (n, t) → (number ≡ n) × (tx ≡ t)
    same_pair n t e = (λ i. (e i).0, λ i. (e i).1)

    by : (fate : Fate) → f.fate ≡ fate → In (number, tx) (with_commit f.tx fate more)
        → ((runs : ℕ) × (record { tx = tx; fate = fates.Committed number runs } ≡ f)) ⊎ In (number, tx) more
    by (fates.Committed n runs) is (inl e) =
        let two = same_pair n f.tx e in
        inl (runs, λ i. record { tx = two.1 i; fate = (ap (λ k. fates.Committed k runs) two.0 ∙ sym is) i })
    by (fates.Committed n runs) is (inr at) = inr at
    by (fates.GaveUp runs) is at = inr at
    by (fates.RolledBack runs) is at = inr at
    by (fates.Failed failure runs) is at = inr at

from_commits : (tx number : ℕ) (fs : List Fated) → In (number, tx) (commits_in fs)
    → (runs : ℕ) × In (record { tx = tx; fate = fates.Committed number runs }) fs
from_commits tx number [] at = absurd at
from_commits tx number (f ∷ fs) at =
    elim (commit_case tx number f (commits_in fs) at) [
      | inl here ↦ (here.0, inl here.1)
      | inr there ↦ let r = from_commits tx number fs there in (r.0, inr r.1)
    ]

skip_commit : (pair : ℕ × ℕ) (f : Fated) (more : List (ℕ × ℕ)) → In pair more
    → In pair (with_commit f.tx f.fate more)
skip_commit pair f more at = by f.fate
  where
    by : (fate : Fate) → In pair (with_commit f.tx fate more)
    by (fates.Committed n runs) = inr at
    by (fates.GaveUp runs) = at
    by (fates.RolledBack runs) = at
    by (fates.Failed failure runs) = at

to_commits : (tx number runs : ℕ) (fs : List Fated)
    → In (record { tx = tx; fate = fates.Committed number runs }) fs → In (number, tx) (commits_in fs)
to_commits tx number runs [] at = absurd at
to_commits tx number runs (f ∷ fs) (inl same) =
    subst (λ (g : Fated). In (number, tx) (with_commit g.tx g.fate (commits_in fs))) same (inl refl)
to_commits tx number runs (f ∷ fs) (inr at) =
    skip_commit (number, tx) f (commits_in fs) (to_commits tx number runs fs at)

from_entries : (tx number first : ℕ) (es : List Entry) → In (number, tx) (entry_numbers first es)
    → (k : ℕ) × (e : Entry) × (slice_get es k ≡ Some e) × (e.tx ≡ tx) × (number ≡ first + k)
from_entries tx number first [] at = absurd at
from_entries tx number first (e ∷ es) (inl same) =
    (zero, e, refl, (λ i. (sym same i).1), (λ i. (same i).0) ∙ omega arith)
from_entries tx number first (e ∷ es) (inr at) =
    let r = from_entries tx number (suc first) es at in
    let is = r.4 in
    (suc r.0, r.1, r.2, r.3, omega (arith, is))

to_entries : (first k : ℕ) (es : List Entry) (e : Entry) → slice_get es k ≡ Some e
    → In (first + k, e.tx) (entry_numbers first es)
to_entries first k [] e is = cc (is)
to_entries first zero (x ∷ es) e is =
    let same : x ≡ e = cc in
    let n : first + zero ≡ first = omega arith in
    inl (λ i. (n i, (sym same i).tx))
to_entries first (suc k) (x ∷ es) e is =
    let n : suc first + k ≡ first + suc k = omega arith in
    inr (subst (λ m. In (m, e.tx) (entry_numbers (suc first) es)) n (to_entries (suc first) k es e is))

-- ---- distinct transactions

abbrev OtherSecond : (ℕ × ℕ) → (ℕ × ℕ) → Type 0
OtherSecond one other = one.1 ≡ other.1 → ⊥

commits_of : (pair : ℕ × ℕ) (fs : List Fated) → In pair (commits_in fs) → (f : Fated) × In f fs × (f.tx ≡ pair.1)
commits_of pair fs at =
    let r = from_commits pair.1 pair.0 fs at in
    (_, r.1, refl)

commits_apart : (fs : List Fated) → Pairs OtherFated fs → Pairs OtherSecond (commits_in fs)
commits_apart [] pairs = tt
commits_apart (f ∷ fs) pairs = by f.fate (commits_apart fs pairs.1)
  where
    by : (fate : Fate) → Pairs OtherSecond (commits_in fs) → Pairs OtherSecond (with_commit f.tx fate (commits_in fs))
    by (fates.Committed n runs) rest = (
      to_all (OtherSecond (n, f.tx)) (commits_in fs) (λ pair at e.
          let r = commits_of pair fs at in
          of_all (OtherFated f) fs r.0 pairs.0 r.1 (e ∙ sym r.2)),
      rest,
    )
    by (fates.GaveUp runs) rest = rest
    by (fates.RolledBack runs) rest = rest
    by (fates.Failed failure runs) rest = rest

entries_apart : (first : ℕ) (es : List Entry) → Pairs OtherSecond (entry_numbers first es)
    → Pairs (λ (one other : Entry). one.tx ≡ other.tx → ⊥) es
entries_apart first [] pairs = tt
entries_apart first (e ∷ es) pairs = (each (suc first) es pairs.0, entries_apart (suc first) es pairs.1)
  where
    each : (n : ℕ) (es : List Entry) → AllByRecursion (OtherSecond (first, e.tx)) (entry_numbers n es)
        → AllByRecursion (λ (other : Entry). e.tx ≡ other.tx → ⊥) es
    each n [] all = tt
    each n (x ∷ xs) all = (all.0, each (suc n) xs all.1)

module _ {F : Type 0} (forms : Forms F) (s : State) (kept : Kept forms s) (numbers : AreNumbered s) where
  entry_of_list : (entry : Entry) → In entry s.journal
      → (script : Script) × (numbered (map (λ (own : Submitted). own.script) s.submitted) entry.tx ≡ Some script)
  entry_of_list entry at =
      let h = of_map entry_from kept.committed entry (subst (In entry) (sym kept.journal) at) in
      let w = of_all (IsWhole s.submitted) kept.committed h.0
      (all_first (IsWhole s.submitted) kept.committed kept.prepared kept.whole) h.1 in (
        w.own.script,
        ap (λ (e : Entry). numbered (map (λ (own : Submitted). own.script) s.submitted) e.tx) h.2
            ∙ numbered_map (λ (own : Submitted). own.script) s.submitted h.0.member.tx w.own w.submitted,
      )

  has_entry : (tx number : ℕ) → HasCommitted (by_number (λ (f : Fated). f.tx) s.fates) tx number
      → IsEntryOf s.journal tx number
  has_entry tx number h =
      let there = (by_number_same (λ (f : Fated). f.tx) s.fates _).0
      (contains_in (by_number (λ (f : Fated). f.tx) s.fates) _ h.1) in
      let r = from_entries tx number 1 s.journal
      (subst (In (number, tx)) numbers (to_commits tx number h.0 s.fates there)) in
      let is : number ≡ suc r.0 = omega (arith, r.4) in
      (r.1, ap (numbered s.journal) is ∙ r.2, r.3)

  entry_has : (tx number : ℕ) → IsEntryOf s.journal tx number
      → HasCommitted (by_number (λ (f : Fated). f.tx) s.fates) tx number
  entry_has tx zero h = cc (h.1)
  entry_has tx (suc k) h =
      let at : In (1 + k, h.0.tx) (entry_numbers 1 s.journal) = to_entries 1 k s.journal h.0 h.1 in
      let n : 1 + k ≡ suc k = omega arith in
      let there : In (suc k, tx) (entry_numbers 1 s.journal) =
      subst (λ t. In (suc k, t) (entry_numbers 1 s.journal)) h.2
      (subst (λ m. In (m, h.0.tx) (entry_numbers 1 s.journal)) n at) in
      let r = from_commits tx (suc k) s.fates (subst (In (suc k, tx)) (sym numbers) there) in (
        r.0,
        in_contains (by_number (λ (f : Fated). f.tx) s.fates) _
            ((by_number_same (λ (f : Fated). f.tx) s.fates _).1 r.1),
      )

  pub journal_right : JournalIsRight (book_of s)
  journal_right =
      record {
        distinct = pairs_index (λ (one other : Entry). one.tx ≡ other.tx → ⊥) s.journal
            (entries_apart 1 s.journal (subst (Pairs OtherSecond) numbers (commits_apart s.fates kept.fated)));
        of_list = λ entry at. entry_of_list entry (contains_in s.journal entry at);
        one_fate = pairs_index OtherFated (by_number (λ (f : Fated). f.tx) s.fates)
            (by_number_pairs (λ (f : Fated). f.tx) OtherFated (λ a b h e. h (sym e)) s.fates kept.fated);
        committed = λ tx number. (has_entry tx number, entry_has tx number);
      }

pub reached_journal : {F : Type 0} (forms : Forms F) (laws : Laws)
    → ((s : State) → IsReached forms s → AreNumbered s) → (s : State) → AreFaithful forms s.opening
    → IsReached forms s → JournalIsRight (book_of s)
reached_journal forms laws numbers s faithful reached =
    journal_right forms s (reached_kept forms laws s faithful reached) (numbers s reached)
