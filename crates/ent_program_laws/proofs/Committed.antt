-- The transactions that a history tells are told by its book again, where its journal and its fates fit together.
use Rattle.std.proofs.Common.{◌≡◌, ℕ, zero, suc, ◌+◌, ◌==◌, Bool, true, false, cond, List, [], ◌∷◌, map, refl, sym, ap}
use Rattle.std.proofs.Common.{◌∙◌, arith, inl, inr, Some, slice_get, subst}
use Rattle.std.specs.List.{range_with_len}
use Rattle.std.proofs.lemmas.Option.{same_Some}
use Rattle.ent_tree.specs.declared.script.Script.{Script}
use Rattle.ent_semantics.specs.declared.answer.Answer.{Answer}
use Rattle.ent_semantics.specs.declared.book.Entry.{Entry}
use Rattle.ent_semantics.specs.declared.book.Fate.{Fate}
use Rattle.ent_semantics.specs.declared.book.Fate.TheVariants as fates
use Rattle.ent_semantics.specs.declared.book.Fated.{Fated}
use Rattle.ent_semantics.specs.Book.{HasCommitted, IsEntryOf}
use Rattle.ent_semantics.proofs.Numbered.{numbered_in}
use Rattle.ent_book.specs.Report.{entry_answers, fate_answers}
use Rattle.ent_history.specs.declared.history.Told.{Told}
use Rattle.ent_history.specs.Told.{commits, entries_of, entry_if, fates_from, has_committed, journal_of, told_fate}
use Rattle.ent_lists.specs.Elements.{In, in_contains, in_either, in_flat}
use Rattle.ent_lists.proofs.Numbers.{plus_zero}
use Rattle.ent_report_laws.specs.Tellable.{AreTransactionsOf}
use Rattle.ent_program_laws.proofs.Fates.{fate_at}

-- ---- the entry of a transaction

-- a transaction that is told at an index, from a number on, has these answers
record IsToldAt (number : ℕ) (all : List Told) (entry : Entry) : Type 0 where
  index : ℕ
  one : Told
  at : slice_get all index ≡ Some one
  tx : entry.tx ≡ number + index
  answers : entry.answers ≡ one.answers

its_own : (number tx : ℕ) (fate : Fate) (answers : List Answer) (entry : Entry)
    → In entry (entry_if number tx (record { fate = fate; answers = answers }))
    → (entry.tx ≡ tx) × (entry.answers ≡ answers)
its_own number tx (fates.Committed own runs) answers entry at = by (own == number) at
  where
    by : (b : Bool) → In entry (cond b (record { tx = tx; answers = answers } ∷ []) [])
        → (entry.tx ≡ tx) × (entry.answers ≡ answers)
    by true (inl same) = (ap (λ (e : Entry). e.tx) same, ap (λ (e : Entry). e.answers) same)
    by true (inr none) = absurd none
    by false at = absurd at
its_own number tx (fates.GaveUp runs) answers entry at = absurd at
its_own number tx (fates.RolledBack runs) answers entry at = absurd at
its_own number tx (fates.Failed failure runs) answers entry at = absurd at

later_tx : (tx k : ℕ) → (tx + 1) + k ≡ tx + suc k
later_tx tx k = omega arith

entry_is_told : (number tx : ℕ) (all : List Told) (entry : Entry) → In entry (entries_of number tx all)
    → IsToldAt tx all entry
entry_is_told number tx [] entry at = absurd at
entry_is_told number tx (one ∷ more) entry at =
    elim (in_either (entry_if number tx one) (entries_of number (tx + 1) more) entry at) [
      | inl here ↦
          let own = its_own number tx one.fate one.answers entry here in
          record { index = 0; one = one; at = refl; tx = own.0 ∙ plus_zero tx; answers = own.1 }
      | inr behind ↦
          let later = entry_is_told number (tx + 1) more entry behind in
          record {
            index = suc later.index;
            one = later.one;
            at = later.at;
            tx = later.tx ∙ later_tx tx later.index;
            answers = later.answers;
          }
    ]

same_index : (j k : ℕ) → 1 + j ≡ 1 + k → j ≡ k
same_index j k e = omega (arith, e)

module _ (all : List Told) where
  journal_is_told : (entry : Entry) → In entry (journal_of all) → IsToldAt 1 all entry
  journal_is_told entry at =
      let found = in_flat (λ number. entries_of number 1 all) (range_with_len 1 (commits all)) entry at in
      entry_is_told found.0 1 all entry found.2

  -- the answers of a transaction that committed are those of its entry
  its_answers : ((tx number : ℕ) → HasCommitted (fates_from 1 all) tx number → IsEntryOf (journal_of all) tx number)
      → (k : ℕ) (one : Told) → slice_get all k ≡ Some one → (number runs : ℕ)
      → one.fate ≡ fates.Committed number runs
      → fate_answers (journal_of all) (fates.Committed number runs) ≡ one.answers
  its_answers committed k one at number runs is =
      let fated : Fated = record { tx = 1 + k; fate = fates.Committed number runs } in
      let there : In fated (fates_from 1 all) =
      subst (λ (fate : Fate). In (record { tx = 1 + k; fate = fate }) (fates_from 1 all)) is (fate_at 1 all k one at) in
      let entry = committed (1 + k) number (runs, in_contains (fates_from 1 all) fated there) in
      let told = journal_is_told entry.0 (numbered_in (journal_of all) number entry.0 entry.1) in
      let index : told.index ≡ k = same_index told.index k (sym told.tx ∙ entry.2) in
      let same : told.one ≡ one = same_Some told.one one (sym told.at ∙ ap (slice_get all) index ∙ at) in
      ap entry_answers entry.1 ∙ told.answers ∙ ap (λ (t : Told). t.answers) same

none_told : (scripts : List Script) (all : List Told) → AreTransactionsOf scripts all → (k : ℕ) (one : Told)
    → slice_get all k ≡ Some one → has_committed one.fate ≡ false → one.answers ≡ []
none_told [] [] told k one at is = cc (at)
none_told [] (first ∷ more) told k one at is = absurd told
none_told (script ∷ scripts) [] told k one at is = absurd told
none_told (script ∷ scripts) (first ∷ more) told zero one at is =
    subst (λ (t : Told). has_committed t.fate ≡ false → t.answers ≡ []) (same_Some first one at) told.0.otherwise is
none_told (script ∷ scripts) (first ∷ more) told (suc k) one at is = none_told scripts more told.1 k one at is

-- ---- all transactions

each_again : (journal : List Entry) (number : ℕ) (all : List Told)
    → ((k : ℕ) (one : Told) → slice_get all k ≡ Some one → fate_answers journal one.fate ≡ one.answers)
    → map (told_fate journal) (fates_from number all) ≡ all
each_again journal number [] own = refl
each_again journal number (one ∷ more) own =
    λ i. record { fate = one.fate; answers = own 0 one refl i }
    ∷ each_again journal (number + 1) more (λ k other at. own (suc k) other at) i

pub transactions_again : (scripts : List Script) (all : List Told) → AreTransactionsOf scripts all
    → ((tx number : ℕ) → HasCommitted (fates_from 1 all) tx number → IsEntryOf (journal_of all) tx number)
    → map (told_fate (journal_of all)) (fates_from 1 all) ≡ all
transactions_again scripts all told committed =
    each_again (journal_of all) 1 all (λ k one at. by k one at one.fate refl)
  where
    by : (k : ℕ) (one : Told) → slice_get all k ≡ Some one → (fate : Fate) → one.fate ≡ fate
        → fate_answers (journal_of all) fate ≡ one.answers
    by k one at (fates.Committed number runs) is = its_answers all committed k one at number runs is
    by k one at (fates.GaveUp runs) is = sym (none_told scripts all told k one at (ap has_committed is))
    by k one at (fates.RolledBack runs) is = sym (none_told scripts all told k one at (ap has_committed is))
    by k one at (fates.Failed failure runs) is = sym (none_told scripts all told k one at (ap has_committed is))
