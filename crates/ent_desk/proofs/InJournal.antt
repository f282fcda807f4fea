-- What the journal has for a transaction, by the fate that it stands with.
use Rattle.std.proofs.Common.{◌≡◌, inl, inr, ℕ, suc, List, [], ◌∷◌, sym, ap, subst, ◌∙◌}
use Rattle.std.proofs.Common.{Some}
use Rattle.std.specs.Prelude.{◌≢◌}
use Rattle.std.specs.List.{AllByRecursion}
use Rattle.ent_lists.specs.Elements.{In, contains_in, to_all}
use Rattle.ent_semantics.specs.Book.{IsEntryOf, JournalIsRight}
use Rattle.ent_semantics.specs.Serial.{numbered}
use Rattle.ent_semantics.specs.declared.book.Entry.{Entry}
use Rattle.ent_semantics.specs.declared.book.Fate.TheVariants.{Committed}
use Rattle.ent_semantics.specs.declared.book.Fated.{Fated}
use Rattle.ent_protocol.specs.Lookup.{entry_at, standing}
use Rattle.ent_protocol.specs.Reached.{book_of}
use Rattle.ent_protocol.specs.State.{State, by_number}
use Rattle.ent_protocol_laws.specs.Numbered.{from_by_number}
use Rattle.ent_protocol_laws.specs.Standing.{StandOnce}
use Rattle.ent_protocol_laws.proofs.Left.{fated_tx}
use Rattle.ent_desk.specs.Receipts.{IsJournalReceipt}
use Rattle.ent_desk.specs.Told.{fate_in}
use Rattle.ent_desk.proofs.Exactness.{contains_in as is_there}
use Rattle.ent_desk.proofs.Fates.{in_book}
use Rattle.ent_desk.proofs.Receiving.{fate_stands}

module _ (s : State) (tx : ℕ) (right : JournalIsRight (book_of s)) where
  -- who has committed has the entry of its number
  pub has_entry : (number runs : ℕ) → fate_in (standing s tx) ≡ Some (Committed number runs)
      → IsEntryOf s.journal tx number
  has_entry number runs told =
      (right.committed tx number).0
      (runs, is_there _ (by_number (λ own. own.tx) s.fates) (in_book s tx (Committed number runs) told))

  same_entry : (number : ℕ) (one other : Entry) → numbered s.journal number ≡ Some one
      → numbered s.journal number ≡ Some other → one ≡ other
  same_entry number one other h k = let both : Some one ≡ Some other = sym h ∙ k in cc

  pub journal_receipt : (number runs : ℕ) (entry : Entry) → fate_in (standing s tx) ≡ Some (Committed number runs)
      → entry_at s number ≡ Some entry
      → IsJournalReceipt s tx (record { number = number; tx = tx; runs = runs; answers = entry.answers })
  journal_receipt number runs entry told at =
      let own = has_entry number runs told in
      let same : entry ≡ own.0 = same_entry number entry own.0 at own.1 in
      let is : entry.tx ≡ tx = ap (λ (e : Entry). e.tx) same ∙ own.2 in
      record {
        entry = entry;
        at = at;
        own = is;
        receipt = record {
          fate = subst (λ (n : ℕ). fate_in (standing s n) ≡ Some (Committed number runs)) (sym is) told;
          is = λ i. record { number = number; tx = sym is i; runs = runs; answers = entry.answers };
        };
      }

  -- whose fate is another has none
  in_numbered : (entry : Entry) (entries : List Entry) → In entry entries
      → (n : ℕ) × (numbered entries (suc n) ≡ Some entry)
  in_numbered entry [] at = absurd at
  in_numbered entry (first ∷ more) (inl same) = (0, ap Some (sym same))
  in_numbered entry (first ∷ more) (inr at) = let later = in_numbered entry more at in (suc later.0, later.1)

  pub has_none : StandOnce s
      → ((number runs : ℕ) → fate_in (standing s tx) ≡ Some (Committed number runs) → ⊥)
      → AllByRecursion (λ (entry : Entry). entry.tx ≢ tx) s.journal
  has_none once never =
      to_all (λ (entry : Entry). entry.tx ≢ tx) s.journal (λ entry at own.
      let place = in_numbered entry s.journal at in
      let told = (right.committed tx (suc place.0)).1 (entry, place.1, own) in
      let fated : Fated = record { tx = tx; fate = Committed (suc place.0) told.0 } in
      never (suc place.0) told.0
      (fate_stands s once fated
      (from_by_number fated_tx s.fates fated (contains_in (by_number fated_tx s.fates) fated told.1))))
