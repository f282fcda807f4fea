-- What the comparison and the ledgers show together.
use Rattle.std.proofs.Common.{◌≡◌, ℕ, suc, List, [], ◌∷◌, length, map, refl, ap, sym, subst, ◌∙◌}
use Rattle.std.specs.Prelude.{Contains, IsPermutation, sum_by}
use Rattle.std.specs.List.{AllByRecursion}
use Rattle.std.proofs.lemmas.List.{length-map}
use Rattle.std.proofs.lemmas.List.Concat.{length-flat_map}
use Rattle.std.proofs.lemmas.List.Sorted.{Contains-permutation, IsPermutation-map, IsPermutation-sym}
use Rattle.ent_tree.specs.declared.script.Script.{Script}
use Rattle.ent_semantics.specs.Book.{IsLegal}
use Rattle.ent_semantics.specs.Database.{Database}
use Rattle.ent_semantics.specs.declared.book.Book.{Book}
use Rattle.ent_semantics.specs.declared.book.Entry.{Entry}
use Rattle.ent_semantics.specs.declared.book.Fate.TheVariants.{Committed}
use Rattle.ent_semantics.specs.declared.book.Fated.{Fated}
use Rattle.ent_protocol.specs.Reached.{CanClose, IsGatheredAt, IsReached, book_of, scripts_of}
use Rattle.ent_protocol.specs.State.{State, by_number, Submitted}
use Rattle.ent_protocol_laws.specs.Fates.{HaveFates}
use Rattle.ent_core.specs.Passed.{resolved_forms}
use Rattle.ent_desk.specs.declared.ticket.Receipt.{Receipt}
use Rattle.ent_desk.specs.declared.ticket.Ticket.{Ticket}
use Rattle.ent_desk.specs.Accounted.{HaveReceipts, IsAccounted}
use Rattle.ent_desk.specs.Closed.{AreReceiptsOf, HasItsRuns, IsClosedBook, IsWholeBook, Numbered, all_receipts}
use Rattle.ent_desk.specs.Closed.{all_tickets, entry_of, entries_from}
use Rattle.ent_desk.specs.Opened.{tickets_from}
use Rattle.ent_desk.specs.Receipts.{receipt}
use Rattle.ent_desk.specs.Seen.{SessionState}
use Rattle.ent_desk.proofs.Exactness.{AllIn, Ascends, all_by, all_in, by_all, contains_in, exact, in_contains}
use Rattle.ent_desk.proofs.Fates.{in_book}

-- ---- tickets

tickets_ascend : (n : ℕ) (scripts : List Script) → Ascends (λ (ticket : Ticket). ticket.tx) n (tickets_from n scripts)
tickets_ascend n [] = tt
tickets_ascend n (script ∷ more) = (refl, tickets_ascend (suc n) more)

pub length_tickets : (n : ℕ) (scripts : List Script) → length (tickets_from n scripts) ≡ length scripts
length_tickets n [] = refl
length_tickets n (script ∷ more) = ap suc (length_tickets (suc n) more)

exact_tickets : (scripts : List Script) (all : List Ticket) → AllByRecursion (Contains all) (tickets_from 1 scripts)
    → length scripts ≡ length all → IsPermutation (tickets_from 1 scripts) all
exact_tickets scripts all h e =
    exact (λ ticket. ticket.tx) 1 (tickets_from 1 scripts) all (tickets_ascend 1 scripts)
    (all_in (tickets_from 1 scripts) all h) (length_tickets 1 scripts ∙ e)

-- ---- receipts

module _ (core : State) (all : List Receipt) where
  -- the receipts that are wanted
  wanted : (next : ℕ) (journal : List Entry) → HaveReceipts core all next journal → List Receipt
  wanted next [] h = []
  wanted next (entry ∷ more) h = receipt next entry h.0.0 ∷ wanted (suc next) more h.1

  ascend : (next : ℕ) (journal : List Entry) (h : HaveReceipts core all next journal)
      → Ascends (λ (r : Receipt). r.number) next (wanted next journal h)
  unfolding wanted
  ascend next [] h = tt
  ascend next (entry ∷ more) h = (refl, ascend (suc next) more h.1)

  are_there : (next : ℕ) (journal : List Entry) (h : HaveReceipts core all next journal)
      → AllIn (wanted next journal h) all
  unfolding wanted
  are_there next [] h = tt
  are_there next (entry ∷ more) h =
      (in_contains (receipt next entry h.0.0) all h.0.2, are_there (suc next) more h.1)

  length_wanted : (next : ℕ) (journal : List Entry) (h : HaveReceipts core all next journal)
      → length (wanted next journal h) ≡ length journal
  unfolding wanted
  length_wanted next [] h = refl
  length_wanted next (entry ∷ more) h = ap suc (length_wanted (suc next) more h.1)

  entries_wanted : (next : ℕ) (journal : List Entry) (h : HaveReceipts core all next journal)
      → map entry_of (wanted next journal h) ≡ entries_from next journal
  unfolding wanted
  entries_wanted next [] h = refl
  entries_wanted next (entry ∷ more) h =
      ap (λ (rest : List Numbered). record { number = next; tx = entry.tx; answers = entry.answers } ∷ rest)
      (entries_wanted (suc next) more h.1)

  -- the fates of the book
  fates : List Fated
  fates = by_number (λ own. own.tx) core.fates

  have_runs : (next : ℕ) (journal : List Entry) (h : HaveReceipts core all next journal)
      → AllByRecursion (HasItsRuns fates) (wanted next journal h)
  unfolding wanted fates
  have_runs next [] h = tt
  have_runs next (entry ∷ more) h = (
    contains_in (record { tx = entry.tx; fate = Committed next h.0.0 }) fates
        (in_book core entry.tx (Committed next h.0.0) h.0.1),
    have_runs (suc next) more h.1,
  )

  exact_receipts : HaveReceipts core all 1 core.journal → length core.journal ≡ length all
      → AreReceiptsOf (book_of core) all
  unfolding fates
  exact_receipts h e =
      let mine = wanted 1 core.journal h in
      let same : IsPermutation mine all =
      exact (λ (r : Receipt). r.number) 1 mine all (ascend 1 core.journal h) (are_there 1 core.journal h)
      (length_wanted 1 core.journal h ∙ e) in
      record {
        entries = subst (λ (entries : List Numbered). IsPermutation entries (map entry_of all))
            (entries_wanted 1 core.journal h) (IsPermutation-map entry_of mine all same);
        runs = all_by (HasItsRuns fates) all (λ r at.
            by_all (HasItsRuns fates) mine r (have_runs 1 core.journal h)
            (in_contains r mine (Contains-permutation all mine r (IsPermutation-sym mine all same)
            (contains_in r all at))));
      }

-- ---- a closed book

pub closed : (core : State) (count : ℕ) (sessions : List SessionState) (book : Book Database)
    → IsAccounted core count sessions → IsGatheredAt resolved_forms count core → IsReached resolved_forms core
    → CanClose core → book ≡ book_of core → HaveFates book → IsLegal book
    → length core.submitted ≡ sum_by (λ session. length session.tickets) sessions
    → length core.journal ≡ sum_by (λ session. length session.receipts) sessions → IsClosedBook book sessions
closed core count sessions book h gathered reached done is fates legal tickets receipts =
    subst (λ (b : Book Database). IsClosedBook b sessions) (sym is)
    (record {
      count = count;
      first = h.first;
      finished = record {
        last = core;
        finished = record { reached = reached; no_run = done.0; none_dormant = done.1 };
        of_opening = refl;
        of_scripts = refl;
        is = refl;
      };
      gathered = gathered;
      fates = subst HaveFates is fates;
      legal = subst IsLegal is legal;
      tickets = exact_tickets (scripts_of core) (all_tickets sessions) h.tickets
          (length-map core.submitted (λ (own : Submitted). own.script) ∙ tickets
          ∙ sym (length-flat_map (λ (session : SessionState). session.tickets) sessions));
      receipts = exact_receipts core (all_receipts sessions) h.receipts
          (receipts ∙ sym (length-flat_map (λ (session : SessionState). session.receipts) sessions));
    })

-- a book that is given without sessions
pub whole : (core : State) (count : ℕ) (book : Book Database) → IsGatheredAt resolved_forms count core
    → IsReached resolved_forms core → CanClose core → book ≡ book_of core → HaveFates book → IsLegal book
    → IsWholeBook book
whole core count book gathered reached done is fates legal =
    subst IsWholeBook (sym is)
    (record {
      count = count;
      finished = record {
        last = core;
        finished = record { reached = reached; no_run = done.0; none_dormant = done.1 };
        of_opening = refl;
        of_scripts = refl;
        is = refl;
      };
      gathered = gathered;
      fates = subst HaveFates is fates;
      legal = subst IsLegal is legal;
    })
