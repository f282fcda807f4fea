use Rattle.std.proofs.Common.{◌≡◌, sym, subst}
use Rattle.ent_semantics.specs.Book.{IsLegal}
use Rattle.ent_history.specs.declared.history.History.{History}
use Rattle.ent_history.specs.Told.{book_of}
use Rattle.ent_history.specs.Formed.{IsFormed}
use Rattle.ent_history.proofs.Bridge.{fates_are, journal_is}
use Rattle.ent_history.proofs.Journals.{book}
use Rattle.ent_history.proofs.Legal.{legal_book}
use Rattle.ent_history.proofs.Sound.{none_found}
use Rattle.ent_history.proofs.rule_law.nothing_is_found_where_books_are_legal.Goals as goal

same_book : (history : History) → IsFormed history → book_of history ≡ book history
same_book history formed =
    let journal = journal_is history formed.told in
    let fates = fates_are history formed.told in
    λ i. record (book history) { journal = journal i; fates = fates i }

pub returns : goal.returns
returns c history formed = (
  λ none. subst IsLegal (sym (same_book history formed))
      (legal_book history formed c.statements_keep_to_their_uses.ensures.changes none),
  λ legal. none_found history formed (subst IsLegal (same_book history formed) legal),
)
