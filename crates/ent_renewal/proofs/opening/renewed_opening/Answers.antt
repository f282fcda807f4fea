use Rattle.std.proofs.Common.{List, sym, subst}
use Rattle.std.proofs.lemmas.Result.{IfOk-weaker}
use Rattle.ent_tree.specs.declared.declaration.Opening.{Opening}
use Rattle.ent_semantics.specs.declared.book.Book.{Book}
use Rattle.ent_book.specs.Tables.{book_seen, tables_database}
use Rattle.ent_book.specs.declared.table.NamedTable.{NamedTable}
use Rattle.ent_protocol.specs.Reached.{opened}
use Rattle.ent_renewal.specs.Renewal.{GoesOn, HoldsTablesOf, IsRenewed}
use Rattle.ent_renewal.proofs.Onward.{goes_on}
use Rattle.ent_renewal.proofs.opening.renewed_opening.Goals as goal

pub opening_over-requires-clause-holds : goal.opening_over-requires-clause-holds
opening_over-requires-clause-holds c =
    let book = c.args.book.now in
    let left = c.book-book.ensures.left in
    subst (λ (b : Book (List NamedTable)). HoldsTablesOf b.opening.tables (tables_database b.database))
    (sym c.book-book.ensures.book)
    (c.finished_books_hold_their_tables.ensures book.opening book.scripts (book_seen book) left.formed left.finished)

pub returns-clause-goes_on : goal.returns-clause-goes_on
returns-clause-goes_on c =
    let book = c.args.book.now in
    let left = c.book-book.ensures.left in
    let held =
    c.finished_books_hold_their_tables.ensures book.opening book.scripts (book_seen book) left.formed left.finished in
    IfOk-weaker c.opening_over.result
    (λ renewed. IsRenewed c.book-book.result.now.opening.tables (tables_database c.book-book.result.now.database)
    renewed)
    (λ renewed. GoesOn book.opening.tables (tables_database book.database) (opened renewed))
    (λ (renewed : Opening) is.
    goes_on book.opening.tables (tables_database book.database) renewed held
    (subst (λ (b : Book (List NamedTable)). IsRenewed b.opening.tables (tables_database b.database) renewed)
    c.book-book.ensures.book is))
    c.opening_over.ensures.ok
