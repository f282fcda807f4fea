use Rattle.std.proofs.Common.{sym}
use Rattle.ent_book.specs.Tables.{book_seen}
use Rattle.ent_input.specs.Reading.{IsInput}
use Rattle.ent_engine.proofs.Ran.{book_of_input}
use Rattle.ent_engine.proofs.memory.report_of.Goals as goal

pub returns-in-Ok-clause-report : goal.returns-in-Ok-clause-report
returns-in-Ok-clause-report c =
    let input = c.in_ok-read.read in
    let core = c.in_ok-core.core in
    let book = book_seen c.in_ok-book.book in
    let is_input : IsInput c.args.input.now input =
    record { read = c.in_ok-read.ensures.input; formed = c.in_ok-core.ensures.formed } in
    let is_book = book_of_input input core book c.in_ok-core.ensures.submitted c.in_ok-book.ensures.book
    c.in_ok-book.ensures.fates c.in_ok-book.ensures.legal in
    let written = c.in-Ok.ensures.written in
    let own = rw (c.new-writer.ensures.inner, c.new.ensures.items, sym c.into_inner.ensures) at written in
    (input, book, is_input, is_book, own)
