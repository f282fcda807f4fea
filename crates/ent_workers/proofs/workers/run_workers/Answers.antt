use Rattle.ent_book.specs.Tables.{book_seen}
use Rattle.ent_engine.proofs.Written.{wrote_beginning, wrote_report}
use Rattle.ent_workers.proofs.workers.run_workers.Goals as goal

pub returns-in-Ok-clause-report : goal.returns-in-Ok-clause-report
returns-in-Ok-clause-report g c =
    let input = c.in_ok-input.input in
    let book = book_seen c.in_ok-book.book in
    wrote_report c.args.version _ _ _ c.in_ok-bytes.bytes.items c.as_slice.result.now book input
    c.in_ok-bytes.ensures.whole c.as_slice.ensures.value c.in_ok-input.ensures.input c.in_ok-book.ensures.formed
    c.in_ok-book.ensures.book c.in-Ok.ensures.written

pub returns-clause-beginning : goal.returns-clause-beginning
returns-clause-beginning g c =
    let input = c.in_ok-input.input in
    let book = book_seen c.in_ok-book.book in
    wrote_beginning c.args.version _ _ _ c.in_ok-bytes.bytes.items c.as_slice.result.now book input
    c.in_ok-bytes.ensures.whole c.as_slice.ensures.value c.in_ok-input.ensures.input c.in_ok-book.ensures.formed
    c.in_ok-book.ensures.book c.in-Err-Fault.ensures.beginning
