use Rattle.std.proofs.Common.{◌≡◌, subst, sym, rules}
use Rattle.std.specs.Io.KnownBytes.{Keeps}
use Rattle.ent_book.specs.Tables.{book_seen}
use Rattle.ent_value.specs.Watched.{Stream}
use Rattle.ent_engine.proofs.Ran.{book_of_input}
use Rattle.ent_engine.proofs.Written.{wrote_beginning, wrote_report}
use Rattle.ent_engine.proofs.engine.run_watched.Goals as goal

pub returns-in-Ok-clause-report : goal.returns-in-Ok-clause-report
returns-in-Ok-clause-report g c =
    let input = c.in_ok-input.input in
    let core = c.in_ok-core.core in
    let book = book_seen c.in_ok-book.book in
    wrote_report c.args.options.report _ _ _ c.in_ok-bytes.bytes.items c.as_slice.result.now book input
    c.in_ok-bytes.ensures.whole
    c.as_slice.ensures.value c.in_ok-input.ensures.input c.in_ok-core.ensures.formed
    (book_of_input input core book c.in_ok-core.ensures.submitted c.in_ok-book.ensures.book c.in_ok-book.ensures.fates
    c.in_ok-book.ensures.legal)
    c.in-Ok.ensures.written

pub returns-clause-beginning : goal.returns-clause-beginning
returns-clause-beginning g c =
    let input = c.in_ok-input.input in
    let core = c.in_ok-core.core in
    let book = book_seen c.in_ok-book.book in
    wrote_beginning c.args.options.report _ _ _ c.in_ok-bytes.bytes.items c.as_slice.result.now book input
    c.in_ok-bytes.ensures.whole
    c.as_slice.ensures.value c.in_ok-input.ensures.input c.in_ok-core.ensures.formed
    (book_of_input input core book c.in_ok-core.ensures.submitted c.in_ok-book.ensures.book c.in_ok-book.ensures.fates
    c.in_ok-book.ensures.legal)
    c.in-Err-Fault.ensures.beginning

pub returns-in-Err-Memory-clause-silent : goal.returns-in-Err-Memory-clause-silent
returns-in-Err-Memory-clause-silent g c =
    let same : c.write_book.new.writer ≡ c.args.writer.now = search rules in
    let still : Keeps (g.W.Write.contents c.args.writer.now.inner) (g.W.Write.contents c.args.writer.now.inner) =
    search rules in
    subst (λ (w : Stream g.row.W.Denot).
    Keeps (g.W.Write.contents c.args.writer.now.inner) (g.W.Write.contents w.inner)) (sym same) still
