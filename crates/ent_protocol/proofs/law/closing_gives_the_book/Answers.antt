use Rattle.ent_protocol.proofs.Closing.{gives_exactly, finished_book, book_given}
use Rattle.ent_protocol.proofs.law.closing_gives_the_book.Goals as goal

pub returns-clause-exact : goal.returns-clause-exact
returns-clause-exact c start s book = gives_exactly s book

pub returns-clause-finished : goal.returns-clause-finished
returns-clause-finished c start forms s book reached given = finished_book forms s book reached given

pub returns-clause-given : goal.returns-clause-given
returns-clause-given c start forms opening scripts book finished = book_given forms opening scripts book finished
