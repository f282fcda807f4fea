use Rattle.ent_semantics.specs.Book.{book_read_views}
use Rattle.ent_program_laws.proofs.Partners.{met_among, of_book}
use Rattle.ent_program_laws.proofs.meeting_law.answered_demands_may_be_met.Goals as goal

pub returns : goal.returns
returns c book joint member script demand legal in_book is_member of_list demands =
    met_among book.opening.tables (book_read_views book legal.turns) book.scripts (of_book book legal)
    joint.members member
    script demand (legal.good joint in_book) is_member of_list demands
