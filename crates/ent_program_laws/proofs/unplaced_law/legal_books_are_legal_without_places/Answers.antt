use Rattle.ent_program_laws.proofs.Books.{legal_bare}
use Rattle.ent_program_laws.proofs.unplaced_law.legal_books_are_legal_without_places.Goals as goal

pub returns : goal.returns
returns c = legal_bare
