-- A manager that goes on where a book ends.
use Rattle.std.specs.Prelude.{◌≡◌, ◌<◌, List, [], ◌∷◌, map}
use Rattle.ent_tree.specs.declared.declaration.Opening.{Opening}
use Rattle.ent_tree.specs.declared.limits.TheConstants.{MOST_OPENING_ROWS}
use Rattle.ent_semantics.specs.Database.{Database}
use Rattle.ent_semantics.specs.declared.book.Book.{Book}
use Rattle.ent_renewal.specs.Renewal.{IsRenewed, rows_together}
use Rattle.ent_desk.specs.Opened.{first_session, other_session}
use Rattle.ent_desk.specs.Seen.{SessionState}

-- as many sessions as these, which hold nothing, but the first one what a manager over an opening alone is opened over
abbrev pub seated_again : Opening → List SessionState → List SessionState
seated_again opening [] = []
seated_again opening (first ∷ others) = first_session opening [] ∷ map (λ other. other_session) others

-- The sessions of a manager that goes on where a book ends are those of one that was opened over an opening alone: with
-- the declarations of the book, without a fault of form, and with first tables that are those at the end of the book.
-- No script goes over, since each has its fate in the book.
pub record GoOnFrom (book : Book Database) (before after : List SessionState) : Type 0 where
  pub opening : Opening
  pub renewed : IsRenewed book.opening.tables book.database opening
  pub sessions : after ≡ seated_again opening before

-- more rows stand together in the tables at the end of a book than an opening has
abbrev pub HasTooManyRows : Book Database → Type 0
HasTooManyRows book = MOST_OPENING_ROWS < rows_together book.opening.tables book.database
