-- The tables of a book, as the database that they are.
use Rattle.std.specs.Prelude.{List, [], ◌∷◌, if◌then◌else◌}
use Rattle.std.specs.Arc.{arc_value}
use Rattle.ent_lists.specs.Sets as set
use Rattle.ent_semantics.specs.declared.book.Book.{Book}
use Rattle.ent_semantics.specs.Database.{Database, same_name}
use Rattle.ent_book.specs.declared.table.NamedTable.{NamedTable}

-- under each name the rows of the first table of that name
abbrev pub tables_database : List NamedTable → Database
tables_database [] name = set.empty
tables_database (table ∷ tables) name =
    if same_name table.name name then (arc_value table.table).rows else tables_database tables name

-- a book over that database
abbrev pub book_seen : Book (List NamedTable) → Book Database
book_seen book =
    record {
      opening = book.opening;
      scripts = book.scripts;
      journal = book.journal;
      joint_answers = book.joint_answers;
      fates = book.fates;
      database = tables_database book.database;
    }
