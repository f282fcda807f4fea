-- The book of a state in which no run is on.
use Rattle.ent_semantics.specs.declared.book.Book.{Book}
use Rattle.ent_semantics.specs.Database.{Database}
use Rattle.ent_protocol.specs.Reached.{named_tables, scripts_of, table_names}
use Rattle.ent_protocol.specs.State.{State, by_number}

-- the tables are settled, and the joint answers are those of committed transactions
abbrev pub book_at_rest : State → Book Database
book_at_rest s =
    record {
      opening = s.opening;
      scripts = scripts_of s;
      journal = s.journal;
      joint_answers = s.joints;
      fates = by_number (λ fated. fated.tx) s.fates;
      database = named_tables (table_names s.opening) s.tables;
    }
