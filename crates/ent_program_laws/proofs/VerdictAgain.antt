-- A history is what its book tells, where that is legal.
use Rattle.std.proofs.Common.{◌≡◌, map, ap, ◌∙◌}
use Rattle.ent_semantics.specs.Book.{IsLegal}
use Rattle.ent_book.specs.Report.{names_by_bytes}
use Rattle.ent_history.specs.declared.history.History.{History}
use Rattle.ent_history.specs.Told.{book_of, shown_database, shown_table, told_by}
use Rattle.ent_report_laws.specs.Tellable.{CanBeTold}
use Rattle.ent_history.specs.Formed.{IsFormed}
use Rattle.ent_program_laws.proofs.Committed.{transactions_again}
use Rattle.ent_program_laws.proofs.Members.{FirstFault, joints_again}
use Rattle.ent_program_laws.proofs.VerdictOpened.{names_are, opening_again}
use Rattle.ent_program_laws.proofs.VerdictShown.{tables_again}

pub history_again : FirstFault → (history : History) → CanBeTold history → IsFormed history
    → IsLegal (book_of history) → told_by (book_of history) ≡ history
history_again first history told formed legal = λ i. record {
  opening = opening_again history.opening told.opening i;
  scripts = history.scripts;
  transactions = transactions_again history.scripts history.transactions told.transactions
      (λ tx number has. (legal.journal.committed tx number).0 has) i;
  joint_answers = joints_again first history told legal i;
  tables = tables i;
}
  where
    tables : map (shown_table (shown_database history.tables)) (names_by_bytes history.opening) ≡ history.tables
    tables =
        ap (map (shown_table (shown_database history.tables))) (names_are history.opening told.opening)
        ∙ tables_again history formed told.tables
