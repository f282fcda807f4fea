-- The book of a history that can be told can be reported.
use Rattle.std.proofs.Common.{◌≡◌, ◌≤◌, length, ap, ◌∙◌, None}
use Rattle.std.specs.List.{range_with_len}
use Rattle.ent_book.specs.Report2.{report_2_text}
use Rattle.ent_form.specs.OpeningFault.{opening_fault}
use Rattle.ent_history.specs.declared.history.History.{History}
use Rattle.ent_history.specs.Told.{book_of}
use Rattle.ent_history.specs.Scripts.{IsScript}
use Rattle.ent_lists.specs.Elements.{all_by}
use Rattle.ent_report_laws.specs.Tellable.{CanBeTold}
use Rattle.ent_history.specs.Formed.{IsFormed}
use Rattle.ent_program_laws.specs.Answered.{CanRun}
use Rattle.ent_program_laws.specs.Reportable.{CanBeReported}
use Rattle.ent_program_laws.proofs.Fates.{are_from, count_of, runs_counted}
use Rattle.ent_program_laws.proofs.VerdictOpened.{opening_read}

pub book_reported : (history : History) → CanBeTold history → IsFormed history
    → opening_fault history.opening ≡ None → length (report_2_text (book_of history)) ≤ 1099511627776
    → CanBeReported (book_of history)
book_reported history told formed faultless short = record {
  opening = opening_read history.opening told.opening;
  faultless = faultless;
  few = told.few_scripts;
  scripts = all_by (IsScript history) (CanRun history.opening.tables) history.scripts (λ script is. record {
    resolved = is.resolved;
    fits = is.fits;
    readable = is.readable;
  }) told.scripts;
  fates = are_from history.transactions
      ∙ ap (range_with_len 1) (count_of 1 history.transactions ∙ formed.told);
  runs = runs_counted 1 history.scripts history.transactions told.transactions;
  rising = formed.rising;
  short = short;
}
