-- A report that isn't too long can say how many rows each answer of its book has.
use Rattle.std.proofs.Common.{suc, ◌≤◌, ◌++◌, length, refl, ap, subst, arith, sum_by, flat_map, codes}
use Rattle.std.specs.List.{AllByRecursion}
use Rattle.std.proofs.lemmas.List.{length-append}
use Rattle.ent_semantics.specs.declared.answer.Answer.{Answer}
use Rattle.ent_semantics.specs.declared.answer.Answer.TheVariants as answers
use Rattle.ent_semantics.specs.declared.book.Book.{Book}
use Rattle.ent_semantics.specs.declared.book.Entry.{Entry}
use Rattle.ent_semantics.specs.declared.book.Fate.TheVariants as fates
use Rattle.ent_semantics.specs.declared.book.Fated.{Fated}
use Rattle.ent_semantics.specs.Book.{JournalIsRight}
use Rattle.ent_semantics.specs.Database.{Database}
use Rattle.ent_book.specs.Report.{entry_answers, line}
use Rattle.ent_book.specs.Report2.{scripts_text}
use Rattle.ent_history.specs.declared.history.History.{History}
use Rattle.ent_history.specs.declared.history.Told.{Told}
use Rattle.ent_history.specs.Text.{history_text, joints_text, opening_text, shown_text, transactions_text}
use Rattle.ent_history.specs.Told.{told_by, told_fate}
use Rattle.ent_lists.specs.Elements.{In, contains_in, to_all, to_map}
use Rattle.ent_report_laws.proofs.Lengths.{answer_lines, told_lines, part_fits, transactions_fit}
use Rattle.ent_program_laws.specs.Answered.{CanBeCounted}
use Rattle.ent_program_laws.proofs.Entries.{index_of}

-- the text of the transactions is a part of that of the history
transactions_within : (history : History)
    → length (transactions_text 1 history.transactions) ≤ length (history_text history)
transactions_within history =
    let heading = line (codes "report 2") in
    let opening = opening_text history.opening in
    let scripts = scripts_text 1 history.scripts in
    let transactions = transactions_text 1 history.transactions in
    let behind = joints_text 1 history.joint_answers ++ (flat_map shown_text history.tables ++ line (codes "end")) in
    omega (
      arith,
      length-append heading (opening ++ (scripts ++ (transactions ++ behind))),
      length-append opening (scripts ++ (transactions ++ behind)),
      length-append scripts (transactions ++ behind),
      length-append transactions behind,
    )

answer_counted : (answer : Answer) → answer_lines answer ≤ 1099511627776 → CanBeCounted answer
answer_counted (answers.Rows rows) low = omega (arith, low)
answer_counted (answers.Count count) low = tt
answer_counted (answers.Value value) low = tt
answer_counted (answers.Heads facts) low = tt

told_counted : (history : History) → length (history_text history) ≤ 1099511627776 → (told : Told)
    → In told history.transactions → AllByRecursion CanBeCounted told.answers
told_counted history short told at =
    to_all CanBeCounted told.answers (λ answer there.
    let one = part_fits answer_lines told.answers answer there in
    let its : told_lines told ≤ sum_by told_lines history.transactions =
    part_fits told_lines history.transactions told at in
    let all = transactions_fit history.transactions in
    let text = transactions_within history in
    answer_counted answer (omega (arith, one, its, all, text, short)))

pub entry_counted : (book : Book Database) → JournalIsRight book
    → length (history_text (told_by book)) ≤ 1099511627776 → (entry : Entry) → In entry book.journal
    → AllByRecursion CanBeCounted entry.answers
entry_counted book right short entry at =
    let k = index_of book.journal entry at in
    let own = (right.committed entry.tx (suc k.0)).1 (entry, k.1, refl) in
    let fated : Fated = record { tx = entry.tx; fate = fates.Committed (suc k.0) own.0 } in
    let there = to_map (told_fate book.journal) book.fates fated (contains_in book.fates fated own.1) in
    subst (AllByRecursion CanBeCounted) (ap entry_answers k.1)
    (told_counted (told_by book) short (told_fate book.journal fated) there)
