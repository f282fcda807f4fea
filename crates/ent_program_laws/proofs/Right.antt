-- What the report of a legal book tells can be told.
use Rattle.std.proofs.Common.{◌≡◌, ◌≤◌, zero, suc, List, [], ◌∷◌, map, length, subst, Contains, AllPairs}
use Rattle.std.specs.List.{AllByRecursion}
use Rattle.ent_tree.specs.declared.limits.TheConstants.{MOST_RUNS, MOST_SCRIPTS, MOST_STATEMENTS}
use Rattle.ent_tree.specs.declared.script.Script.{Script}
use Rattle.ent_tree.specs.Places.{unplaced_script}
use Rattle.ent_semantics.specs.declared.book.Book.{Book}
use Rattle.ent_semantics.specs.declared.book.Entry.{Entry}
use Rattle.ent_semantics.specs.declared.book.JointAnswer.{JointAnswer}
use Rattle.ent_semantics.specs.Book.{IsLegal, book_read_views}
use Rattle.ent_semantics.specs.Database.{Database}
use Rattle.ent_semantics.specs.Joint.{member_of}
use Rattle.ent_semantics.specs.Serial.{ReadView, Turn}
use Rattle.ent_history.specs.Told.{told_by, told_member, told_opening}
use Rattle.ent_history.specs.Scripts.{IsScript}
use Rattle.ent_lists.specs.Elements.{In, all_by, of_all, to_all}
use Rattle.ent_report_laws.specs.Tellable.{AreAnswersTo, AreTablesOf, CanBeTold, IsMemberTold, IsOpeningTold}
use Rattle.ent_program_laws.specs.Answered.{AreTurnsAnswered, CanRun}
use Rattle.ent_program_laws.specs.Reportable.{CountsRuns}
use Rattle.ent_program_laws.proofs.Entries.{AreFrom}
use Rattle.ent_program_laws.proofs.Joints.{Rising, joints_told}
use Rattle.ent_program_laws.proofs.VerdictTables.{shown_create, tables_by_name}
use Rattle.ent_program_laws.proofs.Transactions.{AnswersAreRight, transactions_told}

answers_side_by_side : (turns : List Turn) (journal : List Entry)
    → AreTurnsAnswered turns (map (λ (entry : Entry). entry.answers) journal) → AnswersAreRight turns journal
answers_side_by_side [] [] answered k turn entry at there = cc (at)
answers_side_by_side [] (one ∷ journal) answered k turn entry at there = absurd answered
answers_side_by_side (one ∷ turns) [] answered k turn entry at there = absurd answered
answers_side_by_side (one ∷ turns) (other ∷ journal) answered zero turn entry at there =
    let first : one ≡ turn = cc in
    let second : other ≡ entry = cc in
    subst (λ (t : Turn). AreAnswersTo t.script.statements entry.answers) first
    (subst (λ (e : Entry). AreAnswersTo one.script.statements e.answers) second answered.0)
answers_side_by_side (one ∷ turns) (other ∷ journal) answered (suc k) turn entry at there =
    answers_side_by_side turns journal answered.1 k turn entry at there

-- the book with its opening as a report shows it
abbrev pub told_book : Book Database → Book Database
told_book book = record book { opening = told_opening book.opening }

-- what is asked of a book without places, of which the report tells
pub record IsReady (book : Book Database) : Type 0 where
  pub legal : IsLegal (told_book book)
  pub opened : IsOpeningTold (told_opening book.opening)
  pub few : length book.scripts ≤ MOST_SCRIPTS
  pub unplaced : AllByRecursion (λ script. unplaced_script script ≡ script) book.scripts
  pub can_run : AllByRecursion (CanRun (told_opening book.opening).tables) book.scripts
  pub from : AreFrom 1 book.fates
  pub counts : length book.fates ≡ length book.scripts
  pub runs : AllByRecursion (λ fated. CountsRuns MOST_RUNS fated.fate) book.fates
  pub rising : (joint : JointAnswer) → Contains book.joint_answers joint → AllPairs Rising joint.members
  pub answered : AreTurnsAnswered legal.turns (map (λ (entry : Entry). entry.answers) book.journal)
  pub shown : AreTablesOf (told_opening book.opening).tables
      (map (shown_create book.database) (told_opening book.opening).tables)
  pub told : (read_view : ReadView) → Contains (book_read_views (told_book book) legal.turns) read_view
      → IsMemberTold (told_by book) (told_member book.scripts (member_of read_view))

module _ (book : Book Database) (ready : IsReady book) where
  is_script : (script : Script) → In script book.scripts → IsScript (told_by book) script
  is_script script at =
      let can = of_all (CanRun (told_opening book.opening).tables) book.scripts script ready.can_run at in
      record {
        unplaced = of_all (λ (s : Script). unplaced_script s ≡ s) book.scripts script ready.unplaced at;
        fits = can.fits;
        readable = can.readable;
        resolved = can.resolved;
      }

  short : AllByRecursion (λ script. length script.statements ≤ MOST_STATEMENTS) book.scripts
  short =
      all_by (CanRun (told_opening book.opening).tables) (λ script. length script.statements ≤ MOST_STATEMENTS)
      book.scripts (λ script can. can.fits.2) ready.can_run

  pub can_be_told : CanBeTold (told_by book)
  can_be_told = record {
    opening = ready.opened;
    few_scripts = ready.few;
    scripts = to_all (IsScript (told_by book)) book.scripts is_script;
    transactions = transactions_told (told_book book) ready.legal ready.few ready.from ready.counts ready.runs
        (answers_side_by_side ready.legal.turns book.journal ready.answered);
    joints = joints_told (told_book book) ready.legal (told_by book) ready.told ready.few short ready.rising;
    tables = subst (AreTablesOf (told_opening book.opening).tables) (tables_by_name book.database book.opening)
        ready.shown;
  }
