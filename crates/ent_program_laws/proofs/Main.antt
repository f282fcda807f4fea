-- The report of a legal book that can be reported tells of a legal book.
use Rattle.std.proofs.Common.{◌≡◌, ◌≤◌, ℕ, false, List, [], map, length, sym, ap, subst, ◌∙◌, None, arith}
use Rattle.std.specs.Prelude.{◌↔◌, AllPairs, Contains}
use Rattle.std.specs.List.{All, AllByRecursion, range_with_len}
use Rattle.std.proofs.lemmas.List.{length-map}
use Rattle.std.proofs.lemmas.List.FromFn.{length-range_with_len}
use Rattle.ent_lists.specs.Sets as set
use Rattle.ent_tree.specs.declared.declaration.Create.{Create}
use Rattle.ent_tree.specs.declared.declaration.Opening.{Opening}
use Rattle.ent_tree.specs.declared.limits.TheConstants.{MOST_RUNS, MOST_SCRIPTS}
use Rattle.ent_tree.specs.declared.script.Script.{Script}
use Rattle.ent_tree.specs.Places.{unplaced_script}
use Rattle.ent_print.specs.Lexeme.{Lexeme}
use Rattle.ent_print.specs.Reading.{CanBeRead}
use Rattle.ent_print.specs.Spelling.{script_spelling}
use Rattle.ent_semantics.specs.declared.book.Book.{Book}
use Rattle.ent_semantics.specs.declared.book.Entry.{Entry}
use Rattle.ent_semantics.specs.declared.book.Fated.{Fated}
use Rattle.ent_semantics.specs.declared.book.JointAnswer.{JointAnswer}
use Rattle.ent_semantics.specs.Book.{IsLegal, book_read_views}
use Rattle.ent_semantics.specs.Database.{Database, Name, opening_database}
use Rattle.ent_semantics.specs.Serial.{Runs, Turn}
use Rattle.ent_semantics.proofs.Numbered.{numbered_in}
use Rattle.ent_book.specs.Report2.{report_2_text}
use Rattle.ent_form.specs.Catalogue.{schemas_of}
use Rattle.ent_form.specs.OpeningFault.{declarations_fault, opening_fault}
use Rattle.ent_form.specs.ScriptFaults.{script_faults}
use Rattle.ent_history.specs.Text.{history_text}
use Rattle.ent_history.specs.Told.{book_of, told_by, told_opening}
use Rattle.ent_history.specs.Stands.{Tells}
use Rattle.ent_lists.specs.Elements.{all_by, all_map, of_all, to_all}
use Rattle.ent_report_laws.specs.Tellable.{AreTablesOf, CanBeTold, IsOpeningTold}
use Rattle.ent_report_laws.proofs.Sound.{Laws as Resolving}
use Rattle.ent_history.specs.Formed.{is_declared}
use Rattle.ent_history.proofs.Tables.{Keeps}
use Rattle.ent_history.proofs.Kept.{script_kept}
use Rattle.ent_history.proofs.Twice.{script_once}
use Rattle.ent_report_laws.specs.Read.{AreUnplaced, IsOpeningRead}
use Rattle.ent_program_laws.specs.Answered.{AreGrounded, CanBeCounted, CanRun}
use Rattle.ent_program_laws.specs.Held.{HoldsRowsOf}
use Rattle.ent_program_laws.specs.Runs.{ReadViewsAreTold, RunsAreAnswered, RunsHoldRows}
use Rattle.ent_program_laws.specs.Unplaced.{unplaced_book, unplaced_create, unplaced_opening}
use Rattle.ent_program_laws.specs.Reportable.{CanBeReported, CountsRuns}
use Rattle.ent_program_laws.proofs.Again.{book_again}
use Rattle.ent_program_laws.proofs.Bare.{none_placed, opening_bare}
use Rattle.ent_program_laws.proofs.Counted.{entry_counted}
use Rattle.ent_program_laws.proofs.Entries.{AreFrom}
use Rattle.ent_program_laws.proofs.Joints.{Rising, all_grounded}
use Rattle.ent_program_laws.proofs.Kept.{IsFaultless, none_undeclared}
use Rattle.ent_program_laws.proofs.Right.{IsReady, can_be_told, told_book}
use Rattle.ent_program_laws.proofs.VerdictTables.{shown_create}

-- what other laws say
pub record Laws : Type 0 where
  pub keeps : Keeps
  pub resolving : Resolving
  -- places make no difference
  pub spelled : (script : Script) → script_spelling (unplaced_script script) ≡ script_spelling script
  pub unplaced : (book : Book Database) → IsLegal book → IsLegal (unplaced_book book)
  pub unplaced_opened : (opening : Opening) → opening_fault opening ≡ None
      → opening_fault (unplaced_opening opening) ≡ None
  pub unplaced_resolved : (creates : List Create) (script : Script) → script_faults (schemas_of creates) script ≡ []
      → script_faults (schemas_of (map unplaced_create creates)) (unplaced_script script) ≡ []
  pub unplaced_text : (book : Book Database) → report_2_text (unplaced_book book) ≡ report_2_text book
  -- nor does the order of an opening
  pub over_told : (book : Book Database) → opening_fault book.opening ≡ None
      → IsLegal book ↔ IsLegal (record book { opening = told_opening book.opening })
  pub told_resolved : (opening : Opening) (script : Script)
      → script_faults (schemas_of (told_opening opening).tables) script
      ≡ script_faults (schemas_of opening.tables) script
  pub tellable : (opening : Opening) → IsOpeningRead opening → AreUnplaced opening.tables
      → opening_fault opening ≡ None → IsOpeningTold (told_opening opening)
  -- what scripts answer can be told
  pub told_tables : (opening : Opening) → IsOpeningTold opening → declarations_fault [] opening.tables ≡ None
  pub told_rows : (opening : Opening) → IsOpeningTold opening
      → HoldsRowsOf opening.tables (opening_database opening)
  pub rows : RunsHoldRows
  pub answers : RunsAreAnswered
  pub read_views : ReadViewsAreTold
  pub shown : (declared : List Create) (database : Database) → HoldsRowsOf declared database
      → AreTablesOf declared (map (shown_create database) declared)
  -- the text of what is told
  pub text : (book : Book Database)
      → map (λ fated. fated.tx) book.fates ≡ range_with_len 1 (length book.fates)
      → report_2_text book ≡ history_text (told_by book)
  pub tells : (book : Book Database)
      → map (λ fated. fated.tx) book.fates ≡ range_with_len 1 (length book.fates)
      → CanBeTold (told_by book) → Tells (report_2_text book) (told_by book)

-- ---- a book without places

-- its scripts can run, and its report isn't too long
record IsBare (book : Book Database) : Type 0 where
  legal : IsLegal book
  opened : opening_fault book.opening ≡ None
  read : IsOpeningRead book.opening
  tables_unplaced : AreUnplaced book.opening.tables
  few : length book.scripts ≤ MOST_SCRIPTS
  unplaced : AllByRecursion (λ script. unplaced_script script ≡ script) book.scripts
  can_run : AllByRecursion (CanRun book.opening.tables) book.scripts
  from : AreFrom 1 book.fates
  counts : length book.fates ≡ length book.scripts
  runs : AllByRecursion (λ fated. CountsRuns MOST_RUNS fated.fate) book.fates
  rising : (joint : JointAnswer) → Contains book.joint_answers joint → AllPairs Rising joint.members
  short : length (report_2_text book) ≤ 1099511627776

module _ (laws : Laws) (book : Book Database) (bare : IsBare book) where
  abbrev declared : List Create
  declared = (told_opening book.opening).tables

  legal : IsLegal (told_book book)
  legal = (laws.over_told book bare.opened).0 bare.legal

  opened : IsOpeningTold (told_opening book.opening)
  opened = laws.tellable book.opening bare.read bare.tables_unplaced bare.opened

  tables_opened : declarations_fault [] declared ≡ None
  tables_opened = laws.told_tables (told_opening book.opening) opened

  can_run : AllByRecursion (CanRun declared) book.scripts
  can_run =
      all_by (CanRun book.opening.tables) (CanRun declared) book.scripts
      (λ script can. record {
        resolved = laws.told_resolved book.opening script ∙ can.resolved;
        fits = can.fits;
        readable = can.readable;
      }) bare.can_run

  turns_run : (turn : Turn) → Contains legal.turns turn → CanRun declared turn.script
  turns_run turn c =
      of_all (CanRun declared) book.scripts turn.script can_run
      (numbered_in book.scripts turn.tx turn.script (legal.runs.own_scripts turn c))

  first_holds : HoldsRowsOf declared (opening_database (told_opening book.opening))
  first_holds = laws.told_rows (told_opening book.opening) opened

  grounded : AreGrounded declared (book_read_views (told_book book) legal.turns)
  grounded = all_grounded (told_book book) legal

  abbrev left : Runs
  left = record { database = book.database; answers = map (λ (entry : Entry). entry.answers) book.journal }

  counted : AllByRecursion (AllByRecursion CanBeCounted) (map (λ (entry : Entry). entry.answers) book.journal)
  counted =
      all_map (λ (entry : Entry). entry.answers) (AllByRecursion CanBeCounted) book.journal
      (to_all (λ (entry : Entry). AllByRecursion CanBeCounted entry.answers) book.journal (λ entry at.
      let short = subst (λ (text : List ℕ). length text ≤ 1099511627776) (laws.text book bare.from) bare.short in
      entry_counted book bare.legal.journal short entry at))

  ready : IsReady book
  ready = record {
    legal = legal;
    opened = opened;
    few = bare.few;
    unplaced = bare.unplaced;
    can_run = can_run;
    from = bare.from;
    counts = bare.counts;
    runs = bare.runs;
    rising = bare.rising;
    answered = laws.answers declared legal.turns (opening_database (told_opening book.opening)) left tables_opened
        turns_run first_holds grounded legal.runs.run counted;
    shown = laws.shown declared book.database
        (laws.rows declared legal.turns (opening_database (told_opening book.opening)) left tables_opened turns_run
        first_holds grounded legal.runs.run);
    told = λ read_view c. laws.read_views (told_by book) legal.turns (opening_database (told_opening book.opening))
        read_view
        tables_opened turns_run (λ turn at. legal.runs.own_scripts turn at) first_holds grounded c;
  }

  undeclared : (name : Name) → is_declared book.opening.tables name ≡ false → book.database name ≡ set.empty
  undeclared =
      none_undeclared laws.resolving laws.keeps book bare.legal bare.opened
      (all_by (CanRun book.opening.tables) (IsFaultless book.opening) book.scripts (λ script can. can.resolved)
      bare.can_run)

  legal_told : IsLegal (book_of (told_by book))
  legal_told = subst IsLegal (sym (book_again book bare.from bare.legal.journal undeclared)) legal

-- ---- a book that can be reported

module _ (laws : Laws) (book : Book Database) (is_legal : IsLegal book) (reported : CanBeReported book) where
  abbrev bared : Book Database
  bared = unplaced_book book

  script_runs : (script : Script) → CanRun book.opening.tables script
      → CanRun bared.opening.tables (unplaced_script script)
  script_runs script can = record {
    resolved = laws.unplaced_resolved book.opening.tables script can.resolved;
    fits = script_kept script can.fits;
    readable = subst (λ (lexemes : List Lexeme). All CanBeRead lexemes) (sym (laws.spelled script)) can.readable;
  }

  bare : IsBare bared
  bare =
      let long = length-map book.scripts unplaced_script in
      let fates = length-map book.fates (λ (fated : Fated). fated.tx) in
      let scripts = length-range_with_len 1 (length book.scripts) in
      let both : length book.fates ≡ length book.scripts =
      sym fates ∙ ap length reported.fates ∙ scripts in
      let few = reported.few in
      record {
        legal = laws.unplaced book is_legal;
        opened = laws.unplaced_opened book.opening reported.faultless;
        read = opening_bare book.opening reported.opening;
        tables_unplaced = none_placed book.opening.tables;
        few = omega (arith, long, few);
        unplaced = all_map unplaced_script (λ script. unplaced_script script ≡ script) book.scripts
            (to_all (λ script. unplaced_script (unplaced_script script) ≡ unplaced_script script) book.scripts
            (λ script at. script_once script));
        can_run = all_map unplaced_script (CanRun bared.opening.tables) book.scripts
            (all_by (CanRun book.opening.tables) (λ script. CanRun bared.opening.tables (unplaced_script script))
            book.scripts script_runs reported.scripts);
        from = reported.fates ∙ ap (range_with_len 1) (sym both);
        counts = both ∙ sym long;
        runs = reported.runs;
        rising = reported.rising;
        short = subst (λ (text : List ℕ). length text ≤ 1099511627776) (sym (laws.unplaced_text book)) reported.short;
      }

  told : CanBeTold (told_by bared)
  told = can_be_told bared (ready laws bared bare)

  -- what the report tells is a legal book
  pub tells_legal : Tells (report_2_text book) (told_by bared) × IsLegal (book_of (told_by bared))
  tells_legal = (
    subst (λ (text : List ℕ). Tells text (told_by bared)) (laws.unplaced_text book)
        (laws.tells bared bare.from told),
    legal_told laws bared bare,
  )
