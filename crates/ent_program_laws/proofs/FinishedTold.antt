-- What the report of a legal book over texts of whole characters tells is of whole characters.
use Rattle.std.proofs.Common.{◌≡◌, ℕ, List, map, refl, sym, subst, Contains, Option, Some, None}
use Rattle.std.specs.List.{AllByRecursion}
use Rattle.ent_lists.specs.Sets as set
use Rattle.ent_value.specs.declared.value.Value.{Value}
use Rattle.ent_tree.specs.declared.declaration.Opening.{Opening}
use Rattle.ent_tree.specs.declared.declaration.OpeningRow.{OpeningRow}
use Rattle.ent_tree.specs.declared.script.Script.{Script}
use Rattle.ent_tree.specs.Places.{unplaced_script}
use Rattle.ent_print.specs.Spelling.{script_spelling}
use Rattle.ent_semantics.specs.declared.answer.Answer.{Answer}
use Rattle.ent_semantics.specs.declared.book.Book.{Book}
use Rattle.ent_semantics.specs.declared.book.Entry.{Entry}
use Rattle.ent_semantics.specs.declared.book.Fate.{Fate}
use Rattle.ent_semantics.specs.declared.book.Fate.TheVariants as fates
use Rattle.ent_semantics.specs.declared.book.Fated.{Fated}
use Rattle.ent_semantics.specs.declared.book.JointAnswer.{JointAnswer}
use Rattle.ent_semantics.specs.declared.book.Member.{Member}
use Rattle.ent_semantics.specs.Book.{IsLegal, all_members}
use Rattle.ent_semantics.specs.Database.{Database, Name, opening_database, row_of}
use Rattle.ent_semantics.specs.Serial.{Runs, Turn, numbered}
use Rattle.ent_semantics.proofs.Numbered.{numbered_in}
use Rattle.ent_book.specs.Report.{entry_answers, fate_answers, names_by_bytes}
use Rattle.ent_history.specs.declared.history.Shown.{Shown}
use Rattle.ent_history.specs.declared.history.Told.{Told}
use Rattle.ent_history.specs.declared.history.ToldJoint.{ToldJoint}
use Rattle.ent_history.specs.declared.history.ToldMember.{ToldMember}
use Rattle.ent_history.specs.Told.{opening_row, shown_table, told_by, told_fate, told_joint, told_member, told_opening}
use Rattle.ent_history.specs.Told.{told_rows}
use Rattle.ent_lists.specs.Elements.{In, all_by, all_map, contains_in, in_contains, in_flat, of_all, of_map, to_all}
use Rattle.ent_lists.specs.Elements.{to_flat, to_map}
use Rattle.ent_report_laws.proofs.Opened.{row_again}
use Rattle.ent_program_laws.specs.Answered.{CanRun}
use Rattle.ent_program_laws.specs.Unplaced.{unplaced_book, unplaced_opening}
use Rattle.ent_program_laws.specs.Reportable.{CanBeReported}
use Rattle.ent_program_laws.proofs.Joints.{all_grounded}
use Rattle.ent_program_laws.specs.Kept.{CanKeep, OpeningsKeep, RunsKeep, ReadViewsKeep, TablesShow}
use Rattle.ent_program_laws.specs.Values.{HoldsValues, IsOfCharacters, IsWritten}
use Rattle.ent_program_laws.specs.Characters.{HoldsCharacters, IsAnswerOfCharacters, IsLexemeOfCharacters}
use Rattle.ent_program_laws.specs.Characters.{IsOpeningOfCharacters, IsRowOfCharacters, IsScriptOfCharacters}
use Rattle.ent_program_laws.proofs.FinishedKept.{lexeme_kept}

-- what other laws say
pub record Laws : Type 0 where
  pub opens : OpeningsKeep IsOfCharacters
  pub shows : TablesShow IsOfCharacters
  pub runs : RunsKeep IsOfCharacters
  pub read_views : ReadViewsKeep IsOfCharacters
  pub spelled : (script : Script) → script_spelling (unplaced_script script) ≡ script_spelling script
  pub unplaced : (opening : Opening) → opening_database (unplaced_opening opening) ≡ opening_database opening

module _ (laws : Laws) (book : Book Database) (legal : IsLegal book) (reported : CanBeReported book)
    (opening : IsOpeningOfCharacters book.opening) (scripts : AllByRecursion IsScriptOfCharacters book.scripts) where
  abbrev first : Database
  first = opening_database book.opening

  first_holds : HoldsValues IsOfCharacters first
  first_holds =
      laws.opens book.opening (λ row c.
      of_all (λ (r : OpeningRow). IsRowOfCharacters (row_of r)) book.opening.rows row opening
      (contains_in book.opening.rows row c))

  -- ---- the run

  own_script : (turn : Turn) → Contains legal.turns turn → In turn.script book.scripts
  own_script turn c = numbered_in book.scripts turn.tx turn.script (legal.runs.own_scripts turn c)

  can_keep : CanKeep IsOfCharacters book.opening.tables legal.turns
  can_keep = record {
    resolved = λ turn c.
        (of_all (CanRun book.opening.tables) book.scripts turn.script reported.scripts (own_script turn c)).resolved;
    writes = λ turn c.
        all_by IsLexemeOfCharacters (IsWritten IsOfCharacters) (script_spelling turn.script) lexeme_kept
        (of_all IsScriptOfCharacters book.scripts turn.script scripts (own_script turn c));
  }

  abbrev answers_of : Entry → List Answer
  answers_of entry = entry.answers

  abbrev left : Runs
  left = record { database = book.database; answers = map answers_of book.journal }

  left_keeps : HoldsValues IsOfCharacters book.database
      × AllByRecursion (AllByRecursion IsAnswerOfCharacters) (map answers_of book.journal)
  left_keeps =
      laws.runs book.opening.tables legal.turns first left can_keep first_holds (all_grounded book legal)
      legal.runs.run

  -- ---- the opening

  abbrev bare : Opening
  bare = unplaced_opening book.opening

  bare_holds : HoldsValues IsOfCharacters (opening_database bare)
  bare_holds = subst (HoldsValues IsOfCharacters) (sym (laws.unplaced book.opening)) first_holds

  opening_row_holds : (name : Name) (values : List Value) → In values (set.ascending (opening_database bare name))
      → IsRowOfCharacters (row_of (opening_row name values))
  opening_row_holds name values at =
      subst IsRowOfCharacters (sym (row_again name values))
      (of_all IsRowOfCharacters (set.ascending (opening_database bare name)) values
      (laws.shows (opening_database bare) name bare_holds) at)

  opening_holds : IsOpeningOfCharacters (told_opening bare)
  opening_holds =
      to_all (λ (row : OpeningRow). IsRowOfCharacters (row_of row)) (told_opening bare).rows (λ row at.
      let under = in_flat (told_rows bare) (names_by_bytes bare) row at in
      let one = of_map (opening_row under.0) (set.ascending (opening_database bare under.0)) row under.2 in
      subst (λ (r : OpeningRow). IsRowOfCharacters (row_of r)) (sym one.2)
      (opening_row_holds under.0 one.0 one.1))

  -- ---- scripts

  scripts_hold : AllByRecursion IsScriptOfCharacters (map unplaced_script book.scripts)
  scripts_hold =
      all_map unplaced_script IsScriptOfCharacters book.scripts
      (all_by IsScriptOfCharacters (λ (s : Script). IsScriptOfCharacters (unplaced_script s)) book.scripts
      (λ script is. subst (AllByRecursion IsLexemeOfCharacters) (sym (laws.spelled script)) is) scripts)

  -- ---- transactions

  entry_holds : (o : Option Entry) (number : ℕ) → numbered book.journal number ≡ o
      → AllByRecursion IsAnswerOfCharacters (entry_answers o)
  entry_holds (Some entry) number e =
      of_all (AllByRecursion IsAnswerOfCharacters) (map answers_of book.journal) entry.answers left_keeps.1
      (to_map answers_of book.journal entry (numbered_in book.journal number entry e))
  entry_holds None number e = tt

  fate_holds : (fate : Fate) → AllByRecursion IsAnswerOfCharacters (fate_answers book.journal fate)
  fate_holds (fates.Committed number runs) = entry_holds (numbered book.journal number) number refl
  fate_holds (fates.GaveUp runs) = tt
  fate_holds (fates.RolledBack runs) = tt
  fate_holds (fates.Failed failure runs) = tt

  transactions_hold : AllByRecursion (λ (told : Told). AllByRecursion IsAnswerOfCharacters told.answers)
      (map (told_fate book.journal) book.fates)
  transactions_hold =
      all_map (told_fate book.journal) (λ (told : Told). AllByRecursion IsAnswerOfCharacters told.answers) book.fates
      (to_all (λ (fated : Fated). AllByRecursion IsAnswerOfCharacters (fate_answers book.journal fated.fate)) book.fates
      (λ fated at. fate_holds fated.fate))

  -- ---- joint answers

  member_holds : (joint : JointAnswer) → In joint book.joint_answers → (member : Member) → In member joint.members
      → IsRowOfCharacters member.grounding
  member_holds joint jt member mt =
      let seen = legal.no_widow member (in_contains (all_members book.joint_answers) member
      (to_flat (λ (j : JointAnswer). j.members) book.joint_answers joint member jt mt)) in
      subst (λ (m : Member). IsRowOfCharacters m.grounding) (sym seen.2)
      (laws.read_views book.opening.tables legal.turns first seen.0 can_keep first_holds (all_grounded book legal)
      seen.1)

  abbrev IsMemberHeld : ToldMember → Type 0
  IsMemberHeld told = IsRowOfCharacters told.member.grounding

  abbrev IsJointHeld : ToldJoint → Type 0
  IsJointHeld joint = AllByRecursion IsMemberHeld joint.members

  joints_hold : AllByRecursion IsJointHeld (map (told_joint (map unplaced_script book.scripts)) book.joint_answers)
  joints_hold =
      all_map (told_joint (map unplaced_script book.scripts)) IsJointHeld book.joint_answers
      (to_all (λ (joint : JointAnswer). IsJointHeld (told_joint (map unplaced_script book.scripts) joint))
      book.joint_answers (λ joint jt.
      all_map (told_member (map unplaced_script book.scripts)) IsMemberHeld joint.members
      (to_all (λ (member : Member). IsRowOfCharacters member.grounding) joint.members (member_holds joint jt))))

  -- ---- tables

  tables_hold : (names : List Name)
      → AllByRecursion (λ (shown : Shown). AllByRecursion IsRowOfCharacters shown.rows)
      (map (shown_table book.database) names)
  tables_hold names =
      all_map (shown_table book.database) (λ (shown : Shown). AllByRecursion IsRowOfCharacters shown.rows) names
      (to_all (λ (name : Name). AllByRecursion IsRowOfCharacters (set.ascending (book.database name))) names
      (λ name at. laws.shows book.database name left_keeps.0))

  pub holds_characters : HoldsCharacters (told_by (unplaced_book book))
  holds_characters = record {
    opening = opening_holds;
    scripts = scripts_hold;
    answers = transactions_hold;
    groundings = joints_hold;
    tables = tables_hold (names_by_bytes bare);
  }
