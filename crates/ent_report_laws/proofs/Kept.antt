-- What each line keeps of what is told so far.
use Rattle.std.proofs.Common.{◌≡◌, ◌≤◌, ℕ, zero, suc, arith, List, [], ◌∷◌, ◌++◌, length, refl, sym, subst}
use Rattle.std.specs.List.{AllByRecursion}
use Rattle.ent_tree.specs.declared.limits.TheConstants.{MOST_SCRIPTS}
use Rattle.ent_form.specs.Catalogue.{schemas_of}
use Rattle.ent_form.specs.ScriptFaults.{script_faults}
use Rattle.ent_history.specs.declared.history.History.{History}
use Rattle.ent_history.specs.Answers.{TxStands, AnswerStands, AnswerRowStands, with_answer_row, with_row}
use Rattle.ent_history.specs.Draft.{Draft, Due, Heading as Headed, Free, OpeningRows, AnswerRows, Members}
use Rattle.ent_history.specs.Draft.{TableRows, Ended, TransactionsAreTold, blank, members_due, rows_due}
use Rattle.ent_history.specs.Joints.{JointStands, MemberStands, member_told}
use Rattle.ent_history.specs.Opening.{HeadingStands, OpeningStands, OpeningRowStands}
use Rattle.ent_history.specs.Scripts.{ScriptStands}
use Rattle.ent_history.specs.Stands.{Stands, Heading, Opening, OpeningRow, Script, Tx, Answer, AnswerRow, Joint}
use Rattle.ent_history.specs.Stands.{Member, Table, TableRow, End}
use Rattle.ent_history.specs.Tables.{TableStands, TableRowStands, EndStands}
use Rattle.ent_lists.specs.Elements.{all_joined}
use Rattle.ent_report_laws.proofs.Answered.{AreAnswered, none_answered, tx_answered, answer_answered, kept_answered}
use Rattle.ent_report_laws.proofs.Jointly.{AreJoint, opening_joint, answers_joint, tables_joint, new_joint}
use Rattle.ent_report_laws.proofs.Jointly.{member_joint}
use Rattle.ent_report_laws.proofs.Lists.{length_changed, longer}
use Rattle.ent_report_laws.proofs.Opened.{IsOpened, nothing_opened, table_opened, row_opened}
use Rattle.ent_report_laws.proofs.Shown.{AreShown, Ascend, none_shown, table_shown, row_shown, row_ascends}

-- what is told when all of it is
pub record IsAll (told : History) : Type 0 where
  pub transactions : TransactionsAreTold told
  pub tables : length told.tables ≡ length told.opening.tables

-- what holds of a report so far
pub record IsSound (draft : Draft) : Type 0 where
  pub opened : IsOpened draft.told.opening
  pub resolved : AllByRecursion (λ script. script_faults (schemas_of draft.told.opening.tables) script ≡ [])
      draft.told.scripts
  pub few : length draft.told.scripts ≤ MOST_SCRIPTS
  pub answered : AreAnswered draft.told.scripts draft.told.transactions
  pub joint : AreJoint draft.told.joint_answers draft.due
  pub shown : AreShown draft.told.opening.tables draft.told.tables
  pub ascend : AllByRecursion Ascend draft.told.tables
  pub ended : draft.due ≡ Ended → IsAll draft.told

rows_not_ended : (rows : ℕ → Due) → ((more : ℕ) → rows more ≡ Ended → ⊥) → (count : ℕ)
    → rows_due rows count ≡ Ended → ⊥
rows_not_ended rows never zero e = cc (e)
rows_not_ended rows never (suc more) e = never more e

members_not_ended : (places : List (ℕ × ℕ)) → members_due places ≡ Ended → ⊥
members_not_ended [] e = cc (e)
members_not_ended (place ∷ more) e = cc (e)

free_is_not_ended : Free ≡ Ended → ⊥
free_is_not_ended e = cc

module _ (draft : Draft) (piece : List ℕ) (next : Draft) (so : IsSound draft) where
  joined_at : (due : Due) → draft.due ≡ due → AreJoint draft.told.joint_answers due
  joined_at due e = subst (AreJoint draft.told.joint_answers) e so.joint

  heading_sound : HeadingStands draft piece next → IsSound next
  heading_sound s = subst IsSound (sym s.next_is) (record {
    opened = so.opened;
    resolved = so.resolved;
    few = so.few;
    answered = so.answered;
    joint = joined_at Headed s.due;
    shown = so.shown;
    ascend = so.ascend;
    ended = λ e. absurd (free_is_not_ended e);
  })

  opening_sound : OpeningStands draft piece next → IsSound next
  opening_sound s = subst IsSound (sym s.next_is) (record {
    opened = table_opened draft.told.opening s.create so.opened s.declaration s.ascends;
    resolved = subst
        (AllByRecursion (λ script. script_faults (schemas_of (draft.told.opening.tables ++ s.create ∷ [])) script ≡ []))
        (sym s.no_scripts) tt;
    few = so.few;
    answered = so.answered;
    joint = opening_joint draft.told.joint_answers s.count (joined_at Free s.free);
    shown = subst (AreShown (draft.told.opening.tables ++ s.create ∷ [])) (sym s.nothing_below.tables)
        (none_shown (draft.told.opening.tables ++ s.create ∷ []));
    ascend = so.ascend;
    ended = λ e. absurd (rows_not_ended OpeningRows (λ more e. cc (e)) s.count e);
  })

  opening_row_sound : OpeningRowStands draft piece next → IsSound next
  opening_row_sound s = subst IsSound (sym s.next_is) (record {
    opened = row_opened draft.told.opening s.create s.row so.opened s.last s.kinds;
    resolved = so.resolved;
    few = so.few;
    answered = so.answered;
    joint = opening_joint draft.told.joint_answers s.more (joined_at (OpeningRows s.more) s.due);
    shown = so.shown;
    ascend = so.ascend;
    ended = λ e. absurd (rows_not_ended OpeningRows (λ more e. cc (e)) s.more e);
  })

  script_sound : ScriptStands draft piece next → IsSound next
  script_sound s = subst IsSound (sym s.next_is) (record {
    opened = so.opened;
    resolved = all_joined (λ script. script_faults (schemas_of draft.told.opening.tables) script ≡ [])
        draft.told.scripts (s.script ∷ []) so.resolved (s.is_script.resolved, tt);
    few = omega (arith, s.is_next.few, longer draft.told.scripts s.script);
    answered = subst (AreAnswered (draft.told.scripts ++ s.script ∷ [])) (sym s.is_next.nothing_below.transactions)
        (none_answered (draft.told.scripts ++ s.script ∷ []));
    joint = joined_at Free s.is_next.free;
    shown = so.shown;
    ascend = so.ascend;
    ended = λ e. absurd (free_is_not_ended e);
  })

  tx_sound : TxStands draft piece next → IsSound next
  tx_sound s = subst IsSound (sym s.next_is) (record {
    opened = so.opened;
    resolved = so.resolved;
    few = so.few;
    answered = tx_answered draft.told.scripts draft.told.transactions s.fate so.answered s.answered s.of_script;
    joint = joined_at Free s.free;
    shown = so.shown;
    ascend = so.ascend;
    ended = λ e. absurd (free_is_not_ended e);
  })

  answer_sound : AnswerStands draft piece next → IsSound next
  answer_sound s = subst IsSound (sym s.next_is) (record {
    opened = so.opened;
    resolved = so.resolved;
    few = so.few;
    answered = answer_answered draft.told.scripts draft.told.transactions s.answer s.statement so.answered s.due;
    joint = answers_joint draft.told.joint_answers s.count (joined_at Free s.free);
    shown = so.shown;
    ascend = so.ascend;
    ended = λ e. absurd (rows_not_ended AnswerRows (λ more e. cc (e)) s.count e);
  })

  answer_row_sound : AnswerRowStands draft piece next → IsSound next
  answer_row_sound s = subst IsSound (sym s.next_is) (record {
    opened = so.opened;
    resolved = so.resolved;
    few = so.few;
    answered = kept_answered (with_answer_row s.row) (λ told. length_changed (with_row s.row) told.answers)
        draft.told.scripts draft.told.transactions so.answered;
    joint = answers_joint draft.told.joint_answers s.more (joined_at (AnswerRows s.more) s.due);
    shown = so.shown;
    ascend = so.ascend;
    ended = λ e. absurd (rows_not_ended AnswerRows (λ more e. cc (e)) s.more e);
  })

  joint_sound : JointStands draft piece next → IsSound next
  joint_sound s = subst IsSound (sym s.next_is) (record {
    opened = so.opened;
    resolved = so.resolved;
    few = so.few;
    answered = so.answered;
    joint = new_joint draft.told.joint_answers s.places (joined_at Free s.free) s.some s.rise;
    shown = so.shown;
    ascend = so.ascend;
    ended = λ e. absurd (members_not_ended s.places e);
  })

  member_sound : MemberStands draft piece next → IsSound next
  member_sound s = subst IsSound (sym s.next_is) (record {
    opened = so.opened;
    resolved = so.resolved;
    few = so.few;
    answered = so.answered;
    joint = member_joint draft.told.joint_answers s.tx s.place s.more
        (member_told s.tx s.place s.variables s.values) refl
        (joined_at (Members s.tx s.place s.more) s.due);
    shown = so.shown;
    ascend = so.ascend;
    ended = λ e. absurd (members_not_ended s.more e);
  })

  table_sound : TableStands draft piece next → IsSound next
  table_sound s = subst IsSound (sym s.next_is) (record {
    opened = so.opened;
    resolved = so.resolved;
    few = so.few;
    answered = so.answered;
    joint = tables_joint draft.told.joint_answers s.count (joined_at Free s.free);
    shown = table_shown draft.told.opening.tables draft.told.tables s.create [] so.shown s.of_opening;
    ascend = all_joined Ascend draft.told.tables (record { name = s.create.name.name; rows = [] } ∷ []) so.ascend
        (tt, tt);
    ended = λ e. absurd (rows_not_ended TableRows (λ more e. cc (e)) s.count e);
  })

  table_row_sound : TableRowStands draft piece next → IsSound next
  table_row_sound s = subst IsSound (sym s.next_is) (record {
    opened = so.opened;
    resolved = so.resolved;
    few = so.few;
    answered = so.answered;
    joint = tables_joint draft.told.joint_answers s.more (joined_at (TableRows s.more) s.due);
    shown = row_shown draft.told.opening.tables draft.told.tables s.row so.shown;
    ascend = row_ascends draft.told.tables s.shown s.row so.ascend s.last_is s.ascends;
    ended = λ e. absurd (rows_not_ended TableRows (λ more e. cc (e)) s.more e);
  })

  end_sound : EndStands draft piece next → IsSound next
  end_sound s = subst IsSound (sym s.next_is) (record {
    opened = so.opened;
    resolved = so.resolved;
    few = so.few;
    answered = so.answered;
    joint = joined_at Free s.free;
    shown = so.shown;
    ascend = so.ascend;
    ended = λ e. record {
      transactions = record { each = s.told.each; answered = s.told.answered };
      tables = s.tables;
    };
  })

pub sound_kept : (draft : Draft) (piece : List ℕ) (next : Draft) → IsSound draft → Stands draft piece next
    → IsSound next
sound_kept draft piece next so (Heading s) = heading_sound draft piece next so s
sound_kept draft piece next so (Opening s) = opening_sound draft piece next so s
sound_kept draft piece next so (OpeningRow s) = opening_row_sound draft piece next so s
sound_kept draft piece next so (Script s) = script_sound draft piece next so s
sound_kept draft piece next so (Tx s) = tx_sound draft piece next so s
sound_kept draft piece next so (Answer s) = answer_sound draft piece next so s
sound_kept draft piece next so (AnswerRow s) = answer_row_sound draft piece next so s
sound_kept draft piece next so (Joint s) = joint_sound draft piece next so s
sound_kept draft piece next so (Member s) = member_sound draft piece next so s
sound_kept draft piece next so (Table s) = table_sound draft piece next so s
sound_kept draft piece next so (TableRow s) = table_row_sound draft piece next so s
sound_kept draft piece next so (End s) = end_sound draft piece next so s

pub blank_sound : IsSound blank
blank_sound = record {
  opened = nothing_opened;
  resolved = tt;
  few = omega arith;
  answered = tt;
  joint = tt;
  shown = tt;
  ascend = tt;
  ended = λ e. cc (e);
}
