-- A history that can be told is told by its text.
use Rattle.std.proofs.Common.{◌≡◌, ◌≤◌, ℕ, suc, List, [], ◌∷◌, ◌++◌, length, refl, sym, ap, subst, ◌∙◌, arith, None}
use Rattle.std.proofs.Common.{codes, flat_map}
use Rattle.std.specs.List.{AllByRecursion}
use Rattle.std.proofs.lemmas.List.{append-nil}
use Rattle.ent_tree.specs.declared.declaration.OpeningRow.{OpeningRow}
use Rattle.ent_tree.specs.declared.script.Script.{Script}
use Rattle.ent_book.specs.Report.{line}
use Rattle.ent_book.specs.Report2.{scripts_text}
use Rattle.ent_history.specs.declared.history.History.{History}
use Rattle.ent_history.specs.declared.history.Shown.{Shown}
use Rattle.ent_history.specs.declared.history.Told.{Told}
use Rattle.ent_history.specs.Text.{history_text, joints_text, opening_text, shown_text, transactions_text}
use Rattle.ent_history.specs.Draft.{Draft, Ended, answer_due, blank}
use Rattle.ent_history.specs.Opening.{HeadingStands}
use Rattle.ent_history.specs.Scripts.{IsScript}
use Rattle.ent_history.specs.Stands.{Tells}
use Rattle.ent_history.specs.Stands as stands
use Rattle.ent_history.specs.Tables.{EndStands}
use Rattle.ent_tree.specs.declared.declaration.Create.{Create}
use Rattle.ent_lists.specs.Elements.{index_pairs}
use Rattle.ent_report_laws.specs.Tellable.{AreTablesOf, AreTransactionsOf, CanBeTold}
use Rattle.ent_report_laws.proofs.Opened.{Before, nothing_opened}
use Rattle.ent_report_laws.proofs.Reaching.{Leads, behind_it, first_piece, stay, to_draft}
use Rattle.ent_report_laws.proofs.ToJoints.{joints_lead}
use Rattle.ent_report_laws.proofs.ToOpening.{own_rows, tables_lead}
use Rattle.ent_report_laws.proofs.ToScripts.{same_script, scripts_lead}
use Rattle.ent_report_laws.proofs.ToTables.{all_tables_lead}
use Rattle.ent_report_laws.proofs.ToTransactions.{all_transactions_lead, at_free, none_due_behind}

each_told : (scripts : List Script) (told : List Told) → AreTransactionsOf scripts told → length told ≡ length scripts
each_told [] [] fit = refl
each_told [] (one ∷ told) fit = absurd fit
each_told (script ∷ scripts) [] fit = absurd fit
each_told (script ∷ scripts) (one ∷ told) fit = ap (λ n. suc n) (each_told scripts told fit.1)

each_shown : (creates : List Create) (tables : List Shown) → AreTablesOf creates tables
    → length tables ≡ length creates
each_shown [] [] fit = refl
each_shown [] (shown ∷ tables) fit = absurd fit
each_shown (create ∷ creates) [] fit = absurd fit
each_shown (create ∷ creates) (shown ∷ tables) fit = ap (λ n. suc n) (each_shown creates tables fit.3)

module _ (history : History) (can : CanBeTold history) where
  abbrev opened : History
  opened = record blank.told { opening = history.opening }

  abbrev scripted : History
  scripted = record opened { scripts = history.scripts }

  abbrev transacted : History
  transacted = record scripted { transactions = history.transactions }

  abbrev joined : History
  joined = record transacted { joint_answers = history.joint_answers }

  scripts_fit : (scripts : List Script) → AllByRecursion (IsScript history) scripts
      → AllByRecursion (IsScript opened) scripts
  scripts_fit [] fit = tt
  scripts_fit (script ∷ more) fit = (same_script history opened script refl fit.0, scripts_fit more fit.1)

  no_answer_due : answer_due history.scripts history.transactions ≡ None
  no_answer_due =
      ap (λ (scripts : List Script). answer_due scripts history.transactions) (sym (append-nil history.scripts))
      ∙ none_due_behind history.scripts history.transactions [] can.transactions

  opening_leads : Leads (at_free blank.told) (opening_text history.opening) (at_free opened)
  opening_leads =
      to_draft (at_free blank.told)
      (at_free (record blank.told {
        opening = record {
          tables = history.opening.tables;
          rows = flat_map (own_rows history.opening) history.opening.tables;
        };
      }))
      (at_free opened) (opening_text history.opening)
      (λ i. at_free (record blank.told {
        opening = record { tables = history.opening.tables; rows = sym can.opening.in_order i };
      }))
      (tables_lead history.opening blank.told history.opening.tables nothing_opened refl
      (record { transactions = refl; joint_answers = refl; tables = refl })
      (index_pairs Before history.opening.tables can.opening.rise) can.opening.declarations can.opening.rows
      can.opening.few_tables
      (subst (λ (rows : List OpeningRow). length rows ≤ 65536) can.opening.in_order can.opening.few_rows))

  scripts_leads : Leads (at_free opened) (scripts_text 1 history.scripts) (at_free scripted)
  scripts_leads =
      scripts_lead opened 1 history.scripts refl (record { transactions = refl; joint_answers = refl; tables = refl })
      (scripts_fit history.scripts can.scripts) (omega (arith, can.few_scripts))

  transactions_lead : Leads (at_free scripted) (transactions_text 1 history.transactions) (at_free transacted)
  transactions_lead =
      all_transactions_lead scripted 1 [] history.scripts history.transactions refl tt refl
      (record { joint_answers = refl; tables = refl }) refl can.transactions

  joints_leads : Leads (at_free transacted) (joints_text 1 history.joint_answers) (at_free joined)
  joints_leads =
      joints_lead history transacted 1 history.joint_answers (refl, refl)
      (record { each = each_told history.scripts history.transactions can.transactions; answered = no_answer_due })
      refl refl can.joints

  tables_leads : Leads (at_free joined) (flat_map shown_text history.tables) (at_free history)
  tables_leads =
      all_tables_lead joined [] history.opening.tables history.tables
      (record { each = each_told history.scripts history.transactions can.transactions; answered = no_answer_due })
      refl refl can.tables

  end_stands : EndStands (at_free history) (line (codes "end")) (record { told = history; due = Ended })
  end_stands = record {
    free = refl;
    told = record {
      each = each_told history.scripts history.transactions can.transactions;
      answered = no_answer_due;
    };
    tables = each_shown history.opening.tables history.tables can.tables;
    text_is = refl;
    next_is = refl;
  }

  heading : HeadingStands blank (line (codes "report 2")) (at_free blank.told)
  heading = record { due = refl; text_is = refl; next_is = refl }

  pub told_by_text : Tells (history_text history) history
  told_by_text =
      first_piece blank (at_free blank.told) ended (line (codes "report 2"))
      (opening_text history.opening ++ (scripts ++ (transactions ++ (joints ++ (tables ++ end)))))
      (stands.Heading heading)
      (behind_it (at_free blank.told) (at_free opened) ended (opening_text history.opening)
      (scripts ++ (transactions ++ (joints ++ (tables ++ end)))) opening_leads
      (behind_it (at_free opened) (at_free scripted) ended scripts (transactions ++ (joints ++ (tables ++ end)))
      scripts_leads
      (behind_it (at_free scripted) (at_free transacted) ended transactions (joints ++ (tables ++ end))
      transactions_lead
      (behind_it (at_free transacted) (at_free joined) ended joints (tables ++ end) joints_leads
      (behind_it (at_free joined) (at_free history) ended tables end tables_leads
      (first_piece (at_free history) ended ended end [] (stands.End end_stands) (stay ended ended refl)))))))
    where
      ended : Draft
      ended = record { told = history; due = Ended }

      scripts : List ℕ
      scripts = scripts_text 1 history.scripts

      transactions : List ℕ
      transactions = transactions_text 1 history.transactions

      joints : List ℕ
      joints = joints_text 1 history.joint_answers

      tables : List ℕ
      tables = flat_map shown_text history.tables

      end : List ℕ
      end = line (codes "end")
