-- A legal book stays legal with another opening that has the same tables and rows.
use Rattle.std.proofs.Common.{◌≡◌, List, Contains, sym, subst, ◌∙◌}
use Rattle.ent_tree.specs.declared.declaration.Create.{Create}
use Rattle.ent_tree.specs.declared.declaration.Opening.{Opening}
use Rattle.ent_semantics.specs.declared.book.Book.{Book}
use Rattle.ent_semantics.specs.declared.book.Member.{Member}
use Rattle.ent_semantics.specs.Book.{IsLegal, book_read_views}
use Rattle.ent_semantics.specs.Database.{Database, Name, columns_of, opening_database}
use Rattle.ent_semantics.specs.Joint.{IsGood}
use Rattle.ent_semantics.specs.Serial.{ReadView, Turn, scripts_run}
use Rattle.ent_report_laws.specs.Alike.{AreAlike}
use Rattle.ent_report_laws.proofs.Columns.{same_columns}
use Rattle.ent_report_laws.proofs.Meant.{same_grounding, same_runs, same_read_views}

pub turned : (first second : Opening) → AreAlike first second → AreAlike second first
turned first second alike = record { tables = λ name. sym (alike.tables name); rows = sym alike.rows }

still_good : (first second : List Create) → ((name : Name) → columns_of first name ≡ columns_of second name)
    → (run : List ReadView) (members : List Member) → IsGood first run members → IsGood second run members
still_good first second same run members good = record {
  some = good.some;
  distinct = good.distinct;
  of_run = good.of_run;
  grounded = λ read_view at.
      sym (same_grounding first second same read_view.database read_view.environment read_view.entangled
      read_view.valuation)
      ∙ good.grounded read_view at;
  met = good.met;
}

module _ (book : Book Database) (opening : Opening) (alike : AreAlike book.opening opening) where
  same_names : (name : Name) → columns_of book.opening.tables name ≡ columns_of opening.tables name
  same_names = same_columns book.opening.tables opening.tables alike.tables

  run_is : (turns : List Turn)
      → scripts_run book.opening.tables turns (opening_database book.opening)
      ≡ scripts_run opening.tables turns (opening_database opening)
  run_is turns = λ i. same_runs book.opening.tables opening.tables same_names turns (alike.rows i) i

  read_views_are : (turns : List Turn)
      → book_read_views book turns ≡ book_read_views (record book { opening = opening }) turns
  read_views_are turns = λ i. same_read_views book.opening.tables opening.tables same_names turns (alike.rows i) i

  pub still_legal : IsLegal book → IsLegal (record book { opening = opening })
  still_legal legal = record {
    journal = record {
      distinct = legal.journal.distinct;
      of_list = legal.journal.of_list;
      one_fate = legal.journal.one_fate;
      committed = legal.journal.committed;
    };
    turns = legal.turns;
    runs = record {
      in_order = legal.runs.in_order;
      own_scripts = legal.runs.own_scripts;
      run = sym (run_is legal.turns) ∙ legal.runs.run;
    };
    answered = λ read_view at.
        legal.answered read_view
        (subst (λ (read_views : List ReadView). Contains read_views read_view) (sym (read_views_are legal.turns)) at);
    once = legal.once;
    no_widow = λ member at.
        let found = legal.no_widow member at in (
          found.0,
          subst (λ (read_views : List ReadView). Contains read_views found.0) (read_views_are legal.turns) found.1,
          found.2,
        );
    good = λ joint at.
        still_good book.opening.tables opening.tables same_names
        (book_read_views (record book { opening = opening }) legal.turns) joint.members
        (subst (λ (read_views : List ReadView). IsGood book.opening.tables read_views joint.members)
        (read_views_are legal.turns)
        (legal.good joint at));
  }
