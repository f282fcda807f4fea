use Rattle.std.proofs.Common.{List, ℕ, sym, subst}
use Rattle.ent_history.specs.Stands.{Tells}
use Rattle.ent_report_laws.proofs.OfJoints.{joints_are_told}
use Rattle.ent_report_laws.proofs.OfOpening.{opening_is_told}
use Rattle.ent_report_laws.proofs.OfScripts.{scripts_are_told}
use Rattle.ent_report_laws.proofs.OfTables.{tables_are_told}
use Rattle.ent_report_laws.proofs.OfTransactions.{transactions_are_told}
use Rattle.ent_report_laws.proofs.Sound.{told_sound}
use Rattle.ent_report_laws.proofs.Texts.{told_text_is}
use Rattle.ent_report_laws.proofs.ToEnd.{told_by_text}
use Rattle.ent_report_laws.proofs.law.told_histories_can_be_told.Goals as goal

pub returns : goal.returns
returns c text history = (
  λ tells.
      let so = told_sound text history tells in (
        told_text_is text history tells,
        record {
          opening = opening_is_told text history so tells;
          few_scripts = so.few;
          scripts = scripts_are_told text history tells;
          transactions = transactions_are_told text history so tells;
          joints = joints_are_told text history so tells;
          tables = tables_are_told text history so tells;
        },
      ),
  λ can. subst (λ (t : List ℕ). Tells t history) (sym can.0) (told_by_text history can.1),
)
