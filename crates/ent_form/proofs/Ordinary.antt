-- Ordinary statements have no use for values that answer them: any will do.
use Rattle.std.proofs.Common.{◌≡◌, false, List}
use Rattle.ent_value.specs.declared.value.Kind.{Kind}
use Rattle.ent_tree.specs.declared.script.Statement.{Statement as TreeStatement}
use Rattle.ent_tree.specs.declared.script.Statement.TheVariants as trees
use Rattle.ent_semantics.specs.Database.{Environment}
use Rattle.ent_semantics.specs.Entangled.{Valuation}
use Rattle.ent_semantics.specs.Serial.{is_entangled}
use Rattle.ent_semantics.specs.declared.operand.Known.{Known}
use Rattle.ent_semantics.specs.declared.statement.Statement.{Statement}
use Rattle.ent_semantics.specs.declared.statement.Statement.TheVariants as forms
use Rattle.ent_semantics.specs.Closing.{closed}
use Rattle.ent_semantics.specs.FormKinds.{Fits}
use Rattle.ent_form.specs.TableKinds.{AnswersInKind}
use Rattle.ent_form.specs.Tables.{Answers}

pub answers_any : (tree : TreeStatement) (valuation : Valuation) → is_entangled tree ≡ false → Answers tree valuation
answers_any (trees.Entangled entangled) valuation plain = cc (plain)
answers_any (trees.Select select) valuation plain = tt
answers_any (trees.Insert insert) valuation plain = tt
answers_any (trees.Delete delete) valuation plain = tt
answers_any (trees.Update update) valuation plain = tt
answers_any (trees.Set setting) valuation plain = tt

pub in_any_kind : (environment : Environment) (form : Statement Known) (valuation : Valuation)
    (kinds : List (List Kind)) → Fits kinds (closed environment form) → AnswersInKind form valuation
in_any_kind environment (forms.Entangled entangled) valuation kinds fits = absurd fits
in_any_kind environment (forms.Select select) valuation kinds fits = tt
in_any_kind environment (forms.Insert table values) valuation kinds fits = tt
in_any_kind environment (forms.Delete table tests) valuation kinds fits = tt
in_any_kind environment (forms.Update table image tests) valuation kinds fits = tt
in_any_kind environment (forms.Set variable expression) valuation kinds fits = tt
