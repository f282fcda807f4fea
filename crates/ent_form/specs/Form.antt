-- Statements and scripts resolved: the form, or the first fault, statement by statement.
use Rattle.std.specs.Prelude.{List, [], ◌∷◌, ◌++◌, Result, Ok}
use Rattle.ent_value.specs.Refusal.{◌>>=◌}
use Rattle.ent_tree.specs.declared.script.Script.{Script as TreeScript}
use Rattle.ent_tree.specs.declared.script.Statement.{Statement as TreeStatement}
use Rattle.ent_tree.specs.declared.script.Statement.TheVariants as statements
use Rattle.ent_semantics.specs.declared.operand.Known.{Known}
use Rattle.ent_semantics.specs.declared.statement.Statement.{Statement}
use Rattle.ent_semantics.specs.declared.statement.Statement.TheVariants as resolved
use Rattle.ent_form.specs.declared.catalogue.TableSchema.{TableSchema}
use Rattle.ent_form.specs.declared.fault.FormFault.{FormFault}
use Rattle.ent_form.specs.declared.script.Plain.{Plain}
use Rattle.ent_form.specs.Entangled.{entangled_in}
use Rattle.ent_form.specs.Kinds.{Bound, none_bound}
use Rattle.ent_form.specs.Ordinary.{select_in, insert_in, delete_in, update_in, set_in}

-- a statement, and what is bound after it
unfoldable pub statement_in : List TableSchema → Bound → TreeStatement → Result (Statement Known × Bound) FormFault
statement_in tables bound (statements.Select select) =
    select_in tables bound select >>= λ form. Ok (resolved.Select form.0, bound)
statement_in tables bound (statements.Entangled entangled) =
    entangled_in tables bound entangled >>= λ form. Ok (resolved.Entangled form.0, form.1)
statement_in tables bound (statements.Insert insert) = insert_in tables bound insert >>= λ form. Ok (form, bound)
statement_in tables bound (statements.Delete delete) = delete_in tables bound delete >>= λ form. Ok (form, bound)
statement_in tables bound (statements.Update update) = update_in tables bound update >>= λ form. Ok (form, bound)
statement_in tables bound (statements.Set setting) = set_in bound setting

-- statements one after the other, each with what those before it bind
abbrev pub statements_from : List TableSchema → Bound → List (Statement Known) → List TreeStatement
    → Result (List (Statement Known)) FormFault
statements_from tables bound made [] = Ok made
statements_from tables bound made (statement ∷ more) =
    statement_in tables bound statement >>= λ form. statements_from tables form.1 (made ++ form.0 ∷ []) more

abbrev pub script_in : List TableSchema → TreeScript → Result Plain FormFault
script_in tables script =
    statements_from tables none_bound [] script.statements >>= λ forms.
    Ok (record { statements = forms; end = script.end })
