-- Scripts that are known by what they are resolved to, and the statements of such scripts.
use Rattle.std.specs.Prelude.{◌≡◌, ℕ, List, [], ◌∷◌, codes, Ok}
use Rattle.ent_value.specs.declared.value.Value.TheVariants.{Text}
use Rattle.ent_tree.specs.declared.script.End.{End}
use Rattle.ent_tree.specs.declared.script.Script.{Script}
use Rattle.ent_tree.specs.declared.script.Statement.{Statement}
use Rattle.ent_semantics.specs.Database.{Name}
use Rattle.ent_semantics.specs.declared.operand.Known.{Known}
use Rattle.ent_semantics.specs.declared.operand.Known.TheVariants as known
use Rattle.ent_semantics.specs.declared.statement.Statement.{Statement as FormStatement}
use Rattle.ent_semantics.specs.declared.statement.Statement.TheVariants as forms
use Rattle.ent_protocol.specs.Run.{Forms}
use Rattle.ent_examples.specs.Partners.{partners_opening}
use Rattle.ent_examples.specs.Wish.{Wish, asks}

-- a script for so many runs, with this end, that is resolved to these statements over the partners' opening
pub record ScriptOf {F : Type 0} (resolved : Forms F) (within : ℕ) (form : List (FormStatement Known)) (end : End)
    : Type 0 where
  pub statements : List Statement
  pub resolves : resolved.resolve partners_opening
      (record { within = within; statements = statements; end = end }) ≡ Ok form

abbrev pub script : {F : Type 0} {resolved : Forms F} {within : ℕ} {form : List (FormStatement Known)} {end : End}
    → ScriptOf resolved within form end → Script
script {within = within} {end = end} known = record { within = within; statements = known.statements; end = end }

-- SELECT own, fno AS @f INTO ANSWER ..
abbrev pub asks_form : Wish → FormStatement Known
asks_form wish = forms.Entangled (asks wish)

-- INSERT INTO Bookings VALUES (name, @f)
abbrev pub books_form : Name → FormStatement Known
books_form name = forms.Insert 1 (known.Constant (Text name) ∷ known.HostVariable (codes "f") ∷ [])
