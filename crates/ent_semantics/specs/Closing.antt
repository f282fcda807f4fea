-- Statements over other known parts, and closed statements: host variables replaced by their values.
use Rattle.std.specs.Prelude.{List, map}
use Rattle.ent_value.specs.declared.value.Value.{Value}
use Rattle.ent_tree.specs.declared.operand.Expression.{Expression}
use Rattle.ent_tree.specs.declared.operand.Expression.TheVariants.{Single, Sum, Difference}
use Rattle.ent_tree.specs.declared.operand.Test.{Test}
use Rattle.ent_semantics.specs.Database.{Environment}
use Rattle.ent_semantics.specs.Form.{known_worth}
use Rattle.ent_semantics.specs.declared.entangled.Atom.{Atom}
use Rattle.ent_semantics.specs.declared.entangled.Binding.{Binding}
use Rattle.ent_semantics.specs.declared.entangled.Entangled.{Entangled}
use Rattle.ent_semantics.specs.declared.entangled.Membership.{Membership}
use Rattle.ent_semantics.specs.declared.entangled.Term.{Term}
use Rattle.ent_semantics.specs.declared.entangled.Term.TheVariants as terms
use Rattle.ent_semantics.specs.declared.operand.Known.{Known}
use Rattle.ent_semantics.specs.declared.operand.Operand.{Operand}
use Rattle.ent_semantics.specs.declared.operand.Operand.TheVariants as operands
use Rattle.ent_semantics.specs.declared.statement.Select.{Select}
use Rattle.ent_semantics.specs.declared.statement.Statement.{Statement}
use Rattle.ent_semantics.specs.declared.statement.Statement.TheVariants as statements

-- a test and an expression of other terms
abbrev pub test_over : {A B : Type 0} → (A → B) → Test A → Test B
test_over term test = record { left = term test.left; comparison = test.comparison; right = term test.right }

abbrev pub expression_over : {A B : Type 0} → (A → B) → Expression A → Expression B
expression_over term (Single x) = Single (term x)
expression_over term (Sum left right) = Sum (term left) (term right)
expression_over term (Difference left right) = Difference (term left) (term right)

-- each known part gives way to another
module _ {K J : Type 0} (other : K → J) where
  abbrev pub operand_over : Operand K → Operand J
  operand_over (operands.Known k) = operands.Known (other k)
  operand_over (operands.Column number) = operands.Column number

  abbrev pub term_over : Term K → Term J
  term_over (terms.Known k) = terms.Known (other k)
  term_over (terms.Variable number) = terms.Variable number

  abbrev pub tests_over : List (Test (Operand K)) → List (Test (Operand J))
  tests_over tests = map (test_over operand_over) tests

  abbrev pub select_over : Select K → Select J
  select_over select =
      record { sources = select.sources; items = map operand_over select.items; tests = tests_over select.tests }

  abbrev pub atom_over : Atom K → Atom J
  atom_over atom = record { relation = atom.relation; terms = map term_over atom.terms }

  abbrev pub membership_over : Membership K → Membership J
  membership_over membership =
      record { terms = map term_over membership.terms; select = select_over membership.select }

  abbrev pub binding_over : Binding K → Binding J
  binding_over binding = record { variable = binding.variable; term = term_over binding.term }

  abbrev pub entangled_over : Entangled K → Entangled J
  entangled_over entangled =
      record {
        variables = entangled.variables;
        posts = map atom_over entangled.posts;
        heads = map atom_over entangled.heads;
        atoms = map membership_over entangled.atoms;
        tests = map (test_over term_over) entangled.tests;
        binds = map binding_over entangled.binds;
      }

  abbrev pub statement_over : Statement K → Statement J
  statement_over (statements.Select select) = statements.Select (select_over select)
  statement_over (statements.Entangled entangled) = statements.Entangled (entangled_over entangled)
  statement_over (statements.Insert table values) = statements.Insert table (map other values)
  statement_over (statements.Delete table tests) = statements.Delete table (tests_over tests)
  statement_over (statements.Update table image tests) =
      statements.Update table (map (expression_over operand_over) image) (tests_over tests)
  statement_over (statements.Set variable expression) =
      statements.Set variable (expression_over other expression)

-- a statement with its host variables replaced by their values
abbrev pub closed : Environment → Statement Known → Statement Value
closed environment statement = statement_over (known_worth environment) statement

abbrev pub closed_entangled : Environment → Entangled Known → Entangled Value
closed_entangled environment entangled = entangled_over (known_worth environment) entangled
