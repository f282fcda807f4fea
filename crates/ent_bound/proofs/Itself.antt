-- A script is itself where each value is.
use Rattle.std.proofs.Common.{◌≡◌, true, List, [], ◌∷◌, length, map, refl, ap, sym, ◌∙◌, ◌==◌}
use Rattle.std.proofs.lemmas.Bool.{eqb-true}
use Rattle.std.proofs.lemmas.List.{map-id, nil_from_length}
use Rattle.ent_tree.specs.declared.operand.ValueSpecification.{ValueSpecification}
use Rattle.ent_tree.specs.declared.operand.ValueSpecification.TheVariants as specifications
use Rattle.ent_tree.specs.declared.operand.Operand.{Operand}
use Rattle.ent_tree.specs.declared.operand.Operand.TheVariants as operands
use Rattle.ent_tree.specs.declared.operand.Expression.{Expression}
use Rattle.ent_tree.specs.declared.operand.Expression.TheVariants.{Single, Sum, Difference}
use Rattle.ent_tree.specs.declared.operand.Test.{Test}
use Rattle.ent_tree.specs.declared.select.Items.{Items}
use Rattle.ent_tree.specs.declared.select.Items.TheVariants as items
use Rattle.ent_tree.specs.declared.select.Select.{Select}
use Rattle.ent_tree.specs.declared.entangled.Term.{Term}
use Rattle.ent_tree.specs.declared.entangled.Term.TheVariants as terms
use Rattle.ent_tree.specs.declared.entangled.Condition.{Condition}
use Rattle.ent_tree.specs.declared.entangled.Condition.TheVariants as conditions
use Rattle.ent_tree.specs.declared.script.Statement.{Statement}
use Rattle.ent_tree.specs.declared.script.Statement.TheVariants as statements
use Rattle.ent_tree.specs.declared.script.Script.{Script}
use Rattle.ent_bound.specs.Bound.{bound_script, bound_value}
use Rattle.ent_bound.specs.Over.{Making, operand_over, expression_over, test_over, items_over, tests_over, select_over}
use Rattle.ent_bound.specs.Over.{term_over, item_over, condition_over, assignment_over}
use Rattle.ent_bound.specs.Over.{statement_over, script_over}
use Rattle.ent_bound.specs.declared.variable.BoundVariable.{BoundVariable}

mapped : {A : Type 0} (f : A → A) → ((x : A) → f x ≡ x) → (xs : List A) → map f xs ≡ xs
mapped f each [] = refl
mapped f each (x ∷ xs) = λ i. each x i ∷ mapped f each xs i

operand : (x : Operand) → operand_over (λ value. value) x ≡ x
operand (operands.Value value) = refl
operand (operands.Column reference) = refl

expression : {A : Type 0} (f : A → A) → ((x : A) → f x ≡ x) → (x : Expression A) → expression_over f x ≡ x
expression f each (Single term) = λ i. Single (each term i)
expression f each (Sum left right) = λ i. Sum (each left i) (each right i)
expression f each (Difference left right) = λ i. Difference (each left i) (each right i)

test : {A : Type 0} (f : A → A) → ((x : A) → f x ≡ x) → (x : Test A) → test_over f x ≡ x
test f each x = λ i. record x { left = each x.left i; right = each x.right i }

tests : (xs : List (Test Operand)) → tests_over (λ value. value) xs ≡ xs
tests = mapped (test_over (operand_over (λ value. value))) (test (operand_over (λ value. value)) operand)

listed : (x : Items) → items_over (λ value. value) x ≡ x
listed items.All = refl
listed (items.Listed xs) = λ i. items.Listed (mapped (operand_over (λ value. value)) operand xs i)

select : (x : Select) → select_over (λ value. value) x ≡ x
select x = λ i. record x { items = listed x.items i; tests = tests x.tests i }

term : (x : Term) → term_over (λ value. value) x ≡ x
term (terms.Value value) = refl
term (terms.Variable variable) = refl

condition : (x : Condition) → condition_over (λ value. value) x ≡ x
condition (conditions.InSelect tuple inner) =
    λ i. conditions.InSelect (record tuple { terms = mapped (term_over (λ value. value)) term tuple.terms i })
    (select inner i)
condition (conditions.InAnswer tuple relation) =
    λ i. conditions.InAnswer (record tuple { terms = mapped (term_over (λ value. value)) term tuple.terms i }) relation
condition (conditions.Test x) = λ i. conditions.Test (test (term_over (λ value. value)) term x i)

statement : (x : Statement) → statement_over (λ value. value) x ≡ x
statement (statements.Select x) = λ i. statements.Select (select x i)
statement (statements.Entangled x) = λ i. statements.Entangled (record x {
  items = mapped (item_over (λ value. value)) (λ item j. record item { term = term item.term j }) x.items i;
  conditions = mapped (condition_over (λ value. value)) condition x.conditions i;
})
statement (statements.Insert x) = λ i. statements.Insert (record x { values = map-id x.values i })
statement (statements.Delete x) = λ i. statements.Delete (record x { tests = tests x.tests i })
statement (statements.Update x) = λ i. statements.Update (record x {
  assignments = mapped (assignment_over (λ value. value)) (λ assignment j. record assignment {
    expression = expression (operand_over (λ value. value)) operand assignment.expression j;
  }) x.assignments i;
  tests = tests x.tests i;
})
statement (statements.Set x) =
    λ i. statements.Set (record x { expression = expression (λ value. value) (λ value. refl) x.expression i })

script_itself : (script : Script) → script_over (λ value. value) script ≡ script
script_itself script =
    λ i. record script { statements = mapped (statement_over (λ value. value)) statement script.statements i }

unbound : (value : ValueSpecification) → bound_value [] value ≡ value
unbound (specifications.Literal literal) = refl
unbound (specifications.HostVariable variable) = refl

-- a script in which nothing is bound is itself
pub nothing_bound : (script : Script) → bound_script [] script ≡ script
nothing_bound script =
    ap (λ (making : Making). script_over making script) (λ i value. unbound value i) ∙ script_itself script

pub none_bound : (variables : List BoundVariable) (script : Script) → true ≡ (length variables == 0)
    → script ≡ bound_script variables script
none_bound variables script none =
    sym (ap (λ (bound : List BoundVariable). bound_script bound script)
    (nil_from_length variables (eqb-true (length variables) 0 (sym none)))
    ∙ nothing_bound script)
