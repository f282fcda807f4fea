-- What the text of a script knows of its host variables.
use Rattle.std.specs.Prelude.{List, [], ◌∷◌, Option, Some, None, if◌then◌else◌}
use Rattle.ent_value.specs.declared.value.Value.{Value}
use Rattle.ent_semantics.specs.Database.{Name, Environment, same_name, with_value}
use Rattle.ent_tree.specs.declared.entangled.EntangledItem.{EntangledItem}
use Rattle.ent_tree.specs.declared.entangled.Term.{Term}
use Rattle.ent_tree.specs.declared.entangled.Term.TheVariants as terms
use Rattle.ent_tree.specs.declared.operand.Expression.{Expression}
use Rattle.ent_tree.specs.declared.operand.Expression.TheVariants.{Single}
use Rattle.ent_tree.specs.declared.operand.Identifier.{Identifier}
use Rattle.ent_tree.specs.declared.operand.ValueSpecification.{ValueSpecification}
use Rattle.ent_tree.specs.declared.operand.ValueSpecification.TheVariants as values
use Rattle.ent_tree.specs.declared.script.Statement.{Statement}
use Rattle.ent_tree.specs.declared.script.Statement.TheVariants as statements

-- an environment holds what is known of host variables

-- nothing is known of a host variable any more
abbrev pub forgotten : Environment → Name → Environment
forgotten known variable other = if same_name variable other then None else known other

-- the value of a literal, or what is known of a host variable
abbrev pub known_value : Environment → ValueSpecification → Option Value
known_value known (values.Literal literal) = Some literal.value
known_value known (values.HostVariable variable) = known variable.name

-- of a written variable nothing is known
abbrev pub known_term : Environment → Term → Option Value
known_term known (terms.Value value) = known_value known value
known_term known (terms.Variable variable) = None

-- a host variable that is set to a literal is known from there on; one that is set to anything else isn't
abbrev pub known_after_set : Environment → Name → Expression ValueSpecification → Environment
known_after_set known variable (Single (values.Literal literal)) = with_value known variable literal.value
known_after_set known variable other = forgotten known variable

-- the host variable that an item binds, where it binds one, gets its value from the answer
abbrev pub known_after_binding : Environment → Option Identifier → Environment
known_after_binding known (Some variable) = forgotten known variable.name
known_after_binding known None = known

abbrev pub known_after_items : Environment → List EntangledItem → Environment
known_after_items known [] = known
known_after_items known (item ∷ more) = known_after_items (known_after_binding known item.binds) more

-- what is known after a statement; other statements bind no host variable
abbrev pub known_after : Environment → Statement → Environment
known_after known (statements.Set set) = known_after_set known set.variable.name set.expression
known_after known (statements.Entangled asked) = known_after_items known asked.items
known_after known other = known
