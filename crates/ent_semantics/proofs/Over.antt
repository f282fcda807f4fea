-- A statement over other known parts means what it means over what these are worth.
use Rattle.std.proofs.Common.{◌≡◌, Bool, List, [], ◌∷◌, map, refl, ap}
use Rattle.std.specs.Prelude.{◌&&◌, ◌==◌, length}
use Rattle.std.specs.List.{list_all}
use Rattle.ent_lists.specs.Sets as set
use Rattle.ent_value.specs.declared.value.Value.{Value}
use Rattle.ent_tree.specs.declared.operand.Expression.{Expression}
use Rattle.ent_tree.specs.declared.operand.Expression.TheVariants.{Single, Sum, Difference}
use Rattle.ent_tree.specs.declared.operand.Test.{Test}
use Rattle.ent_semantics.specs.Change.{all_there}
use Rattle.ent_semantics.specs.Database.{Environment}
use Rattle.ent_semantics.specs.Effect.{shown, insertion, deletion, replacement, setting, heads_given}
use Rattle.ent_semantics.specs.Entangled.{Valuation}
use Rattle.ent_semantics.specs.Selection.{holds, meets, selection}
use Rattle.ent_semantics.specs.Term.{expression_value}
use Rattle.ent_semantics.specs.Closing.{test_over, expression_over, operand_over, term_over, tests_over, select_over}
use Rattle.ent_semantics.specs.Closing.{atom_over, membership_over, binding_over, entangled_over, closed}
use Rattle.ent_semantics.specs.Closing.{closed_entangled}
use Rattle.ent_semantics.specs.Form.{Tables, table_numbered, known_worth, closed_worth, operand_worth, term_worth}
use Rattle.ent_semantics.specs.Form.{form_rows, atom_fact, form_heads, form_posts, membership_holds, is_form_grounding}
use Rattle.ent_semantics.specs.Form.{form_bound, form_meaning}
use Rattle.ent_semantics.specs.declared.entangled.Atom.{Atom}
use Rattle.ent_semantics.specs.declared.entangled.Entangled.{Entangled}
use Rattle.ent_semantics.specs.declared.entangled.Term.{Term}
use Rattle.ent_semantics.specs.declared.entangled.Term.TheVariants as terms
use Rattle.ent_semantics.specs.declared.operand.Known.{Known}
use Rattle.ent_semantics.specs.declared.operand.Operand.{Operand}
use Rattle.ent_semantics.specs.declared.operand.Operand.TheVariants as operands
use Rattle.ent_semantics.specs.declared.statement.Select.{Select}
use Rattle.ent_semantics.specs.declared.statement.Statement.{Statement}
use Rattle.ent_semantics.specs.declared.statement.Statement.TheVariants as statements

-- ---- lists

mapped : {A B C : Type 0} (f : A → B) (g : B → C) (h : A → C) (xs : List A) → ((x : A) → g (f x) ≡ h x)
    → map g (map f xs) ≡ map h xs
mapped f g h [] e = refl
mapped f g h (x ∷ xs) e = let rest = mapped f g h xs e in λ i. e x i ∷ rest i

all_over : {A B : Type 0} (f : A → B) (p : B → Bool) (q : A → Bool) (xs : List A) → ((x : A) → p (f x) ≡ q x)
    → list_all p (map f xs) ≡ list_all q xs
all_over f p q [] e = refl
all_over f p q (x ∷ xs) e = let rest = all_over f p q xs e in λ i. e x i && rest i

-- ---- tests and expressions

holds_over : {A B : Type 0} (f : A → B) (worth : B → Value) (own : A → Value) (test : Test A)
    → ((x : A) → worth (f x) ≡ own x) → holds worth (test_over f test) ≡ holds own test
holds_over f worth own test e = λ i. holds (λ x. e x i) test

value_over : {A B : Type 0} (f : A → B) (worth : B → Value) (own : A → Value) (expression : Expression A)
    → ((x : A) → worth (f x) ≡ own x)
    → expression_value worth (expression_over f expression) ≡ expression_value own expression
value_over f worth own (Single x) e = λ i. expression_value (λ x. e x i) (Single x)
value_over f worth own (Sum x y) e = λ i. expression_value (λ x. e x i) (Sum x y)
value_over f worth own (Difference x y) e = λ i. expression_value (λ x. e x i) (Difference x y)

module _ {K J : Type 0} (other : K → J) (worth : J → Value) where
  operand_same : (row : List Value) (operand : Operand K)
      → operand_worth worth row (operand_over other operand) ≡ operand_worth (λ k. worth (other k)) row operand
  operand_same row (operands.Known k) = refl
  operand_same row (operands.Column number) = refl

  term_same : (valuation : Valuation) (term : Term K)
      → term_worth worth valuation (term_over other term) ≡ term_worth (λ k. worth (other k)) valuation term
  term_same valuation (terms.Known k) = refl
  term_same valuation (terms.Variable number) = refl

  meets_same : (tests : List (Test (Operand K)))
      → meets (operand_worth worth) (tests_over other tests) ≡ meets (operand_worth (λ k. worth (other k))) tests
  meets_same tests =
      λ i row. all_over (test_over (operand_over other)) (holds (operand_worth worth row))
      (holds (operand_worth (λ k. worth (other k)) row)) tests
      (λ test. holds_over (operand_over other) (operand_worth worth row) (operand_worth (λ k. worth (other k)) row) test
      (operand_same row)) i

  items_same : (items : List (Operand K)) (row : List Value)
      → map (operand_worth worth row) (map (operand_over other) items)
      ≡ map (operand_worth (λ k. worth (other k)) row) items
  items_same items row =
      mapped (operand_over other) (operand_worth worth row) (operand_worth (λ k. worth (other k)) row) items
      (operand_same row)

  pub rows_same : (tables : Tables) (select : Select K)
      → form_rows worth tables (select_over other select) ≡ form_rows (λ k. worth (other k)) tables select
  rows_same tables select =
      λ i. selection (meets_same select.tests i) (λ row. items_same select.items row i)
      (map (λ number. (table_numbered number).rows tables) select.sources)

  terms_same : (valuation : Valuation) (terms : List (Term K))
      → map (term_worth worth valuation) (map (term_over other) terms)
      ≡ map (term_worth (λ k. worth (other k)) valuation) terms
  terms_same valuation terms =
      mapped (term_over other) (term_worth worth valuation) (term_worth (λ k. worth (other k)) valuation) terms
      (term_same valuation)

  facts_same : (valuation : Valuation) (atoms : List (Atom K))
      → map (atom_fact worth valuation) (map (atom_over other) atoms)
      ≡ map (atom_fact (λ k. worth (other k)) valuation) atoms
  facts_same valuation atoms =
      mapped (atom_over other) (atom_fact worth valuation) (atom_fact (λ k. worth (other k)) valuation) atoms
      (λ atom i. record { relation = atom.relation; values = terms_same valuation atom.terms i })

  pub grounding_same : (tables : Tables) (entangled : Entangled K) (valuation : Valuation)
      → is_form_grounding worth tables (entangled_over other entangled) valuation
      ≡ is_form_grounding (λ k. worth (other k)) tables entangled valuation
  grounding_same tables entangled valuation =
      let atoms = all_over (membership_over other) (membership_holds worth tables valuation)
      (membership_holds (λ k. worth (other k)) tables valuation) entangled.atoms
      (λ membership i. set.contains (rows_same tables membership.select i) (terms_same valuation membership.terms i)) in
      let tests = all_over (test_over (term_over other)) (holds (term_worth worth valuation))
      (holds (term_worth (λ k. worth (other k)) valuation)) entangled.tests
      (λ test. holds_over (term_over other) (term_worth worth valuation)
      (term_worth (λ k. worth (other k)) valuation) test (term_same valuation)) in
      λ i. (length valuation == length entangled.variables) && (atoms i && tests i)

  bound_same : (entangled : Entangled K) (valuation : Valuation)
      → form_bound worth (entangled_over other entangled) valuation
      ≡ form_bound (λ k. worth (other k)) entangled valuation
  bound_same entangled valuation =
      mapped (binding_over other) (λ bind. (bind.variable, term_worth worth valuation bind.term))
      (λ bind. (bind.variable, term_worth (λ k. worth (other k)) valuation bind.term)) entangled.binds
      (λ bind i. (bind.variable, term_same valuation bind.term i))

  image_same : (image : List (Expression (Operand K))) (row : List Value)
      → all_there (map (expression_value (operand_worth worth row)) (map (expression_over (operand_over other)) image))
      ≡ all_there (map (expression_value (operand_worth (λ k. worth (other k)) row)) image)
  image_same image row =
      ap all_there (mapped (expression_over (operand_over other)) (expression_value (operand_worth worth row))
      (expression_value (operand_worth (λ k. worth (other k)) row)) image
      (λ expression. value_over (operand_over other) (operand_worth worth row)
      (operand_worth (λ k. worth (other k)) row) expression (operand_same row)))

-- ---- closing

pub closed_grounding : (environment : Environment) (tables : Tables) (entangled : Entangled Known)
    (valuation : Valuation)
    → is_form_grounding (λ value. value) tables (closed_entangled environment entangled) valuation
    ≡ is_form_grounding (known_worth environment) tables entangled valuation
closed_grounding environment tables entangled valuation =
    grounding_same (known_worth environment) (λ value. value) tables entangled valuation

pub closed_heads : (environment : Environment) (entangled : Entangled Known) (valuation : Valuation)
    → form_heads (λ value. value) (closed_entangled environment entangled) valuation
    ≡ form_heads (known_worth environment) entangled valuation
closed_heads environment entangled valuation =
    facts_same (known_worth environment) (λ value. value) valuation entangled.heads

pub closed_posts : (environment : Environment) (entangled : Entangled Known) (valuation : Valuation)
    → form_posts (λ value. value) (closed_entangled environment entangled) valuation
    ≡ form_posts (known_worth environment) entangled valuation
closed_posts environment entangled valuation =
    facts_same (known_worth environment) (λ value. value) valuation entangled.posts

pub closed_meaning : (statement : Statement Known) (valuation : Valuation) (tables : Tables) (environment : Environment)
    → form_meaning closed_worth (closed environment statement) valuation tables environment
    ≡ form_meaning known_worth statement valuation tables environment
closed_meaning (statements.Select select) valuation tables environment =
    ap (λ rows. shown rows tables environment)
    (rows_same (known_worth environment) (closed_worth environment) tables select)
closed_meaning (statements.Entangled entangled) valuation tables environment =
    let heads = facts_same (known_worth environment) (closed_worth environment) valuation entangled.heads in
    let bound = bound_same (known_worth environment) (closed_worth environment) entangled valuation in
    λ i. heads_given (heads i) (bound i) tables environment
closed_meaning (statements.Insert table values) valuation tables environment =
    ap (λ row. insertion (table_numbered table) row tables environment)
    (mapped (known_worth environment) (closed_worth environment) (known_worth environment) values (λ k. refl))
closed_meaning (statements.Delete table tests) valuation tables environment =
    ap (λ matches. deletion (table_numbered table) matches tables environment)
    (meets_same (known_worth environment) (closed_worth environment) tests)
closed_meaning (statements.Update table image tests) valuation tables environment =
    let matches = meets_same (known_worth environment) (closed_worth environment) tests in
    λ i. replacement (table_numbered table) (matches i)
    (λ row. image_same (known_worth environment) (closed_worth environment) image row i) tables environment
closed_meaning (statements.Set variable expression) valuation tables environment =
    ap (λ value. setting variable value tables environment)
    (value_over (known_worth environment) (closed_worth environment) (known_worth environment) expression (λ k. refl))
