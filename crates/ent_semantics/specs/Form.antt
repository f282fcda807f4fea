-- What statements in this form mean, over the rows of tables in the order of their declaration.
use Rattle.std.specs.Prelude.{ℕ, Bool, ◌&&◌, ◌==◌, List, length, map, slice_index_or, slice_set}
use Rattle.std.specs.Prelude.{unwrap_or}
use Rattle.std.specs.List.{list_all}
use Rattle.ent_lists.specs.Sets as set
use Rattle.ent_value.specs.declared.value.Value.{Value}
use Rattle.ent_semantics.specs.declared.answer.Fact.{Fact}
use Rattle.ent_semantics.specs.Change.{all_there}
use Rattle.ent_semantics.specs.Database.{Name, Rows, Environment, Table}
use Rattle.ent_semantics.specs.Effect.{Meaning, insertion, deletion, replacement, setting, shown, heads_given}
use Rattle.ent_semantics.specs.Entangled.{Valuation}
use Rattle.ent_semantics.specs.Selection.{holds, meets, selection}
use Rattle.ent_semantics.specs.Term.{Worth, no_value, expression_value}
use Rattle.ent_semantics.specs.declared.entangled.Atom.{Atom}
use Rattle.ent_semantics.specs.declared.entangled.Entangled.{Entangled}
use Rattle.ent_semantics.specs.declared.entangled.Membership.{Membership}
use Rattle.ent_semantics.specs.declared.entangled.Term.{Term}
use Rattle.ent_semantics.specs.declared.entangled.Term.TheVariants as terms
use Rattle.ent_semantics.specs.declared.operand.Known.{Known}
use Rattle.ent_semantics.specs.declared.operand.Known.TheVariants as known
use Rattle.ent_semantics.specs.declared.operand.Operand.{Operand}
use Rattle.ent_semantics.specs.declared.operand.Operand.TheVariants as operands
use Rattle.ent_semantics.specs.declared.statement.Select.{Select}
use Rattle.ent_semantics.specs.declared.statement.Statement.{Statement}
use Rattle.ent_semantics.specs.declared.statement.Statement.TheVariants as statements

-- the rows of tables, in the order of their declaration
abbrev pub Tables : Type 0
Tables = List Rows

-- the table of a number
abbrev pub table_numbered : ℕ → Table Tables
table_numbered number =
    record {
      rows = λ tables. slice_index_or tables number set.empty;
      replaced = λ tables rows. slice_set tables number rows;
    }

-- what is known before any row is read, in a resolved statement and in a closed one
abbrev pub known_worth : Environment → Known → Value
known_worth environment (known.Constant value) = value
known_worth environment (known.HostVariable variable) = unwrap_or (environment variable) no_value

abbrev pub closed_worth : Environment → Value → Value
closed_worth environment value = value

-- over what a K is worth
module _ {K : Type 0} where
  abbrev pub operand_worth : (K → Value) → Worth (Operand K)
  operand_worth worth row (operands.Known k) = worth k
  operand_worth worth row (operands.Column number) = slice_index_or row number no_value

  abbrev pub term_worth : (K → Value) → Valuation → Term K → Value
  term_worth worth valuation (terms.Known k) = worth k
  term_worth worth valuation (terms.Variable number) = slice_index_or valuation number no_value

  -- the result of a SELECT
  abbrev pub form_rows : (K → Value) → Tables → Select K → Rows
  form_rows worth tables select =
      let value = operand_worth worth in
      selection (meets value select.tests) (λ row. map (value row) select.items)
      (map (λ number. slice_index_or tables number set.empty) select.sources)

  -- the fact that an atom is under a valuation
  abbrev pub atom_fact : (K → Value) → Valuation → Atom K → Fact
  atom_fact worth valuation atom =
      record { relation = atom.relation; values = map (term_worth worth valuation) atom.terms }

  abbrev pub form_heads : (K → Value) → Entangled K → Valuation → List Fact
  form_heads worth entangled valuation = map (atom_fact worth valuation) entangled.heads

  abbrev pub form_posts : (K → Value) → Entangled K → Valuation → List Fact
  form_posts worth entangled valuation = map (atom_fact worth valuation) entangled.posts

  -- a tuple is a row of its select's result
  abbrev pub membership_holds : (K → Value) → Tables → Valuation → Membership K → Bool
  membership_holds worth tables valuation membership =
      set.contains (form_rows worth tables membership.select) (map (term_worth worth valuation) membership.terms)

  -- a value for exactly the written variables, under which each membership and each test holds
  abbrev pub is_form_grounding : (K → Value) → Tables → Entangled K → Valuation → Bool
  is_form_grounding worth tables entangled valuation =
      (length valuation == length entangled.variables)
      && (list_all (membership_holds worth tables valuation) entangled.atoms
      && list_all (holds (term_worth worth valuation)) entangled.tests)

  -- the host variables that are bound after the answer
  abbrev pub form_bound : (K → Value) → Entangled K → Valuation → List (Name × Value)
  form_bound worth entangled valuation =
      map (λ bind. (bind.variable, term_worth worth valuation bind.term)) entangled.binds

  -- An entangled statement is answered under a valuation, which others have no use for.
  abbrev pub form_meaning : (Environment → K → Value) → Statement K → Valuation → Meaning Tables
  form_meaning worth (statements.Select select) valuation tables environment =
      shown (form_rows (worth environment) tables select) tables environment
  form_meaning worth (statements.Entangled entangled) valuation tables environment =
      heads_given (form_heads (worth environment) entangled valuation)
      (form_bound (worth environment) entangled valuation) tables environment
  form_meaning worth (statements.Insert table values) valuation tables environment =
      insertion (table_numbered table) (map (worth environment) values) tables environment
  form_meaning worth (statements.Delete table tests) valuation tables environment =
      deletion (table_numbered table) (meets (operand_worth (worth environment)) tests) tables environment
  form_meaning worth (statements.Update table image tests) valuation tables environment =
      let value = operand_worth (worth environment) in
      replacement (table_numbered table) (meets value tests)
      (λ row. all_there (map (expression_value (value row)) image)) tables environment
  form_meaning worth (statements.Set variable expression) valuation tables environment =
      setting variable (expression_value (worth environment) expression) tables environment
