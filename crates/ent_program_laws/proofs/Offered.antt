-- What an entangled statement offers and binds can be told, where its grounding's values can.
use Rattle.std.proofs.Common.{◌≡◌, ◌≢◌, Bool, true, false, List, [], ◌∷◌, ◌++◌, map, length, Option, Some, None}
use Rattle.std.proofs.Common.{arith}
use Rattle.std.specs.Prelude.{if◌then◌else◌}
use Rattle.std.specs.List.{AllByRecursion, flat_map}
use Rattle.std.proofs.lemmas.List.{length-map}
use Rattle.ent_value.specs.declared.value.Value.{Value}
use Rattle.ent_tree.specs.declared.entangled.Entangled.{Entangled}
use Rattle.ent_tree.specs.declared.entangled.EntangledItem.{EntangledItem}
use Rattle.ent_tree.specs.declared.entangled.Term.{Term}
use Rattle.ent_tree.specs.declared.entangled.Term.TheVariants as terms
use Rattle.ent_tree.specs.declared.operand.Identifier.{Identifier}
use Rattle.ent_print.specs.Reading.{CanBeRead}
use Rattle.ent_print.specs.Spelling.{binding_spelling, comma_list, condition_spelling, entangled_item_spelling}
use Rattle.ent_print.specs.Spelling.{entangled_spelling, relation_spelling, sign, term_spelling, where_clause, word}
use Rattle.ent_print.specs.Lexeme.{Lexeme, Token}
use Rattle.ent_text.specs.declared.keyword.Keyword.TheVariants as keywords
use Rattle.ent_text.specs.declared.symbol.Symbol.TheVariants as symbols
use Rattle.ent_text.specs.declared.token.TokenKind.TheVariants.{Number}
use Rattle.ent_semantics.specs.Database.{Environment, Name, same_name}
use Rattle.ent_semantics.specs.Entangled.{Valuation, bound_values, facts, head_terms, heads, item_binds, term_worth}
use Rattle.ent_semantics.specs.Entangled.{variable_value, written_variables}
use Rattle.ent_sql_laws.specs.Fits.{EntangledFits}
use Rattle.ent_history.specs.Answers.{IsFact}
use Rattle.ent_history.specs.Parts.{IsRow, IsValue}
use Rattle.ent_lists.specs.Elements.{all_first, all_joined, all_second}
use Rattle.ent_program_laws.proofs.Read.{AreRead, separated_are_read}
use Rattle.ent_program_laws.proofs.Results.{some_mapped}
use Rattle.ent_program_laws.proofs.Values.{AreValues, HoldsValues, known_is_value, no_value_is_value}

-- ---- terms

pub variable_is_value : (names : List Name) (valuation : Valuation) (name : Name) → AreValues valuation
    → IsValue (variable_value names valuation name)
variable_is_value [] valuation name all = no_value_is_value
variable_is_value (variable ∷ names) [] name all = no_value_is_value
variable_is_value (variable ∷ names) (value ∷ valuation) name all =
    by (same_name variable name) (variable_is_value names valuation name all.1)
  where
    by : (b : Bool) → IsValue (variable_value names valuation name)
        → IsValue (if b then value else variable_value names valuation name)
    by true rest = all.0
    by false rest = rest

abbrev ItemIsRead : EntangledItem → Type 0
ItemIsRead item = AreRead (entangled_item_spelling item)

abbrev pub PairIsValue : Name × Value → Type 0
PairIsValue pair = IsValue pair.1

-- ---- heads

facts_are_told : (relations : List Identifier) (values : List Value)
    → AllByRecursion (λ (relation : Identifier). AreRead (relation_spelling relation)) relations → IsRow values
    → AllByRecursion IsFact (facts (map (λ (relation : Identifier). relation.name) relations) values)
facts_are_told [] values can is = tt
facts_are_told (relation ∷ more) values can is = ((can.0.1.0, is), facts_are_told more values can.1 is)

module _ (environment : Environment) (held : HoldsValues environment) (entangled : Entangled)
    (can : AreRead (entangled_spelling entangled)) (fits : EntangledFits entangled) (valuation : Valuation)
    (all : AreValues valuation) where
  term_is_value : (term : Term) → AreRead (term_spelling term)
      → IsValue (term_worth environment entangled valuation term)
  term_is_value (terms.Value value) can = known_is_value environment held value can
  term_is_value (terms.Variable variable) can =
      variable_is_value (written_variables entangled) valuation variable.name all

  abbrev behind_relations : List Lexeme
  behind_relations =
      where_clause condition_spelling entangled.conditions ++ word keywords.Choose ∷ Token (Number 1) ∷ []

  abbrev behind_items : List Lexeme
  behind_items = word keywords.Into ∷ (comma_list relation_spelling entangled.relations ++ behind_relations)

  items_are_read : AllByRecursion ItemIsRead entangled.items
  items_are_read =
      separated_are_read (sign symbols.Comma) entangled_item_spelling entangled.items
      (all_first CanBeRead (comma_list entangled_item_spelling entangled.items) behind_items can.1)

  relations_are_read : AllByRecursion (λ (relation : Identifier). AreRead (relation_spelling relation))
      entangled.relations
  relations_are_read =
      separated_are_read (sign symbols.Comma) relation_spelling entangled.relations
      (all_first CanBeRead (comma_list relation_spelling entangled.relations) behind_relations
      (all_second CanBeRead (comma_list entangled_item_spelling entangled.items) behind_items can.1).1)

  item_values : (items : List EntangledItem) → AllByRecursion ItemIsRead items
      → AreValues (map (term_worth environment entangled valuation) (map (λ (item : EntangledItem). item.term) items))
  item_values [] read = tt
  item_values (item ∷ more) read = (
    term_is_value item.term (all_first CanBeRead (term_spelling item.term) (binding_spelling item.binds) read.0),
    item_values more read.1,
  )

  abbrev worth : Term → Value
  worth = term_worth environment entangled valuation

  head_is_row : IsRow (map worth (head_terms entangled))
  head_is_row =
      let many : length (head_terms entangled) ≡ length entangled.items =
      length-map entangled.items (λ (item : EntangledItem). item.term) in (
        some_mapped worth (head_terms entangled) (omega (arith, many, fits.0.0)),
        item_values entangled.items items_are_read,
      )

  pub heads_are_told : (heads environment entangled valuation ≢ [])
      × AllByRecursion IsFact (heads environment entangled valuation)
  heads_are_told =
      let names = map (λ (relation : Identifier). relation.name) entangled.relations in
      let many : length names ≡ length entangled.relations =
      length-map entangled.relations (λ (relation : Identifier). relation.name) in
      let values = map worth (head_terms entangled) in (
        some_mapped (λ (name : Name). record { relation = name; values = values }) names
            (omega (arith, many, fits.1.0)),
        facts_are_told entangled.relations values relations_are_read head_is_row,
      )

  -- ---- what is bound

  one_bound : (binds : Option Identifier) (term : Term) → AreRead (term_spelling term)
      → AllByRecursion PairIsValue (item_binds worth (record { term = term; binds = binds }))
  one_bound None term can = tt
  one_bound (Some variable) term can = (term_is_value term can, tt)

  all_bound : (items : List EntangledItem) → AllByRecursion ItemIsRead items
      → AllByRecursion PairIsValue (flat_map (item_binds worth) items)
  all_bound [] read = tt
  all_bound (item ∷ more) read =
      all_joined PairIsValue (item_binds worth item) (flat_map (item_binds worth) more)
      (one_bound item.binds item.term
      (all_first CanBeRead (term_spelling item.term) (binding_spelling item.binds) read.0))
      (all_bound more read.1)

  pub bound_are_told : AllByRecursion PairIsValue (bound_values environment entangled valuation)
  bound_are_told = all_bound entangled.items items_are_read
