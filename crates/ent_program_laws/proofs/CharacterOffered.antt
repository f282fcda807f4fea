-- What an entangled statement offers and binds has the property, where its valuation has.
use Rattle.std.proofs.Common.{ℤ, Bool, true, false, List, [], ◌∷◌, ◌++◌, map, Option, Some, None}
use Rattle.std.specs.Prelude.{if◌then◌else◌}
use Rattle.std.specs.List.{AllByRecursion, flat_map}
use Rattle.ent_value.specs.declared.value.Value.{Value}
use Rattle.ent_value.specs.declared.value.Value.TheVariants.{Int}
use Rattle.ent_tree.specs.declared.entangled.Entangled.{Entangled}
use Rattle.ent_tree.specs.declared.entangled.EntangledItem.{EntangledItem}
use Rattle.ent_tree.specs.declared.entangled.Term.{Term}
use Rattle.ent_tree.specs.declared.entangled.Term.TheVariants as terms
use Rattle.ent_tree.specs.declared.operand.Identifier.{Identifier}
use Rattle.ent_print.specs.Lexeme.{Lexeme, Token}
use Rattle.ent_print.specs.Spelling.{binding_spelling, comma_list, condition_spelling, entangled_item_spelling}
use Rattle.ent_print.specs.Spelling.{entangled_spelling, relation_spelling, sign, term_spelling, where_clause, word}
use Rattle.ent_text.specs.declared.keyword.Keyword.TheVariants as keywords
use Rattle.ent_text.specs.declared.symbol.Symbol.TheVariants as symbols
use Rattle.ent_text.specs.declared.token.TokenKind.TheVariants.{Number}
use Rattle.ent_semantics.specs.Database.{Environment, Name, same_name}
use Rattle.ent_semantics.specs.Entangled.{Valuation, bound_values, facts, head_terms, heads, item_binds, term_worth}
use Rattle.ent_semantics.specs.Entangled.{variable_value, written_variables}
use Rattle.ent_lists.specs.Elements.{all_first, all_joined}
use Rattle.ent_program_laws.specs.Values.{BindsValues, IsWritten, StatesValues}
use Rattle.ent_program_laws.proofs.Worth.{known_has, no_value_has}
use Rattle.ent_program_laws.proofs.Written.{separated_are_written}

module _ (P : Value → Type 0) (numbers : (number : ℤ) → P (Int number)) where
  abbrev AreWritten : List Lexeme → Type 0
  AreWritten lexemes = AllByRecursion (IsWritten P) lexemes

  abbrev ItemIsWritten : EntangledItem → Type 0
  ItemIsWritten item = AreWritten (entangled_item_spelling item)

  abbrev PairHas : Name × Value → Type 0
  PairHas pair = P pair.1

  variable_has : (names : List Name) (valuation : Valuation) (name : Name) → AllByRecursion P valuation
      → P (variable_value names valuation name)
  variable_has [] valuation name all = no_value_has P numbers
  variable_has (variable ∷ names) [] name all = no_value_has P numbers
  variable_has (variable ∷ names) (value ∷ valuation) name all =
      by (same_name variable name) (variable_has names valuation name all.1)
    where
      by : (b : Bool) → P (variable_value names valuation name)
          → P (if b then value else variable_value names valuation name)
      by true rest = all.0
      by false rest = rest

  -- one row in each relation
  facts_have : (relations : List Name) (values : List Value) → AllByRecursion P values
      → AllByRecursion (StatesValues P) (facts relations values)
  facts_have [] values has = tt
  facts_have (relation ∷ more) values has = (has, facts_have more values has)

  module _ (environment : Environment) (binds : BindsValues P environment) (entangled : Entangled)
      (writes : AreWritten (entangled_spelling entangled)) (valuation : Valuation)
      (all : AllByRecursion P valuation) where
    abbrev worth : Term → Value
    worth = term_worth environment entangled valuation

    term_has : (term : Term) → AreWritten (term_spelling term) → P (worth term)
    term_has (terms.Value value) writes = known_has P numbers environment binds value writes
    term_has (terms.Variable variable) writes =
        variable_has (written_variables entangled) valuation variable.name all

    abbrev behind_items : List Lexeme
    behind_items =
        word keywords.Into ∷ (comma_list relation_spelling entangled.relations
        ++ (where_clause condition_spelling entangled.conditions ++ word keywords.Choose ∷ Token (Number 1) ∷ []))

    items_are_written : AllByRecursion ItemIsWritten entangled.items
    items_are_written =
        separated_are_written (IsWritten P) (sign symbols.Comma) entangled_item_spelling entangled.items
        (all_first (IsWritten P) (comma_list entangled_item_spelling entangled.items) behind_items writes.1)

    item_has : (item : EntangledItem) → ItemIsWritten item → P (worth item.term)
    item_has item written =
        term_has item.term (all_first (IsWritten P) (term_spelling item.term) (binding_spelling item.binds) written)

    -- ---- heads

    items_have : (items : List EntangledItem) → AllByRecursion ItemIsWritten items
        → AllByRecursion P (map worth (map (λ (item : EntangledItem). item.term) items))
    items_have [] written = tt
    items_have (item ∷ more) written = (item_has item written.0, items_have more written.1)

    pub heads_have : AllByRecursion (StatesValues P) (heads environment entangled valuation)
    heads_have =
        facts_have (map (λ (relation : Identifier). relation.name) entangled.relations)
        (map worth (head_terms entangled)) (items_have entangled.items items_are_written)

    -- ---- what is bound

    one_bound : (binds : Option Identifier) (term : Term) → P (worth term)
        → AllByRecursion PairHas (item_binds worth (record { term = term; binds = binds }))
    one_bound None term has = tt
    one_bound (Some variable) term has = (has, tt)

    all_bound : (items : List EntangledItem) → AllByRecursion ItemIsWritten items
        → AllByRecursion PairHas (flat_map (item_binds worth) items)
    all_bound [] written = tt
    all_bound (item ∷ more) written =
        all_joined PairHas (item_binds worth item) (flat_map (item_binds worth) more)
        (one_bound item.binds item.term (item_has item written.0)) (all_bound more written.1)

    pub bound_have : AllByRecursion PairHas (bound_values environment entangled valuation)
    bound_have = all_bound entangled.items items_are_written
