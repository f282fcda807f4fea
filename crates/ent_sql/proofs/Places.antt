-- Things stand at their first token.
use Rattle.std.proofs.Common.{◌≡◌, ℕ, Bool, true, false, List, ◌∷◌, ◌++◌, Some, None, sym, ap, ◌∙◌, append_assoc, inl}
use Rattle.std.proofs.Common.{inr, ◌⊎◌}
use Rattle.ent_text.specs.declared.token.Token.{Token}
use Rattle.ent_text.specs.declared.token.TokenKind.{TokenKind}
use Rattle.ent_text.specs.declared.token.TokenKind.TheVariants as kinds
use Rattle.ent_text.specs.declared.symbol.Symbol.TheVariants as signs
use Rattle.ent_tree.specs.Places.{value_place, term_place}
use Rattle.ent_text.specs.Read.{place_of}
use Rattle.ent_text.specs.Class.{Class, word, sign, name, variable, number, positive, one, text, Given, given, if_so}
use Rattle.ent_text.specs.Phrase.{Phrase, ◌⨾◌, nothing, Single}
use Rattle.ent_text.proofs.Classes.{by_either}
use Rattle.ent_text.specs.GrammarSpelling.{spells, chained}
use Rattle.ent_tree.specs.declared.operand.Identifier.{Identifier}
use Rattle.ent_tree.specs.declared.operand.Literal.{Literal}
use Rattle.ent_tree.specs.declared.operand.ValueSpecification.{ValueSpecification}
use Rattle.ent_tree.specs.declared.operand.ColumnReference.{ColumnReference}
use Rattle.ent_tree.specs.declared.operand.Operand.{Operand}
use Rattle.ent_tree.specs.declared.operand.Expression.{Expression}
use Rattle.ent_tree.specs.declared.entangled.Term.{Term}
use Rattle.ent_tree.specs.declared.entangled.Tuple.{Tuple}
use Rattle.ent_tree.specs.declared.entangled.Condition.{Condition}
use Rattle.ent_sql.specs.Operands as grammar
use Rattle.ent_sql.specs.Entangling as entangling
use Rattle.ent_sql.specs.Places.{place_before, place_of_operand, place_of_expression, place_of_condition}

-- ---- tokens

-- where what a token gives says that it stands
abbrev place_given : (c : Class) → Given c → ℕ
place_given (word w) x = x
place_given (sign s) x = x
place_given name x = x.1
place_given variable x = x.1
place_given number x = x.1
place_given positive x = x.1
place_given one x = x
place_given text x = x.1

if_so_is : {A : Type 0} (b : Bool) (x y : A) → if_so b x ≡ Some y → x ≡ y
if_so_is true x y e = cc
if_so_is false x y e = absurd cc

at_place : (c : Class) (k : TokenKind) (p : ℕ) (x : Given c) → given c k p ≡ Some x → p ≡ place_given c x
at_place (word w) (kinds.Word v) p x e = if_so_is _ p x e
at_place (sign s) (kinds.Sign v) p x e = if_so_is _ p x e
at_place name (kinds.Name n) p x e = let k : (n, p) ≡ x = cc in ap (λ (z : List ℕ × ℕ). z.1) k
at_place variable (kinds.HostVariable n) p x e = let k : (n, p) ≡ x = cc in ap (λ (z : List ℕ × ℕ). z.1) k
at_place number (kinds.Number n) p x e = let k : (n, p) ≡ x = cc in ap (λ (z : ℕ × ℕ). z.1) k
at_place positive (kinds.Number n) p x e = ap (λ (z : ℕ × ℕ). z.1) (if_so_is _ (n, p) x e)
at_place one (kinds.Number n) p x e = if_so_is _ p x e
at_place text (kinds.Literal n) p x e = let k : (n, p) ≡ x = cc in ap (λ (z : List ℕ × ℕ). z.1) k
at_place _ _ p x e = absurd cc

module _ (end : ℕ) where
  -- the thing of these tokens stands at the first of them
  abbrev Stands : List Token → ℕ → Type 0
  Stands ts place = (rest : List Token) → place_of end (ts ++ rest) ≡ place

  single_stands : (c : Class) (x : Given c) (ts : List Token) → Single c x ts → Stands ts (place_given c x)
  single_stands c x ts h rest = ap (λ (us : List Token). place_of end (us ++ rest)) h.whole
      ∙ at_place c h.token.kind h.token.start x h.is_given

  -- what begins with a thing stands where the thing does
  begins_there : {first_phrase other : Phrase} {place : ℕ} (ts : List Token) (h : (first_phrase ⨾ other) ts)
      → Stands h.front place → Stands ts place
  begins_there ts h stands rest = ap (λ (us : List Token). place_of end (us ++ rest)) h.whole
      ∙ ap (place_of end) (append_assoc h.front h.back rest) ∙ stands (h.back ++ rest)

  along : (ts : List Token) {p q : ℕ} → p ≡ q → Stands ts p → Stands ts q
  along ts e h rest = h rest ∙ e

  -- ---- values

  name_stands : (kept : Bool) (y : Identifier) (ts : List Token) → spells grammar.identifier kept y ts
      → Stands ts y.place
  unfolding grammar.identifier
  name_stands kept y ts h = along ts (sym (ap (λ (z : Identifier). z.place) h.1.second.0))
      (begins_there ts h.1 (single_stands name h.0 h.1.front h.1.first))

  variable_stands : (kept : Bool) (y : Identifier) (ts : List Token) → spells grammar.host_variable kept y ts
      → Stands ts y.place
  unfolding grammar.host_variable
  variable_stands kept y ts h = along ts (sym (ap (λ (z : Identifier). z.place) h.1.second.0))
      (begins_there ts h.1 (single_stands variable h.0 h.1.front h.1.first))

  pub literal_stands : (kept : Bool) (y : Literal) (ts : List Token) → spells grammar.literal kept y ts
      → Stands ts y.place
  unfolding grammar.literal grammar.negative grammar.unsigned grammar.positive grammar.quoted
  literal_stands kept y ts (inl h) = along ts (sym (ap (λ (z : Literal). z.place) h.1.second.1.second.0))
      (begins_there ts h.1 (single_stands (sign signs.Minus) h.0 h.1.front h.1.first))
  literal_stands kept y ts (inr (inl h)) = along ts (sym (ap (λ (z : Literal). z.place) h.1.second.0))
      (begins_there ts h.1 (single_stands number h.0 h.1.front h.1.first))
  literal_stands kept y ts (inr (inr h)) = along ts (sym (ap (λ (z : Literal). z.place) h.1.second.0))
      (begins_there ts h.1 (single_stands text h.0 h.1.front h.1.first))

  pub value_stands : (kept : Bool) (y : ValueSpecification) (ts : List Token) → spells grammar.value kept y ts
      → Stands ts (value_place y)
  unfolding grammar.value
  value_stands kept y ts (inl h) =
      along ts (sym (ap value_place h.1.second.0)) (begins_there ts h.1 (variable_stands kept h.0 h.1.front h.1.first))
  value_stands kept y ts (inr h) =
      along ts (sym (ap value_place h.1.second.0)) (begins_there ts h.1 (literal_stands kept h.0 h.1.front h.1.first))

  pub term_stands : (kept : Bool) (y : Term) (ts : List Token) → spells grammar.term kept y ts
      → Stands ts (term_place y)
  unfolding grammar.term
  term_stands kept y ts (inl h) =
      along ts (sym (ap term_place h.1.second.0)) (begins_there ts h.1 (name_stands kept h.0 h.1.front h.1.first))
  term_stands kept y ts (inr h) =
      along ts (sym (ap term_place h.1.second.0)) (begins_there ts h.1 (value_stands kept h.0 h.1.front h.1.first))

  abbrev Qualified : Bool → Identifier → ColumnReference → Phrase
  Qualified kept first y = chained (Single (sign signs.Dot))
      (λ p y. chained (spells grammar.identifier kept)
      (λ c y us. (y ≡ record { qualifier = Some first; column = c }) × nothing us) y) y

  behind_place : (kept : Bool) (first : Identifier) (y : ColumnReference) (ts : List Token)
      → Qualified kept first y ts ⊎ ((y ≡ record { qualifier = None; column = first }) × nothing ts)
      → first.place ≡ place_before y.qualifier y.column
  behind_place kept first y ts (inl h) =
      sym (ap (λ (z : ColumnReference). place_before z.qualifier z.column) h.1.second.1.second.0)
  behind_place kept first y ts (inr h) = sym (ap (λ (z : ColumnReference). place_before z.qualifier z.column) h.0)

  reference_stands : (kept : Bool) (y : ColumnReference) (ts : List Token) → spells grammar.column_reference kept y ts
      → Stands ts (place_before y.qualifier y.column)
  unfolding grammar.column_reference
  reference_stands kept y ts h = along ts (behind_place kept h.0 y h.1.back h.1.second)
      (begins_there ts h.1 (name_stands kept h.0 h.1.front h.1.first))

  pub operand_stands : (kept : Bool) (y : Operand) (ts : List Token) → spells grammar.operand kept y ts
      → Stands ts (place_of_operand y)
  unfolding grammar.operand
  operand_stands kept y ts (inl h) = along ts (sym (ap place_of_operand h.1.second.0))
      (begins_there ts h.1 (reference_stands kept h.0 h.1.front h.1.first))
  operand_stands kept y ts (inr h) = along ts (sym (ap place_of_operand h.1.second.0))
      (begins_there ts h.1 (value_stands kept h.0 h.1.front h.1.first))

  first_operand : (kept : Bool) (first : Operand) (y : Expression Operand) (ts : List Token)
      → spells (grammar.expression_behind grammar.operand first) kept y ts
      → place_of_operand first ≡ place_of_expression y
  unfolding grammar.expression_behind
  first_operand kept first y ts (inl h) = sym (ap place_of_expression h.1.second.1.second.0)
  first_operand kept first y ts (inr (inl h)) = sym (ap place_of_expression h.1.second.1.second.0)
  first_operand kept first y ts (inr (inr h)) = sym (ap place_of_expression h.0)

  pub expression_stands : (kept : Bool) (y : Expression Operand) (ts : List Token)
      → spells (grammar.expression grammar.operand) kept y ts → Stands ts (place_of_expression y)
  unfolding grammar.expression
  expression_stands kept y ts h = along ts (first_operand kept h.0 y h.1.back h.1.second)
      (begins_there ts h.1 (operand_stands kept h.0 h.1.front h.1.first))

  -- ---- conditions

  membership_place : (kept : Bool) (tuple : Tuple) (y : Condition) (ts : List Token)
      → spells (entangling.membership tuple) kept y ts → tuple.place ≡ place_of_condition y
  unfolding entangling.membership
  membership_place kept tuple y ts h =
      by_either h.1.second (λ k. sym (ap place_of_condition k.1.second.1.second.1.second.0))
      (λ k. sym (ap place_of_condition k.1.second.0))

  bracketed_stands : (kept : Bool) (y : Condition) (ts : List Token) → spells entangling.bracketed kept y ts
      → Stands ts (place_of_condition y)
  unfolding entangling.bracketed
  bracketed_stands kept y ts h =
      along ts (membership_place kept (record { place = h.0; terms = h.1.second.0 }) y h.1.second.1.second.1.back
      h.1.second.1.second.1.second) (begins_there ts h.1 (single_stands (sign signs.Open) h.0 h.1.front h.1.first))

  behind_term : (kept : Bool) (first : Term) (y : Condition) (ts : List Token)
      → spells (entangling.condition_behind first) kept y ts → term_place first ≡ place_of_condition y
  unfolding entangling.condition_behind entangling.comparison_behind entangling.tuple_behind
  behind_term kept first y ts (inl h) = sym (ap place_of_condition h.1.second.1.second.0)
  behind_term kept first y ts (inr h) =
      membership_place kept (record { place = term_place first; terms = first ∷ h.0 }) y h.1.back h.1.second

  pub condition_stands : (kept : Bool) (y : Condition) (ts : List Token) → spells entangling.condition kept y ts
      → Stands ts (place_of_condition y)
  unfolding entangling.condition
  condition_stands kept y ts (inl h) = bracketed_stands kept y ts h
  condition_stands kept y ts (inr h) = along ts (behind_term kept h.0 y h.1.back h.1.second)
      (begins_there ts h.1 (term_stands kept h.0 h.1.front h.1.first))
