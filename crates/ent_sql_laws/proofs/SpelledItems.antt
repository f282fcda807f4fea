-- The items of an entangled SELECT: operands up to the first that binds a host variable, and items behind it.
use Rattle.std.proofs.Common.{◌≡◌, ℕ, Bool, true, List, [], ◌∷◌, ◌++◌, length, refl, ap, sym, ◌∙◌, append_assoc}
use Rattle.std.proofs.Common.{Option, Some, None, suc}
use Rattle.std.specs.Prelude.{◌&&◌}
use Rattle.std.proofs.lemmas.Bool.{and_parts}
use Rattle.std.proofs.lemmas.List.{append-nil}
use Rattle.ent_text.specs.declared.token.Token.{Token}
use Rattle.ent_tree.specs.declared.operand.Identifier.{Identifier}
use Rattle.ent_tree.specs.declared.operand.Operand.{Operand}
use Rattle.ent_tree.specs.declared.operand.Operand.TheVariants as operand_forms
use Rattle.ent_tree.specs.declared.entangled.Term.{Term}
use Rattle.ent_tree.specs.declared.entangled.Term.TheVariants as terms
use Rattle.ent_tree.specs.declared.entangled.EntangledItem.{EntangledItem}
use Rattle.ent_text.specs.declared.divider.Divider.TheVariants.{Comma}
use Rattle.ent_text.specs.Phrase.{Phrase, ◌⨾◌, all}
use Rattle.ent_sql.specs.Entangling.{is_plain, is_term, are_terms, term_of, items_of}
use Rattle.ent_sql_laws.specs.Phrases as phrases
use Rattle.ent_sql_laws.specs.Operands as operands
use Rattle.ent_sql_laws.specs.Entangling as said
use Rattle.ent_sql_laws.proofs.Shapes.{join}
use Rattle.ent_sql_laws.proofs.SpelledConditions.{to_left, to_right}

-- a thing behind a comma
abbrev pub another : {A : Type 0} → (A → Phrase) → A → Phrase
another thing x = phrases.divides Comma ⨾ thing x

-- one thing or more, with commas between them
abbrev pub heading : {A : Type 0} → (A → Phrase) → List A → Phrase
heading thing [] = λ tokens. ⊥
heading thing (x ∷ xs) = thing x ⨾ all (another thing) xs

comma_heading : {A : Type 0} (thing : A → Phrase) (xs : List A) (tokens : List Token)
    → (phrases.divides Comma ⨾ heading thing xs) tokens → all (another thing) xs tokens
comma_heading thing [] tokens h = absurd h.second
comma_heading thing (x ∷ xs) tokens h = to_left h

-- ---- operands read as terms

plain_name : (q : Option Identifier) (c : Identifier) (tokens : List Token) → is_plain q ≡ true
    → operands.behind_qualifier q c tokens → operands.identifier c tokens
plain_name None c tokens e h = h
plain_name (Some q) c tokens e h = absurd cc

as_term : (x : Operand) (tokens : List Token) → is_term x ≡ true → operands.operand x tokens
    → operands.term (term_of x) tokens
as_term (operand_forms.Value v) tokens e h = h
as_term (operand_forms.Column c) tokens e h = plain_name c.qualifier c.column tokens e h

pub items_to : (x : Operand) (xs : List Operand) (b : Option Identifier) (others : List EntangledItem)
    (first more last behind : List Token) → are_terms (x ∷ xs) ≡ true → operands.operand x first
    → all (another operands.operand) xs more → said.binding b last → all (another said.entangled_item) others behind
    → heading said.entangled_item (items_of (x ∷ xs) b ++ others) (first ++ (more ++ (last ++ behind)))
items_to x [] b others first more last behind e h hs k ks =
    join (first ++ last) behind
    (ap (λ (l : List Token). first ++ (l ++ (last ++ behind))) hs ∙ sym (append_assoc first last behind))
    (join first last refl (as_term x first (and_parts (is_term x) true e).0 h) k) ks
items_to x (y ∷ xs) b others first more last behind e h hs k ks =
    let parts = and_parts (is_term x) (are_terms (y ∷ xs)) e in
    let comma = hs.first.front in
    let next = hs.first.back in
    let rest = hs.back in
    let whole : more ++ (last ++ behind) ≡ comma ++ (next ++ (rest ++ (last ++ behind))) =
    ap (λ (l : List Token). l ++ (last ++ behind)) (hs.whole ∙ ap (λ (l : List Token). l ++ rest) hs.first.whole)
    ∙ append_assoc (comma ++ next) rest (last ++ behind) ∙ append_assoc comma next (rest ++ (last ++ behind)) in
    let others_so = items_to y xs b others next rest last behind parts.1 hs.first.second hs.second k ks in
    join first (comma ++ (next ++ (rest ++ (last ++ behind)))) (ap (λ (l : List Token). first ++ l) whole)
    (join first [] (sym (append-nil first)) (as_term x first parts.0 h) refl)
    (comma_heading said.entangled_item (items_of (y ∷ xs) b ++ others)
    (comma ++ (next ++ (rest ++ (last ++ behind))))
    (join comma (next ++ (rest ++ (last ++ behind))) refl hs.first.first others_so))

-- ---- terms read as operands

operand_of : Term → Operand
operand_of (terms.Value v) = operand_forms.Value v
operand_of (terms.Variable i) = operand_forms.Column (record { qualifier = None; column = i })

as_operand : (t : Term) (tokens : List Token) → operands.term t tokens → operands.operand (operand_of t) tokens
unfolding operand_of
as_operand (terms.Value v) tokens h = h
as_operand (terms.Variable i) tokens h = h

of_term : (t : Term) → term_of (operand_of t) ≡ t
unfolding operand_of
of_term (terms.Value v) = refl
of_term (terms.Variable i) = refl

is_one : (t : Term) → is_term (operand_of t) ≡ true
unfolding operand_of
is_one (terms.Value v) = refl
is_one (terms.Variable i) = refl

-- items as operands, what the last of them binds, and the items behind
pub record Split (items : List EntangledItem) (tokens : List Token) : Type 0 where
  pub head : Operand
  pub tail : List Operand
  pub binds : Option Identifier
  pub others : List EntangledItem
  pub first : List Token
  pub more : List Token
  pub last : List Token
  pub behind : List Token
  pub is : items ≡ items_of (head ∷ tail) binds ++ others
  pub whole : tokens ≡ first ++ (more ++ (last ++ behind))
  pub are : are_terms (head ∷ tail) ≡ true
  pub head_said : operands.operand head first
  pub tail_said : all (another operands.operand) tail more
  pub binding_said : said.binding binds last
  pub others_said : all (another said.entangled_item) others behind
  pub none : binds ≡ None → others ≡ []

-- nothing stands behind the first item, or it binds a host variable
split_here : (t : Term) (b : Option Identifier) (items : List EntangledItem) (tokens : List Token)
    → (said.entangled_item (record { term = t; binds = b }) ⨾ all (another said.entangled_item) items) tokens
    → (b ≡ None → items ≡ []) → Split (record { term = t; binds = b } ∷ items) tokens
split_here t b items tokens h none = record {
  head = operand_of t;
  tail = [];
  binds = b;
  others = items;
  first = h.first.front;
  more = [];
  last = h.first.back;
  behind = h.back;
  is = λ i. record { term = sym (of_term t) i; binds = b } ∷ items;
  whole = h.whole ∙ ap (λ (l : List Token). l ++ h.back) h.first.whole
      ∙ append_assoc h.first.front h.first.back h.back;
  are = ap (λ (c : Bool). c && true) (is_one t);
  head_said = as_operand t h.first.front h.first.first;
  tail_said = refl;
  binding_said = h.first.second;
  others_said = h.second;
  none = none;
}

split_on : (t : Term) (b : Option Identifier) (items : List EntangledItem) (tokens : List Token)
    → (said.entangled_item (record { term = t; binds = b }) ⨾ all (another said.entangled_item) items) tokens
    → ((rest : List Token) → heading said.entangled_item items rest → Split items rest)
    → Split (record { term = t; binds = b } ∷ items) tokens
split_on t (Some v) items tokens h onward = split_here t (Some v) items tokens h (λ e. absurd cc)
split_on t None [] tokens h onward = split_here t None [] tokens h (λ e. refl)
split_on t None (j ∷ items) tokens h onward =
    let k = to_right h.second in
    let s = onward k.back k.second in
    let first = h.first.front in
    let alone : h.front ≡ first =
    h.first.whole ∙ ap (λ (l : List Token). first ++ l) h.first.second ∙ append-nil first in
    let rest = s.last ++ s.behind in
    let back : h.back ≡ ((k.front ++ s.first) ++ s.more) ++ rest =
    k.whole ∙ ap (λ (l : List Token). k.front ++ l) s.whole
    ∙ sym (append_assoc (k.front ++ s.first) s.more rest ∙ append_assoc k.front s.first (s.more ++ rest)) in
    record {
      head = operand_of t;
      tail = s.head ∷ s.tail;
      binds = s.binds;
      others = s.others;
      first = first;
      more = (k.front ++ s.first) ++ s.more;
      last = s.last;
      behind = s.behind;
      is = λ i. record { term = sym (of_term t) i; binds = None } ∷ s.is i;
      whole = h.whole ∙ ap (λ (l : List Token). l ++ h.back) alone ∙ ap (λ (l : List Token). first ++ l) back;
      are = ap (λ (c : Bool). c && are_terms (s.head ∷ s.tail)) (is_one t) ∙ s.are;
      head_said = as_operand t first h.first.first;
      tail_said = join (k.front ++ s.first) s.more refl (join k.front s.first refl k.first s.head_said) s.tail_said;
      binding_said = s.binding_said;
      others_said = s.others_said;
      none = s.none;
    }

pub split : (items : List EntangledItem) (tokens : List Token) → heading said.entangled_item items tokens
    → Split items tokens
split [] tokens h = absurd h
split (i ∷ items) tokens h = split_on i.term i.binds items tokens h (λ rest k. split items rest k)

pub items_length : (xs : List Operand) (b : Option Identifier) → length (items_of xs b) ≡ length xs
items_length [] b = refl
items_length (x ∷ []) b = refl
items_length (x ∷ y ∷ xs) b = ap (λ (n : ℕ). suc n) (items_length (y ∷ xs) b)
