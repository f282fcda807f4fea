-- A demand in words.
use Rattle.std.specs.Prelude.{ℕ, List, [], ◌∷◌, ◌++◌, Option, Some, None, codes}
use Rattle.ent_value.specs.Print.{value_text}
use Rattle.ent_value.specs.declared.value.Value.{Value}
use Rattle.ent_semantics.specs.declared.entangled.Term.{Term}
use Rattle.ent_semantics.specs.declared.entangled.Term.TheVariants.{Known, Variable}

-- the value of a term, where it is known
abbrev pub known_value : Term Value → Option Value
known_value (Known value) = Some value
known_value (Variable variable) = None

-- a value where it is known
abbrev pub term_text : Option Value → List ℕ
term_text (Some value) = value_text value
term_text None = codes "_"

-- terms after the first, each behind a comma and a space
abbrev pub more_terms_text : {A : Type 0} → (A → Option Value) → List A → List ℕ
more_terms_text known [] = []
more_terms_text known (term ∷ more) = codes ", " ++ (term_text (known term) ++ more_terms_text known more)

abbrev pub terms_text : {A : Type 0} → (A → Option Value) → List A → List ℕ
terms_text known [] = []
terms_text known (term ∷ more) = term_text (known term) ++ more_terms_text known more

abbrev pub relation_text : List ℕ → List ℕ
relation_text relation = codes ") IN ANSWER " ++ relation

-- a demand as a script writes it
abbrev pub demand_text : {A : Type 0} → (A → Option Value) → List ℕ → List A → List ℕ
demand_text known relation terms = codes "(" ++ (terms_text known terms ++ relation_text relation)
