-- Grammars that one token decides: what comes next says how to go on.
use Rattle.std.specs.Prelude.{◌≡◌, true, nat_le, List, [], ◌∷◌, ◌++◌, Option, Some, None}
use Rattle.ent_text.specs.Class.{Class, word, sign, name, variable, number, positive, one, text, Given, apart}
use Rattle.ent_text.specs.Class.{dividers, class_of}
use Rattle.ent_text.specs.Grammar.{Grammar, give, token, up_to, chain, pick, many, more, nullable, firsts}

abbrev pub sample_of : (c : Class) → Given c
sample_of (word w) = 0
sample_of (sign s) = 0
sample_of name = (120 ∷ [], 0)
sample_of variable = (120 ∷ [], 0)
sample_of number = (1, 0)
sample_of positive = (1, 0)
sample_of one = 0
sample_of text = ([], 0)

-- a value that the grammar gives
abbrev pub sample : {A : Type 0} → Grammar A → A
sample (give x) = x
sample (token c) = sample_of c
sample (up_to most) = (1, 0)
sample (chain g next) = sample (next (sample g))
sample (pick g h) = sample g
sample (many limit item) = []
sample (more limit divider item) = []

-- these classes, if there is a value
abbrev pub if_some : {A : Type 0} → Option A → List Class → List Class
if_some None follow = []
if_some (Some x) follow = follow

-- The next token decides where tokens of these classes may follow: whether to go on with a list, and which of two
-- things to take. No thing of a list begins with a divider.
abbrev pub IsPredictive : {A : Type 0} → Grammar A → List Class → Type 0
IsPredictive (give x) follow = Unit {0}
IsPredictive (token c) follow = Unit {0}
IsPredictive (up_to most) follow = nat_le 1 most ≡ true
IsPredictive (chain {A} {B} g next) follow = (x : A)
    → IsPredictive g (firsts (next x) ++ if_some (nullable (next x)) follow) × IsPredictive (next x) follow
IsPredictive (pick g h) follow = (nullable g ≡ None)
    × (apart (firsts g) (firsts h ++ if_some (nullable h) follow) ≡ true)
    × IsPredictive g follow × IsPredictive h follow
IsPredictive (many limit item) follow = (nullable item ≡ None) × (apart (firsts item) follow ≡ true)
    × (apart (firsts item) dividers ≡ true) × IsPredictive item (firsts item ++ follow)
IsPredictive (more limit divider item) follow = (nullable item ≡ None) × (apart (class_of divider ∷ []) follow ≡ true)
    × (apart (firsts item) dividers ≡ true) × IsPredictive item (class_of divider ∷ follow)
