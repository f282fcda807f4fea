-- What a grammar spells.
use Rattle.std.specs.Prelude.{◌≡◌, ◌≤◌, Bool, true, nat_le, length, ◌⊎◌}
use Rattle.ent_text.specs.Class.{positive, class_of}
use Rattle.ent_text.specs.Phrase.{Phrase, ◌⨾◌, nothing, Single, all}
use Rattle.ent_text.specs.Grammar.{Grammar, give, token, up_to, chain, pick, many, more}

-- one thing, and behind it another that may depend on the first one's value
abbrev pub chained : {A B : Type 0} → (A → Phrase) → (A → B → Phrase) → B → Phrase
chained {A} one other y tokens = (x : A) × (one x ⨾ other x y) tokens

-- The tokens that spell this value: those that keep the limits, or those of any size.
abbrev pub spells : {A : Type 0} → Grammar A → Bool → A → Phrase
spells (give x) kept y = λ ts. (y ≡ x) × nothing ts
spells (token c) kept y = Single c y
spells (up_to most) kept y = λ ts. Single positive y ts × (kept ≡ true → nat_le y.0 most ≡ true)
spells (chain g next) kept y = chained (spells g kept) (λ x. spells (next x) kept) y
spells (pick g h) kept y = λ ts. spells g kept y ts ⊎ spells h kept y ts
spells (many limit item) kept xs = λ ts. all (spells item kept) xs ts × (kept ≡ true → length xs ≤ limit)
spells (more limit divider item) kept xs = λ ts.
    all (chained (Single (class_of divider)) (λ place. spells item kept)) xs ts × (kept ≡ true → length xs ≤ limit)
