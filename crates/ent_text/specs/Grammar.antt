-- A grammar as data, and how it is read.
use Rattle.std.specs.Prelude.{ℕ, ◌-◌, nat_le, List, [], ◌∷◌, ◌++◌, Option, Some, None, Result, Ok, Err, cond, drop}
use Rattle.ent_text.specs.declared.token.Token.{Token}
use Rattle.ent_text.specs.declared.token.TokenKind.{TokenKind}
use Rattle.ent_text.specs.Left.{kind_of_first}
use Rattle.ent_value.specs.Refusal.{◌>>=◌}
use Rattle.ent_text.specs.declared.grammar_fault.GrammarFault.{GrammarFault}
use Rattle.ent_text.specs.declared.grammar_fault.GrammarFault.TheVariants.{Unexpected, TooMany}
use Rattle.ent_text.specs.Read.{Read, begins, place_of}
use Rattle.ent_text.specs.declared.divider.Divider.{Divider}
use Rattle.ent_text.specs.Class.{Class, positive, Given, given, is, among, class_of}
use Rattle.ent_text.specs.List.{more_at, many_at}

-- No token, which gives this value. A token of a class. A number from 1 on, which is too much beyond a limit. One
-- thing, and behind it another that may depend on the first one's value. The first thing where the next token begins
-- it, else the second. Things one behind the other, a limit at most. Things, each behind a divider.
pub data Grammar : Type 0 → Type 1 where
  give : {A : Type 0} → A → Grammar A
  token : (c : Class) → Grammar (Given c)
  up_to : ℕ → Grammar (ℕ × ℕ)
  chain : {A B : Type 0} → Grammar A → (A → Grammar B) → Grammar B
  pick : {A : Type 0} → Grammar A → Grammar A → Grammar A
  many : {A : Type 0} → ℕ → Grammar A → Grammar (List A)
  more : {A : Type 0} → ℕ → Divider → Grammar A → Grammar (List A)

-- one thing or more with dividers between them, a limit at most
abbrev pub listed : {A : Type 0} → ℕ → Divider → Grammar A → Grammar (List A)
listed limit divider item = chain item (λ x. chain (more (limit - 1) divider item) (λ xs. give (x ∷ xs)))

-- the value that it gives where there is no token, if it may be of none
abbrev pub after : {A B : Type 0} → Option A → (A → Option B) → Option B
after None next = None
after (Some x) next = next x

abbrev pub nullable : {A : Type 0} → Grammar A → Option A
nullable (give x) = Some x
nullable (token c) = None
nullable (up_to most) = None
nullable (chain g next) = after (nullable g) (λ x. nullable (next x))
nullable (pick g h) = nullable h
nullable (many limit item) = Some []
nullable (more limit divider item) = Some []

-- the classes of the tokens that it can begin with
abbrev pub behind : {A : Type 0} → Option A → (A → List Class) → List Class
behind None next = []
behind (Some x) next = next x

abbrev pub firsts : {A : Type 0} → Grammar A → List Class
firsts (give x) = []
firsts (token c) = c ∷ []
firsts (up_to most) = positive ∷ []
firsts (chain g next) = firsts g ++ behind (nullable g) (λ x. firsts (next x))
firsts (pick g h) = firsts g ++ firsts h
firsts (many limit item) = firsts item
firsts (more limit divider item) = class_of divider ∷ []

-- ---- reading

abbrev pub taken_from : {A : Type 0} → Option A → ℕ → List Token → Read A
taken_from (Some x) place ts = Ok (x, ts)
taken_from None place ts = Err (Unexpected place)

abbrev pub taken_by : (c : Class) → Option TokenKind → ℕ → List Token → Read (Given c)
taken_by c None place behind = Err (Unexpected place)
taken_by c (Some kind) place behind = taken_from (given c kind place) place behind

abbrev pub taken_at : (c : Class) → ℕ → List Token → Read (Given c)
taken_at c end ts = taken_by c (kind_of_first ts) (place_of end ts) (drop 1 ts)

abbrev pub limited_from : Option (ℕ × ℕ) → ℕ → ℕ → List Token → Read (ℕ × ℕ)
limited_from (Some x) most place ts = cond (nat_le x.0 most) (Ok (x, ts)) (Err (TooMany place))
limited_from None most place ts = Err (Unexpected place)

abbrev pub limited_by : ℕ → Option TokenKind → ℕ → List Token → Read (ℕ × ℕ)
limited_by most None place behind = Err (Unexpected place)
limited_by most (Some kind) place behind = limited_from (given positive kind place) most place behind

abbrev pub limited_at : ℕ → ℕ → List Token → Read (ℕ × ℕ)
limited_at most end ts = limited_by most (kind_of_first ts) (place_of end ts) (drop 1 ts)

-- what is read from tokens, from left to right, or the first fault
abbrev pub reads : {A : Type 0} → Grammar A → ℕ → List Token → Read A
reads (give x) = λ end ts. Ok (x, ts)
reads (token c) = taken_at c
reads (up_to most) = limited_at most
reads (chain g next) = λ end ts. reads g end ts >>= λ x. reads (next x.0) end x.1
reads (pick g h) = λ end ts. cond (begins (among (firsts g)) ts) (reads g end ts) (reads h end ts)
reads (many limit item) = λ end ts. many_at (among (firsts item)) (reads item) end limit ts
reads (more limit divider item) =
    λ end ts. more_at (is (class_of divider)) (among (firsts item)) (reads item) end limit ts

abbrev pub ended_by : {A : Type 0} → A → Option TokenKind → ℕ → Result A GrammarFault
ended_by x None place = Ok x
ended_by x (Some kind) place = Err (Unexpected place)

-- a value, where no token is left
abbrev pub ended : {A : Type 0} → A → ℕ → List Token → Result A GrammarFault
ended x end ts = ended_by x (kind_of_first ts) (place_of end ts)

-- what all of the tokens say, or the first fault
abbrev pub reads_all : {A : Type 0} → Grammar A → ℕ → List Token → Result A GrammarFault
reads_all g end ts = reads g end ts >>= λ x. ended x.0 end x.1
