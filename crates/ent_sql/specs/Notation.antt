-- Grammars written line by line: what stands on one line comes before what stands on the next.
use Rattle.std.specs.Prelude.{ℕ}
use Rattle.ent_text.specs.declared.keyword.Keyword.{Keyword}
use Rattle.ent_text.specs.declared.symbol.Symbol.{Symbol}
use Rattle.ent_text.specs.Class.{word, sign}
use Rattle.ent_text.specs.Grammar.{Grammar, token, chain}

infixl 10 ◌>>=◌
abbrev pub ◌>>=◌ : {A B : Type 0} → Grammar A → (A → Grammar B) → Grammar B
g >>= next = chain g next

-- a reserved word, and where it stands
abbrev pub keyword : Keyword → Grammar ℕ
keyword written = token (word written)

-- a symbol, and where it stands
abbrev pub symbol : Symbol → Grammar ℕ
symbol written = token (sign written)
