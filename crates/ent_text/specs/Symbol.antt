-- Symbols.
use Rattle.std.specs.Prelude.{◌≡◌, ◌⊎◌, ℕ, List, codes}
use Rattle.ent_text.specs.declared.symbol.Symbol.{Symbol}
use Rattle.ent_text.specs.declared.symbol.Symbol.TheVariants.{Open, Close, Comma, Semicolon, Dot, Star, Plus, Minus}
use Rattle.ent_text.specs.declared.symbol.Symbol.TheVariants.{Equal, NotEqual, Less, LessOrEqual, Greater}
use Rattle.ent_text.specs.declared.symbol.Symbol.TheVariants.{GreaterOrEqual}

abbrev pub symbol_text : Symbol → List ℕ
symbol_text Open = codes "("
symbol_text Close = codes ")"
symbol_text Comma = codes ","
symbol_text Semicolon = codes ";"
symbol_text Dot = codes "."
symbol_text Star = codes "*"
symbol_text Plus = codes "+"
symbol_text Minus = codes "-"
symbol_text Equal = codes "="
symbol_text NotEqual = codes "<>"
symbol_text Less = codes "<"
symbol_text LessOrEqual = codes "<="
symbol_text Greater = codes ">"
symbol_text GreaterOrEqual = codes ">="

-- the bytes are the symbol's; `!=` is `<>` too
abbrev pub SpellsSymbol : List ℕ → Symbol → Type 0
SpellsSymbol bytes symbol = (bytes ≡ symbol_text symbol) ⊎ ((bytes ≡ codes "!=") × (symbol ≡ NotEqual))
