-- Which scripts of a text say WITHIN.
use Rattle.std.specs.Prelude.{Bool, true, false, List, [], ◌∷◌, Option, Some, None}
use Rattle.ent_text.specs.declared.keyword.Keyword.TheVariants.{Transaction, Within}
use Rattle.ent_text.specs.declared.token.Token.{Token}
use Rattle.ent_text.specs.declared.token.TokenKind.{TokenKind}
use Rattle.ent_text.specs.declared.token.TokenKind.TheVariants.{Word}

abbrev pub is_transaction : TokenKind → Bool
is_transaction (Word Transaction) = true
is_transaction other = false

abbrev pub is_within : TokenKind → Bool
is_within (Word Within) = true
is_within other = false

-- For each TRANSACTION of the tokens, in order, whether WITHIN is the next token. A token stands before them, which is
-- a TRANSACTION or isn't.
abbrev pub said_behind : Bool → List Token → List Bool
said_behind behind [] = []
said_behind true (token ∷ more) = is_within token.kind ∷ said_behind (is_transaction token.kind) more
said_behind false (token ∷ more) = said_behind (is_transaction token.kind) more

-- For each script, in order, whether it says WITHIN. In an input TRANSACTION stands behind each BEGIN, nowhere else.
abbrev pub scripts_said : List Token → List Bool
scripts_said tokens = said_behind false tokens
