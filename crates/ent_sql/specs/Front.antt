-- What stands at the front, in the words of readers.
use Rattle.std.specs.Prelude.{Bool, List, [], ◌∷◌}
use Rattle.ent_text.specs.declared.token.Token.{Token}
use Rattle.ent_text.specs.Read.{begins}
use Rattle.ent_text.specs.Class.{name, variable, among}

abbrev pub begins_with_name : List Token → Bool
begins_with_name tokens = begins (among (name ∷ [])) tokens

abbrev pub begins_with_variable : List Token → Bool
begins_with_variable tokens = begins (among (variable ∷ [])) tokens
