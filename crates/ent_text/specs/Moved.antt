-- Tokens further on in a longer text.
use Rattle.std.specs.Prelude.{ℕ, ◌+◌}
use Rattle.ent_text.specs.declared.token.Token.{Token}

-- the token so many bytes further on
abbrev pub moved : ℕ → Token → Token
moved far token = record { kind = token.kind; start = far + token.start; end = far + token.end }
