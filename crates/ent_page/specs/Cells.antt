-- A value that stands as bytes.
use Rattle.std.specs.Prelude.{◌≡◌, ℕ, List}
use Rattle.ent_value.specs.declared.value.Kind.{Kind}
use Rattle.ent_page.specs.Key.{value_key, IsStorable}
use Rattle.ent_page.specs.Read.{value_from}

-- the bytes are the key of the value that is read of them
pub record IsCell (kind : Kind) (bytes : List ℕ) : Type 0 where
  pub again : value_key (value_from kind bytes) ≡ bytes
  pub fits : IsStorable (value_from kind bytes)
