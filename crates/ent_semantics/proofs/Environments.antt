-- Host variables that get values, one after another.
use Rattle.std.proofs.Common.{◌≡◌, List, [], ◌∷◌, ◌++◌, refl}
use Rattle.ent_value.specs.declared.value.Value.{Value}
use Rattle.ent_semantics.specs.Database.{Environment, Name, with_value, with_values}

pub values_joined : (environment : Environment) (xs ys : List (Name × Value))
    → with_values environment (xs ++ ys) ≡ with_values (with_values environment xs) ys
values_joined environment [] ys = refl
values_joined environment (x ∷ xs) ys = values_joined (with_value environment x.0 x.1) xs ys
