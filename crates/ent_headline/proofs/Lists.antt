-- What stands at a number in a list.
use Rattle.std.proofs.Common.{◌≡◌, ℕ, zero, suc, List, Some}
use Rattle.ent_lists.specs.Elements.{In, got_in}
use Rattle.ent_semantics.specs.Serial.{numbered}

module _ {X : Type 0} where
  pub numbered_in : (xs : List X) (number : ℕ) (x : X) → numbered xs number ≡ Some x → In x xs
  numbered_in xs zero x e = cc
  numbered_in xs (suc k) x e = got_in xs k x e
