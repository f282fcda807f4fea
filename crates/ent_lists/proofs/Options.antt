-- Laws of options.
use Rattle.std.proofs.Common.{◌≡◌, Option, Some, None, false, is_some, IsSome, refl}

pub some_value : {A : Type 0} (o : Option A) → IsSome o → (x : A) × (o ≡ Some x)
some_value (Some x) there = (x, refl)
some_value None there = absurd cc

pub none_there : {A : Type 0} (found : Option A) → is_some found ≡ false → found ≡ None
none_there None e = refl
none_there (Some x) e = cc
