-- Reading on in what is left of a text.
use Rattle.std.proofs.Common.{◌≡◌, ℕ, ◌+◌, ◌-◌, ◌<◌, List, [], ◌∷◌, length, drop, refl, subst, arith}
use Rattle.std.proofs.Common.{Option, Some, None}
use Rattle.ent_text.specs.View.{CanBeMade, CanBeMadeIfSeen}
use Rattle.ent_text.specs.declared.view.TokenView.{TokenView}
use Rattle.ent_text.proofs.Reading.{left_length}

pub one_on : (place : ℕ) (rest behind : List ℕ) → 0 < length rest → behind ≡ drop 1 rest
    → place + (length rest - length behind) ≡ place + 1
one_on place rest behind lt is = omega (arith, left_length 1 rest behind (omega arith) is)

pub empty_there : (rest : List ℕ) → length rest ≡ 0 → rest ≡ []
empty_there [] e = refl
empty_there (b ∷ rest) e = absurd (omega arith)

-- what was seen can be made
pub made_there : (front : Option TokenView) (view : TokenView) → front ≡ Some view → CanBeMadeIfSeen front
    → CanBeMade view
made_there None view e made = absurd cc
made_there (Some seen) view e made = let same : seen ≡ view = cc in subst CanBeMade same made
