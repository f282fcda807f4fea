-- Laws of truth values.
use Rattle.std.proofs.Common.{◌≡◌, ◌⊎◌, Bool, true, false, ◌||◌, inl, inr, refl}
use Rattle.std.specs.Prelude.{◌↔◌}

pub or_swap : (a b c : Bool) → (a || (b || c)) ≡ (b || (a || c))
or_swap true true c = refl
or_swap true false c = refl
or_swap false b c = refl

pub or_either : (a b : Bool) → (a ≡ true) ⊎ (b ≡ true) → (a || b) ≡ true
or_either a b (inl e) = λ i. e i || b
or_either true b (inr e) = refl
or_either false b (inr e) = e

pub in_turn : {A B C : Type 0} → A ↔ B → B ↔ C → A ↔ C
in_turn first second = ((λ a. second.0 (first.0 a)), (λ b. first.1 (second.1 b)))
