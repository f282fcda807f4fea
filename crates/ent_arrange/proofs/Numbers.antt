-- Numbers in order.
use Rattle.std.proofs.Common.{◌≡◌, ℕ, zero, suc, ◌+◌, List, [], ◌∷◌, ◌++◌, ap, arith, ◌∙◌}
use Rattle.std.specs.List.{range_with_len}

last : (first count number : ℕ) → first + count ≡ number
    → range_with_len first (suc count) ≡ range_with_len first count ++ number ∷ []
last first zero number e =
    let same : first ≡ number = omega arith in
    ap (λ n. n ∷ []) same
last first (suc count) number e =
    ap (λ (rest : List ℕ). first ∷ rest) (last (first + 1) count number (omega arith))

-- one number more stands at the end
pub more_numbers : (count : ℕ) → range_with_len 0 (count + 1) ≡ range_with_len 0 count ++ count ∷ []
more_numbers count =
    let on : count + 1 ≡ suc count = omega arith in
    ap (range_with_len 0) on ∙ last 0 count count (omega arith)
