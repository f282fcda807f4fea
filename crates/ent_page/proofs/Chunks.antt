-- A list is known by its first chunks and by what stands behind them.
use Rattle.std.proofs.Common.{◌≡◌, ◌+◌, ◌*◌, ◌++◌, [], ℕ, zero, suc, List, length, get_or, take, drop, ap, sym}
use Rattle.std.proofs.Common.{◌∙◌, refl, arith, suc-mul}
use Rattle.std.proofs.lemmas.List.{take-append-drop, drop-drop}
use Rattle.std.specs.Simd.{first_chunks}

count_of : {X : Type 0} (n k : ℕ) (xs : List X) → length (first_chunks n k xs) ≡ k
count_of n zero xs = refl
count_of n (suc k) xs = ap (λ (j : ℕ). suc j) (count_of n k (drop n xs))

behind_none : {X : Type 0} (n : ℕ) (xs : List X) → drop (0 * n) xs ≡ xs
behind_none n xs = let none : 0 * n ≡ 0 = omega arith in ap (λ (j : ℕ). drop j xs) none

behind_one : {X : Type 0} (n k : ℕ) (xs : List X) → drop (suc k * n) xs ≡ drop (n + k * n) xs
behind_one n k xs =
    let turned : k * n + n ≡ n + k * n = omega arith in ap (λ (j : ℕ). drop j xs) (suc-mul k n ∙ turned)

chunks_tell : {X : Type 0} (n k : ℕ) (xs ys : List X) → first_chunks n k xs ≡ first_chunks n k ys
    → drop (k * n) xs ≡ drop (k * n) ys → xs ≡ ys
chunks_tell n zero xs ys same rest = sym (behind_none n xs) ∙ rest ∙ behind_none n ys
chunks_tell {X} n (suc k) xs ys same rest =
    let front : take n xs ≡ take n ys = ap (λ (l : List (List X)). get_or l 0 []) same in
    let behind : drop n xs ≡ drop n ys =
    chunks_tell n k (drop n xs) (drop n ys) (ap (λ (l : List (List X)). drop 1 l) same)
    (drop-drop (k * n) n xs ∙ sym (behind_one n k xs) ∙ rest ∙ behind_one n k ys ∙ sym (drop-drop (k * n) n ys)) in
    sym (take-append-drop n xs) ∙ (λ i. front i ++ behind i) ∙ take-append-drop n ys

-- two lists of which one has the chunks and the rest of the other are the same
pub same_by_chunks : {X : Type 0} (n k m : ℕ) (xs ys : List X) → first_chunks n k xs ≡ first_chunks n m ys
    → drop (k * n) xs ≡ drop (m * n) ys → xs ≡ ys
same_by_chunks {X} n k m xs ys same rest =
    let e : m ≡ k = sym (count_of n m ys) ∙ ap length (sym same) ∙ count_of n k xs in
    chunks_tell n k xs ys (same ∙ ap (λ (j : ℕ). first_chunks n j ys) e) (rest ∙ ap (λ (j : ℕ). drop (j * n) ys) e)
