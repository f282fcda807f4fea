-- The letters of a word, and what stands behind them.
use Rattle.std.proofs.Common.{◌≡◌, ℕ, suc, ◌+◌, ◌<◌, Bool, true, false, cond, List, [], ◌∷◌, drop, refl, ap, ◌∙◌, arith}
use Rattle.std.specs.Prelude.{slice_index}
use Rattle.std.specs.List.{prefix_len}
use Rattle.std.specs.Char.{is_ascii_alphabetic}
use Rattle.std.proofs.lemmas.Bool.{agree_below_at}
use Rattle.ent_value.specs.Name.{is_word_byte}
use Rattle.ent_text.proofs.Shorter.{alphabetic_is_word}

-- the front of those that pass one test goes on by those that pass a wider one
apart : (p q : ℕ → Bool) → ((b : ℕ) → p b ≡ true → q b ≡ true) → (bytes : List ℕ)
    → prefix_len q bytes ≡ prefix_len p bytes + prefix_len q (drop (prefix_len p bytes) bytes)
apart p q wider [] = refl
apart p q wider (b ∷ bytes) = by (p b) refl (apart p q wider bytes)
  where
    by : (t : Bool) → p b ≡ t
        → prefix_len q bytes ≡ prefix_len p bytes + prefix_len q (drop (prefix_len p bytes) bytes)
        → prefix_len q (b ∷ bytes)
        ≡ prefix_len p (b ∷ bytes) + prefix_len q (drop (prefix_len p (b ∷ bytes)) (b ∷ bytes))
    by true e rest =
        let one : prefix_len p (b ∷ bytes) ≡ suc (prefix_len p bytes) = rw e (omega arith) in
        let wide : prefix_len q (b ∷ bytes) ≡ suc (prefix_len q bytes) = rw (wider b e) (omega arith) in
        let behind : prefix_len q (drop (prefix_len p (b ∷ bytes)) (b ∷ bytes))
        ≡ prefix_len q (drop (prefix_len p bytes) bytes) = ap (λ (n : ℕ). prefix_len q (drop n (b ∷ bytes))) one in
        omega (arith, one, wide, behind, rest)
    by false e rest =
        let none : prefix_len p (b ∷ bytes) ≡ 0 = rw e refl in
        let behind : prefix_len q (drop (prefix_len p (b ∷ bytes)) (b ∷ bytes)) ≡ prefix_len q (b ∷ bytes) =
        ap (λ (n : ℕ). prefix_len q (drop n (b ∷ bytes))) none in
        omega (arith, none, behind)

-- a word is its first letters, and what stands behind them
pub word_goes_on : (bytes behind : List ℕ) (letters more : ℕ) → letters ≡ prefix_len is_ascii_alphabetic bytes
    → behind ≡ drop letters bytes → more ≡ prefix_len is_word_byte behind
    → letters + more ≡ prefix_len is_word_byte bytes
word_goes_on bytes behind letters more first rest is =
    let drops : prefix_len is_word_byte behind
    ≡ prefix_len is_word_byte (drop (prefix_len is_ascii_alphabetic bytes) bytes) =
    ap (prefix_len is_word_byte) rest ∙ ap (λ (n : ℕ). prefix_len is_word_byte (drop n bytes)) first in
    omega (arith, first, is, drops, apart is_ascii_alphabetic is_word_byte alphabetic_is_word bytes)

-- no byte below the digits stands in a word
pub word_ends : (bytes : List ℕ) → slice_index bytes 0 < 48 → prefix_len is_word_byte bytes ≡ 0
word_ends [] lt = refl
word_ends (b ∷ bytes) lt =
    ap (λ (t : Bool). cond t (1 + prefix_len is_word_byte bytes) 0)
    (agree_below_at is_word_byte (λ _. false) 48 b refl lt)
