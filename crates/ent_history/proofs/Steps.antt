-- Steps of reading a line, one after the other.
use Rattle.std.proofs.Common.{◌≡◌, ℕ, ◌<◌, ◌≤◌, ◌^◌, true, eqb, List, [], ◌∷◌, ◌++◌, length, Ok, Err, Result, refl, ap}
use Rattle.std.proofs.Common.{arith}
use Rattle.std.specs.Char.{is_ascii_digit}
use Rattle.std.specs.Fmt.{decimal}
use Rattle.std.proofs.lemmas.Bool.{eqb-true}
use Rattle.ent_value.specs.Refusal.{◌>>=◌}
use Rattle.ent_text.specs.declared.line_fault.LineFault.{LineFault}
use Rattle.ent_text.specs.Pieces.{behind, number_to}
use Rattle.ent_text.specs.Lexing.{Stops}

-- what is known of the parts of a line
pub record Parts : Type 0 where
  pub number_found : (most : ℕ) (bytes rest : List ℕ) (n : ℕ) → most < 2 ^ 64 → number_to most bytes ≡ Ok (n, rest)
      → (bytes ≡ decimal n ++ rest) × (n ≤ most) × Stops is_ascii_digit rest
  pub number_again : (most n : ℕ) (rest : List ℕ) → most < 2 ^ 64 → n ≤ most → Stops is_ascii_digit rest
      → number_to most (decimal n ++ rest) ≡ Ok (n, rest)
  pub behind_found : (word bytes rest : List ℕ) → behind word bytes ≡ Ok rest → bytes ≡ word ++ rest
  pub behind_again : (word rest : List ℕ) → behind word (word ++ rest) ≡ Ok rest

-- goes on with what was read
pub bind_with : {A B : Type 0} (r : Result A LineFault) (x : A) (f : A → Result B LineFault) → r ≡ Ok x
    → (r >>= f) ≡ f x
bind_with r x f e = ap (λ s. s >>= f) e

abbrev pub ok : {A : Type 0} → A → Result A LineFault
ok x = Ok x

abbrev ok_or : {A : Type 0} → A → Result A LineFault → A
ok_or other (Ok x) = x
ok_or other (Err fault) = other

pub same_ok : {A : Type 0} (x y : A) → ok x ≡ ok y → x ≡ y
same_ok x y h = ap (ok_or x) h

pub no_bytes : (bytes : List ℕ) → eqb (length bytes) 0 ≡ true → bytes ≡ []
no_bytes [] h = refl
no_bytes (b ∷ bytes) h = absurd (omega (arith, eqb-true (length (b ∷ bytes)) 0 h))
