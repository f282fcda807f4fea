-- What a reader gave, piece by piece.
use Rattle.std.proofs.Common.{◌≡◌, ℕ, ◌-◌, ◌<◌, ◌≤◌, List, [], ◌++◌, length, take, Option, Some, None, refl, sym, ap}
use Rattle.std.proofs.Common.{◌∙◌, append_assoc, arith}
use Rattle.std.proofs.lemmas.List.{append-nil, length-append, length-take-le}
use Rattle.std.specs.Prelude.{IfSome}
use Rattle.std.specs.Io.KnownBytes.{Consumes, IsAtEnd}

pub nothing_read : (old : Option (List ℕ)) (bytes : List ℕ) → bytes ≡ [] → Consumes old old bytes
nothing_read None bytes is = tt
nothing_read (Some xs) bytes is = rw is refl

pub read_more : (old mid new : Option (List ℕ)) (bytes piece : List ℕ) → Consumes old mid bytes → Consumes mid new piece
    → Consumes old new (bytes ++ piece)
read_more None mid new bytes piece h k = tt
read_more (Some xs) None new bytes piece h k = absurd h
read_more (Some xs) (Some ys) None bytes piece h k = absurd k
read_more (Some xs) (Some ys) (Some zs) bytes piece h k = h ∙ ap (λ (y : List ℕ). bytes ++ y) k
    ∙ sym (append_assoc bytes piece zs)

at_end : (xs bytes rest : List ℕ) → xs ≡ bytes ++ rest → rest ≡ [] → bytes ≡ xs
at_end xs bytes rest h is = sym (append-nil bytes) ∙ ap (λ (y : List ℕ). bytes ++ y) (sym is) ∙ sym h

pub read_to_end : (old mid new : Option (List ℕ)) (bytes buffer : List ℕ) (n : ℕ) → n ≡ 0 → 0 < length buffer
    → Consumes old mid bytes
    → Consumes mid new (take n buffer) × (n ≡ 0 → 0 < length buffer → IsAtEnd new) → IfSome old (λ all. bytes ≡ all)
read_to_end None mid new bytes buffer n zero some h k = tt
read_to_end (Some xs) None new bytes buffer n zero some h k = absurd h
read_to_end (Some xs) (Some ys) None bytes buffer n zero some h k = absurd k.0
read_to_end (Some xs) (Some ys) (Some zs) bytes buffer n zero some h k =
    let rest : ys ≡ [] = k.0 ∙ ap (λ (m : ℕ). take m buffer ++ zs) zero ∙ k.1 zero some in
    at_end xs bytes ys h rest

pub read_too_much : (old mid new : Option (List ℕ)) (bytes buffer : List ℕ) (n most : ℕ) → n ≤ length buffer
    → most - length bytes < n → Consumes old mid bytes
    → Consumes mid new (take n buffer) → IfSome old (λ all. most < length all)
read_too_much None mid new bytes buffer n most le more h k = tt
read_too_much (Some xs) None new bytes buffer n most le more h k = absurd h
read_too_much (Some xs) (Some ys) None bytes buffer n most le more h k = absurd k
read_too_much (Some xs) (Some ys) (Some zs) bytes buffer n most le more h k =
    omega (
      arith,
      ap length h,
      length-append bytes ys,
      ap length k,
      length-append (take n buffer) zs,
      length-take-le n
          buffer le,
    )
