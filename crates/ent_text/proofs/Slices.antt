-- The tokens of a text are slices of it, in order.
use Rattle.std.proofs.Common.{◌≡◌, ℕ, ◌+◌, ◌-◌, ◌<◌, ◌≤◌, List, [], ◌∷◌, ◌++◌, length, take, refl, ap, sym, ◌∙◌, subst}
use Rattle.std.proofs.Common.{append_assoc, arith, Option, Some}
use Rattle.std.specs.Prelude.{slice_range}
use Rattle.std.specs.List.{All}
use Rattle.std.proofs.lemmas.List.{length-append, take_at, drop_at}
use Rattle.std.proofs.lemmas.List.Elements.{All-nil, All-cons, All-weaker}
use Rattle.ent_text.specs.declared.token.Token.{Token}
use Rattle.ent_text.specs.declared.token.TokenKind.{TokenKind}
use Rattle.ent_text.specs.Spelling.{Spells, IsPiece}
use Rattle.ent_text.specs.Reading.{Reads, nothing, gap, token, AreTokens}
use Rattle.ent_text.specs.Slices.{IsSliceOf, AreInOrder}
use Rattle.ent_text.proofs.Firsts.{no_empty_piece}

pub piece_has_byte : (bytes : List ℕ) (piece : Option TokenKind) → IsPiece bytes piece → 0 < length bytes
piece_has_byte [] piece h = absurd (no_empty_piece piece h)
piece_has_byte (b ∷ bytes) piece h = omega arith

slice_is : (before bytes behind : List ℕ) (n : ℕ) → n ≡ length before
    → slice_range (before ++ (bytes ++ behind)) n (n + length bytes) ≡ bytes
slice_is before bytes behind n at =
    let size : length bytes ≡ n + length bytes - n = omega arith in
    ap (λ (l : List ℕ). take (n + length bytes - n) l) (drop_at before (bytes ++ behind) n (sym at))
    ∙ take_at bytes behind (n + length bytes - n) size

abbrev AreSlices : ℕ → List ℕ → List Token → Type 0
AreSlices place text ts = All (λ t. IsSliceOf text t) ts × AreInOrder ts × All (λ t. place ≤ t.start) ts

later : (near far : ℕ) (ts : List Token) → near ≤ far → All (λ t. far ≤ t.start) ts → All (λ t. near ≤ t.start) ts
later near far ts le h = All-weaker (λ t. far ≤ t.start) (λ t. near ≤ t.start) (λ t g. omega arith) ts h

slices_from : {place : ℕ} {bytes : List ℕ} {ts : List Token} {end : ℕ} {rest : List ℕ} → Reads place bytes ts end rest
    → (before text : List ℕ) → text ≡ before ++ bytes → place ≡ length before → AreSlices place text ts
slices_from (nothing place rest) before text is at = (All-nil _, tt, All-nil _)
slices_from (gap place bytes behind ts end rest spelled longest more) before text is at =
    let h = slices_from more (before ++ bytes) text (is ∙ sym (append_assoc before bytes behind))
    (omega (arith, length-append before bytes)) in
    (h.0, h.1, later place (place + length bytes) ts (omega arith) h.2)
slices_from (token place bytes behind kind ts end rest spelled longest within more) before text is at =
    let h = slices_from more (before ++ bytes) text (is ∙ sym (append_assoc before bytes behind))
    (omega (arith, length-append before bytes)) in
    let t : Token = record { kind = kind; start = place; end = place + length bytes } in
    let size : length text ≡ length before + (length bytes + length behind) =
    ap length is ∙ omega (arith, length-append before (bytes ++ behind), length-append bytes behind) in
    let slice : slice_range text place (place + length bytes) ≡ bytes =
    ap (λ (l : List ℕ). slice_range l place (place + length bytes)) is ∙ slice_is before bytes behind place at in
    let spells : Spells (slice_range text place (place + length bytes)) kind =
    subst (λ (l : List ℕ). Spells l kind) (sym slice) spelled in
    let some : 0 < length bytes = piece_has_byte bytes (Some kind) spelled in
    let here : IsSliceOf text t = (omega arith, omega arith, spells) in (
      All-cons (λ u. IsSliceOf text u) t ts here h.0,
      (h.2, h.1),
      All-cons (λ u. place ≤ u.start) t ts (omega arith)
          (later place (place + length bytes) ts (omega arith) h.2),
    )

pub tokens_are_slices : (text : List ℕ) (ts : List Token) → AreTokens text ts → All (λ t. IsSliceOf text t) ts
tokens_are_slices text ts h = (slices_from h [] text refl refl).0

pub tokens_are_in_order : (text : List ℕ) (ts : List Token) → AreTokens text ts → AreInOrder ts
tokens_are_in_order text ts h = (slices_from h [] text refl refl).1
