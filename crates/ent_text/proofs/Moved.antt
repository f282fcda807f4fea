-- A line end keeps the tokens of two texts apart.
use Rattle.std.proofs.Common.{◌≡◌, ℕ, ◌+◌, ◌≤◌, Bool, true, false, eqb, List, [], ◌∷◌, ◌++◌, length, map, refl, ap}
use Rattle.std.proofs.Common.{sym, ◌∙◌, subst, append_assoc, arith, Option, Some, None, ◌⊎◌, inl, inr}
use Rattle.std.specs.List.{list_all, list_any}
use Rattle.std.specs.Prelude.{not}
use Rattle.std.specs.Char.{is_ascii_control, is_ascii_digit}
use Rattle.std.proofs.lemmas.Bool.{and_parts, or_parts}
use Rattle.std.proofs.lemmas.List.{length-append}
use Rattle.ent_value.specs.Name.{is_word_byte}
use Rattle.ent_value.specs.Print.{doubled}
use Rattle.ent_text.specs.declared.token.Token.{Token}
use Rattle.ent_text.specs.declared.token.TokenKind.{TokenKind}
use Rattle.ent_text.specs.declared.token.TokenKind.TheVariants.{Word, Name, HostVariable, Number, Literal, Sign, Fault}
use Rattle.ent_text.specs.Spelling.{IsPlain, IsPiece, IsLongest, is_in_line}
use Rattle.ent_text.specs.Reading.{Reads, nothing, gap, token, AreTokens}
use Rattle.ent_text.specs.Moved.{moved}
use Rattle.ent_text.proofs.Digits.{digits_pass}
use Rattle.ent_text.proofs.Ends.{blank_ends}
use Rattle.ent_text.proofs.Firsts.{no_empty_piece}
use Rattle.ent_text.proofs.Runs.{symbol_in_line}

-- ---- no piece goes on behind a line end

-- no list of bytes that pass holds a line end, where that doesn't pass
no_feed : (test : ℕ → Bool) → test 10 ≡ false → (front behind : List ℕ) → list_all test (front ++ 10 ∷ behind) ≡ true
    → ⊥
no_feed test fails [] behind e = let h = (and_parts (test 10) (list_all test behind) e).0 in absurd cc
no_feed test fails (b ∷ front) behind e =
    no_feed test fails front behind (and_parts (test b) (list_all test (front ++ 10 ∷ behind)) e).1

is_plain : ℕ → Bool
is_plain b = not (is_ascii_control b)

doubled_plain : (text : List ℕ) → IsPlain text → list_all is_plain (doubled text ++ 39 ∷ []) ≡ true
unfolding is_plain
doubled_plain [] plain = refl
doubled_plain (b ∷ text) plain =
    let h = or_parts (is_ascii_control b) (list_any is_ascii_control text) plain in
    on (doubled_plain text h.1) h.0 (eqb b 39) refl
  where
    on : list_all is_plain (doubled text ++ 39 ∷ []) ≡ true → is_ascii_control b ≡ false → (t : Bool) → eqb b 39 ≡ t
        → list_all is_plain (doubled (b ∷ text) ++ 39 ∷ []) ≡ true
    on others plain true e = rw e others
    on others plain false e = rw (e, plain) others

no_piece : (piece : Option TokenKind) (b : ℕ) (front behind : List ℕ) → IsPiece (b ∷ (front ++ 10 ∷ behind)) piece → ⊥
unfolding is_plain
no_piece None b [] behind (inl h) = absurd cc
no_piece None b (c ∷ front) behind (inl h) = absurd cc
no_piece None b front behind (inr h) =
    no_feed is_in_line refl (b ∷ front) behind (ap (list_all is_in_line) h.1 ∙ h.2)
no_piece (Some (Word keyword)) b front behind h = no_feed is_word_byte refl (b ∷ front) behind h.0.1
no_piece (Some (Name word)) b front behind h = no_feed is_word_byte refl (b ∷ front) behind h.0.1
no_piece (Some (HostVariable word)) b front behind h =
    let others : front ++ 10 ∷ behind ≡ word = cc in
    no_feed is_word_byte refl front behind (ap (list_all is_word_byte) others ∙ h.1.1)
no_piece (Some (Number n)) b front behind h =
    no_feed is_ascii_digit refl (b ∷ front) behind (digits_pass (b ∷ (front ++ 10 ∷ behind)) h.0.1)
no_piece (Some (Literal text)) b front behind h =
    no_feed is_plain refl (b ∷ front) behind (ap (list_all is_plain) h.0 ∙ doubled_plain text h.1)
no_piece (Some (Sign symbol)) b front behind (inl e) =
    no_feed is_in_line refl (b ∷ front) behind (ap (list_all is_in_line) e ∙ symbol_in_line symbol)
no_piece (Some (Sign symbol)) b front behind (inr e) =
    no_feed is_in_line refl (b ∷ front) behind (ap (list_all is_in_line) e.0)
no_piece (Some (Fault fault)) b front behind h = absurd h

-- a front of two lists goes on into the second, or doesn't
parted : (front rest whole behind : List ℕ) → front ++ rest ≡ whole ++ behind
    → ((others : List ℕ) × (whole ≡ front ++ others))
    ⊎ ((c : ℕ) × (others : List ℕ) × (front ≡ whole ++ c ∷ others) × (behind ≡ c ∷ (others ++ rest)))
parted [] rest whole behind e = inl (whole, refl)
parted (x ∷ front) rest [] behind e = inr (x, front, refl, sym e)
parted (x ∷ front) rest (w ∷ whole) behind e =
    let first : x ≡ w = cc in
    let same : front ++ rest ≡ whole ++ behind = cc in
    on first (parted front rest whole behind same)
  where
    on : x ≡ w
        → ((others : List ℕ) × (whole ≡ front ++ others))
        ⊎ ((c : ℕ) × (others : List ℕ) × (front ≡ whole ++ c ∷ others) × (behind ≡ c ∷ (others ++ rest)))
        → ((others : List ℕ) × (w ∷ whole ≡ x ∷ (front ++ others)))
        ⊎ ((c : ℕ) × (others : List ℕ) × (x ∷ front ≡ w ∷ (whole ++ c ∷ others)) × (behind ≡ c ∷ (others ++ rest)))
    on first (inl h) = inl (h.0, λ i. sym first i ∷ h.1 i)
    on first (inr h) = inr (h.0, h.1, λ i. first i ∷ h.2 i, h.3)

-- a piece that is the longest before the end is the longest before a line end, too
longest_before : (bytes behind more : List ℕ) (piece : Option TokenKind) → IsPiece bytes piece → IsLongest bytes behind
    → IsLongest bytes (behind ++ 10 ∷ more)
longest_before [] behind more piece spelled longest front rest other kind same is =
    absurd (no_empty_piece piece spelled)
longest_before (b ∷ bytes) behind more piece spelled longest front rest other kind same is =
    let whole = same ∙ sym (append_assoc (b ∷ bytes) behind (10 ∷ more)) in
    on (parted front rest ((b ∷ bytes) ++ behind) (10 ∷ more) whole)
  where
    on : ((others : List ℕ) × ((b ∷ bytes) ++ behind ≡ front ++ others))
        ⊎ ((c : ℕ) × (others : List ℕ) × (front ≡ ((b ∷ bytes) ++ behind) ++ c ∷ others)
        × (10 ∷ more ≡ c ∷ (others ++ rest))) → length front ≤ length (b ∷ bytes)
    on (inl h) = longest front h.0 other kind (sym h.1) is
    on (inr h) =
        let feed : h.0 ≡ 10 = cc in
        let whole : front ++ other ≡ b ∷ ((bytes ++ behind) ++ 10 ∷ (h.1 ++ other)) =
        ap (λ (l : List ℕ). l ++ other) h.2
        ∙ append_assoc ((b ∷ bytes) ++ behind) (h.0 ∷ h.1) other
        ∙ ap (λ (c : ℕ). ((b ∷ bytes) ++ behind) ++ c ∷ (h.1 ++ other)) feed in
        absurd (no_piece kind b (bytes ++ behind) (h.1 ++ other) (subst (λ (l : List ℕ). IsPiece l kind) whole is))

-- ---- texts one behind the other

-- what is read before the end is read before a line end, too
pub reads_before : (more : List ℕ) (place : ℕ) (bytes : List ℕ) (tokens : List Token) (end : ℕ) (rest : List ℕ)
    → Reads place bytes tokens end rest → Reads place (bytes ++ 10 ∷ more) tokens end (rest ++ 10 ∷ more)
reads_before more place bytes tokens end rest (nothing at left) = nothing at (left ++ 10 ∷ more)
reads_before more place bytes tokens end rest (gap at before behind others last left is longest onward) =
    subst (λ (l : List ℕ). Reads at l others last (left ++ 10 ∷ more)) (sym (append_assoc before behind (10 ∷ more)))
    (gap at before (behind ++ 10 ∷ more) others last (left ++ 10 ∷ more) is
    (longest_before before behind more None is longest)
    (reads_before more (at + length before) behind others last left onward))
reads_before more place bytes tokens end rest (token at before behind kind others last left spelled longest small
    onward) =
    subst (λ (l : List ℕ). Reads at l
    (record { kind = kind; start = at; end = at + length before } ∷ others) last (left ++ 10 ∷ more))
    (sym (append_assoc before behind (10 ∷ more)))
    (token at before (behind ++ 10 ∷ more) kind others last (left ++ 10 ∷ more) spelled
    (longest_before before behind more (Some kind) spelled longest) small
    (reads_before more (at + length before) behind others last left onward))

-- what is read on behind what was read
pub reads_on : (more : List Token) (final : ℕ) (left : List ℕ) (place : ℕ) (bytes : List ℕ) (tokens : List Token)
    (end : ℕ) (rest : List ℕ) → Reads place bytes tokens end rest → Reads end rest more final left
    → Reads place bytes (tokens ++ more) final left
reads_on more final left place bytes tokens end rest (nothing at same) others = others
reads_on more final left place bytes tokens end rest (gap at before behind those last same is longest onward) others =
    gap at before behind (those ++ more) final left is longest
    (reads_on more final left (at + length before) behind those last same onward others)
reads_on more final left place bytes tokens end rest (token at before behind kind those last same spelled longest small
    onward) others =
    token at before behind kind (those ++ more) final left spelled longest small
    (reads_on more final left (at + length before) behind those last same onward others)

-- what is read here is read further on
pub reads_moved : (far place : ℕ) (bytes : List ℕ) (tokens : List Token) (end : ℕ) (rest : List ℕ)
    → Reads place bytes tokens end rest → Reads (far + place) bytes (map (moved far) tokens) (far + end) rest
reads_moved far place bytes tokens end rest (nothing at left) = nothing (far + at) left
reads_moved far place bytes tokens end rest (gap at before behind others last left is longest onward) =
    let e : far + (at + length before) ≡ (far + at) + length before = omega arith in
    gap (far + at) before behind (map (moved far) others) (far + last) left is longest
    (subst (λ (n : ℕ). Reads n behind (map (moved far) others) (far + last) left) e
    (reads_moved far (at + length before) behind others last left onward))
reads_moved far place bytes tokens end rest (token at before behind kind others last left spelled longest small
    onward) =
    let e : far + (at + length before) ≡ (far + at) + length before = omega arith in
    subst (λ (n : ℕ). Reads (far + at) (before ++ behind)
    (record { kind = kind; start = far + at; end = n } ∷ map (moved far) others) (far + last) left) (sym e)
    (token (far + at) before behind kind (map (moved far) others) (far + last) left spelled longest small
    (subst (λ (n : ℕ). Reads n behind (map (moved far) others) (far + last) left) e
    (reads_moved far (at + length before) behind others last left onward)))

-- the tokens of two texts with a line end between them
pub lines_apart : (front back : List ℕ) (these those : List Token) → AreTokens front these → AreTokens back those
    → AreTokens (front ++ 10 ∷ back) (these ++ map (moved (length front + 1)) those)
lines_apart front back these those first second =
    let n = length front in
    let further : (n + 1) + 0 ≡ n + 1 = omega arith in
    let last : (n + 1) + length back ≡ length (front ++ 10 ∷ back) = omega (arith, length-append front (10 ∷ back)) in
    let behind : Reads (n + 1) back (map (moved (n + 1)) those) (length (front ++ 10 ∷ back)) [] =
    subst (λ (m : ℕ). Reads (n + 1) back (map (moved (n + 1)) those) m []) last
    (subst (λ (m : ℕ). Reads m back (map (moved (n + 1)) those) ((n + 1) + length back) []) further
    (reads_moved (n + 1) 0 back those (length back) [] second)) in
    reads_on (map (moved (n + 1)) those) (length (front ++ 10 ∷ back)) [] 0 (front ++ 10 ∷ back) these n (10 ∷ back)
    (reads_before back 0 front these n [] first)
    (gap n (10 ∷ []) back (map (moved (n + 1)) those) (length (front ++ 10 ∷ back)) [] (inl (10, refl, refl))
    (blank_ends 10 back refl) behind)
