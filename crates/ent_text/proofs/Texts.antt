-- Texts: what stands in quotes.
use Rattle.std.proofs.Common.{◌≡◌, ℕ, ◌+◌, ◌≤◌, Bool, true, false, cond, eqb, List, [], ◌∷◌, ◌++◌, length, Ok, Err}
use Rattle.std.proofs.Common.{refl, ap, sym, ◌∙◌, subst, append_assoc, arith, Option, Some, None, inl, inr}
use Rattle.std.specs.Prelude.{slice_index}
use Rattle.std.proofs.lemmas.Bool.{eqb-true, eqb-false, or_from}
use Rattle.std.proofs.lemmas.List.{length-append}
use Rattle.std.specs.List.{list_any}
use Rattle.std.specs.Char.{is_ascii_control}
use Rattle.ent_text.specs.declared.fault.TextFault.TheVariants.{BadChar, OpenText, NumberTooLarge, TextTooLong}
use Rattle.ent_text.specs.declared.token.TokenKind.{TokenKind}
use Rattle.ent_text.specs.declared.token.TokenKind.TheVariants.{Word, Name, HostVariable, Number, Literal, Sign, Fault}
use Rattle.ent_value.specs.Print.{doubled, quoted}
use Rattle.ent_text.specs.Spelling.{IsPlain, IsLongest}
use Rattle.ent_text.specs.Lexing.{Stops, with_byte, quoted_at}
use Rattle.ent_text.proofs.Firsts.{PieceOf, class_of, piece_of_first, class_of_quote}
use Rattle.ent_text.proofs.Reading.{Body}

abbrev pub is_quote : ℕ → Bool
is_quote b = eqb b 39

-- ---- what is read of a text

abbrev pub Quoted : ℕ → ℕ → List ℕ → Body → Type 0
Quoted quote place bytes (Ok x) = (bytes ≡ doubled x.0 ++ 39 ∷ x.1) × IsPlain x.0 × Stops is_quote x.1
Quoted quote place bytes (Err (BadChar at)) =
    (front behind : List ℕ) × (c : ℕ) × (bytes ≡ doubled front ++ c ∷ behind) × IsPlain front
    × (is_ascii_control c ≡ true) × (at ≡ place + length (doubled front))
Quoted quote place bytes (Err (OpenText at)) = (content : List ℕ) × (at ≡ quote) × (bytes ≡ doubled content)
    × IsPlain content
Quoted quote place bytes (Err (NumberTooLarge at)) = ⊥
Quoted quote place bytes (Err (TextTooLong at)) = ⊥

quoted_cond : (quote place : ℕ) (bytes : List ℕ) (b : Bool) (x y : Body) → (b ≡ true → Quoted quote place bytes x)
    → (b ≡ false → Quoted quote place bytes y) → Quoted quote place bytes (cond b x y)
quoted_cond quote place bytes true x y p q = p refl
quoted_cond quote place bytes false x y p q = q refl

-- one more byte before a list
put : {xs ys : List ℕ} (b : ℕ) → xs ≡ ys → b ∷ xs ≡ b ∷ ys
put b e = ap (λ (l : List ℕ). b ∷ l) e

plain_byte : (quote place b : ℕ) (bytes : List ℕ) (read : Body) → eqb b 39 ≡ false → is_ascii_control b ≡ false
    → Quoted quote (place + 1) bytes read → Quoted quote place (b ∷ bytes) (with_byte b read)
plain_byte quote place b bytes (Ok x) e f h =
    (rw e (put b h.0), or_from (is_ascii_control b) (list_any is_ascii_control x.0) f h.1, h.2)
plain_byte quote place b bytes (Err (BadChar at)) e f (front, behind, c, is, plain, control, far) = (
  b ∷ front,
  behind,
  c,
  rw e (put b is),
  or_from (is_ascii_control b) (list_any is_ascii_control front) f plain,
  control,
  rw e (omega arith),
)
plain_byte quote place b bytes (Err (OpenText at)) e f (content, same, is, plain) =
    (b ∷ content, same, rw e (put b is), or_from (is_ascii_control b) (list_any is_ascii_control content) f plain)
plain_byte quote place b bytes (Err (NumberTooLarge at)) e f h = h
plain_byte quote place b bytes (Err (TextTooLong at)) e f h = h

quote_byte : (quote place : ℕ) (bytes : List ℕ) (read : Body) → Quoted quote (place + 2) bytes read
    → Quoted quote place (39 ∷ 39 ∷ bytes) (with_byte 39 read)
quote_byte quote place bytes (Ok x) h = (put 39 (put 39 h.0), h.1, h.2)
quote_byte quote place bytes (Err (BadChar at)) (front, behind, c, is, plain, control, far) =
    (39 ∷ front, behind, c, put 39 (put 39 is), plain, control, omega arith)
quote_byte quote place bytes (Err (OpenText at)) (content, same, is, plain) =
    (39 ∷ content, same, put 39 (put 39 is), plain)
quote_byte quote place bytes (Err (NumberTooLarge at)) h = h
quote_byte quote place bytes (Err (TextTooLong at)) h = h

abbrev two : ℕ → ℕ → ℕ × ℕ
two x y = (x, y)

pair : {x y u v : ℕ} → x ≡ u → y ≡ v → two x y ≡ two u v
pair p q = λ i. two (p i) (q i)

control_here : (quote place b : ℕ) (bytes : List ℕ) → is_ascii_control b ≡ true
    → Quoted quote place (b ∷ bytes) (Err (BadChar place))
control_here quote place b bytes f = ([], bytes, b, refl, refl, f, omega arith)

pub quoted_is : (quote place : ℕ) (bytes : List ℕ) → Quoted quote place bytes (quoted_at quote place bytes)
unfolding quoted_at
quoted_is quote place [] = ([], refl, refl, refl)
quoted_is quote place (b ∷ []) =
    quoted_cond quote place (b ∷ []) (eqb b 39) _ _ (λ e. (ap (λ (y : ℕ). y ∷ []) (eqb-true b 39 e), refl, tt))
    (λ e. quoted_cond quote place (b ∷ []) (is_ascii_control b) _ _ (control_here quote place b [])
    (λ f. (b ∷ [], refl, rw e refl, or_from (is_ascii_control b) false f refl)))
quoted_is quote place (b ∷ c ∷ bytes) =
    quoted_cond quote place (b ∷ c ∷ bytes) (eqb b 39) _ _
    (λ e. quoted_cond quote place (b ∷ c ∷ bytes) (eqb c 39) _ _
    (λ f. subst (λ (p : ℕ × ℕ). Quoted quote place (p.0 ∷ p.1 ∷ bytes)
    (with_byte 39 (quoted_at quote (place + 2) bytes))) (pair (sym (eqb-true b 39 e)) (sym (eqb-true c 39 f)))
    (quote_byte quote place bytes (quoted_at quote (place + 2) bytes) (quoted_is quote (place + 2) bytes)))
    (λ f. (ap (λ (y : ℕ). y ∷ c ∷ bytes) (eqb-true b 39 e), refl, f)))
    (λ e. quoted_cond quote place (b ∷ c ∷ bytes) (is_ascii_control b) _ _ (control_here quote place b (c ∷ bytes))
    (λ f. plain_byte quote place b (c ∷ bytes) (quoted_at quote (place + 1) (c ∷ bytes)) e f
    (quoted_is quote (place + 1) (c ∷ bytes))))

-- ---- no longer front begins a text

-- what goes on in doubled quotes behind one or two bytes
abbrev GoesOn : List ℕ → Type 0
GoesOn bytes = (content : List ℕ) × (bytes ≡ doubled content ++ 39 ∷ [])

behind_quote : (content : List ℕ) (y : ℕ) (bytes : List ℕ) → 39 ∷ y ∷ bytes ≡ doubled content ++ 39 ∷ []
    → (y ≡ 39) × GoesOn bytes
behind_quote [] y bytes e = absurd cc
behind_quote (d ∷ content) y bytes e = on (eqb d 39) refl
  where
    on : (t : Bool) → eqb d 39 ≡ t → (y ≡ 39) × GoesOn bytes
    on true h = let k : 39 ∷ y ∷ bytes ≡ 39 ∷ 39 ∷ (doubled content ++ 39 ∷ []) = rw h at e in (cc, (content, cc))
    on false h = let k : 39 ∷ y ∷ bytes ≡ d ∷ (doubled content ++ 39 ∷ []) = rw h at e in let same : d ≡ 39 = cc in
        absurd (eqb-false d 39 h same)

behind_other : (content : List ℕ) (b : ℕ) (bytes : List ℕ) → eqb b 39 ≡ false → b ∷ bytes ≡ doubled content ++ 39 ∷ []
    → GoesOn bytes
behind_other [] b bytes other e = let same : b ≡ 39 = cc in absurd (eqb-false b 39 other same)
behind_other (d ∷ content) b bytes other e = on (eqb d 39) refl
  where
    on : (t : Bool) → eqb d 39 ≡ t → GoesOn bytes
    on true h = let k : b ∷ bytes ≡ 39 ∷ 39 ∷ (doubled content ++ 39 ∷ []) = rw h at e in let same : b ≡ 39 = cc in
        absurd (eqb-false b 39 other same)
    on false h = let k : b ∷ bytes ≡ d ∷ (doubled content ++ 39 ∷ []) = rw h at e in (content, cc)

-- a front of a closed text, behind its opening quote, with which a text goes on
within_text : (content front behind more other rest : List ℕ) → front ++ behind ≡ doubled content ++ 39 ∷ rest
    → Stops is_quote rest → front ++ more ≡ doubled other ++ 39 ∷ [] → length front ≤ length (doubled content) + 1
within_text content [] behind more other rest same stop goes = omega arith
within_text content (x ∷ []) behind more other rest same stop goes = omega arith
within_text [] (x ∷ y ∷ front) behind more other [] same stop goes = absurd cc
within_text [] (x ∷ y ∷ front) behind more other (r ∷ rest) same stop goes =
    let first : x ≡ 39 = cc in
    let second : y ≡ r = cc in
    let quotes : 39 ∷ y ∷ (front ++ more) ≡ doubled other ++ 39 ∷ [] =
    ap (λ (z : ℕ). z ∷ y ∷ (front ++ more)) (sym first) ∙ goes in
    absurd (eqb-false r 39 stop (sym second ∙ (behind_quote other y (front ++ more) quotes).0))
within_text (b ∷ content) (x ∷ y ∷ front) behind more other rest same stop goes =
    on (eqb b 39) refl (λ other' same' goes'. within_text content front behind more other' rest same' stop goes')
    (λ other' same' goes'. within_text content (y ∷ front) behind more other' rest same' stop goes')
  where
    on : (t : Bool) → eqb b 39 ≡ t
        → ((other' : List ℕ) → front ++ behind ≡ doubled content ++ 39 ∷ rest
        → front ++ more ≡ doubled other' ++ 39 ∷ [] → length front ≤ length (doubled content) + 1)
        → ((other' : List ℕ) → y ∷ (front ++ behind) ≡ doubled content ++ 39 ∷ rest
        → y ∷ (front ++ more) ≡ doubled other' ++ 39 ∷ [] → length (y ∷ front) ≤ length (doubled content) + 1)
        → length (x ∷ y ∷ front) ≤ length (doubled (b ∷ content)) + 1
    on true h two_on one_on =
        let k : x ∷ y ∷ (front ++ behind) ≡ 39 ∷ 39 ∷ (doubled content ++ 39 ∷ rest) = rw h at same in
        let first : x ≡ 39 = cc in
        let quotes : 39 ∷ y ∷ (front ++ more) ≡ doubled other ++ 39 ∷ [] =
        ap (λ (z : ℕ). z ∷ y ∷ (front ++ more)) (sym first) ∙ goes in
        let next = (behind_quote other y (front ++ more) quotes).1 in
        let le = two_on next.0 cc next.1 in
        rw h (omega arith)
    on false h two_on one_on =
        let k : x ∷ y ∷ (front ++ behind) ≡ b ∷ (doubled content ++ 39 ∷ rest) = rw h at same in
        let first : x ≡ b = cc in
        let goes' : b ∷ y ∷ (front ++ more) ≡ doubled other ++ 39 ∷ [] =
        ap (λ (z : ℕ). z ∷ y ∷ (front ++ more)) (sym first) ∙ goes in
        let next = behind_other other b (y ∷ (front ++ more)) h goes' in
        let le = one_on next.0 cc next.1 in
        rw h (omega arith)

is_text : (bytes : List ℕ) (piece : Option TokenKind) → PieceOf 3 bytes piece → (text : List ℕ) × (bytes ≡ quoted text)
is_text bytes None (inl h) = absurd (omega (arith, h.0))
is_text bytes None (inr h) = absurd (omega (arith, h.0))
is_text bytes (Some (Word keyword)) h = absurd (omega (arith, h.0))
is_text bytes (Some (Name word)) h = absurd (omega (arith, h.0))
is_text bytes (Some (HostVariable word)) h = absurd (omega (arith, h.0))
is_text bytes (Some (Number n)) h = absurd (omega (arith, h.0))
is_text bytes (Some (Literal text)) h = (text, h.1.0)
is_text bytes (Some (Sign symbol)) h = absurd (omega (arith, h.0))
is_text bytes (Some (Fault fault)) h = absurd h.1

-- a closed text that no quote follows is the longest piece
pub text_longest : (content rest : List ℕ) → Stops is_quote rest → IsLongest (quoted content) rest
text_longest content rest stop [] behind more piece same spelled = omega arith
text_longest content rest stop (x ∷ front) behind more piece same spelled =
    let first : x ≡ 39 = ap (λ (l : List ℕ). slice_index l 0) same in
    let is = is_text (x ∷ (front ++ more)) piece
    (piece_of_first x 3 (front ++ more) piece (ap class_of first ∙ class_of_quote) spelled) in
    let e : x ∷ (front ++ behind) ≡ 39 ∷ ((doubled content ++ 39 ∷ []) ++ rest) = same in
    let others : front ++ behind ≡ (doubled content ++ 39 ∷ []) ++ rest = cc in
    let f : x ∷ (front ++ more) ≡ 39 ∷ (doubled is.0 ++ 39 ∷ []) = is.1 in
    let goes : front ++ more ≡ doubled is.0 ++ 39 ∷ [] = cc in
    let le = within_text content front behind more is.0 rest (others ∙ append_assoc (doubled content) (39 ∷ []) rest)
    stop goes in
    omega (arith, length-append (doubled content) (39 ∷ []))
