-- Symbols: the longest one is read.
use Rattle.std.proofs.Common.{◌≡◌, ℕ, ◌<◌, ◌≤◌, Bool, true, false, cond, eqb, List, [], ◌∷◌, ◌++◌, length, take, drop}
use Rattle.std.proofs.Common.{refl, ap, sym, ◌∙◌, subst, arith, Option, Some, None, inl, inr}
use Rattle.std.specs.Prelude.{codes, slice_index, ◌&&◌}
use Rattle.std.specs.Char.{is_ascii_alphabetic}
use Rattle.std.proofs.lemmas.Bool.{eqb-true, eqb-false}
use Rattle.std.proofs.lemmas.List.{length-take-le, take-append-drop, length-append}
use Rattle.ent_text.specs.declared.token.TokenKind.{TokenKind}
use Rattle.ent_text.specs.declared.token.TokenKind.TheVariants.{Word, Name, HostVariable, Number, Literal, Sign, Fault}
use Rattle.ent_text.specs.declared.symbol.Symbol.{Symbol}
use Rattle.ent_text.specs.declared.symbol.Symbol.TheVariants.{Open, Close, Comma, Semicolon, Dot, Star, Plus, Minus}
use Rattle.ent_text.specs.declared.symbol.Symbol.TheVariants.{Equal, NotEqual, Less, LessOrEqual, Greater}
use Rattle.ent_text.specs.declared.symbol.Symbol.TheVariants.{GreaterOrEqual}
use Rattle.ent_text.specs.Symbol.{symbol_text, SpellsSymbol}
use Rattle.ent_text.specs.Spelling.{IsWordLike, IsPiece, IsLongest}
use Rattle.ent_text.specs.Reading.{BeginsNothing}
use Rattle.ent_text.specs.Lexing.{symbol_of, begins_comment}
use Rattle.ent_text.proofs.Firsts.{PieceOf, class_of, piece_of_first, no_empty_piece}
use Rattle.ent_text.proofs.Words.{letter_first}
use Rattle.ent_text.proofs.Runs.{comment_begins, behind_at_sign}

-- what is read is spelled by that many of the bytes
abbrev pub Marks : List ℕ → Option (Symbol × ℕ) → Type 0
Marks bytes None = Unit {0}
Marks bytes (Some x) = (0 < x.1) × (x.1 ≤ length bytes) × SpellsSymbol (take x.1 bytes) x.0

marks_cond : (bytes : List ℕ) (t : Bool) (x y : Option (Symbol × ℕ)) → (t ≡ true → Marks bytes x)
    → (t ≡ false → Marks bytes y) → Marks bytes (cond t x y)
marks_cond bytes true x y p q = p refl
marks_cond bytes false x y p q = q refl

one : (symbol : Symbol) (b mark : ℕ) (rest : List ℕ) → mark ∷ [] ≡ symbol_text symbol → eqb b mark ≡ true
    → Marks (b ∷ rest) (Some (symbol, 1))
one symbol b mark rest text e = (omega arith, omega arith, inl (ap (λ (y : ℕ). y ∷ []) (eqb-true b mark e) ∙ text))

pair : (b c m n : ℕ) → eqb b m ≡ true → eqb c n ≡ true → b ∷ c ∷ [] ≡ m ∷ n ∷ []
pair b c m n e f = let p : b ≡ m = eqb-true b m e in let q : c ≡ n = eqb-true c n f in cc

two : (symbol : Symbol) (b c m n : ℕ) (rest : List ℕ) → m ∷ n ∷ [] ≡ symbol_text symbol → eqb b m ≡ true
    → eqb c n ≡ true → Marks (b ∷ c ∷ rest) (Some (symbol, 2))
two symbol b c m n rest text e f = (omega arith, omega arith, inl (pair b c m n e f ∙ text))

pub symbol_marks : (b : ℕ) (rest : List ℕ) → Marks (b ∷ rest) (symbol_of b (slice_index rest 0))
unfolding symbol_of
symbol_marks b [] =
    marks_cond (b ∷ []) (eqb b 40) _ _ (one Open b 40 [] refl)
    (λ _. marks_cond (b ∷ []) (eqb b 41) _ _ (one Close b 41 [] refl)
    (λ _. marks_cond (b ∷ []) (eqb b 44) _ _ (one Comma b 44 [] refl) (λ _.
    marks_cond (b ∷ []) (eqb b 59) _ _ (one Semicolon b 59 [] refl)
    (λ _. marks_cond (b ∷ []) (eqb b 46) _ _ (one Dot b 46 [] refl)
    (λ _. marks_cond (b ∷ []) (eqb b 42) _ _ (one Star b 42 [] refl) (λ _.
    marks_cond (b ∷ []) (eqb b 43) _ _ (one Plus b 43 [] refl)
    (λ _. marks_cond (b ∷ []) (eqb b 45) _ _ (one Minus b 45 [] refl)
    (λ _. marks_cond (b ∷ []) (eqb b 61) _ _ (one Equal b 61 [] refl) (λ _.
    marks_cond (b ∷ []) (eqb b 60) _ _ (one Less b 60 [] refl)
    (λ _. marks_cond (b ∷ []) (eqb b 62) _ _ (one Greater b 62 [] refl)
    (λ _. marks_cond (b ∷ []) (eqb b 33) _ _ (λ _. tt) (λ _. tt))))))))))))
symbol_marks b (c ∷ rest) =
    marks_cond (b ∷ c ∷ rest) (eqb b 40) _ _ (one Open b 40 (c ∷ rest) refl)
    (λ _. marks_cond (b ∷ c ∷ rest) (eqb b 41) _ _ (one Close b 41 (c ∷ rest) refl)
    (λ _. marks_cond (b ∷ c ∷ rest) (eqb b 44) _ _ (one Comma b 44 (c ∷ rest) refl) (λ _.
    marks_cond (b ∷ c ∷ rest) (eqb b 59) _ _ (one Semicolon b 59 (c ∷ rest) refl)
    (λ _. marks_cond (b ∷ c ∷ rest) (eqb b 46) _ _ (one Dot b 46 (c ∷ rest) refl)
    (λ _. marks_cond (b ∷ c ∷ rest) (eqb b 42) _ _ (one Star b 42 (c ∷ rest) refl) (λ _.
    marks_cond (b ∷ c ∷ rest) (eqb b 43) _ _ (one Plus b 43 (c ∷ rest) refl)
    (λ _. marks_cond (b ∷ c ∷ rest) (eqb b 45) _ _ (one Minus b 45 (c ∷ rest) refl)
    (λ _. marks_cond (b ∷ c ∷ rest) (eqb b 61) _ _ (one Equal b 61 (c ∷ rest) refl) (λ _.
    marks_cond (b ∷ c ∷ rest) (eqb b 60) _ _
    (λ e. marks_cond (b ∷ c ∷ rest) (eqb c 62) _ _ (two NotEqual b c 60 62 rest refl e)
    (λ _. marks_cond (b ∷ c ∷ rest) (eqb c 61) _ _ (two LessOrEqual b c 60 61 rest refl e)
    (λ _. one Less b 60 (c ∷ rest) refl e))) (λ _.
    marks_cond (b ∷ c ∷ rest) (eqb b 62) _ _
    (λ e. marks_cond (b ∷ c ∷ rest) (eqb c 61) _ _ (two GreaterOrEqual b c 62 61 rest refl e)
    (λ _. one Greater b 62 (c ∷ rest) refl e)) (λ _.
    marks_cond (b ∷ c ∷ rest) (eqb b 33) _ _
    (λ e. marks_cond (b ∷ c ∷ rest) (eqb c 61) _ _ (λ f. (omega arith, omega arith, inr (pair b c 33 61 e f, refl)))
    (λ _. tt)) (λ _. tt))))))))))))

-- a symbol is read, of no fewer bytes
abbrev pub Takes : ℕ → Option (Symbol × ℕ) → Type 0
Takes n None = ⊥
Takes n (Some x) = n ≤ x.1

takes_cond : (n : ℕ) (t : Bool) (x y : Option (Symbol × ℕ)) → Takes n x → Takes n y → Takes n (cond t x y)
takes_cond n true x y p q = p
takes_cond n false x y p q = q

text_takes : (symbol : Symbol) (behind : List ℕ)
    → Takes (length (symbol_text symbol))
    (symbol_of (slice_index (symbol_text symbol ++ behind) 0) (slice_index (symbol_text symbol ++ behind) 1))
unfolding symbol_of
text_takes Open behind = omega arith
text_takes Close behind = omega arith
text_takes Comma behind = omega arith
text_takes Semicolon behind = omega arith
text_takes Dot behind = omega arith
text_takes Star behind = omega arith
text_takes Plus behind = omega arith
text_takes Minus behind = omega arith
text_takes Equal behind = omega arith
text_takes NotEqual behind = omega arith
text_takes Less behind = takes_cond 1 (eqb (slice_index behind 0) 62) _ _ (omega arith)
    (takes_cond 1 (eqb (slice_index behind 0) 61) _ _ (omega arith) (omega arith))
text_takes LessOrEqual behind = omega arith
text_takes Greater behind = takes_cond 1 (eqb (slice_index behind 0) 61) _ _ (omega arith) (omega arith)
text_takes GreaterOrEqual behind = omega arith

exclamation_takes : (behind : List ℕ)
    → Takes 2 (symbol_of (slice_index (codes "!=" ++ behind) 0) (slice_index (codes "!=" ++ behind) 1))
unfolding symbol_of
exclamation_takes behind = omega arith

pub symbol_takes : (bytes behind : List ℕ) (symbol : Symbol) → SpellsSymbol bytes symbol
    → Takes (length bytes) (symbol_of (slice_index (bytes ++ behind) 0) (slice_index (bytes ++ behind) 1))
symbol_takes bytes behind symbol (inl e) =
    subst (λ (l : List ℕ). Takes (length l) (symbol_of (slice_index (l ++ behind) 0) (slice_index (l ++ behind) 1)))
    (sym e) (text_takes symbol behind)
symbol_takes bytes behind symbol (inr e) =
    subst (λ (l : List ℕ). Takes (length l) (symbol_of (slice_index (l ++ behind) 0) (slice_index (l ++ behind) 1)))
    (sym e.0) (exclamation_takes behind)

-- a piece that begins as a symbol does is one, where no comment begins
is_symbol : (bytes behind : List ℕ) (piece : Option TokenKind) → PieceOf 4 bytes piece
    → begins_comment (bytes ++ behind) ≡ false → (symbol : Symbol) × SpellsSymbol bytes symbol
is_symbol bytes behind None (inl h) plain = absurd (omega (arith, h.0))
is_symbol bytes behind None (inr h) plain = let begins : begins_comment (bytes ++ behind) ≡ true =
    comment_begins bytes behind h.1 in absurd cc
is_symbol bytes behind (Some (Word keyword)) h plain = absurd (omega (arith, h.0))
is_symbol bytes behind (Some (Name word)) h plain = absurd (omega (arith, h.0))
is_symbol bytes behind (Some (HostVariable word)) h plain = absurd (omega (arith, h.0))
is_symbol bytes behind (Some (Number n)) h plain = absurd (omega (arith, h.0))
is_symbol bytes behind (Some (Literal text)) h plain = absurd (omega (arith, h.0))
is_symbol bytes behind (Some (Sign symbol)) h plain = (symbol, h.1)
is_symbol bytes behind (Some (Fault fault)) h plain = absurd h.1

piece_takes : (x : ℕ) (front behind : List ℕ) (piece : Option TokenKind) → class_of x ≡ 4
    → begins_comment (x ∷ (front ++ behind)) ≡ false → IsPiece (x ∷ front) piece
    → Takes (length (x ∷ front)) (symbol_of x (slice_index (front ++ behind) 0))
piece_takes x front behind piece k plain spelled =
    let s = is_symbol (x ∷ front) behind piece (piece_of_first x 4 front piece k spelled) plain in
    symbol_takes (x ∷ front) behind s.0 s.1

pub takes_at_most : (n : ℕ) (o : Option (Symbol × ℕ)) (x : Symbol × ℕ) → o ≡ Some x → Takes n o → n ≤ x.1
takes_at_most n None x e h = absurd h
takes_at_most n (Some y) x e h = let k : y ≡ x = cc in subst (λ (z : Symbol × ℕ). n ≤ z.1) k h

pub takes_none : (n : ℕ) (o : Option (Symbol × ℕ)) → o ≡ None → Takes n o → ⊥
takes_none n None e h = h
takes_none n (Some y) e h = absurd cc

-- the symbol that is read is the longest piece
pub symbol_longest : (b : ℕ) (rest : List ℕ) (x : Symbol × ℕ) → class_of b ≡ 4 → begins_comment (b ∷ rest) ≡ false
    → 0 < x.1 → x.1 ≤ length (b ∷ rest) → symbol_of b (slice_index rest 0) ≡ Some x
    → IsLongest (take x.1 (b ∷ rest)) (drop x.1 (b ∷ rest))
symbol_longest b rest x k plain some le read [] behind more piece same spelled = omega arith
symbol_longest b rest x k plain some le read (y ∷ []) behind more piece same spelled =
    omega (arith, length-take-le x.1 (b ∷ rest) le)
symbol_longest b rest x k plain some le read (y ∷ z ∷ front) behind more piece same spelled =
    let whole : y ∷ z ∷ (front ++ behind) ≡ b ∷ rest = same ∙ take-append-drop x.1 (b ∷ rest) in
    let first : y ≡ b = ap (λ (l : List ℕ). slice_index l 0) whole in
    let second : z ≡ slice_index rest 0 = ap (λ (l : List ℕ). slice_index l 1) whole in
    let takes : Takes (length (y ∷ z ∷ (front ++ more))) (symbol_of y z) = piece_takes y (z ∷ (front ++ more)) [] piece
    (ap class_of first ∙ k) (ap (λ (c : ℕ). eqb c 45 && eqb z 45) first
    ∙ ap (λ (c : ℕ). eqb b 45 && eqb c 45) second ∙ plain) spelled in
    let is : symbol_of y z ≡ Some x = ap (λ (c : ℕ). symbol_of c z) first ∙ ap (symbol_of b) second ∙ read in
    let most : length (y ∷ z ∷ (front ++ more)) ≤ x.1 = takes_at_most _ (symbol_of y z) x is takes in
    omega (arith, length-append front more, length-take-le x.1 (b ∷ rest) le)

-- where no comment and no symbol is read, nothing begins
pub nothing_begins : (b : ℕ) (rest : List ℕ) → class_of b ≡ 4 → eqb b 39 ≡ false → begins_comment (b ∷ rest) ≡ false
    → symbol_of b (slice_index rest 0) ≡ None → BeginsNothing (b ∷ rest)
nothing_begins b rest k e plain none = (b, rest, refl, eqb-false b 39 e, on)
  where
    on : (front behind : List ℕ) (piece : Option TokenKind) → b ∷ rest ≡ front ++ behind → IsPiece front piece → ⊥
    on [] behind piece same spelled = no_empty_piece piece spelled
    on (y ∷ front) behind piece same spelled =
        let first : y ≡ b = sym (ap (λ (l : List ℕ). slice_index l 0) same) in
        let second : slice_index (front ++ behind) 0 ≡ slice_index rest 0 =
        sym (ap (λ (l : List ℕ). slice_index l 1) same) in
        let is : symbol_of y (slice_index (front ++ behind) 0) ≡ None =
        ap (λ (c : ℕ). symbol_of c (slice_index (front ++ behind) 0)) first ∙ ap (symbol_of b) second ∙ none in
        takes_none _ _ is (piece_takes y front behind piece (ap class_of first ∙ k)
        (ap begins_comment (sym same) ∙ plain) spelled)

-- nor behind an `@` that no letter follows
pub at_sign_begins_nothing : (rest : List ℕ) → is_ascii_alphabetic (slice_index rest 0) ≡ false
    → BeginsNothing (64 ∷ rest)
at_sign_begins_nothing rest none = (64, rest, refl, eqb-false 64 39 refl, on)
  where
    on : (front behind : List ℕ) (piece : Option TokenKind) → 64 ∷ rest ≡ front ++ behind → IsPiece front piece → ⊥
    on [] behind piece same spelled = no_empty_piece piece spelled
    on (y ∷ front) behind piece same spelled =
        let word : IsWordLike front =
        behind_at_sign y front piece (sym (ap (λ (l : List ℕ). slice_index l 0) same)) spelled in
        let letter : is_ascii_alphabetic (slice_index (front ++ behind) 0) ≡ true = letter_first front behind word.0 in
        let is : is_ascii_alphabetic (slice_index rest 0) ≡ is_ascii_alphabetic (slice_index (front ++ behind) 0) =
        ap (λ (l : List ℕ). is_ascii_alphabetic (slice_index l 1)) same in
        absurd cc
