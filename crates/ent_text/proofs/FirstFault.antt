-- The first fault of a text, and the tokens before it.
use Rattle.std.proofs.Common.{◌≡◌, ℕ, zero, suc, ◌+◌, ◌-◌, ◌<◌, ◌≤◌, List, [], ◌∷◌, ◌++◌, length, drop, append_assoc}
use Rattle.std.proofs.Common.{Result, Ok, Err, refl, ap, sym, subst, ◌∙◌, arith, Option, Some, None}
use Rattle.std.specs.Prelude.{IfNone, IfSome}
use Rattle.std.proofs.lemmas.List.{append-nil, length-append, drop_at}
use Rattle.std.proofs.Math.Seq.{drop-length}
use Rattle.ent_text.specs.declared.fault.TextFault.{TextFault}
use Rattle.ent_text.specs.declared.token.Token.{Token}
use Rattle.ent_text.specs.declared.token.TokenKind.{TokenKind}
use Rattle.ent_text.specs.declared.token.TokenKind.TheVariants.{Word, Name, HostVariable, Number, Literal, Sign, Fault}
use Rattle.ent_text.specs.Spelling.{Spells}
use Rattle.ent_text.specs.Reading.{Reads, nothing, gap, token, AreTokens, HasFault}
use Rattle.ent_text.specs.Lexing.{Piece, piece_at, tokens_of, with_token}
use Rattle.ent_text.specs.Left.{led_by, tokens_up_to, tokens_left, fault_or, fault_among, start_of_first}
use Rattle.ent_text.specs.Left.{IsFaultlessBefore, EndsInFault}
use Rattle.ent_text.proofs.Slices.{piece_has_byte}
use Rattle.ent_text.proofs.Found.{Cut, piece_cut, found_are_tokens, fault_is_found}
use Rattle.ent_text.proofs.OneReading.{piece_reads, fault_reads, fault_has_byte}
use Rattle.ent_text.proofs.UpTo.{enough, left_on, left_fault, left_nothing}

-- ---- the first fault among tokens

without_fault : (kind : TokenKind) (other : Option TextFault) → fault_or kind other ≡ None
    → (other ≡ None) × ((more : Option TextFault) → fault_or kind more ≡ more)
without_fault (Word w) other e = (e, λ more. refl)
without_fault (Name n) other e = (e, λ more. refl)
without_fault (HostVariable n) other e = (e, λ more. refl)
without_fault (Number n) other e = (e, λ more. refl)
without_fault (Literal t) other e = (e, λ more. refl)
without_fault (Sign s) other e = (e, λ more. refl)
without_fault (Fault f) other e = absurd cc

-- behind tokens without a fault, the first fault is that of those that follow
pub fault_behind : (front back : List Token) → fault_among front ≡ None → fault_among (front ++ back) ≡ fault_among back
fault_behind [] back e = refl
fault_behind (t ∷ front) back e =
    let none = without_fault t.kind (fault_among front) e in
    none.1 (fault_among (front ++ back)) ∙ fault_behind front back none.0

-- tokens without a fault begin with tokens without a fault
pub faultless_front : (front back : List Token) → fault_among (front ++ back) ≡ None → fault_among front ≡ None
faultless_front [] back e = refl
faultless_front (t ∷ front) back e =
    let none = without_fault t.kind (fault_among (front ++ back)) e in
    none.1 (fault_among front) ∙ faultless_front front back none.0

-- nothing spells a fault
spelled_without_fault : (bytes : List ℕ) (kind : TokenKind) (other : Option TextFault) → Spells bytes kind
    → fault_or kind other ≡ other
spelled_without_fault bytes (Word w) other h = refl
spelled_without_fault bytes (Name n) other h = refl
spelled_without_fault bytes (HostVariable n) other h = refl
spelled_without_fault bytes (Number n) other h = refl
spelled_without_fault bytes (Literal t) other h = refl
spelled_without_fault bytes (Sign s) other h = refl
spelled_without_fault bytes (Fault f) other h = absurd h

read_without_fault : {place : ℕ} {bytes : List ℕ} {ts : List Token} {end : ℕ} {rest : List ℕ}
    → Reads place bytes ts end rest → fault_among ts ≡ None
read_without_fault (nothing place rest) = refl
read_without_fault (gap place bytes behind ts end rest spelled longest more) = read_without_fault more
read_without_fault (token place bytes behind kind ts end rest spelled longest within more) =
    spelled_without_fault bytes kind (fault_among ts) spelled ∙ read_without_fault more

-- ---- the first fault of what is left

cut_at : (place : ℕ) (bytes : List ℕ) (read : Result Piece TextFault) → 0 < length bytes → piece_at place bytes ≡ read
    → Cut place bytes read
cut_at place [] read lt e = absurd (omega arith)
cut_at place (b ∷ bytes) read lt e = subst (Cut place (b ∷ bytes)) e (piece_cut place b bytes)

-- a piece has no fault
pub fault_past : (place : ℕ) (rest behind : List ℕ) (kind : Option TokenKind) → 0 < length rest
    → piece_at place rest ≡ Ok (kind, behind)
    → fault_among (tokens_left place rest) ≡ fault_among (tokens_left (place + (length rest - length behind)) behind)
fault_past place rest behind kind lt e =
    ap fault_among (left_on place rest behind kind lt e)
    ∙ past kind (cut_at place rest (Ok (kind, behind)) lt e)
  where
    next : ℕ
    next = place + (length rest - length behind)

    past : (kind : Option TokenKind) → Cut place rest (Ok (kind, behind))
        → fault_among (with_token kind place next (tokens_left next behind)) ≡ fault_among (tokens_left next behind)
    past None cut = refl
    past (Some kind) (word, is, spelled, longest, within) =
        spelled_without_fault word kind (fault_among (tokens_left next behind)) spelled

-- the fault that stands here is the first
pub fault_here : (place : ℕ) (rest : List ℕ) (fault : TextFault) → 0 < length rest → piece_at place rest ≡ Err fault
    → fault_among (tokens_left place rest) ≡ Some fault
fault_here place rest fault lt e = ap fault_among (left_fault place rest fault lt e)

-- ---- a text with its tokens and its fault

-- the tokens that were read, and those that are left
left_behind : {place : ℕ} {bytes : List ℕ} {ts : List Token} {end : ℕ} {rest : List ℕ}
    → Reads place bytes ts end rest → tokens_left place bytes ≡ ts ++ tokens_left end rest
left_behind (nothing place rest) = refl
left_behind (gap place bytes behind ts end rest spelled longest more) =
    let some : 0 < length (bytes ++ behind)
    = omega (arith, length-append bytes behind, piece_has_byte bytes None spelled) in
    let next : place + (length (bytes ++ behind) - length behind) ≡ place + length bytes
    = omega (arith, length-append bytes behind) in
    left_on place (bytes ++ behind) behind None some (piece_reads place bytes behind None spelled longest tt)
    ∙ ap (λ (k : ℕ). tokens_left k behind) next ∙ left_behind more
left_behind (token place bytes behind kind ts end rest spelled longest within more) =
    let some : 0 < length (bytes ++ behind)
    = omega (arith, length-append bytes behind, piece_has_byte bytes (Some kind) spelled) in
    let next : place + (length (bytes ++ behind) - length behind) ≡ place + length bytes
    = omega (arith, length-append bytes behind) in
    let here : Token = record { kind = kind; start = place; end = place + length bytes } in
    left_on place (bytes ++ behind) behind (Some kind) some
    (piece_reads place bytes behind (Some kind) spelled longest within)
    ∙ ap (λ (k : ℕ). with_token (Some kind) place k (tokens_left k behind)) next
    ∙ ap (λ (us : List Token). here ∷ us) (left_behind more)

all_bytes : {place : ℕ} {bytes : List ℕ} {ts : List Token} {end : ℕ} {rest : List ℕ}
    → Reads place bytes ts end rest → end + length rest ≡ place + length bytes
all_bytes (nothing place rest) = refl
all_bytes (gap place bytes behind ts end rest spelled longest more) =
    all_bytes more ∙ omega (arith, length-append bytes behind)
all_bytes (token place bytes behind kind ts end rest spelled longest within more) =
    all_bytes more ∙ omega (arith, length-append bytes behind)

-- without a fault they are all
pub all_left : (text : List ℕ) (ts : List Token) → AreTokens text ts → tokens_left 0 text ≡ ts
all_left text ts reads =
    left_behind reads ∙ ap (λ (us : List Token). ts ++ us) (left_nothing (length text) [] refl) ∙ append-nil ts

-- with a fault it is the last of them
pub ends_in_fault : (text : List ℕ) (fault : TextFault) → HasFault text fault → EndsInFault text fault
ends_in_fault text fault (ts, place, rest, reads, faulty) =
    let last : (end : ℕ) → List Token = λ (end : ℕ). record { kind = Fault fault; start = place; end = end } ∷ [] in
    let end : place + length rest ≡ length text = omega (arith, all_bytes reads) in
    let there = left_fault place rest fault (fault_has_byte place rest fault faulty)
    (fault_reads place rest fault faulty) in
    record {
      tokens = ts;
      place = place;
      rest = rest;
      reads = reads;
      faulty = faulty;
      whole = left_behind reads
          ∙ ap (λ (us : List Token). ts ++ us) (there ∙ ap last end);
    }

-- the first fault among the tokens is the text's
pub fault_left : (text : List ℕ) (fault : TextFault) → tokens_of text ≡ Err fault
    → fault_among (tokens_left 0 text) ≡ Some fault
fault_left text fault e =
    let ends = ends_in_fault text fault (fault_is_found text fault e) in
    let last : List Token = record { kind = Fault fault; start = ends.place; end = length text } ∷ [] in
    ap fault_among ends.whole ∙ fault_behind ends.tokens last (read_without_fault ends.reads)

-- without a fault among them they are all
pub faultless_left : (text : List ℕ) → fault_among (tokens_left 0 text) ≡ None
    → tokens_of text ≡ Ok (tokens_left 0 text)
faultless_left text none = from (tokens_of text) refl
  where
    from : (read : Result (List Token) TextFault) → tokens_of text ≡ read → tokens_of text ≡ Ok (tokens_left 0 text)
    from (Ok ts) is =
        is ∙ ap (λ (us : List Token). let r : Result (List Token) TextFault = Ok us in r)
        (sym (all_left text ts (found_are_tokens text ts is)))
    from (Err f) is = let some = fault_left text f is in absurd cc

-- the fault among them is the text's
pub fault_of_left : (text : List ℕ) (fault : TextFault) → fault_among (tokens_left 0 text) ≡ Some fault
    → tokens_of text ≡ Err fault
fault_of_left text fault some = from (tokens_of text) refl
  where
    from : (read : Result (List Token) TextFault) → tokens_of text ≡ read → tokens_of text ≡ Err fault
    from (Ok ts) is =
        let reads = found_are_tokens text ts is in
        let none = ap fault_among (all_left text ts reads) ∙ read_without_fault reads in
        absurd cc
    from (Err f) is =
        let other = fault_left text f is in
        let same : f ≡ fault = cc in
        is ∙ ap (λ (g : TextFault). let r : Result (List Token) TextFault = Err g in r) same

-- the first fault among them is the text's, and without one they are all
pub none_is_left : (text : List ℕ) (first : Option TextFault) → first ≡ fault_among (tokens_left 0 text)
    → IfNone first (tokens_of text ≡ Ok (tokens_left 0 text))
none_is_left text None e = faultless_left text (sym e)
none_is_left text (Some f) e = tt

pub some_is_left : (text : List ℕ) (first : Option TextFault) → first ≡ fault_among (tokens_left 0 text)
    → IfSome first (λ fault. tokens_of text ≡ Err fault)
some_is_left text None e = tt
some_is_left text (Some f) e = fault_of_left text f (sym e)

-- ---- from a place on

none_behind : (before back : List Token) → before ++ back ≡ [] → back ≡ []
none_behind [] back e = e
none_behind (t ∷ before) back e = absurd cc

module _ (text : List ℕ) (back : List Token) (place : ℕ) (stands : place ≡ start_of_first (length text) back) where
  abbrev Goal : Type 0
  Goal = back ≡ tokens_left place (drop place text)

  at_end : back ≡ [] → Goal
  at_end e =
      let there : place ≡ length text = stands ∙ ap (start_of_first (length text)) e in
      let gone : drop place text ≡ [] = ap (λ (k : ℕ). drop k text) there ∙ drop-length text in
      e ∙ sym (ap (tokens_left place) gone ∙ left_nothing place [] refl)

  here : (n p : ℕ) (front rest : List ℕ) → length rest ≤ n → text ≡ front ++ rest → p ≡ length front
      → tokens_up_to n p rest ≡ back → place ≡ p → Goal
  here n p front rest le is at e there =
      let left : drop place text ≡ rest
      = ap (λ (k : ℕ). drop k text) there ∙ ap (drop p) is ∙ drop_at front rest p (sym at) in
      sym e ∙ enough n (length rest) p rest le (omega arith)
      ∙ sym (ap (tokens_left place) left ∙ ap (λ (k : ℕ). tokens_left k rest) there)

  abbrev Again : ℕ → Type 0
  Again n =
      (next : ℕ) (front behind : List ℕ) (before : List Token) → length behind ≤ n → text ≡ front ++ behind
      → next ≡ length front → tokens_up_to n next behind ≡ before ++ back → Goal

  tokens_behind : (n : ℕ) → Again n
  unfolding tokens_up_to
  tokens_behind zero p front [] before le is at e = at_end (none_behind before back (sym e))
  tokens_behind (suc n) p front [] before le is at e = at_end (none_behind before back (sym e))
  tokens_behind zero p front (b ∷ rest) before le is at e = absurd (omega arith)
  tokens_behind (suc n) p front (b ∷ rest) before le is at e =
      by (tokens_behind n) (piece_at p (b ∷ rest)) refl before e e
    where
      bytes : List ℕ
      bytes = b ∷ rest

      after : Again n → (kind : Option TokenKind) (behind : List ℕ) (before : List Token)
          → Cut p (b ∷ rest) (Ok (kind, behind))
          → tokens_up_to n (p + (length (b ∷ rest) - length behind)) behind ≡ before ++ back → Goal
      after again kind behind before (word, cut, spelled, longest, within) e =
          let some = piece_has_byte word kind spelled in
          let size : length (b ∷ rest) ≡ length word + length behind = ap length cut ∙ length-append word behind in
          again (p + (length (b ∷ rest) - length behind)) (front ++ word) behind before (omega (arith, some, size))
          (is ∙ ap (λ (xs : List ℕ). front ++ xs) cut ∙ sym (append_assoc front word behind))
          (omega (arith, size, at, length-append front word)) e

      by : Again n → (read : Result Piece TextFault) → piece_at p (b ∷ rest) ≡ read → (before : List Token)
          → tokens_up_to (suc n) p (b ∷ rest) ≡ before ++ back
          → led_by read p (length (b ∷ rest)) (tokens_up_to n) ≡ before ++ back → Goal
      by again (Ok (None, behind)) found before whole e =
          after again None behind before (cut_at p (b ∷ rest) (Ok (None, behind)) (omega arith) found) e
      by again (Ok (Some kind, behind)) found [] whole e =
          here (suc n) p front (b ∷ rest) le is at whole (stands ∙ ap (start_of_first (length text)) (sym e))
      by again (Ok (Some kind, behind)) found (t ∷ before) whole e =
          after again (Some kind) behind before (cut_at p (b ∷ rest) (Ok (Some kind, behind)) (omega arith) found)
          (ap (drop 1) e)
      by again (Err f) found [] whole e =
          here (suc n) p front (b ∷ rest) le is at whole (stands ∙ ap (start_of_first (length text)) (sym e))
      by again (Err f) found (t ∷ before) whole e = at_end (none_behind before back (sym (ap (drop 1) e)))

-- where no token before a place is a fault, the first fault is that of what is left there
pub fault_left_behind : (text : List ℕ) (place : ℕ) → IsFaultlessBefore text place
    → fault_among (tokens_left place (drop place text)) ≡ fault_among (tokens_left 0 text)
fault_left_behind text place h =
    let back = tokens_behind text h.back place h.stands (length text) 0 [] text h.before (omega arith) refl refl
    h.whole in
    ap fault_among (sym back) ∙ sym (ap fault_among h.whole ∙ fault_behind h.before h.back h.faultless)
