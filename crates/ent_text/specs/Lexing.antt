-- How the tokens of a text are read from left to right, up to its first fault: a function that gives what `Reading`
-- speaks of, as its laws say.
use Rattle.std.specs.Prelude.{◌≡◌, ℕ, zero, suc, ◌+◌, ◌-◌, ◌*◌, Bool, true, false, ◌&&◌, List, [], ◌∷◌, length, drop}
use Rattle.std.specs.Prelude.{Option, Some, None, Result, Ok, Err, nat_lt, ◌==◌, if◌then◌else◌, slice_index}
use Rattle.std.specs.List.{find, take_while, prefix_len}
use Rattle.std.specs.Option.{option_map_or}
use Rattle.std.specs.Char.{is_ascii_alphabetic, is_ascii_digit, is_ascii_control, to_ascii_uppercase}
use Rattle.ent_value.specs.Refusal.{◌>>=◌}
use Rattle.ent_value.specs.Name.{is_word_byte}
use Rattle.ent_value.specs.declared.name.TheConstants.{LONGEST_NAME}
use Rattle.ent_value.specs.declared.text.TheConstants.{LONGEST_TEXT}
use Rattle.ent_text.specs.Keyword.{keyword_text}
use Rattle.ent_text.specs.declared.keyword.Keyword.{Keyword}
use Rattle.ent_text.specs.declared.keyword.Keyword.TheVariants.{And, Answer, As, Begin, Choose, Commit, Create}
use Rattle.ent_text.specs.declared.keyword.Keyword.TheVariants.{Delete, From, In, Insert, Int, Into, Rollback, Runs}
use Rattle.ent_text.specs.declared.keyword.Keyword.TheVariants.{Select, Set, Table, Text, Transaction, Update, Values}
use Rattle.ent_text.specs.declared.keyword.Keyword.TheVariants.{Where, Within}
use Rattle.ent_text.specs.Spelling.{is_blank, is_in_line}
use Rattle.ent_text.specs.declared.symbol.Symbol.{Symbol}
use Rattle.ent_text.specs.declared.symbol.Symbol.TheVariants.{Open, Close, Comma, Semicolon, Dot, Star, Plus, Minus}
use Rattle.ent_text.specs.declared.symbol.Symbol.TheVariants.{Equal, NotEqual, Less, LessOrEqual, Greater}
use Rattle.ent_text.specs.declared.symbol.Symbol.TheVariants.{GreaterOrEqual}
use Rattle.ent_text.specs.declared.fault.TextFault.{TextFault}
use Rattle.ent_text.specs.declared.fault.TextFault.TheVariants.{BadChar, OpenText, NumberTooLarge, TextTooLong}
use Rattle.ent_text.specs.declared.token.Token.{Token}
use Rattle.ent_text.specs.declared.token.TokenKind.{TokenKind}
use Rattle.ent_text.specs.declared.token.TokenKind.TheVariants.{Word, Name, HostVariable, Number, Literal, Sign}

-- what stands behind the longest front of such bytes
abbrev pub after : (ℕ → Bool) → List ℕ → List ℕ
after test bytes = drop (prefix_len test bytes) bytes

-- no byte that passes stands first
abbrev pub Stops : (ℕ → Bool) → List ℕ → Type 0
Stops test [] = Unit {0}
Stops test (c ∷ others) = test c ≡ false

-- A piece of the text: a token's kind, or None for a gap; and the bytes behind it.
abbrev pub Piece : Type 0
Piece = Option TokenKind × List ℕ

abbrev pub keywords : List Keyword
keywords =
    And ∷ Answer ∷ As ∷ Begin ∷ Choose ∷ Commit ∷ Create ∷ Delete ∷ From ∷ In ∷ Insert ∷ Int ∷ Into ∷ Rollback ∷ Runs ∷
    Select ∷ Set ∷ Table ∷ Text ∷ Transaction ∷ Update ∷ Values ∷ Where ∷ Within ∷ []

-- the word is written so, in any case
abbrev pub is_written : List ℕ → List ℕ → Bool
is_written [] [] = true
is_written [] (c ∷ cs) = false
is_written (b ∷ bs) [] = false
is_written (b ∷ bs) (c ∷ cs) = (to_ascii_uppercase b == c) && is_written bs cs

unfoldable pub keyword_of : List ℕ → Option Keyword
keyword_of word = find (λ keyword. is_written word (keyword_text keyword)) keywords

abbrev pub word_kind : List ℕ → TokenKind
word_kind word = option_map_or (λ keyword. Word keyword) (keyword_of word) (Name word)

unfoldable pub word_at : ℕ → List ℕ → Result Piece TextFault
word_at place bytes =
    let word = take_while is_word_byte bytes in
    if nat_lt LONGEST_NAME (length word) then Err (TextTooLong place)
    else Ok (Some (word_kind word), after is_word_byte bytes)

-- an `@`, and a word directly behind it
unfoldable pub host_variable_at : ℕ → List ℕ → Result Piece TextFault
host_variable_at place bytes =
    let behind = drop 1 bytes in
    let word = take_while is_word_byte behind in
    if is_ascii_alphabetic (slice_index behind 0) then
    (if nat_lt LONGEST_NAME (length word) then Err (TextTooLong place)
    else Ok (Some (HostVariable word), after is_word_byte behind))
    else Err (BadChar place)

-- the number that digits go on to
abbrev pub value_from : ℕ → List ℕ → ℕ
value_from value [] = value
value_from value (d ∷ ds) = value_from (value * 10 + (d - 48)) ds

unfoldable pub number_at : ℕ → List ℕ → Result Piece TextFault
number_at place bytes =
    let value = value_from 0 (take_while is_ascii_digit bytes) in
    if nat_lt 9223372036854775807 value then Err (NumberTooLarge place)
    else Ok (Some (Number value), after is_ascii_digit bytes)

abbrev pub with_byte : ℕ → Result (List ℕ × List ℕ) TextFault → Result (List ℕ × List ℕ) TextFault
with_byte b read = read >>= λ x. Ok (b ∷ x.0, x.1)

-- What stands in quotes, and the bytes behind the closing one. The opening one stands at quote.
unfoldable pub quoted_at : ℕ → ℕ → List ℕ → Result (List ℕ × List ℕ) TextFault
quoted_at quote place [] = Err (OpenText quote)
quoted_at quote place (b ∷ []) =
    if b == 39 then Ok ([], []) else (if is_ascii_control b then Err (BadChar place) else Err (OpenText quote))
quoted_at quote place (b ∷ c ∷ bytes) =
    if b == 39 then (if c == 39 then with_byte 39 (quoted_at quote (place + 2) bytes) else Ok ([], c ∷ bytes))
    else (if is_ascii_control b then Err (BadChar place) else with_byte b (quoted_at quote (place + 1) (c ∷ bytes)))

unfoldable pub text_at : ℕ → List ℕ → Result Piece TextFault
text_at place bytes = do
  text ← quoted_at place (place + 1) (drop 1 bytes)
  if nat_lt LONGEST_TEXT (length text.0) then Err (TextTooLong place) else Ok (Some (Literal text.0), text.1)

-- the longest symbol that the two bytes begin, and its length
unfoldable pub symbol_of : ℕ → ℕ → Option (Symbol × ℕ)
symbol_of b c =
    if b == 40 then Some (Open, 1)
    else (if b == 41 then Some (Close, 1)
    else (if b == 44 then Some (Comma, 1)
    else (if b == 59 then Some (Semicolon, 1)
    else (if b == 46 then Some (Dot, 1)
    else (if b == 42 then Some (Star, 1)
    else (if b == 43 then Some (Plus, 1)
    else (if b == 45 then Some (Minus, 1)
    else (if b == 61 then Some (Equal, 1)
    else (if b == 60 then
    (if c == 62 then Some (NotEqual, 2) else (if c == 61 then Some (LessOrEqual, 2) else Some (Less, 1)))
    else (if b == 62 then (if c == 61 then Some (GreaterOrEqual, 2) else Some (Greater, 1))
    else (if b == 33 then (if c == 61 then Some (NotEqual, 2) else None)
    else None)))))))))))

unfoldable pub symbol_at : ℕ → List ℕ → Result Piece TextFault
symbol_at place bytes =
    option_map_or (λ s. Ok (Some (Sign s.0), drop s.1 bytes))
    (symbol_of (slice_index bytes 0) (slice_index bytes 1)) (Err (BadChar place))

-- two minus signs stand first
abbrev pub begins_comment : List ℕ → Bool
begins_comment bytes = (slice_index bytes 0 == 45) && (slice_index bytes 1 == 45)

unfoldable pub piece_at : ℕ → List ℕ → Result Piece TextFault
piece_at place bytes =
    let b = slice_index bytes 0 in
    if is_blank b then Ok (None, drop 1 bytes)
    else (if is_ascii_alphabetic b then word_at place bytes
    else (if is_ascii_digit b then number_at place bytes
    else (if b == 39 then text_at place bytes
    else (if b == 64 then host_variable_at place bytes
    else (if begins_comment bytes then Ok (None, after is_in_line bytes)
    else symbol_at place bytes)))))

abbrev pub with_token : Option TokenKind → ℕ → ℕ → List Token → List Token
with_token None start end ts = ts
with_token (Some kind) start end ts = record { kind = kind; start = start; end = end } ∷ ts

-- A text of n bytes has no more than n pieces.
unfoldable pub tokens_from : ℕ → ℕ → List ℕ → Result (List Token) TextFault
tokens_from n place [] = Ok []
tokens_from zero place (b ∷ bytes) = Ok []
tokens_from (suc n) place (b ∷ bytes) = do
  piece ← piece_at place (b ∷ bytes)
  let next = place + (length (b ∷ bytes) - length piece.1)
  more ← tokens_from n next piece.1
  Ok (with_token piece.0 place next more)

unfoldable pub tokens_of : List ℕ → Result (List Token) TextFault
tokens_of bytes = tokens_from (length bytes) 0 bytes
