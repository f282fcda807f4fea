-- Printed scripts are read behind a text that is read.
use Rattle.std.proofs.Common.{◌≡◌, ℕ, ◌+◌, ◌≤◌, Bool, true, false, List, [], ◌∷◌, ◌++◌, length, map, refl, ap, sym, ◌∙◌}
use Rattle.std.proofs.Common.{subst, append_assoc, arith}
use Rattle.std.specs.List.{All, flat_map}
use Rattle.std.proofs.lemmas.List.{append-nil, length-append, length-map}
use Rattle.ent_text.specs.declared.symbol.Symbol.TheVariants as symbols
use Rattle.ent_text.specs.declared.token.Token.{Token}
use Rattle.ent_text.specs.declared.token.TokenKind.{TokenKind}
use Rattle.ent_text.specs.Reading.{AreTokens}
use Rattle.ent_text.specs.Moved.{moved}
use Rattle.ent_tree.specs.declared.limits.TheConstants.{MOST_SCRIPTS}
use Rattle.ent_tree.specs.declared.declaration.Opening.{Opening}
use Rattle.ent_tree.specs.declared.script.Script.{Script}
use Rattle.ent_tree.specs.declared.script.Input.{Input}
use Rattle.ent_tree.specs.Places.{unplaced_script}
use Rattle.ent_text.specs.Phrase.{Phrase, ◌⨾◌, all}
use Rattle.ent_text.specs.Grammar.{Grammar, give, chain, many}
use Rattle.ent_text.specs.GrammarSpelling.{spells}
use Rattle.ent_sql.specs.Scripts as grammar
use Rattle.ent_print.specs.Lexeme.{Lexeme, lexeme_text, line_end, space, wants_behind, text_behind, text_of}
use Rattle.ent_print.specs.Printing.{script_text}
use Rattle.ent_print.specs.Reading.{kinds_of, CanBeRead, HasKinds}
use Rattle.ent_print.specs.Spelling.{word, sign, line_spelling, end_word, script_spelling}
use Rattle.ent_sql_laws.specs.Fits.{Each, ScriptFits}
use Rattle.ent_sql_laws.specs.Following.{scripts_text, text_with, IsFollowedBy, HasScripts}
use Rattle.ent_sql_laws.proofs.Combining.{kind}
use Rattle.ent_sql_laws.proofs.Lists.{again_many}
use Rattle.ent_sql_laws.proofs.Scripts.{again_script}
use Rattle.ent_sql_laws.proofs.Keeping.{each_append, each_at}

-- ---- the text of scripts

-- whether a space is wanted behind lexemes
abbrev wanted_behind : Bool → List Lexeme → Bool
wanted_behind wanted [] = wanted
wanted_behind wanted (lexeme ∷ more) = wanted_behind (wants_behind lexeme) more

text_append : (wanted : Bool) (xs ys : List Lexeme)
    → text_behind wanted (xs ++ ys) ≡ text_behind wanted xs ++ text_behind (wanted_behind wanted xs) ys
text_append wanted [] ys = refl
text_append wanted (x ∷ xs) ys =
    let rest = text_behind (wants_behind x) xs in
    let other = text_behind (wanted_behind (wants_behind x) xs) ys in
    ap (λ (l : List ℕ). space wanted x ++ (lexeme_text x ++ (line_end x ++ l))) (text_append (wants_behind x) xs ys)
    ∙ sym (append_assoc (space wanted x) (lexeme_text x ++ (line_end x ++ rest)) other
    ∙ ap (λ (l : List ℕ). space wanted x ++ l) (append_assoc (lexeme_text x) (line_end x ++ rest) other
    ∙ ap (λ (l : List ℕ). lexeme_text x ++ l) (append_assoc (line_end x) rest other)))

-- no space is wanted behind a `;` and the word before it
nothing_wanted : (wanted : Bool) (xs : List Lexeme) (last : Lexeme)
    → wanted_behind wanted (xs ++ last ∷ sign symbols.Semicolon ∷ []) ≡ false
nothing_wanted wanted [] last = refl
nothing_wanted wanted (x ∷ xs) last = nothing_wanted (wants_behind x) xs last

one_behind : (s : Script) (rest : List Lexeme) → text_of (script_spelling s ++ rest) ≡ script_text s ++ text_of rest
one_behind s rest =
    text_append false (script_spelling s) rest
    ∙ ap (λ (w : Bool). script_text s ++ text_behind w rest)
    (nothing_wanted false (flat_map line_spelling s.statements) (word (end_word s.end)))

text_is : (scripts : List Script) → text_of (flat_map script_spelling scripts) ≡ scripts_text scripts
text_is [] = refl
text_is (s ∷ scripts) =
    one_behind s (flat_map script_spelling scripts)
    ∙ ap (λ (l : List ℕ). script_text s ++ l) (text_is scripts)

-- ---- scripts behind a text

all_append : {A : Type 0} (of : A → Phrase) (xs ys : List A) (ts us : List Token) → all of xs ts → all of ys us
    → all of (xs ++ ys) (ts ++ us)
all_append of [] ys ts us h k = subst (λ (l : List Token). all of ys (l ++ us)) (sym h) k
all_append of (x ∷ xs) ys ts us h k = record {
  front = h.front;
  back = h.back ++ us;
  whole = ap (λ (l : List Token). l ++ us) h.whole ∙ append_assoc h.front h.back us;
  first = h.first;
  second = all_append of xs ys h.back us h.second k;
}

follows : {one other with_more : Phrase} (ts us : List Token) → (one ⨾ other) ts
    → ((back : List Token) → other back → with_more (back ++ us)) → (one ⨾ with_more) (ts ++ us)
follows ts us h more = record {
  front = h.front;
  back = h.back ++ us;
  whole = ap (λ (l : List Token). l ++ us) h.whole ∙ append_assoc h.front h.back us;
  first = h.first;
  second = more h.back h.second;
}

-- what reads the scripts of an input with this opening
abbrev scripts_with : Opening → Grammar Input
scripts_with opening =
    chain (many MOST_SCRIPTS grammar.script) (λ scripts. give (record { opening = opening; scripts = scripts }))

more_with : (opening : Opening) (first : Input) (others : List Script) (ts us : List Token)
    → spells (scripts_with opening) true first ts → all (spells grammar.script true) others us
    → length first.scripts + length others ≤ MOST_SCRIPTS
    → spells (scripts_with opening) true
    (record { opening = first.opening; scripts = first.scripts ++ others }) (ts ++ us)
more_with opening first others ts us h k few =
    let scripts = h.0 in
    let parts = h.1 in
    let is = parts.second.0 in
    let none = parts.second.1 in
    let same : length first.scripts ≡ length scripts = ap (λ (z : Input). length z.scripts) is in
    let whole : ts ++ us ≡ (parts.front ++ us) ++ [] =
    ap (λ (l : List Token). l ++ us) (parts.whole ∙ ap (λ (l : List Token). parts.front ++ l) none
    ∙ append-nil parts.front) ∙ sym (append-nil (parts.front ++ us)) in (
      scripts ++ others,
      record {
        front = parts.front ++ us;
        back = [];
        whole = whole;
        first = (
          all_append (spells grammar.script true) scripts others parts.front us parts.first.0 k,
          λ kept. omega (arith, length-append scripts others),
        );
        second = (λ i. record { opening = (is i).opening; scripts = (is i).scripts ++ others }, refl);
      },
    )

-- scripts behind the tokens of an input
more_scripts : (first : Input) (others : List Script) (ts us : List Token) → spells grammar.input true first ts
    → all (spells grammar.script true) others us → length first.scripts + length others ≤ MOST_SCRIPTS
    → spells grammar.input true (record { opening = first.opening; scripts = first.scripts ++ others }) (ts ++ us)
unfolding grammar.input
more_scripts first others ts us h k few = (
  h.0,
  follows ts us h.1 (λ back r. (
    r.0,
    follows back us r.1
        (λ rest l. more_with (record { tables = h.0; rows = r.0 }) first others rest us l k few),
  )),
)

-- the tokens of scripts are read as the scripts
again_scripts : (scripts : List Script) → Each ScriptFits scripts → length scripts ≤ MOST_SCRIPTS
    → (tokens : List Token) → map kind tokens ≡ kinds_of (flat_map script_spelling scripts)
    → (others : List Script) × all (spells grammar.script true) others tokens
    × (map unplaced_script others ≡ map unplaced_script scripts)
again_scripts scripts fit few tokens e =
    let r = (again_many MOST_SCRIPTS grammar.script script_spelling unplaced_script ScriptFits again_script scripts fit
    few).read tokens e in
    (r.0, r.1.0, r.2)

kinds_moved : (far : ℕ) (tokens : List Token) → map kind (map (moved far) tokens) ≡ map kind tokens
kinds_moved far [] = refl
kinds_moved far (t ∷ tokens) = ap (λ (l : List TokenKind). t.kind ∷ l) (kinds_moved far tokens)

-- the law of a line end between two texts
abbrev pub LineEndParts : Type 0
LineEndParts = (front back : List ℕ) (these those : List Token) → AreTokens front these → AreTokens back those
    → AreTokens (front ++ 10 ∷ back) (these ++ map (moved (length front + 1)) those)

-- the law of printed lexemes
abbrev pub PrintedIsRead : Type 0
PrintedIsRead = (lexemes : List Lexeme) → All CanBeRead lexemes → HasKinds (text_of lexemes) (kinds_of lexemes)

scripts_print : (scripts : List Script) → Each (λ s. Each CanBeRead (script_spelling s)) scripts
    → Each CanBeRead (flat_map script_spelling scripts)
scripts_print [] hs = tt
scripts_print (s ∷ scripts) hs =
    each_append CanBeRead (script_spelling s) (flat_map script_spelling scripts) hs.0 (scripts_print scripts hs.1)

-- the tokens of a text with printed scripts behind it, and what they spell
pub scripts_follow : LineEndParts → PrintedIsRead → (front : List ℕ) (tokens : List Token) (first : Input)
    (scripts : List Script) → AreTokens front tokens → spells grammar.input true first tokens
    → Each ScriptFits scripts → Each (λ s. Each CanBeRead (script_spelling s)) scripts
    → length first.scripts + length scripts ≤ MOST_SCRIPTS
    → (whole : List Token) × AreTokens (text_with front scripts) whole
    × ((again : Input) × spells grammar.input true again whole × IsFollowedBy first scripts again)
scripts_follow parts printed front tokens first scripts are spelled fit can few =
    let lexemes = flat_map script_spelling scripts in
    let p = printed lexemes (each_at CanBeRead lexemes (scripts_print scripts can)) in
    let those : AreTokens (scripts_text scripts) p.0 = subst (λ (l : List ℕ). AreTokens l p.0) (text_is scripts) p.1 in
    let behind = map (moved (length front + 1)) p.0 in
    let read = again_scripts scripts fit (omega arith) behind (kinds_moved (length front + 1) p.0 ∙ p.2) in
    let long : length read.0 ≡ length scripts =
    sym (length-map read.0 unplaced_script) ∙ ap length read.2 ∙ length-map scripts unplaced_script in (
      tokens ++ behind,
      parts front (scripts_text scripts) tokens p.0 are those,
      (
        record { opening = first.opening; scripts = first.scripts ++ read.0 },
        more_scripts first read.0 tokens behind spelled read.1 (omega arith),
        (refl, (read.0, refl, read.2)),
      ),
    )

-- behind a text without scripts these scripts stand alone
pub alone_behind : (opening : Opening) (scripts : List Script) (whole : Input)
    → IsFollowedBy (record { opening = opening; scripts = [] }) scripts whole → HasScripts opening scripts whole
alone_behind opening scripts whole h = (h.0, ap (map unplaced_script) h.1.1 ∙ h.1.2)
