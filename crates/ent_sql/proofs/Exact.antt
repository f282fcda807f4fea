-- What is read of a text is what it says, and each fault is answered where it is the first.
use Rattle.std.proofs.Common.{◌≡◌, ℕ, true, List, [], ◌∷◌, ◌++◌, length, Result, Ok, Err, refl, ap, sym, ◌∙◌}
use Rattle.ent_text.specs.declared.token.Token.{Token}
use Rattle.ent_text.specs.declared.fault.TextFault.{TextFault}
use Rattle.ent_text.specs.Lexing.{tokens_of}
use Rattle.ent_text.specs.Left.{tokens_left, fault_among, IsFaultlessBefore}
use Rattle.ent_text.proofs.Found.{found_are_tokens}
use Rattle.ent_text.proofs.FirstFault.{all_left, fault_left, faultless_front}
use Rattle.ent_text.proofs.Faultless.{read_without_fault, begun_without_fault}
use Rattle.ent_sql.specs.Fault.{fault_of, place_of}
use Rattle.ent_text.specs.declared.grammar_fault.GrammarFault.{GrammarFault}
use Rattle.ent_text.specs.declared.grammar_fault.GrammarFault.TheVariants as grammar
use Rattle.ent_text.specs.Foresight.{IsPredictive}
use Rattle.ent_text.specs.Grammar.{Grammar, reads_all}
use Rattle.ent_text.proofs.Stopped.{read_is_spelled, spelled_is_read, unexpected_cant_follow, too_many_is_too_much}
use Rattle.ent_text.proofs.Place.{cant_follow_is_unexpected, too_much_is_too_many}
use Rattle.ent_tree.specs.declared.script.Input.{Input}
use Rattle.ent_sql.specs.declared.fault.SqlFault.{SqlFault}
use Rattle.ent_sql.specs.declared.fault.SqlFault.TheVariants.{Text, Unexpected, TooMany}
use Rattle.ent_tree.specs.declared.script.Script.{Script}
use Rattle.ent_sql.specs.Scripts.{input, script}
use Rattle.ent_sql.specs.Reading.{reading, script_reading, with_tokens, with_fault}
use Rattle.ent_sql.specs.Says.{Says}
use Rattle.ent_sql.specs.FirstFault.{CantFollow, IsTooMuch}
use Rattle.ent_sql.proofs.Foreseen.{input_next, script_next}

-- ---- through the conversion of faults

value_of_fault : {A : Type 0} (r : Result A GrammarFault) (tree : A) → with_fault r ≡ Ok tree → r ≡ Ok tree
value_of_fault {A} (Ok x) tree e = let k : x ≡ tree = cc in ap (λ (y : A). let s : Result A GrammarFault = Ok y in s) k
value_of_fault (Err f) tree e = absurd cc

unexpected_of : {A : Type 0} (r : Result A GrammarFault) (place : ℕ) → with_fault r ≡ Err (Unexpected place)
    → r ≡ Err (grammar.Unexpected place)
unexpected_of (Ok x) place e = absurd cc
unexpected_of {A} (Err (grammar.Unexpected p)) place e = let k : p ≡ place = cc in
    ap (λ (n : ℕ). let s : Result A GrammarFault = Err (grammar.Unexpected n) in s) k
unexpected_of (Err (grammar.TooMany p)) place e = absurd cc

too_many_of : {A : Type 0} (r : Result A GrammarFault) (place : ℕ) → with_fault r ≡ Err (TooMany place)
    → r ≡ Err (grammar.TooMany place)
too_many_of (Ok x) place e = absurd cc
too_many_of {A} (Err (grammar.TooMany p)) place e = let k : p ≡ place = cc in
    ap (λ (n : ℕ). let s : Result A GrammarFault = Err (grammar.TooMany n) in s) k
too_many_of (Err (grammar.Unexpected p)) place e = absurd cc

never_text : {A : Type 0} (r : Result A GrammarFault) (f : TextFault) → with_fault r ≡ Err (Text f) → ⊥
never_text (Ok x) f e = absurd cc
never_text (Err (grammar.Unexpected p)) f e = absurd cc
never_text (Err (grammar.TooMany p)) f e = absurd cc

-- ---- with tokens

says_from : (text : List ℕ) (tree : Input) (r : Result (List Token) TextFault) → tokens_of text ≡ r
    → with_tokens input r (length text) ≡ Ok tree → Says text tree
says_from text tree (Ok ts) is e =
    record {
      tokens = ts;
      are_tokens = is;
      spelled = read_is_spelled input input_next (length text) ts tree
          (value_of_fault (reads_all input (length text) ts) tree e) true;
    }
says_from text tree (Err f) is e = absurd cc

follow_from : (text : List ℕ) (place : ℕ) (r : Result (List Token) TextFault) → tokens_of text ≡ r
    → with_tokens input r (length text) ≡ Err (Unexpected place) → CantFollow text place
follow_from text place (Ok ts) is e =
    record {
      tokens = ts;
      are_tokens = is;
      stands = unexpected_cant_follow input input_next (length text) ts place
          (unexpected_of (reads_all input (length text) ts) place e);
    }
follow_from text place (Err f) is e = absurd cc

much_from : (text : List ℕ) (place : ℕ) (r : Result (List Token) TextFault) → tokens_of text ≡ r
    → with_tokens input r (length text) ≡ Err (TooMany place) → IsTooMuch text place
much_from text place (Ok ts) is e =
    record {
      tokens = ts;
      are_tokens = is;
      stands = too_many_is_too_much input input_next (length text) ts place
          (too_many_of (reads_all input (length text) ts) place e);
    }
much_from text place (Err f) is e = absurd cc

text_from : (text : List ℕ) (f : TextFault) (r : Result (List Token) TextFault) → tokens_of text ≡ r
    → with_tokens input r (length text) ≡ Err (Text f) → tokens_of text ≡ Err f
text_from text f (Ok ts) is e = absurd (never_text (reads_all input (length text) ts) f e)
text_from text f (Err g) is e = let k : g ≡ f = cc in
    is ∙ ap (λ (h : TextFault). let s : Result (List Token) TextFault = Err h in s) k

-- ---- by any grammar, with tokens up to the first fault

module _ {A : Type 0} (g : Grammar A) (g_next : IsPredictive g []) where
  -- what the text says by this grammar
  abbrev as_read : List ℕ → Result A SqlFault
  as_read text = with_tokens g (tokens_of text) (length text)

  -- a text with these tokens
  with_these : (text : List ℕ) (tokens : List Token) → tokens_of text ≡ Ok tokens
      → as_read text ≡ with_fault (reads_all g (length text) tokens)
  with_these text tokens is = ap (λ (r : Result (List Token) TextFault). with_tokens g r (length text)) is

  -- what the tokens up to the first fault say is what all of them say
  pub read_up_to : (text : List ℕ) (tokens : List Token) (tree : A) → tokens ≡ tokens_left 0 text
      → reads_all g (length text) tokens ≡ Ok tree → as_read text ≡ Ok tree
  read_up_to text tokens tree left e = from (tokens_of text) refl
    where
      from : (r : Result (List Token) TextFault) → tokens_of text ≡ r → as_read text ≡ Ok tree
      from (Ok ts) is =
          with_these text ts is ∙ ap (λ (r : Result A GrammarFault). with_fault r)
          (ap (λ (xs : List Token). reads_all g (length text) xs)
          (sym (left ∙ all_left text ts (found_are_tokens text ts is))) ∙ e)
      from (Err f) is =
          let told = fault_left text f is in
          let untold = ap fault_among (sym left) ∙ read_without_fault g g_next (length text) tokens tree e in
          absurd cc

  -- without a fault of the tokens, the first fault is that of the grammar
  pub fault_up_to : (text : List ℕ) (tokens : List Token) (fault : GrammarFault) → tokens ≡ tokens_left 0 text
      → tokens_of text ≡ Ok (tokens_left 0 text)
      → reads_all g (length text) tokens ≡ Err fault → as_read text ≡ Err (fault_of fault)
  fault_up_to text tokens fault left is e =
      with_these text (tokens_left 0 text) is ∙ ap (λ (r : Result A GrammarFault). with_fault r)
      (ap (λ (xs : List Token). reads_all g (length text) xs) (sym left) ∙ e)

  -- no token is a fault that stands before the one at which reading stopped
  pub faultless_before : (text : List ℕ) (tokens : List Token) (fault : GrammarFault) → tokens ≡ tokens_left 0 text
      → reads_all g (length text) tokens ≡ Err fault → IsFaultlessBefore text (place_of (fault_of fault))
  faultless_before text tokens (grammar.Unexpected place) left e =
      let c = unexpected_cant_follow g g_next (length text) tokens place e in
      record {
        before = c.before;
        back = c.back;
        whole = sym left ∙ c.whole;
        faultless = begun_without_fault g c.before c.can_go_on;
        stands = c.stands;
      }
  faultless_before text tokens (grammar.TooMany place) left e =
      let c = too_many_is_too_much g g_next (length text) tokens place e in
      record {
        before = c.before;
        back = c.token ∷ c.back;
        whole = sym left ∙ c.whole;
        faultless =
            faultless_front c.before (c.token ∷ []) (begun_without_fault g (c.before ++ c.token ∷ []) c.can_go_on);
        stands = c.stands;
      }

  -- a fault of the tokens comes first
  pub text_fault_comes_first : (text : List ℕ) (f : TextFault) → tokens_of text ≡ Err f → as_read text ≡ Err (Text f)
  text_fault_comes_first text f e = ap (λ (r : Result (List Token) TextFault). with_tokens g r (length text)) e

-- ---- a text

pub read_is_said : (text : List ℕ) (tree : Input) → reading text ≡ Ok tree → Says text tree
unfolding reading
read_is_said text tree e = says_from text tree (tokens_of text) refl e

pub said_is_read : (text : List ℕ) (tree : Input) → Says text tree → reading text ≡ Ok tree
unfolding reading
said_is_read text tree h = with_these input input_next text h.tokens h.are_tokens
    ∙ ap (λ (r : Result Input GrammarFault). with_fault r)
    (spelled_is_read input input_next (length text) h.tokens tree h.spelled)

pub one_is_said : (text : List ℕ) (one other : Input) → Says text one → Says text other → one ≡ other
one_is_said text one other h k = let a = said_is_read text one h in let b = said_is_read text other k in cc

pub text_fault_is : (text : List ℕ) (f : TextFault) → reading text ≡ Err (Text f) → tokens_of text ≡ Err f
unfolding reading
text_fault_is text f e = text_from text f (tokens_of text) refl e

pub text_fault_first : (text : List ℕ) (f : TextFault) → tokens_of text ≡ Err f → reading text ≡ Err (Text f)
unfolding reading
text_fault_first = text_fault_comes_first input input_next

pub unexpected_is : (text : List ℕ) (place : ℕ) → reading text ≡ Err (Unexpected place) → CantFollow text place
unfolding reading
unexpected_is text place e = follow_from text place (tokens_of text) refl e

pub unexpected_so : (text : List ℕ) (place : ℕ) → CantFollow text place → reading text ≡ Err (Unexpected place)
unfolding reading
unexpected_so text place h = with_these input input_next text h.tokens h.are_tokens
    ∙ ap (λ (r : Result Input GrammarFault). with_fault r)
    (cant_follow_is_unexpected input (length text) h.tokens input_next place h.stands)

pub too_many_is : (text : List ℕ) (place : ℕ) → reading text ≡ Err (TooMany place) → IsTooMuch text place
unfolding reading
too_many_is text place e = much_from text place (tokens_of text) refl e

pub too_many_so : (text : List ℕ) (place : ℕ) → IsTooMuch text place → reading text ≡ Err (TooMany place)
unfolding reading
too_many_so text place h = with_these input input_next text h.tokens h.are_tokens
    ∙ ap (λ (r : Result Input GrammarFault). with_fault r)
    (too_much_is_too_many input (length text) h.tokens input_next place h.stands)

-- ---- as the two readers have it

pub input_up_to : (text : List ℕ) (tokens : List Token) (tree : Input) → tokens ≡ tokens_left 0 text
    → reads_all input (length text) tokens ≡ Ok tree → reading text ≡ Ok tree
unfolding reading
input_up_to = read_up_to input input_next

pub input_fault_up_to : (text : List ℕ) (tokens : List Token) (fault : GrammarFault) → tokens ≡ tokens_left 0 text
    → tokens_of text ≡ Ok (tokens_left 0 text)
    → reads_all input (length text) tokens ≡ Err fault → reading text ≡ Err (fault_of fault)
unfolding reading
input_fault_up_to = fault_up_to input input_next

pub script_up_to : (text : List ℕ) (tokens : List Token) (tree : Script) → tokens ≡ tokens_left 0 text
    → reads_all script (length text) tokens ≡ Ok tree → script_reading text ≡ Ok tree
unfolding script_reading
script_up_to = read_up_to script (script_next [])

pub script_fault_up_to : (text : List ℕ) (tokens : List Token) (fault : GrammarFault) → tokens ≡ tokens_left 0 text
    → tokens_of text ≡ Ok (tokens_left 0 text)
    → reads_all script (length text) tokens ≡ Err fault → script_reading text ≡ Err (fault_of fault)
unfolding script_reading
script_fault_up_to = fault_up_to script (script_next [])

pub script_text_fault_first : (text : List ℕ) (f : TextFault) → tokens_of text ≡ Err f
    → script_reading text ≡ Err (Text f)
unfolding script_reading
script_text_fault_first = text_fault_comes_first script (script_next [])
