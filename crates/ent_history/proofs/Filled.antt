-- What a script can always be filled up with: a SET that gives a host variable a number has no fault, whatever is
-- bound, and what it binds is bound for none but others like it.
use Rattle.std.proofs.Common.{◌≡◌, ℕ, zero, suc, List, [], ◌∷◌, ◌++◌, length, map, refl, ap, ◌∙◌, arith}
use Rattle.std.proofs.Common.{append_assoc, ◌<◌, ◌-◌}
use Rattle.std.specs.Prelude.{codes, pos}
use Rattle.std.specs.List.{flat_map}
use Rattle.std.proofs.lemmas.Fmt.{decimal_digit}
use Rattle.ent_book.specs.Report.{line}
use Rattle.ent_text.specs.declared.keyword.Keyword.TheVariants as keywords
use Rattle.ent_text.specs.declared.symbol.Symbol.TheVariants as symbols
use Rattle.ent_value.specs.declared.value.Value.TheVariants as values
use Rattle.ent_tree.specs.declared.operand.ValueSpecification.TheVariants as specifications
use Rattle.ent_tree.specs.declared.operand.Expression.TheVariants.{Single}
use Rattle.ent_tree.specs.declared.script.Statement.{Statement}
use Rattle.ent_tree.specs.declared.script.Statement.TheVariants as statements
use Rattle.ent_tree.specs.Places.{unplaced_statement}
use Rattle.ent_print.specs.Reading.{CanBeRead}
use Rattle.ent_print.specs.Spelling.{statement_spelling}
use Rattle.ent_form.specs.declared.catalogue.TableSchema.{TableSchema}
use Rattle.ent_form.specs.declared.fault.FormFault.{FormFault}
use Rattle.ent_form.specs.Kinds.{Bound}
use Rattle.ent_form.specs.ScriptFaults.{bound_after, statement_faults, statements_faults}
use Rattle.ent_sql_laws.specs.Fits.{Each, StatementFits}
use Rattle.ent_sql_laws.proofs.KeptOperands.{word_stands, sign_stands, number_stands}
use Rattle.ent_history.specs.Filling.{filling}
use Rattle.ent_history.proofs.Lines.{AreReadable, line_text}

-- SET @x = 0
abbrev pub filler : Statement
filler = statements.Set (record {
  variable = record { name = codes "x"; place = 0 };
  expression = Single (specifications.Literal (record { value = values.Int (pos 0); place = 0 }));
})

abbrev pub fillers : ℕ → List Statement
fillers zero = []
fillers (suc n) = filler ∷ fillers n

pub length_fillers : (n : ℕ) → length (fillers n) ≡ n
length_fillers zero = refl
length_fillers (suc n) = ap suc (length_fillers n)

pub fillers_unplaced : (n : ℕ) → map unplaced_statement (fillers n) ≡ fillers n
fillers_unplaced zero = refl
fillers_unplaced (suc n) = ap (λ (l : List Statement). filler ∷ l) (fillers_unplaced n)

pub fillers_fit : (n : ℕ) → Each StatementFits (fillers n)
fillers_fit zero = tt
fillers_fit (suc n) = (tt, fillers_fit n)

filler_readable : Each CanBeRead (statement_spelling filler)
filler_readable = (
  word_stands keywords.Set,
  (
    ((64 ∷ codes "x", (refl, (refl, refl))), omega arith),
    (sign_stands symbols.Equal, (number_stands 0 (omega arith), tt)),
  ),
)

pub fillers_readable : (n : ℕ) → AreReadable (fillers n)
fillers_readable zero = tt
fillers_readable (suc n) = (filler_readable, fillers_readable n)

pub fillers_faultless : (tables : List TableSchema) (bound : Bound) (n : ℕ)
    → statements_faults tables bound (fillers n) ≡ []
fillers_faultless tables bound zero = refl
fillers_faultless tables bound (suc n) = fillers_faultless tables (bound_after tables bound filler) n

filler_text : line_text filler ≡ line (codes "SET @x = 0;")
filler_text = ap (λ (l : List ℕ). codes "SET @x = " ++ (l ++ 59 ∷ 10 ∷ [])) (decimal_digit 0 (omega arith))

pub fillers_text : (n : ℕ) → flat_map line_text (fillers n) ≡ filling n
fillers_text zero = refl
fillers_text (suc n) =
    ap (λ (l : List ℕ). line_text filler ++ l) (fillers_text n) ∙ ap (λ (l : List ℕ). l ++ filling n) filler_text

-- one line of so many is put behind a text
pub one_more : (text new all : List ℕ) (left : ℕ) → 0 < left → new ≡ text ++ line (codes "SET @x = 0;")
    → text ++ filling left ≡ all
    → new ++ filling (left - 1) ≡ all
one_more text new all zero some is kept = absurd (omega arith)
one_more text new all (suc n) some is kept =
    let before : suc n - 1 ≡ n = omega arith in
    ap (λ (m : ℕ). new ++ filling m) before
    ∙ (ap (λ (l : List ℕ). l ++ filling n) is
    ∙ (append_assoc text (line (codes "SET @x = 0;")) (filling n) ∙ kept))

-- ---- behind statements without a fault

none_left : (xs ys : List FormFault) → xs ++ ys ≡ [] → xs ≡ []
none_left [] ys e = refl
none_left (x ∷ xs) ys e = absurd cc

none_right : (xs ys : List FormFault) → xs ++ ys ≡ [] → ys ≡ []
none_right [] ys e = e
none_right (x ∷ xs) ys e = absurd cc

none_both : (xs ys : List FormFault) → xs ≡ [] → ys ≡ [] → xs ++ ys ≡ []
none_both xs ys h k = rw (h, k) refl

pub filled_faultless : (tables : List TableSchema) (bound : Bound) (xs ys : List Statement) (n : ℕ)
    → statements_faults tables bound (xs ++ ys) ≡ [] → statements_faults tables bound (xs ++ fillers n) ≡ []
filled_faultless tables bound [] ys n h = fillers_faultless tables bound n
filled_faultless tables bound (x ∷ xs) ys n h =
    let first = statement_faults tables bound x in
    let after = bound_after tables bound x in
    none_both first (statements_faults tables after (xs ++ fillers n))
    (none_left first (statements_faults tables after (xs ++ ys)) h)
    (filled_faultless tables after xs ys n (none_right first (statements_faults tables after (xs ++ ys)) h))

pub filled_unplaced : (xs ys : List Statement) (n : ℕ) → map unplaced_statement (xs ++ ys) ≡ xs ++ ys
    → map unplaced_statement (xs ++ fillers n) ≡ xs ++ fillers n
filled_unplaced [] ys n h = fillers_unplaced n
filled_unplaced (x ∷ xs) ys n h =
    let first : unplaced_statement x ≡ x = cc in
    let more : map unplaced_statement (xs ++ fillers n) ≡ xs ++ fillers n = filled_unplaced xs ys n cc in
    cc
