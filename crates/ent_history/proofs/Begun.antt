-- Whole lines that begin the text of a script begin that of the same script, filled up behind them.
use Rattle.std.proofs.Common.{◌≡◌, ◌≢◌, ℕ, ◌+◌, ◌-◌, ◌≤◌, zero, suc, List, [], ◌∷◌, ◌++◌, length, map, refl, ap, sym}
use Rattle.std.proofs.Common.{◌∙◌, append_assoc, arith, subst, inl, inr}
use Rattle.std.specs.Prelude.{codes, ◌↔◌, Option, Some, None, is_some, true, false, Bool, ◌==◌}
use Rattle.std.proofs.lemmas.Bool.{eqb-true}
use Rattle.std.specs.List.{flat_map}
use Rattle.std.proofs.lemmas.List.{length-append}
use Rattle.ent_text.specs.declared.keyword.Keyword.TheVariants as keywords
use Rattle.ent_text.specs.declared.symbol.Symbol.TheVariants as symbols
use Rattle.ent_tree.specs.declared.limits.TheConstants.{MOST_STATEMENTS, MOST_RUNS}
use Rattle.ent_tree.specs.declared.script.End.TheVariants as ends
use Rattle.ent_tree.specs.declared.script.Script.{Script}
use Rattle.ent_tree.specs.declared.script.Statement.{Statement}
use Rattle.ent_tree.specs.Places.{unplaced_statement}
use Rattle.ent_print.specs.Printing.{script_text}
use Rattle.ent_print.specs.Reading.{CanBeRead}
use Rattle.ent_print.specs.Spelling.{sign, word, end_word, script_spelling}
use Rattle.ent_form.specs.Catalogue.{schemas_of}
use Rattle.ent_form.specs.Kinds.{none_bound}
use Rattle.ent_form.specs.ScriptFaults.{statements_faults}
use Rattle.ent_sql_laws.specs.Fits.{Each, StatementFits}
use Rattle.ent_sql_laws.proofs.Keeping.{each_append, each_front, each_of, each_at}
use Rattle.ent_sql_laws.proofs.KeptOperands.{word_stands, sign_stands, number_stands}
use Rattle.ent_book.specs.Report.{line}
use Rattle.ent_book.specs.Report2.{line_count}
use Rattle.ent_history.specs.declared.history.History.{History}
use Rattle.ent_history.specs.Scripts.{IsScript}
use Rattle.ent_history.specs.Begins.{HasWholeLines, BeginsScript}
use Rattle.ent_history.specs.Filling.{filling}
use Rattle.ent_history.specs.Read.{IsRead}
use Rattle.ent_history.proofs.Lines.{HasReadable, AreReadable, begin_text, end_text, line_text, script_is}
use Rattle.ent_history.proofs.Lines.{parts_readable}
use Rattle.ent_history.proofs.Lines.{parts_join, begin_is_line, end_is_line, statements_count, one_line}
use Rattle.ent_history.proofs.Lines.{count_append, IsLine}
use Rattle.ent_history.proofs.Cut.{peel, cut}
use Rattle.ent_history.proofs.Filled.{fillers, length_fillers, fillers_unplaced, fillers_fit, fillers_readable}
use Rattle.ent_history.proofs.Filled.{fillers_faultless, fillers_text, filled_faultless, filled_unplaced}

-- ---- a script of given statements

-- statements, one behind the other, that COMMIT ends
abbrev pub committed : ℕ → List Statement → Script
committed within statements = record { within = within; statements = statements; end = ends.Commit }

-- they are a script of a report
is_committed : (told : History) (within : ℕ) (xs : List Statement) → 1 ≤ within → within ≤ MOST_RUNS
    → length xs ≤ MOST_STATEMENTS → Each StatementFits xs → AreReadable xs → map unplaced_statement xs ≡ xs
    → statements_faults (schemas_of told.opening.tables) none_bound xs ≡ []
    → IsScript told (committed within xs)
is_committed told within xs some most few fit readable unplaced faultless = record {
  unplaced = ap (committed within) unplaced;
  fits = (some, most, few, fit);
  readable = each_at CanBeRead (script_spelling (committed within xs)) (
    word_stands keywords.Begin,
    (
      word_stands keywords.Transaction,
      (
        word_stands keywords.Within,
        (
          number_stands within (omega arith),
          (
            word_stands keywords.Runs,
            (
              sign_stands symbols.Semicolon,
              parts_join xs (word keywords.Commit ∷ sign symbols.Semicolon ∷ []) (sign_stands symbols.Semicolon)
                  readable
                  (word_stands keywords.Commit, (sign_stands symbols.Semicolon, tt)),
            ),
          ),
        ),
      ),
    ),
  );
  resolved = faultless;
}

-- ---- what is readable of a script

module _ (told : History) (script : Script) (is : IsScript told script) where
  each_readable : Each CanBeRead (script_spelling script)
  each_readable = each_of CanBeRead (script_spelling script) is.readable

  pub begins_with_line : IsLine (begin_text script.within)
  begins_with_line =
      let h = each_readable in
      begin_is_line script.within (h.0, (h.1.0, (h.1.1.0, (h.1.1.1.0, (h.1.1.1.1.0, tt)))))

  pub are_readable : AreReadable script.statements
  are_readable =
      parts_readable script.statements (word (end_word script.end) ∷ sign symbols.Semicolon ∷ [])
      each_readable.1.1.1.1.1.1

  -- two lines more than statements
  pub script_count : line_count (script_text script) ≡ length script.statements + 2
  script_count =
      let rest = flat_map line_text script.statements in
      let whole = ap line_count (script_is script) in
      let one = count_append (begin_text script.within) (rest ++ end_text script.end) in
      let other = count_append rest (end_text script.end) in
      let first = one_line (begin_text script.within) begins_with_line in
      let middle = statements_count script.statements are_readable in
      let last = one_line (end_text script.end) (end_is_line script.end) in
      omega arith

-- ---- filled up

-- how whole lines in front of a script's text divide its statements
pub record Divided (told : History) (script : Script) (lines : List ℕ) : Type 0 where
  pub before : List Statement
  pub behind : List Statement
  pub statements : script.statements ≡ before ++ behind
  pub lines_are : lines ≡ begin_text script.within ++ flat_map line_text before

pub divided : (told : History) (script : Script) (lines missing : List ℕ) → IsScript told script
    → HasWholeLines lines → lines ≢ [] → lines ++ missing ≡ script_text script → missing ≢ []
    → Divided told script lines
divided told script lines missing is (inl none) some begins more = absurd (some none)
divided told script lines missing is (inr read) some begins more =
    let first = begins_with_line told script is in
    let rest = flat_map line_text script.statements ++ end_text script.end in
    let both : line read.0 ++ missing ≡ line first.front ++ rest =
    ap (λ (l : List ℕ). l ++ missing) (sym read.1) ∙ (begins ∙ (script_is script
    ∙ ap (λ (l : List ℕ). l ++ rest) first.is)) in
    let found = peel read.0 first.front missing rest first.in_line both in
    let parts = cut script.statements (end_text script.end) found.0 missing (are_readable told script is)
    (end_is_line script.end) more found.2 found.3 in
    record {
      before = parts.0;
      behind = parts.1;
      statements = parts.2;
      lines_are = read.1 ∙ (found.1 ∙ (ap (λ (l : List ℕ). l ++ found.0) (sym first.is)
          ∙ ap (λ (l : List ℕ). begin_text script.within ++ l) parts.3));
    }

module _ (told : History) (script : Script) (lines : List ℕ) (is : IsScript told script)
    (d : Divided told script lines) where
  readable_parts : AreReadable (d.before ++ d.behind)
  readable_parts = subst AreReadable d.statements (are_readable told script is)

  -- as many lines as statements and one more
  pub divided_count : line_count lines ≡ length d.before + 1
  divided_count =
      let whole = ap line_count d.lines_are in
      let parts = count_append (begin_text script.within) (flat_map line_text d.before) in
      let one = one_line (begin_text script.within) (begins_with_line told script is) in
      let more = statements_count d.before (each_front HasReadable d.before d.behind readable_parts) in
      omega arith

  pub statements_length : length script.statements ≡ length d.before + length d.behind
  statements_length = ap length d.statements ∙ length-append d.before d.behind

  -- so many SET in place of the statements behind
  pub filled_is_script : IsScript told (committed script.within (d.before ++ fillers (length d.behind)))
  filled_is_script =
      let n = length d.behind in
      let lengths = length-append d.before (fillers n) in
      let filled = length_fillers n in
      let known = statements_length in
      let few = is.fits.2 in
      is_committed told script.within (d.before ++ fillers n) is.fits.0 is.fits.1 (omega arith)
      (each_append StatementFits d.before (fillers n)
      (each_front StatementFits d.before d.behind (subst (Each StatementFits) d.statements is.fits.3)) (fillers_fit n))
      (each_append HasReadable d.before (fillers n) (each_front HasReadable d.before d.behind readable_parts)
      (fillers_readable n))
      (filled_unplaced d.before d.behind n
      (subst (λ (l : List Statement). map unplaced_statement l ≡ l) d.statements
      (ap (λ (s : Script). s.statements) is.unplaced)))
      (filled_faultless (schemas_of told.opening.tables) none_bound d.before d.behind n
      (subst (λ (l : List Statement). statements_faults (schemas_of told.opening.tables) none_bound l ≡ [])
      d.statements is.resolved))

  pub filled_text : script_text (committed script.within (d.before ++ fillers (length d.behind)))
      ≡ lines ++ (filling (length d.behind) ++ line (codes "COMMIT;"))
  filled_text =
      let n = length d.behind in
      let begin = begin_text script.within in
      let end = line (codes "COMMIT;") in
      script_is (committed script.within (d.before ++ fillers n))
      ∙ (ap (λ (l : List ℕ). begin ++ (l ++ end)) (flat_map_append d.before (fillers n)
      ∙ ap (λ (l : List ℕ). flat_map line_text d.before ++ l) (fillers_text n))
      ∙ (ap (λ (l : List ℕ). begin ++ l) (append_assoc (flat_map line_text d.before) (filling n) end)
      ∙ (sym (append_assoc begin (flat_map line_text d.before) (filling n ++ end))
      ∙ ap (λ (l : List ℕ). l ++ (filling n ++ end)) (sym d.lines_are))))
    where
      flat_map_append : (xs ys : List Statement)
          → flat_map line_text (xs ++ ys) ≡ flat_map line_text xs ++ flat_map line_text ys
      flat_map_append [] ys = refl
      flat_map_append (x ∷ xs) ys =
          ap (λ (l : List ℕ). line_text x ++ l) (flat_map_append xs ys)
          ∙ sym (append_assoc (line_text x) (flat_map line_text xs) (flat_map line_text ys))

-- ---- what begins a script

-- some script has as many lines, from 2 to 66
pub nothing_begins : (told : History) (count : ℕ) → 2 ≤ count → count ≤ 66 → BeginsScript told [] count
nothing_begins told count some most =
    let n = count - 2 in
    let whole = committed 1 (fillers n) in
    let lengths = length_fillers n in
    let is = is_committed told 1 (fillers n) (omega arith) (omega arith) (omega arith) (fillers_fit n)
    (fillers_readable n) (fillers_unplaced n) (fillers_faultless (schemas_of told.opening.tables) none_bound n) in
    let counted = script_count told whole is in
    record {
      script = whole;
      missing = script_text whole;
      whole = inl refl;
      is_script = is;
      begins = refl;
      some_missing = λ e. absurd cc;
      counted = omega arith;
    }

-- and no script has fewer or more
pub begun_count : (told : History) (lines : List ℕ) (count : ℕ) → BeginsScript told lines count
    → (2 ≤ count) × (count ≤ 66)
begun_count told lines count b =
    let counted = script_count told b.script b.is_script in
    let is = b.counted in
    let few = b.is_script.fits.2 in
    (omega arith, omega arith)

-- lines that begin a script, filled up, are one
pub begun_is_filled : (told : History) (lines : List ℕ) (count : ℕ) → lines ≢ [] → BeginsScript told lines count
    → (1 + line_count lines ≤ count) × ((whole : Script) × IsScript told whole
    × (lines ++ (filling (count - line_count lines - 1) ++ line (codes "COMMIT;")) ≡ script_text whole))
begun_is_filled told lines count some b =
    let d = divided told b.script lines b.missing b.is_script b.whole some b.begins b.some_missing in
    let read = divided_count told b.script lines b.is_script d in
    let known = statements_length told b.script lines b.is_script d in
    let counted = script_count told b.script b.is_script in
    let is = b.counted in
    let left : count - line_count lines - 1 ≡ length d.behind = omega arith in (
      omega arith,
      (
        committed b.script.within (d.before ++ fillers (length d.behind)),
        filled_is_script told b.script lines b.is_script d,
        ap (λ (n : ℕ). lines ++ (filling n ++ line (codes "COMMIT;"))) left
            ∙ sym (filled_text told b.script lines b.is_script d),
      ),
    )

filling_count : (n : ℕ) → line_count (filling n) ≡ n
filling_count zero = refl
filling_count (suc n) =
    let parts = count_append (line (codes "SET @x = 0;")) (filling n) in
    let one : line_count (line (codes "SET @x = 0;")) ≡ 1 = refl in
    let more = filling_count n in
    omega arith

-- lines that are one, filled up, begin it
pub filled_is_begun : (told : History) (lines : List ℕ) (count : ℕ) (whole : Script) → HasWholeLines lines
    → 1 + line_count lines ≤ count → IsScript told whole
    → lines ++ (filling (count - line_count lines - 1) ++ line (codes "COMMIT;")) ≡ script_text whole
    → BeginsScript told lines count
filled_is_begun told lines count whole ended few is text =
    let n = count - line_count lines - 1 in
    let end = line (codes "COMMIT;") in
    let all = count_append lines (filling n ++ end) in
    let rest = count_append (filling n) end in
    let filled = filling_count n in
    let one : line_count end ≡ 1 = refl in
    let same = ap line_count text in
    record {
      script = whole;
      missing = filling n ++ end;
      whole = ended;
      is_script = is;
      begins = text;
      some_missing = λ e. something n e;
      counted = omega arith;
    }
  where
    something : (m : ℕ) → filling m ++ line (codes "COMMIT;") ≡ [] → ⊥
    something zero e = absurd cc
    something (suc m) e = absurd cc

-- ---- what is answered

pub nothing_there : (xs : List ℕ) (test : Bool) → test ≡ (length xs == 0) → test ≡ true → xs ≡ []
nothing_there [] test is e = refl
nothing_there (x ∷ xs) test is e = let none = eqb-true (length (x ∷ xs)) 0 (sym is ∙ e) in absurd (omega arith)

pub something_there : (xs : List ℕ) (test : Bool) → test ≡ (length xs == 0) → test ≡ false → xs ≢ []
something_there [] test is e none = absurd cc
something_there (x ∷ xs) test is e none = absurd cc

pub none_of_so_many : (told : History) (lines : List ℕ) (count : ℕ) → (2 ≤ count → count ≤ 66 → ⊥)
    → (false ≡ true) ↔ BeginsScript told lines count
none_of_so_many told lines count never =
    (λ e. absurd cc, λ b. let known = begun_count told lines count b in absurd (never known.0 known.1))

pub some_of_so_many : (told : History) (lines : List ℕ) (count : ℕ) → lines ≡ [] → 2 ≤ count → count ≤ 66
    → (true ≡ true) ↔ BeginsScript told lines count
some_of_so_many told lines count none some most =
    (λ e. subst (λ (l : List ℕ). BeginsScript told l count) (sym none) (nothing_begins told count some most), λ b. refl)

pub none_unended : (told : History) (lines : List ℕ) (count : ℕ) → (HasWholeLines lines → ⊥)
    → (false ≡ true) ↔ BeginsScript told lines count
none_unended told lines count never = (λ e. absurd cc, λ b. absurd (never b.whole))

pub none_too_long : (told : History) (lines : List ℕ) (count : ℕ) → lines ≢ [] → count ≤ line_count lines
    → (false ≡ true) ↔ BeginsScript told lines count
none_too_long told lines count some long = (
  λ e. absurd cc,
  λ b. let few = (begun_is_filled told lines count some b).0 in absurd (omega arith),
)

pub as_it_is_read : (told : History) (lines text : List ℕ) (count : ℕ) (read : Option Script) → lines ≢ []
    → HasWholeLines lines → 1 + line_count lines ≤ count
    → text ≡ lines ++ (filling (count - line_count lines - 1) ++ line (codes "COMMIT;")) → IsRead told text read
    → (is_some read ≡ true) ↔ BeginsScript told lines count
as_it_is_read told lines text count (Some script) some whole few is found =
    (λ e. filled_is_begun told lines count script whole few found.0 (sym is ∙ found.1), λ b. refl)
as_it_is_read told lines text count None some whole few is found = (
  λ e. absurd cc,
  λ b. let filled = (begun_is_filled told lines count some b).1 in
      absurd (found filled.0 filled.1 (is ∙ filled.2)),
)
