-- A text that ends inside a script begins with the script's line and whole lines that begin the script.
use Rattle.std.proofs.Common.{◌≡◌, ℕ, ◌+◌, ◌≤◌, List, [], ◌∷◌, ◌++◌, length, refl, ap, sym}
use Rattle.std.proofs.Common.{subst, ◌∙◌, append_assoc, arith, inl, inr}
use Rattle.std.specs.Prelude.{codes}
use Rattle.std.specs.Fmt.{decimal}
use Rattle.std.specs.Str.Parse.{digits_value}
use Rattle.std.proofs.lemmas.Fmt.{decimal_is_IsNumeral}
use Rattle.std.proofs.lemmas.List.{append-nil}
use Rattle.ent_tree.specs.declared.script.Script.{Script}
use Rattle.ent_print.specs.Printing.{script_text}
use Rattle.ent_book.specs.Report.{line}
use Rattle.ent_book.specs.Report2.{line_count, numbered_script_text}
use Rattle.ent_history.specs.Draft.{Draft}
use Rattle.ent_history.specs.Scripts.{ScriptIsNext, ScriptBreaksOff}
use Rattle.ent_history.specs.Begins.{HasWholeLines, BeginsScript, script_line}
use Rattle.ent_history.proofs.InLine.{IsInLine, in_line_append, decimal_in_line}
use Rattle.ent_history.proofs.Lines.{count_append}
use Rattle.ent_history.proofs.Cut.{not_end, tail_in_line, peel}
use Rattle.ent_history.proofs.Begun.{script_count}

-- ---- lines

pub same_line : (one other x y : List ℕ) → IsInLine one → IsInLine other → line one ++ x ≡ line other ++ y
    → (one ≡ other) × (x ≡ y)
same_line [] [] x y h k e = (refl, cc)
same_line [] (b ∷ other) x y h k e = absurd (not_end b other k cc)
same_line (a ∷ one) [] x y h k e = absurd (not_end a one h cc)
same_line (a ∷ one) (b ∷ other) x y h k e =
    let first : a ≡ b = cc in
    let more = same_line one other x y (tail_in_line a one h) (tail_in_line b other k) cc in
    let rest = more.0 in
    (cc, more.1)

-- a line that is ended is one more
pub no_more : (front x y : List ℕ) → line_count x ≡ 0 → x ≡ line front ++ y → ⊥
no_more front x y none e =
    let whole = ap line_count e in
    let parts = count_append (line front) y in
    let last = count_append front (10 ∷ []) in
    let one : line_count (10 ∷ []) ≡ 1 = refl in
    absurd (omega arith)

pub same_fronts : (f g x y : List ℕ) → line_count x ≡ 0 → line_count y ≡ 0 → line f ++ x ≡ line g ++ y
    → line f ≡ line g
same_fronts [] [] x y h k e = refl
same_fronts [] (b ∷ g) x y h k e = absurd (no_more g x y h cc)
same_fronts (a ∷ f) [] x y h k e = absurd (no_more f y x k cc)
same_fronts (a ∷ f) (b ∷ g) x y h k e =
    let first : a ≡ b = cc in let more = same_fronts f g x y h k cc in cc

-- whole lines in front of one that isn't ended
pub same_wholes : (a b x y : List ℕ) → HasWholeLines a → HasWholeLines b → line_count x ≡ 0 → line_count y ≡ 0
    → a ++ x ≡ b ++ y
    → a ≡ b
same_wholes a b x y (inl p) (inl q) h k e = p ∙ sym q
same_wholes a b x y (inl p) (inr q) h k e =
    let both : x ≡ line q.0 ++ y =
    ap (λ (l : List ℕ). l ++ x) (sym p) ∙ (e ∙ ap (λ (l : List ℕ). l ++ y) q.1) in
    absurd (no_more q.0 x y h both)
same_wholes a b x y (inr p) (inl q) h k e =
    let both : y ≡ line p.0 ++ x =
    ap (λ (l : List ℕ). l ++ y) (sym q) ∙ (sym e ∙ ap (λ (l : List ℕ). l ++ x) p.1) in
    absurd (no_more p.0 y x k both)
same_wholes a b x y (inr p) (inr q) h k e =
    let both : line p.0 ++ x ≡ line q.0 ++ y =
    ap (λ (l : List ℕ). l ++ x) (sym p.1) ∙ (e ∙ ap (λ (l : List ℕ). l ++ y) q.1) in
    p.1 ∙ (same_fronts p.0 q.0 x y h k both ∙ sym q.1)

-- ---- the line of a script

-- numbers of a report
abbrev pub most : ℕ
most = 9223372036854775807

-- without its end
abbrev pub head : ℕ → ℕ → List ℕ
head number count = codes "script " ++ (decimal number ++ (codes " " ++ decimal count))

pub head_in_line : (number count : ℕ) → number ≤ most → count ≤ most → IsInLine (head number count)
head_in_line number count h k =
    in_line_append (codes "script ") (decimal number ++ (codes " " ++ decimal count)) refl
    (in_line_append (decimal number) (codes " " ++ decimal count) (decimal_in_line number h)
    (in_line_append (codes " ") (decimal count) refl (decimal_in_line count k)))

pub same_behind : (xs ys zs : List ℕ) → xs ++ ys ≡ xs ++ zs → ys ≡ zs
same_behind [] ys zs e = e
same_behind (x ∷ xs) ys zs e = same_behind xs ys zs cc

-- it tells how many lines there are
pub same_count : (number one other : ℕ) → one ≤ most → other ≤ most → head number one ≡ head number other → one ≡ other
same_count number one other h k e =
    let counts = same_behind (codes " ") (decimal one) (decimal other)
    (same_behind (decimal number) (codes " " ++ decimal one) (codes " " ++ decimal other)
    (same_behind (codes "script ") (decimal number ++ (codes " " ++ decimal one))
    (decimal number ++ (codes " " ++ decimal other)) e)) in
    sym (decimal_is_IsNumeral one (omega arith)).1
    ∙ (ap (digits_value 10) counts ∙ (decimal_is_IsNumeral other (omega arith)).1)

-- ---- both ways

pub is_numbered : (number : ℕ) (script : Script)
    → numbered_script_text number script ≡ line (head number (line_count (script_text script))) ++ script_text script
unfolding numbered_script_text
is_numbered number script = refl

pub breaks_off_begins : (draft : Draft) (count : ℕ) (lines unended : List ℕ) → HasWholeLines lines
    → line_count unended ≡ 0 → count ≤ most
    → ScriptBreaksOff draft (script_line (length draft.told.scripts + 1) count ++ (lines ++ unended))
    → BeginsScript draft.told lines count
breaks_off_begins draft count lines unended whole none few b =
    let n = length draft.told.scripts + 1 in
    let text = script_text b.script in
    let k = line_count text in
    let scripts = b.is_next.few in
    let small : n ≤ most = omega arith in
    let counted = script_count draft.told b.script b.is_script in
    let statements = b.is_script.fits.2 in
    let low : k ≤ most = omega arith in
    let mine = head_in_line n count small few in
    let theirs = head_in_line n k small low in
    let begun = peel b.lines (head n k) b.missing text theirs (b.begins ∙ is_numbered n b.script) in
    let stood = peel b.lines (head n count) b.unended (lines ++ unended) mine (sym b.parts) in
    let both = same_line (head n k) (head n count) begun.0 stood.0 theirs mine (sym begun.1 ∙ stood.1) in
    let same = same_wholes stood.0 lines b.unended unended stood.2 whole b.no_line none stood.3 in
    let is : begun.0 ≡ lines = both.1 ∙ same in
    record {
      script = b.script;
      missing = b.missing;
      whole = whole;
      is_script = b.is_script;
      begins = subst (λ (l : List ℕ). l ++ b.missing ≡ text) is begun.3;
      some_missing = b.some_missing;
      counted = same_count n k count low few both.0;
    }

-- a line and whole lines behind it are whole lines
pub lines_behind : (first lines : List ℕ) → HasWholeLines lines → (all : List ℕ) × (line all ≡ line first ++ lines)
lines_behind first lines (inl none) =
    (first, sym (ap (λ (l : List ℕ). line first ++ l) none ∙ append-nil (line first)))
lines_behind first lines (inr read) = (
  line first ++ read.0,
  append_assoc (line first) read.0 (10 ∷ []) ∙ ap (λ (l : List ℕ). line first ++ l) (sym read.1),
)

pub begins_breaks_off : (draft : Draft) (count : ℕ) (lines unended : List ℕ) → ScriptIsNext draft
    → line_count unended ≡ 0 → BeginsScript draft.told lines count
    → ScriptBreaksOff draft (script_line (length draft.told.scripts + 1) count ++ (lines ++ unended))
begins_breaks_off draft count lines unended next none b =
    let n = length draft.told.scripts + 1 in
    let text = script_text b.script in
    let first = line (head n count) in
    let all = lines_behind (head n count) lines b.whole in
    record {
      script = b.script;
      lines = all.0;
      missing = b.missing;
      unended = unended;
      is_next = next;
      is_script = b.is_script;
      begins = ap (λ (l : List ℕ). l ++ b.missing) all.1
          ∙ (append_assoc first lines b.missing
          ∙ (ap (λ (l : List ℕ). first ++ l) b.begins
          ∙ (ap (λ (m : ℕ). line (head n m) ++ text) (sym b.counted) ∙ sym (is_numbered n b.script))));
      some_missing = b.some_missing;
      parts = sym (append_assoc first lines unended) ∙ ap (λ (l : List ℕ). l ++ unended) (sym all.1);
      no_line = none;
    }
