-- A script in front of a text, or none.
use Rattle.std.proofs.Common.{◌≡◌, ◌≢◌, ℕ, ◌+◌, ◌≤◌, Bool, true, false, cond, ◌==◌, List, [], ◌∷◌, ◌++◌, length, Result}
use Rattle.std.proofs.Common.{Ok, Err, refl, ap, sym, ◌∙◌, subst, inl, inr, arith, append_assoc, length-append}
use Rattle.ent_tree.specs.declared.script.Script.{Script}
use Rattle.ent_print.specs.Printing.{script_text}
use Rattle.ent_book.specs.Report.{line}
use Rattle.ent_book.specs.Report2.{line_count, numbered_script_text}
use Rattle.ent_history.specs.ScriptLines as sections
use Rattle.ent_history.specs.declared.history.History.{History}
use Rattle.ent_history.specs.Draft.{Draft}
use Rattle.ent_history.specs.Scripts.{IsScript, ScriptBreaksOff, ScriptIsNext, ScriptStands}
use Rattle.ent_history.specs.Stands as stands
use Rattle.ent_history.specs.Begins.{BeginsScript, HasWholeLines, script_line}
use Rattle.ent_history.proofs.InLine.{IsInLine}
use Rattle.ent_history.proofs.Lines.{count_append, end_is_line, begin_text, line_text, script_is}
use Rattle.ent_history.proofs.Begun.{script_count}
use Rattle.ent_history.proofs.Cut.{peel}
use Rattle.ent_history.proofs.BreaksOff.{is_numbered, most, no_more, same_count, same_line}
use Rattle.ent_report_reader.specs.Judging.{Cannot, Judges}
use Rattle.ent_report_reader.specs.Reading.{Reads}
use Rattle.ent_report_reader.specs.Scripts.{IsScriptLine}
use Rattle.ent_value.specs.declared.refusal.Refusal.{Refusal}
use Rattle.ent_value.specs.declared.refusal.Refusal.TheVariants.{Fault}
use Rattle.ent_text.specs.declared.line_fault.LineFault.{LineFault}
use Rattle.ent_report_reader.proofs.InLines.{script_line_in_line}
use Rattle.ent_report_reader.specs.Lines.{AreFrontLines, IsFirstLine}
use Rattle.ent_report_reader.specs.Steps.{NoScript, TakesPiece}
use Rattle.ent_report_reader.proofs.Fronts.{same_front}
use Rattle.std.specs.List.{flat_map}
use Rattle.std.specs.Prelude.{IfOk, IsTrue, ◌↔◌}

abbrev pub next_script : Draft → ℕ
next_script draft = length draft.told.scripts + 1

-- ---- the text of a script

pub script_lines_whole : (script : Script) → HasWholeLines (script_text script)
script_lines_whole script =
    let end = end_is_line script.end in
    let body = flat_map line_text script.statements in
    inr (
      begin_text script.within ++ (body ++ end.front),
      script_is script
          ∙ ap (λ e. begin_text script.within ++ (body ++ e)) end.is
          ∙ ap (λ r. begin_text script.within ++ r) (sym (append_assoc body end.front (10 ∷ [])))
          ∙ sym (append_assoc (begin_text script.within) (body ++ end.front) (10 ∷ [])),
    )

-- a script of this number stands in front, whose line is the first line
record InFront (told : History) (number : ℕ) (first behind more : List ℕ) (script : Script) : Type 0 where
  first_is : first ≡ sections.script_text number (line_count (script_text script))
  behind_is : behind ≡ script_text script ++ more
  small : line_count (script_text script) ≤ most

pub few_lines : (told : History) (script : Script) → IsScript told script → line_count (script_text script) ≤ most
few_lines told script is =
    let counted = script_count told script is in let statements = is.fits.2 in omega arith

in_front : (told : History) (number : ℕ) (first behind text more : List ℕ) (script : Script) → IsInLine first
    → IsScript told script → line first ++ behind ≡ text ++ more → text ≡ numbered_script_text number script
    → InFront told number first behind more script
in_front told number first behind text more script flat is parts text_is =
    let own = sections.script_text number (line_count (script_text script)) in
    let whole : line first ++ behind ≡ line own ++ (script_text script ++ more) =
    parts ∙ ap (λ t. t ++ more) (text_is ∙ is_numbered number script)
    ∙ append_assoc (line own) (script_text script) more in
    let both = same_line first own behind (script_text script ++ more) flat
    (script_line_in_line number (line_count (script_text script))) whole in
    record { first_is = both.0; behind_is = both.1; small = few_lines told script is }

standing : (draft : Draft) (first behind text more : List ℕ) (next : Draft) → IsInLine first
    → line first ++ behind ≡ text ++ more → (s : ScriptStands draft text next)
    → InFront draft.told (next_script draft) first behind more s.script
standing draft first behind text more next flat parts s =
    in_front draft.told (next_script draft) first behind text more s.script flat s.is_script parts s.text_is

small_number : (draft : Draft) → ScriptIsNext draft → next_script draft ≤ most
small_number draft is = let few = is.few in omega arith

-- ---- a fault

pub not_read : {A : Type 0} (is : A → Type 0) (refusal : Refusal LineFault) (fault : LineFault)
    → refusal ≡ Fault fault → Reads is (Err refusal) → (x : A) → is x → ⊥
not_read is refusal fault same read = subst (λ r. Reads is (Err r)) same read

pub not_judged : (stands : Draft → Type 0) (old new : Draft) (refusal : Refusal LineFault) (fault : LineFault)
    → refusal ≡ Fault fault → Judges {A = Unit {0}} stands old (Err refusal) new → Cannot stands × (new ≡ old)
not_judged stands old new refusal fault same judged =
    subst (λ r. Judges {A = Unit {0}} stands old (Err r) new) same judged

-- ---- none stands

pub no_line : (draft : Draft) (first behind : List ℕ) → IsInLine first
    → ((count : ℕ) → IsScriptLine draft first count → ⊥) → NoScript draft (line first ++ behind)
no_line draft first behind flat none text more next parts s =
    let here = standing draft first behind text more next flat parts s in
    none (line_count (script_text s.script))
    (s.is_next, (here.first_is, small_number draft s.is_next, here.small))

-- how many lines the first line says
said : (draft : Draft) (first : List ℕ) (count : ℕ) (script : Script) (behind more : List ℕ)
    → IsScriptLine draft first count → InFront draft.told (next_script draft) first behind more script
    → line_count (script_text script) ≡ count
said draft first count script behind more is here =
    same_count (next_script draft) (line_count (script_text script)) count here.small is.1.2
    (sym here.first_is ∙ is.1.0)

pub too_few : (draft : Draft) (first behind : List ℕ) (count : ℕ) (lines rest : List ℕ) → IsInLine first
    → IsScriptLine draft first count → AreFrontLines behind count lines rest → line_count lines ≢ count
    → NoScript draft (line first ++ behind)
too_few draft first behind count lines rest flat is are other text more next parts s =
    let here = standing draft first behind text more next flat parts s in
    let counted = said draft first count s.script behind more is here in
    let all = ap line_count here.behind_is in
    let one = count_append (script_text s.script) more in
    let same = ap line_count are.parts in
    let two = count_append lines rest in
    let few = are.few in
    elim are.all [
      | inl enough ↦ absurd (other enough)
      | inr none ↦ absurd (other (omega arith))
    ]

pub another_script : (draft : Draft) (first behind : List ℕ) (count : ℕ) (lines rest : List ℕ) → IsInLine first
    → IsScriptLine draft first count → AreFrontLines behind count lines rest → line_count lines ≡ count
    → Cannot (ScriptStands draft (script_line (next_script draft) (line_count lines) ++ lines))
    → NoScript draft (line first ++ behind)
another_script draft first behind count lines rest flat is are counted none text more next parts s =
    let here = standing draft first behind text more next flat parts s in
    let own = said draft first count s.script behind more is here in
    let same : lines ≡ script_text s.script =
    same_front lines (script_text s.script) rest more are.whole (script_lines_whole s.script)
    (counted ∙ sym own) (sym are.parts ∙ here.behind_is) in
    let text_is : text ≡ script_line (next_script draft) (line_count lines) ++ lines =
    s.text_is ∙ is_numbered (next_script draft) s.script
    ∙ ap (λ l. script_line (next_script draft) (line_count l) ++ l) (sym same) in
    none next (subst (λ t. ScriptStands draft t next) text_is s)

-- ---- one stands

pub takes_script : (old new : Draft) (first behind : List ℕ) (count : ℕ) (lines rest : List ℕ)
    → IsScriptLine old first count → AreFrontLines behind count lines rest → line_count lines ≡ count
    → ScriptStands old (script_line (next_script old) (line_count lines) ++ lines) new
    → TakesPiece old new (line first ++ behind) rest
takes_script old new first behind count lines rest is are counted s =
    let head = line first in
    let first_is : head ≡ script_line (next_script old) (line_count lines) =
    ap line is.1.0 ∙ ap (λ n. script_line (next_script old) n) (sym counted) in
    let long = length-append head behind in
    let some = length-append first (10 ∷ []) in
    let parts = length-append lines rest in
    let same = ap length are.parts in
    record {
      piece = script_line (next_script old) (line_count lines) ++ lines;
      parts = ap (λ r. head ++ r) are.parts ∙ sym (append_assoc head lines rest)
          ∙ ap (λ h. (h ++ lines) ++ rest) first_is;
      stands = stands.Script s;
      shorter = omega (arith, long, some, parts, same);
    }

-- ---- the text breaks off

pub breaks_in_line : (draft : Draft) (text : List ℕ) → line_count text ≡ 0 → ScriptBreaksOff draft text → ⊥
breaks_in_line draft text none b = no_more b.lines text b.unended none b.parts

pub breaks_with_line : (draft : Draft) (text first behind : List ℕ) → IsFirstLine text first behind
    → ScriptBreaksOff draft text → (count : ℕ) × IsScriptLine draft first count
breaks_with_line draft text first behind is b =
    let n = next_script draft in
    let k = line_count (script_text b.script) in
    let own = sections.script_text n k in
    let flat = script_line_in_line n k in
    let begun = peel b.lines own b.missing (script_text b.script) flat (b.begins ∙ is_numbered n b.script) in
    let whole : line first ++ behind ≡ line own ++ (begun.0 ++ b.unended) =
    sym is.parts ∙ b.parts ∙ ap (λ l. l ++ b.unended) begun.1 ∙ append_assoc (line own) begun.0 b.unended in
    let both = same_line first own behind (begun.0 ++ b.unended) is.in_line flat whole in
    (k, (b.is_next, (both.0, small_number draft b.is_next, few_lines draft.told b.script b.is_script)))

-- the text is the script's line, these lines and a rest that ends none
pub breaks_text : (draft : Draft) (text first behind lines rest : List ℕ) (count : ℕ) → IsFirstLine text first behind
    → IsScriptLine draft first count → AreFrontLines behind (length behind) lines rest
    → text ≡ script_line (next_script draft) count ++ (lines ++ rest)
breaks_text draft text first behind lines rest count is said are =
    is.parts ∙ (λ i. line (said.1.0 i) ++ are.parts i)

pub count_le : (xs : List ℕ) → line_count xs ≤ length xs
count_le [] = let none : line_count [] ≡ 0 = refl in omega (arith, none)
count_le (x ∷ xs) =
    let more = count_le xs in
    let parts = count_append (x ∷ []) xs in
    let one = at_most x in
    omega (arith, more, parts, one)
  where
    at_most : (x : ℕ) → line_count (x ∷ []) ≤ 1
    at_most x = by (x == 10)
      where
        by : (test : Bool) → 0 + cond test 1 0 ≤ 1
        by true = omega arith
        by false = omega arith

pub none_left : (behind lines rest : List ℕ) → AreFrontLines behind (length behind) lines rest → line_count rest ≡ 0
none_left behind lines rest are =
    elim are.all [
      | inl all ↦
          let whole = ap line_count are.parts in
          let parts = count_append lines rest in
          let most = count_le behind in
          omega (arith, all, whole, parts, most)
      | inr none ↦ none
    ]

pub breaks_if : (draft : Draft) (text first behind lines rest : List ℕ) (count : ℕ)
    → ((draft : Draft) (count : ℕ) (lines unended : List ℕ) → ScriptIsNext draft → HasWholeLines lines
    → line_count unended ≡ 0 → count ≤ most
    → (ScriptBreaksOff draft (script_line (next_script draft) count ++ (lines ++ unended))
    → BeginsScript draft.told lines count)
    × (BeginsScript draft.told lines count
    → ScriptBreaksOff draft (script_line (next_script draft) count ++ (lines ++ unended))))
    → IsFirstLine text first behind → IsScriptLine draft first count
    → AreFrontLines behind (length behind) lines rest
    → (ScriptBreaksOff draft text → BeginsScript draft.told lines count)
    × (BeginsScript draft.told lines count → ScriptBreaksOff draft text)
breaks_if draft text first behind lines rest count law is said are =
    let both = law draft count lines rest said.0 are.whole (none_left behind lines rest are) said.1.2 in
    let same = breaks_text draft text first behind lines rest count is said are in
    (λ b. both.0 (subst (ScriptBreaksOff draft) same b), λ b. subst (ScriptBreaksOff draft) (sym same) (both.1 b))

pub never_breaks : (draft : Draft) (text first behind : List ℕ) → IsFirstLine text first behind
    → ((count : ℕ) → IsScriptLine draft first count → ⊥) → IsTrue false ↔ ScriptBreaksOff draft text
never_breaks draft text first behind is none = (
  λ t. cc,
  λ b. let own = breaks_with_line draft text first behind is b in absurd (none own.0 own.1),
)

pub breaks_by : {E : Type 0} (draft : Draft) (text first behind lines rest : List ℕ) (count : ℕ)
    (result : Result Bool E)
    → ((draft : Draft) (count : ℕ) (lines unended : List ℕ) → ScriptIsNext draft → HasWholeLines lines
    → line_count unended ≡ 0 → count ≤ most
    → (ScriptBreaksOff draft (script_line (next_script draft) count ++ (lines ++ unended))
    → BeginsScript draft.told lines count)
    × (BeginsScript draft.told lines count
    → ScriptBreaksOff draft (script_line (next_script draft) count ++ (lines ++ unended))))
    → IsFirstLine text first behind → IsScriptLine draft first count
    → AreFrontLines behind (length behind) lines rest
    → IfOk result (λ begins. IsTrue begins ↔ BeginsScript draft.told lines count)
    → IfOk result (λ breaks. IsTrue breaks ↔ ScriptBreaksOff draft text)
breaks_by draft text first behind lines rest count (Ok begins) law is said are begun =
    let both = breaks_if draft text first behind lines rest count law is said are in
    (λ t. both.1 (begun.0 t), λ b. begun.1 (both.0 b))
breaks_by draft text first behind lines rest count (Err fault) law is said are begun = tt
