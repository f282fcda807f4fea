-- The scripts.
use Rattle.std.proofs.Common.{◌≡◌, ◌≢◌, ℕ, ◌+◌, List, [], ◌∷◌, ◌++◌, length, Ok, Result, ap, sym, ◌∙◌, subst}
use Rattle.ent_value.specs.declared.refusal.Refusal.{Refusal}
use Rattle.ent_value.specs.declared.refusal.Refusal.TheVariants.{Memory, Fault}
use Rattle.ent_tree.specs.declared.script.Script.{Script}
use Rattle.ent_print.specs.Printing.{script_text}
use Rattle.ent_book.specs.Report.{line}
use Rattle.ent_book.specs.Report2.{line_count}
use Rattle.ent_text.specs.declared.line_fault.LineFault.{LineFault}
use Rattle.ent_history.specs.ScriptLines as sections
use Rattle.ent_history.specs.Draft.{Draft}
use Rattle.ent_history.specs.Scripts.{IsScript, ScriptIsNext, ScriptStands}
use Rattle.ent_history.specs.Begins.{script_line}
use Rattle.ent_history.proofs.BreaksOff.{is_numbered, same_line}
use Rattle.ent_report_reader.specs.Reading.{Reads}
use Rattle.ent_report_reader.specs.Scripts.{IsNumberedLine, IsScriptLine}
use Rattle.ent_report_reader.proofs.InLines.{script_line_in_line}
use Rattle.ent_report_reader.proofs.Steps.{refusing}

abbrev pub next_script : Draft → ℕ
next_script draft = length draft.told.scripts + 1

pub other_script : (number other count own : ℕ) → ◌≡◌ {A = ℕ × ℕ} (number, count) (other, own) → number ≡ other
other_script number other count own e = ap (λ (x : ℕ × ℕ). x.0) e

pub same_lines : (x y : ℕ × ℕ) → ◌≡◌ {A = ℕ × ℕ} x y → x.1 ≡ y.1
same_lines x y e = ap (λ (x : ℕ × ℕ). x.1) e

pub script_refused : (draft : Draft) (text : List ℕ) (refusal : Refusal LineFault)
    → Reads (IsNumberedLine text) (refusing refusal) → Reads (IsScriptLine draft text) (refusing refusal)
script_refused draft text Memory reads = tt
script_refused draft text (Fault fault) reads = λ count is. reads (next_script draft, count) is.1

abbrev pub OnlyNumbered : List ℕ → ℕ × ℕ → Type 0
OnlyNumbered text x = (y : ℕ × ℕ) → IsNumberedLine text y → y ≡ x

abbrev pub read_count : ℕ → Result ℕ (Refusal LineFault)
read_count count = Ok count

pub script_line_found : (draft : Draft) (text : List ℕ) (number count : ℕ) → ScriptIsNext draft
    → number ≡ next_script draft → IsNumberedLine text (number, count) → OnlyNumbered text (number, count)
    → Reads (IsScriptLine draft text) (read_count count)
script_line_found draft text number count next e is only = (
  (next, subst (λ (n : ℕ). IsNumberedLine text (n, count)) e is),
  λ other o. same_lines (next_script draft, other) (number, count) (only (next_script draft, other) o.1),
)

-- the number that stands there is that of the next script
pub script_number : (draft : Draft) (text : List ℕ) (number count own : ℕ) → OnlyNumbered text (number, count)
    → IsScriptLine draft text own → next_script draft ≡ number
script_number draft text number count own only is =
    other_script (next_script draft) number own count (only (next_script draft, own) is.1)

-- a script's line and these lines below it
abbrev pub script_piece : Draft → List ℕ → List ℕ
script_piece draft lines = script_line (next_script draft) (line_count lines) ++ lines

-- the lines are those of the script that stands
pub script_has : (old : Draft) (lines : List ℕ) (next : Draft)
    → (stands : ScriptStands old (script_piece old lines) next) → lines ≡ script_text stands.script
script_has old lines next stands =
    let number = next_script old in
    let text = script_text stands.script in
    let one = sections.script_text number (line_count lines) in
    let other = sections.script_text number (line_count text) in
    (same_line one other lines text (script_line_in_line number (line_count lines))
    (script_line_in_line number (line_count text)) (stands.text_is ∙ is_numbered number stands.script)).1

pub no_script : (old : Draft) (lines : List ℕ)
    → ((script : Script) → IsScript old.told script → lines ≢ script_text script)
    → (next : Draft) → ScriptStands old (script_piece old lines) next → ⊥
no_script old lines none next stands =
    none stands.script stands.is_script (script_has old lines next stands)

pub script_stands : (old : Draft) (lines : List ℕ) (script : Script) → ScriptIsNext old → IsScript old.told script
    → lines ≡ script_text script → (scripts : List Script) → scripts ≡ old.told.scripts ++ script ∷ []
    → ScriptStands old (script_piece old lines)
    (record { told = record old.told { scripts = scripts }; due = old.due })
script_stands old lines script next is_script is scripts grown = record {
  script = script;
  is_next = next;
  text_is = ap (script_piece old) is ∙ sym (is_numbered (next_script old) script);
  is_script = is_script;
  next_is = λ i. record { told = record old.told { scripts = grown i }; due = next.free i };
}
