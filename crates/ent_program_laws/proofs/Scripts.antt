-- Which script stands in front of a text.
use Rattle.std.proofs.Common.{◌≡◌, ℕ, List, [], ◌∷◌, ◌++◌, refl, ap, sym, ◌∙◌, append_assoc}
use Rattle.ent_tree.specs.declared.script.Script.{Script}
use Rattle.ent_print.specs.Printing.{script_text}
use Rattle.ent_book.specs.Report.{line}
use Rattle.ent_book.specs.Report2.{line_count, numbered_script_text}
use Rattle.ent_history.specs.declared.history.History.{History}
use Rattle.ent_history.specs.Scripts.{IsScript}
use Rattle.ent_history.specs.Only.{IsPrintable}
use Rattle.ent_history.proofs.Alone.{IsReadAgain, read_alone}
use Rattle.ent_history.proofs.BreaksOff.{head, is_numbered, same_count, same_line}
use Rattle.ent_report_reader.proofs.InLines.{script_line_in_line}
use Rattle.ent_report_reader.proofs.Fronts.{same_front}
use Rattle.ent_report_reader.proofs.ScriptSteps.{few_lines, script_lines_whole}

-- ---- printed scripts

printable : (told : History) (script : Script) → IsScript told script → IsPrintable script
printable told script is = record { unplaced = is.unplaced; fits = is.fits; readable = is.readable }

-- two scripts that are printed alike are the same
printed_once : IsReadAgain → (one other : Script) → IsPrintable one → IsPrintable other
    → script_text one ≡ script_text other → one ≡ other
printed_once again one other h k e =
    let found = again one h.fits h.readable in
    let mine = read_alone again (script_text one) found.0 one found.1 h refl in
    let theirs = read_alone again (script_text one) found.0 other found.1 k e in
    let both : one ∷ [] ≡ other ∷ [] = sym mine ∙ theirs in
    cc

-- ---- a script with its line, whatever stands behind it

regrouped : (number : ℕ) (script : Script) (behind : List ℕ) → numbered_script_text number script ++ behind
    ≡ line (head number (line_count (script_text script))) ++ (script_text script ++ behind)
regrouped number script behind =
    ap (λ t. t ++ behind) (is_numbered number script)
    ∙ append_assoc (line (head number (line_count (script_text script)))) (script_text script) behind

pub script_once : IsReadAgain → (told : History) (number : ℕ) (one other : Script) (x y : List ℕ)
    → IsScript told one → IsScript told other
    → numbered_script_text number one ++ x ≡ numbered_script_text number other ++ y → one ≡ other
script_once again told number one other x y h k e =
    let mine = script_text one in
    let theirs = script_text other in
    let lines = same_line (head number (line_count mine)) (head number (line_count theirs)) (mine ++ x) (theirs ++ y)
    (script_line_in_line number (line_count mine)) (script_line_in_line number (line_count theirs))
    (sym (regrouped number one x) ∙ e ∙ regrouped number other y) in
    let counts = same_count number (line_count mine) (line_count theirs) (few_lines told one h)
    (few_lines told other k) lines.0 in
    printed_once again one other (printable told one h) (printable told other k)
    (same_front mine theirs x y (script_lines_whole one) (script_lines_whole other) counts lines.1)
